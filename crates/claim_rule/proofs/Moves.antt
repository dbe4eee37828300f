-- Each kind of step is allowed, and writes what it says.
use Rattle.std.proofs.Common.{◌≡◌, ◌⊎◌, ℕ, ◌+◌, ◌<◌, ◌≤◌, Bool, true, false, cond, eqb, bit_or, bit_and, w64, lit<, lit≤, List, [], ◌++◌, length, arith, Option, Some, IsSomeAnd, refl, sym, ap, ◌∙◌, subst, ⊎_elim, inl, inr, eq-eqb, ne_eqb, slice_get}
use Rattle.std.proofs.lemmas.Bool.{cases_eq}
use Rattle.std.specs.Int.{bit_not}
use Rattle.std.specs.List.{Any}
use mathlib.Core.List.{IsPrefix}
use prog.Atomic.{either}
use Rattle.atomic_table.specs.declared.shared.Seat.{Seat}
use Rattle.claim_rule.specs.declared.rule.View.{View}
use Rattle.claim_rule.specs.Rule.{Steps, HasAll}
use Rattle.claim_rule.specs.Desks.{CanTurn}
use Rattle.claim_rule.specs.Seats.{seeing, either_step, CanTake, CanGive, CanNote, CanSeal, CanClose, turn_step}
use Rattle.claim_rule.specs.Starts.{IsEndedWord, MayExpect}
use Rattle.rail_ids.specs.Spelling.{last_generation}
use Rattle.rail_ids.specs.declared.RowNo.{RowNo}
use Rattle.history_model.specs.declared.booking.End.{End}
use Rattle.claim_rule.specs.Holds.{IsItem, held}
use Rattle.history_model.proofs.Bits.{shows-on_piece}
use Rattle.history_model.proofs.Changes.{open_from_legs}
use Rattle.history_model.proofs.Forward.{stays-history}
use Rattle.history_model.proofs.Keeping.{found}
use Rattle.history_model.proofs.Legal.{WellFormed-history}
use Rattle.history_model.proofs.Owners.{firm_ending, firm_making, firm_stays, on_row}
use Rattle.history_model.proofs.Seen.{legal-front, legal-rest, own_rest, state_of-append}
use Rattle.history_model.proofs.Successors.{exchanged_stays, successor_stays}
use Rattle.history_model.proofs.Generations.{present_key}
use Rattle.history_model.proofs.Writing.{booking_of_word, free_of_word, give_writes, note_writes, phase_writes, start_again, start_writes, take_writes, turn_writes, word_in}
use Rattle.history_model.specs.Allowed.{AllGiven, HasEndWords, IsAllowedStep, IsBeingEndedBy, IsEndedBy, IsExchangedFor, IsMadeBy, IsOpen, IsSealable, IsSuccessor, MayClose, MayGive, MayNote, MaySealAs, MayStart, OnRow, TurnsWith}
use Rattle.history_model.specs.Apply.{apply_step, closed, ended_phase, in_phase, turned}
use Rattle.history_model.specs.Booking.{Booking, Layout, State, booking_at, change, is_occupied, limit_of, most_items, present, row_words, successor_word}
use Rattle.history_model.specs.History.{IsLegal, own, state_after, state_of}
use Rattle.history_model.specs.Laws.{IsWellFormed, Stays, is_owners}
use Rattle.history_model.specs.Phase.{is_sealed, is_turn, row_word_of}
use Rattle.history_model.specs.Words.{IsWord, Writes, place_word, value}
use Rattle.history_model.specs.declared.entry.Entry.{Entry}
use Rattle.history_model.specs.declared.entry.Step.{Step}
use Rattle.history_model.specs.declared.entry.Step.TheVariants.{Close, Give, LostTurn, Met, Note, Seal, Start, Take}
use Rattle.history_model.specs.declared.phase.EndKind.{EndKind}
use Rattle.history_model.specs.declared.phase.EndKind.TheVariants.{Exchange, Expire, Refund, Release}
use Rattle.history_model.specs.declared.phase.Phase.{Phase}
use Rattle.history_model.specs.declared.phase.Phase.TheVariants.{Confirmed, Ended, Ending, Free, Fulfilled, Making, Prebooked}
use Rattle.history_model.specs.declared.word.Word.{Word}
use Rattle.history_model.specs.declared.word.Word.TheVariants.{Place, Row}
use Rattle.history_model.specs.WholeEnds.{end_turn}
use Rattle.leg_masks.proofs.HalfLegs.{half_of-lt}
use Rattle.leg_masks.proofs.Masks.{bit}
use Rattle.leg_masks.specs.Interval.{Interval, IsClear, IsPiece, half_of, mask, most_legs, shows}
use Rattle.leg_masks.specs.Interval.{PlacedSpan as Item}

pub looks : (lay : Layout) (v : View) (a : Word) → IsWord lay a → Steps lay v a (λ n. n) (seeing a)
looks lay v (Place p half) is h legal pre own = ((is.0, is.1, refl), record { here = refl; rest = λ b _. refl })
looks lay v (Row r w) is h legal pre own = ((is.0, is.1, refl), record { here = refl; rest = λ b _. refl })

pub meets : (lay : Layout) (v : View) (a : Word) → Steps lay v a (λ n. n) (λ _. Met)
meets lay v a h legal pre own = (tt, record { here = refl; rest = λ b _. refl })

-- an exchange is allowed where its step is, at the word expected, and else as its miss
pub exchanges_or : (lay : Layout) (v : View) (a : Word) (old new : ℕ) (hit : Step) (miss : ℕ → Step)
    → ((h : List Entry) → IsLegal lay h → IsPrefix v.seen h → HasAll h v.seen v.number → value (state_of lay h) a ≡ old → IsAllowedStep lay (state_of lay h) v.number hit × Writes (state_of lay h) (apply_step (state_of lay h) v.number hit) a new)
    → ((h : List Entry) → IsLegal lay h → (value (state_of lay h) a ≡ old → ⊥) → IsAllowedStep lay (state_of lay h) v.number (miss (value (state_of lay h) a)) × (apply_step (state_of lay h) v.number (miss (value (state_of lay h) a)) ≡ state_of lay h))
    → Steps lay v a (λ n. either (eqb n old) new n) (λ n. cond (eqb n old) hit (miss n))
exchanges_or lay v a old new hit miss go off h legal pre mine =
    let s : State = state_of lay h in
    let n : ℕ = value s a in
    let P : Bool → Type 0 = λ c. IsAllowedStep lay s v.number (cond c hit (miss n)) × Writes s (apply_step s v.number (cond c hit (miss n))) a (either c new n) in
    ⊎_elim (λ (e : n ≡ old). subst P (sym (eq-eqb n old e)) (go h legal pre mine e))
    (λ (e : n ≡ old → ⊥). subst P (sym (ne_eqb n old e)) (let m = off h legal e in (m.0, subst (λ (t : State). Writes s t a n) (sym m.1) record { here = refl; rest = λ b _. refl })))
    (cases_eq n old)

-- the same, where a miss looks
pub exchanges : (lay : Layout) (v : View) (a : Word) (old new : ℕ) (hit : Step) → IsWord lay a
    → ((h : List Entry) → IsLegal lay h → IsPrefix v.seen h → HasAll h v.seen v.number → value (state_of lay h) a ≡ old → IsAllowedStep lay (state_of lay h) v.number hit × Writes (state_of lay h) (apply_step (state_of lay h) v.number hit) a new)
    → Steps lay v a (λ n. either (eqb n old) new n) (either_step old hit a)
exchanges lay v a old new hit is go h legal pre own =
    let s : State = state_of lay h in
    let n : ℕ = value s a in
    let P : Bool → Type 0 = λ c. IsAllowedStep lay s v.number (cond c hit (seeing a n)) × Writes s (apply_step s v.number (cond c hit (seeing a n))) a (either c new n) in
    ⊎_elim (λ (e : n ≡ old). subst P (sym (eq-eqb n old e)) (go h legal pre own e)) (λ (e : n ≡ old → ⊥). subst P (sym (ne_eqb n old e)) (looks lay v a is h legal pre own)) (cases_eq n old)

-- a row of one's own in the making or ending is as it was, whatever others did
pub own_row : (lay : Layout) (seen : List Entry) (d : ℕ) (h : List Entry) (r : ℕ) (b : Booking) → IsLegal lay h → IsPrefix seen h → own seen d ≡ own h d → present (state_of lay seen) r ≡ Some b → b.owner ≡ d → is_owners b.phase ≡ true
    → present (state_of lay h) r ≡ Some b
own_row lay seen d h r b legal (es, e) same at mine firm =
    let whole : IsLegal lay (seen ++ es) = subst (IsLegal lay) (sym e) legal in
    let none = own_rest d seen es h e same in
    subst (λ (l : List Entry). present (state_of lay l) r ≡ Some b) e
    (ap (λ (s : State). present s r) (state_of-append lay seen es)
    ∙ firm_stays lay (state_of lay seen) r b es at firm (subst (λ (d : ℕ). own es d ≡ []) (sym mine) none) (legal-rest lay seen es whole))

-- what holds of such a row
pub own_on : (lay : Layout) (seen : List Entry) (d : ℕ) (h : List Entry) (r : ℕ) (P : Booking → Type 0) → ((b : Booking) → P b → (b.owner ≡ d) × (is_owners b.phase ≡ true)) → IsLegal lay h → IsPrefix seen h → own seen d ≡ own h d → OnRow (state_of lay seen) r P
    → (b : Booking) × (present (state_of lay h) r ≡ Some b) × P b
own_on lay seen d h r P firm legal pre mine on =
    let f = found (present (state_of lay seen) r) P on in
    let o = firm f.0 f.2 in
    (f.0, own_row lay seen d h r f.0 legal pre mine f.1 o.0 o.1, f.2)

maker : (d : ℕ) (b : Booking) → IsMadeBy d b → (b.owner ≡ d) × (is_owners b.phase ≡ true)
maker d b m = (m.1, firm_making b.phase m.0)

ender : (d : ℕ) (b : Booking) → IsBeingEndedBy d b → (b.owner ≡ d) × (is_owners b.phase ≡ true)
ender d b m = (m.1.1, firm_ending b.phase m.0 m.1.0)

-- every history's state is well-formed
pub is_sound : (lay : Layout) (h : List Entry) → IsLegal lay h → IsWellFormed lay (state_of lay h)
is_sound lay h legal = WellFormed-history lay lay.opening h legal.0.well_formed legal.1

bit_zero : (b : Bool) → bit b ≡ 0 → b ≡ false
bit_zero true e = absurd (omega (arith, e))
bit_zero false e = refl

-- a place whose word is clear on the piece is open there
pub open_of_clear : (s : State) (p n : ℕ) (span : Interval) → span.to ≤ most_legs → IsPiece span → place_word s p (half_of span) ≡ n → IsClear n span → IsOpen s p span
open_of_clear s p n span fits piece is clear = open_from_legs s p span (λ leg holds. bit_zero (is_occupied s p leg)
    (sym (shows-on_piece s p span fits piece leg holds) ∙ (ap (λ (x : ℕ). shows x leg) is ∙ clear leg holds.0 holds.1)))

pub takes : (lay : Layout) (a : Seat ℕ View) (r : ℕ) (i : Item) (old : ℕ) → CanTake lay a r → IsItem lay i → IsClear old i.span
    → Steps lay a.me.0 (Place i.place (half_of i.span)) (λ n. either (eqb n old) (bit_or old (mask i.span)) n) (either_step old (Take r i.place i.span) (Place i.place (half_of i.span)))
takes lay a r i old can item clear = exchanges lay a.me.0 (Place i.place (half_of i.span)) old (bit_or old (mask i.span)) (Take r i.place i.span) (item.place, half_of-lt i.span item.some item.fits)
    (λ h legal pre mine e.
    let s : State = state_of lay h in
    let P : Booking → Type 0 = λ b. IsMadeBy a.me.0.number b × (length b.items < most_items) in
    let b = own_on lay a.me.0.seen a.me.0.number h r P (λ b m. maker a.me.0.number b m.0) legal pre mine can.1 in
    let w = take_writes s r i.place i.span b.0 b.1 item.some item.fits item.piece in (
      (can.0, item.place, on_row s r b.0 P b.1 b.2, item.some, item.piece, item.within, open_of_clear s i.place old i.span item.fits item.piece e clear),
      record { here = w.here ∙ ap (λ (x : ℕ). bit_or x (mask i.span)) e; rest = w.rest },
    ))

may_give : (d k : ℕ) (b : Booking) → MayGive d k b → (b.owner ≡ d) × (is_owners b.phase ≡ true)
may_give d k b may = ⊎_elim (λ m. maker d b m.0) (λ m. ender d b m.0) may

may_note : (d w : ℕ) (b : Booking) → MayNote d w b → (b.owner ≡ d) × (is_owners b.phase ≡ true)
may_note d w b may = ⊎_elim (λ m. maker d b m.0) (λ m. ender d b m.0) may

pub gives : (lay : Layout) (a : Seat ℕ View) (r k : ℕ) (i : Item) → CanGive lay a r k i → Steps lay a.me.0 (Place i.place (half_of i.span)) (λ n. bit_and n (bit_not w64 (mask i.span))) (λ _. Give r k)
gives lay a r k i can h legal pre mine =
    let s : State = state_of lay h in
    let d : ℕ = a.me.0.number in
    let P : Booking → Type 0 = λ b. MayGive d k b × (slice_get b.items k ≡ Some (held i)) in
    let b = own_on lay a.me.0.seen d h r P (λ b m. may_give d k b m.0) legal pre mine can.3 in
    ((can.0, on_row s r b.0 (MayGive d k) b.1 b.2.0), give_writes lay s d r k b.0 i.place i.span (is_sound lay h legal) b.1 b.2.0 b.2.1 can.2)

-- a row whose word is the one expected may be started
may_start : (lay : Layout) (s : State) (row : RowNo) (expected : ℕ) → IsWellFormed lay s → MayExpect row expected → value s (Row row.row 0) ≡ expected → MayStart s row.row row.generation
may_start lay s row expected good is e = ⊎_elim
    (λ (first : (row.generation ≡ 0) × (expected ≡ 0)). inl (first.0, free_of_word lay s row.row good (e ∙ first.1)))
    again
    is
  where
    again : (before : ℕ) × (row.generation ≡ before + 1) × (row.generation ≤ last_generation) × IsEndedWord before expected → MayStart s row.row row.generation
    again (before, one, low, (kind, word)) = subst (MayStart s row.row) (sym one) (start_again s row.row before kind (subst (λ (n : ℕ). n ≤ last_generation) one low) (e ∙ word))

pub starts : (lay : Layout) (v : View) (row : RowNo) (expected : ℕ) → row.row < lay.rows → MayExpect row expected
    → Steps lay v (Row row.row 0) (λ n. either (eqb n expected) (row_word_of Making row.generation) n) (either_step expected (Start row.row row.generation) (Row row.row 0))
starts lay v row expected l is = exchanges lay v (Row row.row 0) expected (row_word_of Making row.generation) (Start row.row row.generation) (l, lit< tt)
    (λ h legal pre mine e. let may = may_start lay (state_of lay h) row expected (is_sound lay h legal) is e in ((l, may), start_writes (state_of lay h) row.row row.generation v.number may))

note_range : (d w : ℕ) (b : Booking) → MayNote d w b → (w < row_words) × (w ≡ 0 → ⊥)
note_range d w b may = ⊎_elim (λ m. maker_range w m.1) (λ m. (under w m.1, (λ e. zero_not w e m.1))) may
  where
    under : (w : ℕ) → (5 ≤ w) × (w ≤ 7) → w < 64
    under w x = omega (arith, x)

    zero_not : (w : ℕ) → w ≡ 0 → (5 ≤ w) × (w ≤ 7) → ⊥
    zero_not w e x = omega (arith, x, e)

    maker_range : (w : ℕ) → ((1 ≤ w) × (w ≤ 4)) ⊎ ((8 ≤ w) × (w < 8 + 48)) → (w < 64) × (w ≡ 0 → ⊥)
    maker_range w (inl x) = (omega (arith, x), (λ e. omega (arith, x, e)))
    maker_range w (inr x) = (omega (arith, x), (λ e. omega (arith, x, e)))

pub notes : (lay : Layout) (a : Seat ℕ View) (r w n : ℕ) → CanNote lay a r w → Steps lay a.me.0 (Row r w) (λ _. n) (λ _. Note r w n)
notes lay a r w n can h legal pre mine =
    let s : State = state_of lay h in
    let d : ℕ = a.me.0.number in
    let b = own_on lay a.me.0.seen d h r (MayNote d w) (may_note d w) legal pre mine can.1 in
    let range = note_range d w b.0 b.2 in
    ((can.0, on_row s r b.0 (MayNote d w) b.1 b.2), note_writes lay s r w n b.0 (is_sound lay h legal) b.1 range.0 range.1)

-- turns

some_same : (x y : Booking) → Some x ≡ Some y → x ≡ y
some_same x y e = cc

-- where the word is the expected one, an exchange writes
at_word : (s u : State) (a : Word) (n old new : ℕ) → n ≡ old → Writes s u a new → Writes s u a (either (eqb n old) new n)
at_word s u a n old new e w = subst (λ (c : Bool). Writes s u a (either c new n)) (sym (eq-eqb n old e)) w

turns_with : (s t : State) (d lim lim' : ℕ) (to : Phase) (end : End) → lim' ≡ lim → (IsSuccessor s d end.successor → IsSuccessor t d end.successor) → TurnsWith s d lim to end → TurnsWith t d lim' to end
turns_with s t d lim lim' Confirmed end same stays w = (subst (λ (l : ℕ). end.moment ≤ l) (sym same) w.0, w.1, w.2)
turns_with s t d lim lim' Fulfilled end same stays w = w
turns_with s t d lim lim' (Ending Release) end same stays w = w
turns_with s t d lim lim' (Ending Expire) end same stays w = (subst (λ (l : ℕ). l < end.moment) (sym same) w.0, w.1, w.2)
turns_with s t d lim lim' (Ending Refund) end same stays w = w
turns_with s t d lim lim' (Ending Exchange) end same stays w = (w.0, stays w.1)
turns_with s t d lim lim' Free end same stays w = w
turns_with s t d lim lim' Making end same stays w = w
turns_with s t d lim lim' Prebooked end same stays w = w
turns_with s t d lim lim' (Ended k) end same stays w = w

-- what a sealed booking is now, whoever acted
pub sealed_booking : (lay : Layout) (seen h : List Entry) (row : RowNo) (b : Booking) → IsLegal lay h → IsPrefix seen h → booking_at (state_of lay seen) row.row row.generation ≡ Some b → is_sealed b.phase ≡ true
    → (c : Booking) × (booking_at (state_of lay h) row.row row.generation ≡ Some c) × Stays b c
sealed_booking lay seen h row b legal (es, e) at sealed =
    let whole : IsLegal lay (seen ++ es) = subst (IsLegal lay) (sym e) legal in
    let same : state_after (state_of lay seen) es ≡ state_of lay h = sym (state_of-append lay seen es) ∙ ap (state_of lay) e in
    found (booking_at (state_of lay h) row.row row.generation) (Stays b)
    (subst (λ (s : State). IsSomeAnd (booking_at s row.row row.generation) (Stays b)) same (stays-history lay (state_of lay seen) es row.row row.generation b (legal-rest lay seen es whole) at sealed))

-- a phase that is turned from is not Free
turned_from : (from to : Phase) → is_turn from to ≡ true → from ≡ Free → ⊥
turned_from from to t e = let no : false ≡ true = subst (λ (ph : Phase). is_turn ph to ≡ true) e t in cc

-- a successor in the making stays one under the entries of others
successor_on : (lay : Layout) (seen h : List Entry) (d q : ℕ) → IsLegal lay h → IsPrefix seen h → own seen d ≡ own h d → IsSuccessor (state_of lay seen) d q → IsSuccessor (state_of lay h) d q
successor_on lay seen h d q legal (es, e) mine is =
    let whole : IsLegal lay (seen ++ es) = subst (IsLegal lay) (sym e) legal in
    subst (λ (s : State). IsSuccessor s d q) (sym (state_of-append lay seen es) ∙ ap (state_of lay) e)
    (successor_stays lay (state_of lay seen) es d q (is_sound lay seen (legal-front lay seen es whole)) (legal-rest lay seen es whole) (own_rest d seen es h e mine) is)

pub turns : (lay : Layout) (a : Seat ℕ View) (row : RowNo) (from to : Phase) (end : End) → CanTurn lay a.me.0.seen a.me.0.number row from to end
    → Steps lay a.me.0 (Row row.row 0) (λ n. either (eqb n (row_word_of from row.generation)) (row_word_of to row.generation) n) (turn_step (row_word_of from row.generation) (end_turn row.row from to end))
turns lay a row from to end can = exchanges_or lay a.me.0 (Row row.row 0) old (row_word_of to row.generation) (end_turn row.row from to end) (λ n. LostTurn row.row old n) hit
    (λ h legal e. ((can.0, refl, e), refl))
  where
    old : ℕ
    old = row_word_of from row.generation

    d : ℕ
    d = a.me.0.number

    s0 : State
    s0 = state_of lay a.me.0.seen

    hit : (h : List Entry) → IsLegal lay h → IsPrefix a.me.0.seen h → HasAll h a.me.0.seen d → value (state_of lay h) (Row row.row 0) ≡ old
        → IsAllowedStep lay (state_of lay h) d (end_turn row.row from to end) × Writes (state_of lay h) (apply_step (state_of lay h) d (end_turn row.row from to end)) (Row row.row 0) (row_word_of to row.generation)
    hit h legal pre mine e =
        let s : State = state_of lay h in
        let f = found (booking_at s0 row.row row.generation) (λ b. (is_sealed b.phase ≡ true) × TurnsWith s0 d (limit_of b) to end) can.3 in
        let k = sealed_booking lay a.me.0.seen h row f.0 legal pre f.1 f.2.0 in
        let c = booking_of_word s row.row from row.generation (turned_from from to can.1) e in
        let there : booking_at s row.row row.generation ≡ Some c.0 = subst (λ (n : ℕ). booking_at s row.row n ≡ Some c.0) c.3 (present_key s row.row c.0 c.1) in
        let same : k.0 ≡ c.0 = some_same k.0 c.0 (sym k.1 ∙ there) in
        let lim : limit_of c.0 ≡ limit_of f.0 = ap limit_of (sym same) ∙ k.2.sealed.words 2 (inl (lit≤ tt, lit≤ tt)) in
        let with = turns_with s0 s d (limit_of f.0) (limit_of c.0) to end lim (successor_on lay a.me.0.seen h d end.successor legal pre mine) f.2.1 in (
          (can.0, can.1, can.2, on_row s row.row c.0 (λ b. (b.phase ≡ from) × TurnsWith s d (limit_of b) to end) c.1 (c.2, with)),
          subst (λ (n : ℕ). Writes s (change s row.row (turned d to end)) (Row row.row 0) (row_word_of to n)) c.3 (turn_writes s row.row d to end c.0 c.1),
        )

-- seals

pub seals : (lay : Layout) (a : Seat ℕ View) (row : RowNo) (ph : Phase) → CanSeal lay a.me.0.seen a.me.0.number row ph
    → Steps lay a.me.0 (Row row.row 0) (λ n. either (eqb n (row_word_of Making row.generation)) (row_word_of ph row.generation) n) (λ _. Seal row.row ph)
seals lay a row ph can h legal pre mine =
    let s : State = state_of lay h in
    let s0 : State = state_of lay a.me.0.seen in
    let d : ℕ = a.me.0.number in
    let r : ℕ = row.row in
    let f = found (present s0 r) (λ b. IsMadeBy d b × IsSealable b × MaySealAs s0 d b ph) can.0.1 in
    let its : f.0.generation ≡ row.generation = subst (λ (o : Option Booking). IsSomeAnd o (λ b. b.generation ≡ row.generation)) f.1 can.1 in
    let at : present s r ≡ Some f.0 = own_row lay a.me.0.seen d h r f.0 legal pre mine f.1 f.2.0.1 (firm_making f.0.phase f.2.0.0) in
    let old : value s (Row r 0) ≡ row_word_of Making row.generation = ap (word_in 0) at ∙ (ap (λ (p : Phase). row_word_of p f.0.generation) f.2.0.0 ∙ ap (row_word_of Making) its) in
    let whole : IsLegal lay (a.me.0.seen ++ pre.0) = subst (IsLegal lay) (sym pre.1) legal in
    let same : state_after s0 pre.0 ≡ s = sym (state_of-append lay a.me.0.seen pre.0) ∙ ap (state_of lay) pre.1 in
    let word : ℕ = successor_word f.0.row f.0.generation in
    let still : MaySealAs s d f.0 ph = ⊎_elim inl (λ x. inr (x.0, subst (λ (t : State). Any (IsExchangedFor d word) t) same (exchanged_stays lay d word s0 pre.0 (legal-rest lay a.me.0.seen pre.0 whole) x.1))) f.2.2 in
    let wrote : Writes s (change s r (in_phase ph)) (Row r 0) (row_word_of ph row.generation) =
    subst (λ (n : ℕ). Writes s (change s r (in_phase ph)) (Row r 0) (row_word_of ph n)) its (phase_writes (in_phase ph) (λ _. refl) (λ _. refl) (λ _. refl) s r f.0 at) in (
      (can.0.0, on_row s r f.0 (λ b. IsMadeBy d b × IsSealable b × MaySealAs s d b ph) at (f.2.0, f.2.1, still)),
      at_word s (change s r (in_phase ph)) (Row r 0) (value s (Row r 0)) (row_word_of Making row.generation) (row_word_of ph row.generation) old wrote,
    )

-- closes

pub closes : (lay : Layout) (a : Seat ℕ View) (row : RowNo) (kind : EndKind) → row.row < lay.rows → CanClose lay a.me.0.seen a.me.0.number row kind
    → Steps lay a.me.0 (Row row.row 0) (λ n. either (eqb n (row_word_of (Ending kind) row.generation)) (row_word_of (Ended kind) row.generation) n) (λ _. Close row.row)
closes lay a row kind below can h legal pre mine =
    let s : State = state_of lay h in
    let d : ℕ = a.me.0.number in
    let r : ℕ = row.row in
    let P : Booking → Type 0 = λ b. (b.generation ≡ row.generation) × IsEndedBy d kind b × AllGiven b × HasEndWords kind b in
    let b = own_on lay a.me.0.seen d h r P (λ b m. ender d b (kind, m.1)) legal pre mine can in
    let old : value s (Row r 0) ≡ row_word_of (Ending kind) row.generation = ap (word_in 0) b.1 ∙ (ap (λ (p : Phase). row_word_of p b.0.generation) b.2.1.0 ∙ ap (row_word_of (Ending kind)) b.2.0) in
    let now : row_word_of (ended_phase b.0.phase) b.0.generation ≡ row_word_of (Ended kind) row.generation =
    ap (λ (p : Phase). row_word_of (ended_phase p) b.0.generation) b.2.1.0 ∙ ap (row_word_of (Ended kind)) b.2.0 in
    let wrote : Writes s (change s r closed) (Row r 0) (row_word_of (Ended kind) row.generation) = subst (Writes s (change s r closed) (Row r 0)) now (phase_writes closed (λ _. refl) (λ _. refl) (λ _. refl) s r b.0 b.1) in (
      (below, on_row s r b.0 (MayClose d) b.1 (kind, b.2.1, b.2.2, b.2.3)),
      at_word s (change s r closed) (Row r 0) (value s (Row r 0)) (row_word_of (Ending kind) row.generation) (row_word_of (Ended kind) row.generation) old wrote,
    )
