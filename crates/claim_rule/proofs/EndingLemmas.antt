-- What a desk's step does to its ending.
use Rattle.std.proofs.Common.{◌≡◌, inr, ℕ, zero, suc, ◌+◌, ◌<◌, List, [], ◌∷◌, ◌++◌, map, length, true, false, not, eqb, Option, Some, None, IsSomeAnd, refl, sym, ap, ◌∙◌, subst, arith, slice_get, get_or}
use Rattle.std.specs.List.{AllByRecursion}
use Rattle.std.proofs.lemmas.List.{length-map}
use Rattle.std.proofs.Math.Numerals.{add-one}
use Rattle.atomic_table.specs.declared.shared.Seat.{Seat}
use Rattle.claim_rule.specs.declared.rule.View.{View}
use Rattle.claim_rule.specs.declared.ending.StepTurned.{StepTurned}
use Rattle.claim_rule.specs.declared.ending.StepTurned.TheVariants as answer
use Rattle.rail_ids.specs.declared.RowNo.{RowNo}
use Rattle.claim_rule.specs.Rule.{DeskView, BooksView, Each, Found}
use Rattle.claim_rule.specs.Desks.{Stepped, IsOf}
use Rattle.claim_rule.specs.Seats.{CanGive, CanNote, CanClose, desk_view}
use Rattle.claim_rule.specs.Holds.{held, IsItem}
use Rattle.claim_rule.specs.Endings.{EndingView, IsEndingOf, unread, given_front}
use Rattle.claim_rule.specs.Turns.{HasTurned, IsTurned, IsTurnedTo}
use Rattle.history_model.specs.Quiet.{AllQuiet}
use Rattle.claim_rule.specs.Desks.{AddsSteps}
use Rattle.claim_rule.proofs.Shapes.{own_through}
use Rattle.claim_rule.proofs.Moves.{is_sound}
use Rattle.claim_rule.proofs.OwnWork.{is_start}
use Rattle.claim_rule.proofs.Holding.{legal_before, state_then, own_changes, own_stays, same_front, still_of, kept_apart}
use Rattle.history_model.proofs.Generations.{present-changed}
use Rattle.history_model.proofs.Going.{turned-phase}
use Rattle.history_model.proofs.Keeping.{found, given_ending, turn_from, turned-key}
use Rattle.history_model.proofs.Owners.{firm_ending, on_row}
use Rattle.history_model.proofs.Seen.{legal-front, legal-rest}
use Rattle.history_model.proofs.Writing.{sound_of, booking_of_word}
use Rattle.history_model.specs.Allowed.{AllGiven, HasEndWords, IsAllowedStep, IsBeingEndedBy, IsEndWord, IsEndedBy, MayClose, MayGive, MayNote, OnRow, TurnsWith}
use Rattle.history_model.specs.Apply.{given, marked, noted, turned}
use Rattle.history_model.specs.Booking.{Booking, Layout, State, limit_of, present}
use Rattle.history_model.specs.History.{entry, state_of}
use Rattle.history_model.specs.Phase.{is_live, is_turn, row_word_of}
use Rattle.history_model.specs.Words.{value}
use Rattle.history_model.specs.declared.word.Word.TheVariants.{Row}
use Rattle.history_model.specs.Quiet.{is_quiet}
use Rattle.history_model.specs.declared.booking.BookedItem.{BookedItem}
use Rattle.history_model.specs.declared.booking.End.{End}
use Rattle.history_model.specs.declared.entry.Entry.{Entry}
use Rattle.history_model.specs.declared.entry.Step.{Step}
use Rattle.history_model.specs.declared.entry.Step.TheVariants.{Give, Note}
use Rattle.history_model.specs.declared.phase.EndKind.{EndKind}
use Rattle.history_model.specs.declared.phase.Phase.{Phase}
use Rattle.history_model.specs.declared.phase.Phase.TheVariants.{Ending, Free, Making}
use Rattle.history_model.specs.WholeEnds.{end_turn}
use Rattle.leg_masks.specs.Interval.{PlacedSpan as Item}

-- a turn that found the word of a generation turned that booking
pub turned_booking : (lay : Layout) (row : RowNo) (from to : Phase) (end : End) (a b : Seat ℕ View) (kept : Option RowNo) (past : ℕ) (old : DeskView) (n : ℕ) → desk_view a kept past ≡ old → a.me.0.plan ≡ lay → n ≡ row_word_of from row.generation
    → Found lay (Row row.row 0) n a.me.0 b.me.0 → Stepped (end_turn row.row from to end) old (desk_view b kept past) → IsTurned row from to end old (desk_view b kept past)
turned_booking lay row from to end a b kept past old n is plan at there did =
    let st : Step = end_turn row.row from to end in
    let new = desk_view b kept past in
    let h : List Entry = old.seen ++ did.between in
    let s : State = state_of old.layout h in
    let seen : a.me.0.seen ≡ old.seen = ap (λ (d : DeskView). d.seen) is in
    let layout : lay ≡ old.layout = sym plan ∙ ap (λ (d : DeskView). d.layout) is in
    let same : a.me.0.seen ++ there.between ≡ h = same_front (a.me.0.seen ++ there.between) h there.step (entry old.number st) (sym there.seen ∙ did.seen) in
    let word : value s (Row row.row 0) ≡ row_word_of from row.generation =
    ap (λ (z : Layout × List Entry). value (state_of z.0 z.1) (Row row.row 0)) (λ i. (sym layout i, sym same i)) ∙ (there.number ∙ at) in
    let may : IsAllowedStep old.layout s old.number st = (legal-rest old.layout h (entry old.number st ∷ []) (legal_before st old new did)).0 in
    let c = booking_of_word s row.row from row.generation (turn_unfree from to may.1) word in
    let now : present (state_of new.layout new.seen) row.row ≡ Some (turned old.number to end c.0) =
    ap (λ (t : State). present t row.row) (state_then st old new did) ∙ present-changed s row.row (turned old.number to end) c.0 (turned-key old.number to end) c.1 in (
      did,
      on_row (state_of new.layout new.seen) row.row (turned old.number to end c.0) (λ b. (b.generation ≡ row.generation) × (b.phase ≡ to)) now
          (ap (λ (k : ℕ × ℕ). k.1) (turned-key old.number to end c.0) ∙ c.3, turned-phase old.number to end c.0),
    )
  where
    turn_unfree : (from to : Phase) → is_turn from to ≡ true → from ≡ Free → ⊥
    turn_unfree from to t e = let no : false ≡ true = subst (λ (ph : Phase). is_turn ph to ≡ true) e t in cc

-- a turn to an ending leaves the desk one
pub ending_turns : (row : RowNo) (from : Phase) (kind : EndKind) (end : End) (old new : DeskView) → IsTurned row from (Ending kind) end old new → IsEndingOf new (unread row kind end)
ending_turns row from kind end old new (did, its) =
    let r = row.row in
    let st : Step = end_turn r from (Ending kind) end in
    let lay : Layout = old.layout in
    let d : ℕ = old.number in
    let h : List Entry = old.seen ++ did.between in
    let s : State = state_of lay h in
    let whole = legal_before st old new did in
    let may : IsAllowedStep lay s d st = (legal-rest lay h (entry d st ∷ []) whole).0 in
    let f = found (present s r) (λ b. (b.phase ≡ from) × TurnsWith s d (limit_of b) (Ending kind) end) may.3 in
    let sound = sound_of lay s r f.0 (is_sound lay h (legal-front lay h (entry d st ∷ []) whole)) f.1 in
    let live : is_live f.0.phase ≡ true = ap is_live f.2.0 ∙ turn_from from (Ending kind) may.1 in
    let now : present (state_of new.layout new.seen) r ≡ Some (turned d (Ending kind) end f.0) =
    ap (λ (t : State). present t r) (state_then st old new did) ∙ present-changed s r (turned d (Ending kind) end) f.0 (turned-key d (Ending kind) end) f.1 in
    record {
      booking = turned d (Ending kind) end f.0;
      found = now;
      generation = (subst (λ (o : Option Booking). IsSomeAnd o (λ b. (b.generation ≡ row.generation) × (b.phase ≡ Ending kind))) now its).0;
      owner = sym did.same.2;
      phase = refl;
      end = refl;
      row = subst (λ (l : Layout). r < l.rows) (sym did.same.1) may.0;
      few = omega arith;
      fresh = λ _. (sound.kept (inr live), refl);
      items = λ e. absurd (let no : false ≡ true = e in cc);
      within = tt;
    }

pub has_turned : (row : RowNo) (from to : Phase) (end : End) (old new : DeskView) (a : StepTurned) → IsTurned row from to end old new → IsTurnedTo row to end a
    → HasTurned row from to end old new a
has_turned row from to end old new (answer.Won) did is = (did, is)
has_turned row from to end old new (answer.Ending e) did is =
    (did, subst (IsEndingOf new) (sym is.1) (ending_turns row from e.kind end old new (subst (λ (ph : Phase). IsTurned row from ph end old new) is.0 did)), is.0, is.1)
has_turned row from to end old new (answer.Missed n) did is = absurd is

-- items given back from the front

pub length-given_front : (n : ℕ) (is : List BookedItem) → length (given_front n is) ≡ length is
length-given_front zero is = refl
length-given_front (suc n) [] = refl
length-given_front (suc n) (i ∷ is) = ap suc (length-given_front n is)

marked_suc : (n : ℕ) (is : List BookedItem) → n < length is → marked n (given_front n is) ≡ given_front (suc n) is
marked_suc zero [] h = absurd (omega arith)
marked_suc zero (i ∷ is) h = refl
marked_suc (suc n) [] h = absurd (omega arith)
marked_suc (suc n) (i ∷ is) h = ap (λ l. record i { given_back = true } ∷ l) (marked_suc n is (omega arith))

pub marked_front : (n : ℕ) (is : List BookedItem) → n < length is → marked n (given_front n is) ≡ given_front (n + 1) is
marked_front n is h = marked_suc n is h ∙ ap (λ (k : ℕ). given_front k is) (sym (add-one n))

pub get_front : (n : ℕ) (is : List BookedItem) → slice_get (given_front n is) n ≡ slice_get is n
get_front zero is = refl
get_front (suc n) [] = refl
get_front (suc n) (i ∷ is) = get_front n is

pub all_front : (is : List BookedItem) → AllByRecursion (λ i. i.given_back ≡ true) (given_front (length is) is)
all_front [] = tt
all_front (i ∷ is) = (refl, all_front is)

pub get_map : (is : List Item) (n : ℕ) (i : Item) → slice_get is n ≡ Some i → slice_get (map held is) n ≡ Some (held i)
get_map [] n i e = absurd (let no : ◌≡◌ {A = Option Item} None (Some i) = e in cc)
get_map (x ∷ xs) zero i e = let same : x ≡ i = cc in ap (λ (y : Item). Some (held y)) same
get_map (x ∷ xs) (suc n) i e = get_map xs n i e

pub item_at : (is : List Item) (n : ℕ) (x : Item) → n < length is → x ≡ get_or is n x → slice_get is n ≡ Some x
item_at [] n x l e = absurd (omega arith)
item_at (y ∷ ys) zero x l e = ap Some (sym e)
item_at (y ∷ ys) (suc n) x l e = item_at ys n x (omega arith) e

-- the item that is read at the place of the first one left
pub item_read : (inside e : EndingView) (items : List Item) (x : Item) → inside ≡ e → items ≡ inside.items → e.given < length e.items → x ≡ get_or items inside.given x → slice_get e.items e.given ≡ Some x
item_read inside e items x is same left read =
    subst (λ (v : EndingView). v.given < length v.items → slice_get v.items v.given ≡ Some x) is
    (λ l. subst (λ (is : List Item). inside.given < length is → slice_get is inside.given ≡ Some x) same (λ m. item_at items inside.given x m read) l) left

each_at : (P : Item → Type 0) (is : List Item) (n : ℕ) (i : Item) → Each P is → slice_get is n ≡ Some i → P i
each_at P [] n i h e = absurd (let no : ◌≡◌ {A = Option Item} None (Some i) = e in cc)
each_at P (x ∷ xs) zero i h e = let same : x ≡ i = cc in subst P same h.0
each_at P (x ∷ xs) (suc n) i h e = each_at P xs n i h.1 e

below_get : (is : List Item) (n : ℕ) (i : Item) → slice_get is n ≡ Some i → n < length is
below_get [] n i e = absurd (let no : ◌≡◌ {A = Option Item} None (Some i) = e in cc)
below_get (x ∷ xs) zero i e = omega arith
below_get (x ∷ xs) (suc n) i e = let b = below_get xs n i e in omega arith

-- what the rule asks of an ending's row
module _ (a : Seat ℕ View) (kept : Option RowNo) (past : ℕ) (lay : Layout) (desk : DeskView) (e : EndingView) (view : desk_view a kept past ≡ desk) (layout : desk.layout ≡ lay) (is : IsEndingOf desk e) where
  row_below : e.row.row < lay.rows
  row_below = subst (λ (l : Layout). e.row.row < l.rows) layout is.row

  here : present (state_of lay a.me.0.seen) e.row.row ≡ Some is.booking
  here = subst (λ (g : Layout). present (state_of g a.me.0.seen) e.row.row ≡ Some is.booking) layout (ap (λ (d : DeskView). present (state_of desk.layout d.seen) e.row.row) view ∙ is.found)

  mine : IsBeingEndedBy a.me.0.number is.booking
  mine = (e.kind, (is.phase, is.owner ∙ sym (ap (λ (d : DeskView). d.number) view)))

  pub end_can_note : (w : ℕ) → IsEndWord w → CanNote lay a e.row.row w
  end_can_note w word = (row_below, on_row (state_of lay a.me.0.seen) e.row.row is.booking (MayNote a.me.0.number w) here (inr (mine, word)))

  pub end_can_give : (i : Item) → e.read ≡ true → slice_get e.items e.given ≡ Some i → CanGive lay a e.row.row e.given i
  end_can_give i read at =
      let fits = each_at (IsItem desk.layout) e.items e.given i is.within at in
      let got : slice_get is.booking.items e.given ≡ Some (held i) = ap (λ (l : List BookedItem). slice_get l e.given) (is.items read) ∙ (get_front e.given (map held e.items) ∙ get_map e.items e.given i at) in
      let P : Booking → Type 0 = λ b. MayGive a.me.0.number e.given b × (slice_get b.items e.given ≡ Some (held i)) in (
        row_below,
        subst (λ (l : Layout). i.place < length l.legs) layout fits.place,
        fits.fits,
        on_row (state_of lay a.me.0.seen) e.row.row is.booking P here (inr (mine, rw got refl), got),
      )

  pub end_can_close : OnRow (state_of lay desk.seen) e.row.row (MayClose desk.number) → (row : RowNo) (kind : EndKind) → row ≡ e.row → kind ≡ e.kind → CanClose lay a.me.0.seen a.me.0.number row kind
  end_can_close may row kind row_is kind_is =
      let there : present (state_of lay desk.seen) e.row.row ≡ Some is.booking = ap (λ (d : DeskView). present (state_of lay d.seen) e.row.row) (sym view) ∙ here in
      let m : MayClose desk.number is.booking = rw there at may in
      let same : m.0 ≡ e.kind = kind_of m.0 e.kind (sym m.1.0 ∙ is.phase) in
      subst (λ (x : RowNo × EndKind). CanClose lay a.me.0.seen a.me.0.number x.0 x.1) (λ i. (sym row_is i, (same ∙ sym kind_is) i))
      (on_row (state_of lay a.me.0.seen) e.row.row is.booking (λ b. (b.generation ≡ e.row.generation) × IsEndedBy a.me.0.number m.0 b × AllGiven b × HasEndWords m.0 b) here (is.generation, (m.1.0, m.1.1 ∙ sym (ap (λ (d : DeskView). d.number) view)), m.2, m.3))
    where
      kind_of : (k l : EndKind) → Ending k ≡ Ending l → k ≡ l
      kind_of k l e = cc

-- a desk's ending after its steps

one_more : EndingView → EndingView
one_more e = record e { given = e.given + 1 }

pub end_gives : (i : Item) (old new : DeskView) (e : EndingView) → e.read ≡ true → slice_get e.items e.given ≡ Some i → Stepped (Give e.row.row e.given) old new → IsEndingOf old e → IsEndingOf new (record e { given = e.given + 1 })
end_gives i old new e read at did is =
    let below = below_get e.items e.given i at in
    record {
      booking = given e.given is.booking;
      found = own_changes (Give e.row.row e.given) old new did e.row.row is.booking (given e.given) (λ s. refl) (λ _. refl) is.found is.owner (firm_ending is.booking.phase e.kind is.phase);
      generation = is.generation;
      owner = is.owner ∙ sym did.same.2;
      phase = is.phase;
      end = is.end;
      row = subst (λ (l : Layout). e.row.row < l.rows) (sym did.same.1) is.row;
      few = omega arith;
      fresh = λ f. absurd (let no : true ≡ false = sym read ∙ f in cc);
      items = λ _. ap (λ (b : Booking). b.items) (given_ending e.given is.booking e.kind is.phase) ∙ (ap (marked e.given) (is.items read) ∙ marked_front e.given (map held e.items) (subst (λ (n : ℕ). e.given < n) (sym (length-map e.items held)) below));
      within = subst (λ (l : Layout). Each (IsItem l) e.items) (sym did.same.1) is.within;
    }

abbrev pub end_notes : (w n : ℕ) (old new : DeskView) (e : EndingView) → Stepped (Note e.row.row w n) old new → IsEndingOf old e → IsEndingOf new e
end_notes w n old new e did is = record {
  booking = noted w n is.booking;
  found = own_changes (Note e.row.row w n) old new did e.row.row is.booking (noted w n) (λ s. refl) (λ _. refl) is.found is.owner (firm_ending is.booking.phase e.kind is.phase);
  generation = is.generation;
  owner = is.owner ∙ sym did.same.2;
  phase = is.phase;
  end = is.end;
  row = subst (λ (l : Layout). e.row.row < l.rows) (sym did.same.1) is.row;
  few = is.few;
  fresh = is.fresh;
  items = is.items;
  within = subst (λ (l : Layout). Each (IsItem l) e.items) (sym did.same.1) is.within;
}

abbrev pub end_stays : (st : Step) (old new : DeskView) (e : EndingView) → is_quiet e.row.row st ≡ true → Stepped st old new → IsEndingOf old e → IsEndingOf new e
end_stays st old new e quiet did is = record {
  booking = is.booking;
  found = own_stays st old new did e.row.row is.booking quiet is.found is.owner (firm_ending is.booking.phase e.kind is.phase);
  generation = is.generation;
  owner = is.owner ∙ sym did.same.2;
  phase = is.phase;
  end = is.end;
  row = subst (λ (l : Layout). e.row.row < l.rows) (sym did.same.1) is.row;
  few = is.few;
  fresh = is.fresh;
  items = is.items;
  within = subst (λ (l : Layout). Each (IsItem l) e.items) (sym did.same.1) is.within;
}

-- a step of an ending leaves a kept row
pub still_ending : (books : BooksView) (old new : DeskView) (e : EndingView) (st : Step) → is_start st ≡ false → ((r : ℕ) → not (eqb e.row.row r) ≡ true → is_quiet r st ≡ true) → IsEndingOf old e → Stepped st old new → IsOf books old → IsOf books new
still_ending books old new e st none quiet is did of = still_of st books old new none (λ r kept. quiet r.row (kept_apart books old r e.row.row (λ b. b.phase ≡ Ending e.kind) (λ b p m. let no : Ending e.kind ≡ Making = sym p ∙ m in cc) of
    (on_row (state_of old.layout old.seen) e.row.row is.booking (λ b. b.phase ≡ Ending e.kind) is.found is.phase) kept)) did of

-- an ending stays the desk's through calls that leave its row alone
pub ending_through : (old new : DeskView) (es : List Step) (e : EndingView) → AddsSteps old new es → AllQuiet e.row.row es → IsEndingOf old e → IsEndingOf new e
ending_through old new es e did quiet is = record {
  booking = is.booking;
  found = own_through old new es e.row.row is.booking did quiet is.found is.owner (firm_ending is.booking.phase e.kind is.phase);
  generation = is.generation;
  owner = is.owner ∙ sym did.same.2;
  phase = is.phase;
  end = is.end;
  row = subst (λ (l : Layout). e.row.row < l.rows) (sym did.same.1) is.row;
  few = is.few;
  fresh = is.fresh;
  items = is.items;
  within = subst (λ (l : Layout). Each (IsItem l) e.items) (sym did.same.1) is.within;
}
