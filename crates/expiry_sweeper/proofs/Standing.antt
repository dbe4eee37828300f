-- A sealed booking that stays its row's present one: what the entries of its row show meanwhile.
use Rattle.std.proofs.Common.{◌≡◌, ℕ, ◌+◌, ◌≤◌, ◌⊎◌, ⊎_elim, Bool, cond, true, false, List, [], ◌∷◌, Option, Some, IsSomeAnd, refl, sym, ap, ◌∙◌, subst, arith, ne_eqb}
use Rattle.std.specs.List.{AllByRecursion}
use Rattle.std.specs.Option.{option_map_or}
use Rattle.history_model.specs.declared.entry.Entry.{Entry}
use Rattle.history_model.specs.declared.entry.Step.{Step}
use Rattle.history_model.specs.declared.entry.Step.TheVariants.{Look, Take, Give, Start, SawRow, Note, Seal, Turn, LostTurn, Close, Met}
use Rattle.history_model.specs.declared.phase.EndKind.{EndKind}
use Rattle.history_model.specs.declared.phase.Phase.{Phase}
use Rattle.history_model.specs.declared.phase.Phase.TheVariants.{Free, Making, Prebooked, Confirmed, Fulfilled, Ending, Ended}
use Rattle.history_model.specs.Phase.{is_sealed, is_live, is_ended, row_word_of}
use Rattle.history_model.specs.Booking.{Booking, Layout, State, booking_at, phase_at, next_generation, present, word_at}
use Rattle.history_model.specs.Allowed.{IsAllowedStep}
use Rattle.history_model.specs.Apply.{apply}
use Rattle.history_model.specs.History.{IsLegal, IsLegalFrom, entry, state_after, state_of}
use Rattle.history_model.specs.Laws.{Stays, stage}
use Rattle.history_model.specs.Life.{LeadsTo}
use Rattle.history_model.specs.WholeEnds.{end_at}
use Rattle.history_model.proofs.Forward.{next-history, stages-history, stays-history}
use Rattle.history_model.proofs.Generations.{generation_below, key_present, key_at, present_latest, unended_present}
use Rattle.history_model.proofs.Keeping.{found, live_sealed}
use Rattle.history_model.proofs.Leading.{turn_decides, leads-ending}
use Rattle.history_model.proofs.Writing.{word_in}
use Rattle.rail_ids.specs.declared.RowNo.{RowNo}
use Rattle.claim_rule.specs.Rule.{OnBooking}
use Rattle.claim_rule.proofs.Moves.{is_sound}

-- the words that a booking is sealed with
abbrev pub IsSealWord : ℕ → Type 0
IsSealWord w = ((1 ≤ w) × (w ≤ 4)) ⊎ (8 ≤ w)

abbrev pub HasWords : Booking → Booking → Type 0
HasWords b c = (w : ℕ) → IsSealWord w → word_at c w ≡ word_at b w

-- a look at a word of the row's seal shows that of the booking
abbrev pub ShowsSeal : ℕ → Booking → Step → Type 0
ShowsSeal row b (SawRow r w n) = r ≡ row → IsSealWord w → n ≡ word_at b w
ShowsSeal row b step = Unit {0}

-- a step that leaves the row's booking in its phase
abbrev pub LeavesPhase : ℕ → ℕ → Phase → Step → Type 0
LeavesPhase row generation phase (SawRow r w n) = r ≡ row → w ≡ 0 → n ≡ row_word_of phase generation
LeavesPhase row generation phase (LostTurn r wanted n) = r ≡ row → n ≡ row_word_of phase generation
LeavesPhase row generation phase (Turn r from (Ending kind) moment amount successor) = r ≡ row → ⊥
LeavesPhase row generation phase step = Unit {0}

-- the booking is there after the entries, sealed with the same words
pub there : (g : Layout) (s : State) (es : List Entry) (row generation : ℕ) (b : Booking) → IsLegalFrom g s es → booking_at s row generation ≡ Some b → is_sealed b.phase ≡ true → (c : Booking) × (booking_at (state_after s es) row generation ≡ Some c) × Stays b c
there g s es row generation b l at sealed = found (booking_at (state_after s es) row generation) (Stays b) (stays-history g s es row generation b l at sealed)

-- while no later booking is in the row, it is the present one
pub stands : (g : Layout) (s : State) (es : List Entry) (row generation : ℕ) (b : Booking) → IsLegalFrom g s es → booking_at s row generation ≡ Some b → next_generation (state_after s es) row ≡ generation + 1 → (next_generation s row ≡ generation + 1) × (present s row ≡ Some b)
stands g s es row generation b l at still =
    let low = generation_below s row generation b at in
    let up = next-history g s es row l in
    let next : next_generation s row ≡ generation + 1 = omega (arith, low, up, still) in
    (next, key_present s row generation b next at)

-- the looks at its seal

not_standing : (w : ℕ) → IsSealWord w → w ≡ 0 → ⊥
not_standing w seal e = ⊎_elim (λ p. let l = p.0 in omega (arith, l, e)) (λ p. omega (arith, p, e)) seal

looked : (g : Layout) (s : State) (desk row : ℕ) (b c : Booking) (step : Step) → IsAllowedStep g s desk step → present s row ≡ Some c → HasWords b c → ShowsSeal row b step
looked g s desk row b c (SawRow r w n) a here same = λ is seal.
    a.2 ∙ (ap (λ (q : ℕ). word_in w (present s q)) is ∙ (ap (word_in w) here
    ∙ (ap (λ (t : Bool). cond t (row_word_of c.phase c.generation) (word_at c w)) (ne_eqb w 0 (not_standing w seal)) ∙ same w seal)))
looked g s desk row b c (Look place half shown) a here same = tt
looked g s desk row b c (Take q place span) a here same = tt
looked g s desk row b c (Give q item) a here same = tt
looked g s desk row b c (Start q generation) a here same = tt
looked g s desk row b c (Note q w value) a here same = tt
looked g s desk row b c (Seal q phase) a here same = tt
looked g s desk row b c (Turn q from to moment amount successor) a here same = tt
looked g s desk row b c (LostTurn q wanted shown) a here same = tt
looked g s desk row b c (Close q) a here same = tt
looked g s desk row b c Met a here same = tt

pub seal_shown : (g : Layout) (s : State) (es : List Entry) (row generation : ℕ) (b c : Booking) → IsLegalFrom g s es → booking_at s row generation ≡ Some c → is_sealed c.phase ≡ true → HasWords b c → next_generation (state_after s es) row ≡ generation + 1 → AllByRecursion (λ e. ShowsSeal row b e.step) es
seal_shown g s [] row generation b c l at sealed same still = tt
seal_shown g s (e ∷ es) row generation b c l at sealed same still =
    let here = stands g s (e ∷ es) row generation c l at still in
    let n = there g s (e ∷ []) row generation c (l.0, tt) at sealed in (
      looked g s e.desk row b c e.step l.0 here.1 same,
      seal_shown g (apply s e) es row generation b n.0 l.1 n.1 n.2.still_sealed (λ w seal. n.2.sealed.words w seal ∙ same w seal) still,
    )

-- and the entries while it stays in its phase

same_stage : (p q : Phase) → is_live p ≡ true → stage p ≡ stage q → q ≡ p
same_stage Prebooked Free l e = absurd (omega (arith, e))
same_stage Prebooked Making l e = absurd (omega (arith, e))
same_stage Prebooked Prebooked l e = refl
same_stage Prebooked Confirmed l e = absurd (omega (arith, e))
same_stage Prebooked Fulfilled l e = absurd (omega (arith, e))
same_stage Prebooked (Ending k) l e = absurd (omega (arith, e))
same_stage Prebooked (Ended k) l e = absurd (omega (arith, e))
same_stage Confirmed Free l e = absurd (omega (arith, e))
same_stage Confirmed Making l e = absurd (omega (arith, e))
same_stage Confirmed Prebooked l e = absurd (omega (arith, e))
same_stage Confirmed Confirmed l e = refl
same_stage Confirmed Fulfilled l e = absurd (omega (arith, e))
same_stage Confirmed (Ending k) l e = absurd (omega (arith, e))
same_stage Confirmed (Ended k) l e = absurd (omega (arith, e))
same_stage Fulfilled Free l e = absurd (omega (arith, e))
same_stage Fulfilled Making l e = absurd (omega (arith, e))
same_stage Fulfilled Prebooked l e = absurd (omega (arith, e))
same_stage Fulfilled Confirmed l e = absurd (omega (arith, e))
same_stage Fulfilled Fulfilled l e = refl
same_stage Fulfilled (Ending k) l e = absurd (omega (arith, e))
same_stage Fulfilled (Ended k) l e = absurd (omega (arith, e))
same_stage Free q l e = absurd (let no : false ≡ true = l in cc)
same_stage Making q l e = absurd (let no : false ≡ true = l in cc)
same_stage (Ending k) q l e = absurd (let no : false ≡ true = l in cc)
same_stage (Ended k) q l e = absurd (let no : false ≡ true = l in cc)

no_ending : (phase : Phase) (kind : EndKind) → is_live phase ≡ true → LeadsTo (Ending kind) phase → ⊥
no_ending phase kind live leads = ⊎_elim
    (λ e. let no : true ≡ false = sym live ∙ ap is_live e in cc)
    (λ e. let no : true ≡ false = sym live ∙ ap is_live e in cc)
    (leads-ending kind phase leads)

left : (g : Layout) (s : State) (desk row generation : ℕ) (phase : Phase) (c : Booking) (step : Step) → IsLegalFrom g s (entry desk step ∷ []) → next_generation s row ≡ generation + 1 → present s row ≡ Some c → c.generation ≡ generation → c.phase ≡ phase → is_live phase ≡ true
    → phase_at (apply s (entry desk step)) row generation ≡ phase → LeavesPhase row generation phase step
left g s desk row generation phase c (SawRow r w n) l next here its in_it live later = λ is first.
    l.0.2 ∙ (ap (λ (q : ℕ). word_in w (present s q)) is ∙ (ap (word_in w) here ∙ (ap (λ (v : ℕ). word_in v (Some c)) first ∙ (λ i. row_word_of (in_it i) (its i)))))
left g s desk row generation phase c (LostTurn r wanted n) l next here its in_it live later = λ is.
    l.0.1 ∙ (ap (λ (q : ℕ). word_in 0 (present s q)) is ∙ (ap (word_in 0) here ∙ (λ i. row_word_of (in_it i) (its i))))
left g s desk row generation phase c (Turn r from (Ending kind) moment amount successor) l next here its in_it live later = λ is.
    no_ending phase kind live (subst (LeadsTo (Ending kind)) later
    (turn_decides g s [] [] (entry desk (Turn r from (Ending kind) moment amount successor)) row generation from (Ending kind) next
    (end_at moment amount successor, ap (λ (q : ℕ). Turn q from (Ending kind) moment amount successor) is) l))
left g s desk row generation phase c (Turn r from Free moment amount successor) l next here its in_it live later = tt
left g s desk row generation phase c (Turn r from Making moment amount successor) l next here its in_it live later = tt
left g s desk row generation phase c (Turn r from Prebooked moment amount successor) l next here its in_it live later = tt
left g s desk row generation phase c (Turn r from Confirmed moment amount successor) l next here its in_it live later = tt
left g s desk row generation phase c (Turn r from Fulfilled moment amount successor) l next here its in_it live later = tt
left g s desk row generation phase c (Turn r from (Ended kind) moment amount successor) l next here its in_it live later = tt
left g s desk row generation phase c (Look place half shown) l next here its in_it live later = tt
left g s desk row generation phase c (Take q place span) l next here its in_it live later = tt
left g s desk row generation phase c (Give q item) l next here its in_it live later = tt
left g s desk row generation phase c (Start q number) l next here its in_it live later = tt
left g s desk row generation phase c (Note q w value) l next here its in_it live later = tt
left g s desk row generation phase c (Seal q to) l next here its in_it live later = tt
left g s desk row generation phase c (Close q) l next here its in_it live later = tt
left g s desk row generation phase c Met l next here its in_it live later = tt

pub phase_of : (s : State) (row generation : ℕ) (b : Booking) → booking_at s row generation ≡ Some b → phase_at s row generation ≡ b.phase
phase_of s row generation b at = ap (λ o. option_map_or (λ (x : Booking). x.phase) o Free) at

pub phase_left : (g : Layout) (s : State) (es : List Entry) (row generation : ℕ) (phase : Phase) (c : Booking) → IsLegalFrom g s es → booking_at s row generation ≡ Some c → c.phase ≡ phase → is_live phase ≡ true → next_generation (state_after s es) row ≡ generation + 1 → phase_at (state_after s es) row generation ≡ phase
    → AllByRecursion (λ e. LeavesPhase row generation phase e.step) es
phase_left g s [] row generation phase c l at in_it live still last = tt
phase_left g s (e ∷ es) row generation phase c l at in_it live still last =
    let here = stands g s (e ∷ es) row generation c l at still in
    let n = there g s (e ∷ []) row generation c (l.0, tt) at (ap is_sealed in_it ∙ live_sealed phase live) in
    let up : stage (phase_at s row generation) ≤ stage (phase_at (apply s e) row generation) = stages-history g s (e ∷ []) row generation (l.0, tt) in
    let on : stage (phase_at (apply s e) row generation) ≤ stage (phase_at (state_after (apply s e) es) row generation) = stages-history g (apply s e) es row generation l.1 in
    let before : stage (phase_at s row generation) ≡ stage phase = ap stage (phase_of s row generation c at ∙ in_it) in
    let after : stage (phase_at (state_after (apply s e) es) row generation) ≡ stage phase = ap stage last in
    let level : stage phase ≡ stage (phase_at (apply s e) row generation) = omega (arith, up, on, before, after) in
    let later : phase_at (apply s e) row generation ≡ phase = same_stage phase (phase_at (apply s e) row generation) live level in (
      left g s e.desk row generation phase c e.step (l.0, tt) here.0 here.1 (key_at s row generation c at).1 in_it live later,
      phase_left g (apply s e) es row generation phase n.0 l.1 n.1 (sym (phase_of (apply s e) row generation n.0 n.1) ∙ later) live still last,
    )

-- a live booking is its row's present one
pub still_there : (g : Layout) (history : List Entry) (row generation : ℕ) (c : Booking) → IsLegal g history → booking_at (state_of g history) row generation ≡ Some c → is_live c.phase ≡ true → next_generation (state_of g history) row ≡ generation + 1
still_there g history row generation c legal at live =
    let s = state_of g history in
    let here = unended_present s row generation c (is_sound g history legal).earlier at (unended c.phase live) in
    let latest = (present_latest s row c here).1 in
    sym latest ∙ ap (λ (n : ℕ). n + 1) (key_at s row generation c at).1
  where
    unended : (p : Phase) → is_live p ≡ true → is_ended p ≡ false
    unended Prebooked l = refl
    unended Confirmed l = refl
    unended Fulfilled l = refl
    unended Free l = refl
    unended Making l = refl
    unended (Ending k) l = refl
    unended (Ended k) l = absurd (let no : false ≡ true = l in cc)

-- what holds of the booking in a state that is this one
pub stands_so : (s t : State) (row : RowNo) (c : Booking) (P : Booking → Type 0) → t ≡ s → booking_at s row.row row.generation ≡ Some c → P c → OnBooking t row P
stands_so s t row c P is at holds = subst (λ (x : State). OnBooking x row P) (sym is) (subst (λ (o : Option Booking). IsSomeAnd o P) (sym at) holds)
