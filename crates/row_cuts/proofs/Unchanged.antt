-- A row whose standing word nobody changes is kept as it was.
use Rattle.std.proofs.Common.{◌≡◌, inl, inr, ⊎_elim, ℕ, zero, suc, ◌==◌, false, if◌then◌else◌, List, [], ◌∷◌, ◌++◌, map, Option, Some, None, refl, sym, ap, subst, ◌∙◌, arith, eq-eqb, get_or-set_other, true≢false}
use Rattle.std.specs.Prelude.{option_and_then}
use Rattle.std.specs.List.{AllByRecursion}
use Rattle.std.proofs.lemmas.Bool.{cases_eq}
use Rattle.history_model.specs.declared.booking.BookedItem.{BookedItem}
use Rattle.history_model.specs.declared.booking.End.{End}
use Rattle.history_model.specs.declared.entry.Entry.{Entry}
use Rattle.history_model.specs.declared.entry.Step.{Step}
use Rattle.history_model.specs.declared.entry.Step.TheVariants.{Look, Take, Give, Start, SawRow, Note, Seal, Turn, LostTurn, Close, Met}
use Rattle.history_model.specs.declared.phase.EndKind.{EndKind}
use Rattle.history_model.specs.declared.phase.Phase.{Phase}
use Rattle.history_model.specs.declared.phase.Phase.TheVariants.{Making, Ending}
use Rattle.history_model.specs.Allowed.{IsAllowedStep, IsEndWord, IsMadeBy, MayGive, MayNote}
use Rattle.history_model.specs.Apply.{apply, apply_step, closed, given, in_phase, item_taken, items_given, marked, noted, turned, words_of_row}
use Rattle.history_model.specs.Booking.{Booking, Layout, State, change, key_of, present, word_at}
use Rattle.history_model.specs.History.{IsLegal, IsLegalFrom, state_after, state_of}
use Rattle.history_model.specs.WholeEnds.{end_at}
use Rattle.history_model.proofs.Generations.{present-changed, present-changed_other, present-started_other}
use Rattle.history_model.proofs.Keeping.{found}
use Rattle.history_model.proofs.Seen.{legal-rest, state_of-append}
use Rattle.claim_rule.specs.Openings.{end_in, kept_in, kept_of_row, placed, stub}
use Rattle.row_cuts.specs.Kept.{restands}

-- a change of another row, and one of this row that keeps what is kept of its booking
by_row : (s : State) (q row : ℕ) (f : Booking → Booking) (b : Booking) → ((x : Booking) → key_of (f x) ≡ key_of x) → present s q ≡ Some b → kept_in (f b).phase (f b) ≡ kept_in b.phase b
    → kept_of_row (change s q f) row ≡ kept_of_row s row
by_row s q row f b key at same = ⊎_elim
    (λ (here : row ≡ q).
    subst (λ (r : ℕ). kept_of_row (change s q f) r ≡ kept_of_row s r) (sym here)
    (ap (λ (o : Option Booking). option_and_then (λ b. kept_in b.phase b) o) (present-changed s q f b key at) ∙ (same ∙ sym (ap (λ (o : Option Booking). option_and_then (λ b. kept_in b.phase b) o) at))))
    (λ (other : row ≡ q → ⊥). ap (λ (o : Option Booking). option_and_then (λ b. kept_in b.phase b) o) (present-changed_other s q row f key other))
    (cases_eq row q)

another : (q row : ℕ) → (q == row) ≡ false → row ≡ q → ⊥
another q row differs same = true≢false (sym (eq-eqb q row (sym same)) ∙ differs)

other_row : (s : State) (q row : ℕ) (f : Booking → Booking) → ((x : Booking) → key_of (f x) ≡ key_of x) → (q == row) ≡ false → kept_of_row (change s q f) row ≡ kept_of_row s row
other_row s q row f key differs = ap (λ (o : Option Booking). option_and_then (λ b. kept_in b.phase b) o) (present-changed_other s q row f key (another q row differs))

-- of a booking in the making nothing is kept but its row and its generation
making_kept : (phase : Phase) (x y : Booking) → phase ≡ Making → x.row ≡ y.row → x.generation ≡ y.generation → kept_in phase x ≡ kept_in phase y
making_kept phase x y is row generation =
    ap (λ (p : Phase). kept_in p x) is
    ∙ ((λ j. if generation j == 0 then None else Some (stub (row j) (generation j))) ∙ sym (ap (λ (p : Phase). kept_in p y) is))

-- what is kept of an ending one has no end, and items whether they are given back or not
placed_marked : (n : ℕ) (is : List BookedItem) → map placed (marked n is) ≡ map placed is
placed_marked zero [] = refl
placed_marked (suc n) [] = refl
placed_marked zero (i ∷ is) = refl
placed_marked (suc n) (i ∷ is) = λ j. placed i ∷ placed_marked n is j

given_kept : (kind : EndKind) (item : ℕ) (b : Booking) → b.phase ≡ Ending kind → kept_in b.phase (given item b) ≡ kept_in b.phase b
given_kept kind item b is =
    let items : map placed (items_given b.phase item b.items) ≡ map placed b.items =
    ap (λ (p : Phase). map placed (items_given p item b.items)) is ∙ placed_marked item b.items in
    ap (λ (p : Phase). kept_in p (given item b)) is
    ∙ ((λ j. Some (record {
      row = b.row;
      generation = b.generation;
      phase = b.phase;
      retailer = word_at b 1;
      limit = word_at b 2;
      total = word_at b 3;
      items = items j;
      end = end_in b.phase b.end;
    }))
    ∙ sym (ap (λ (p : Phase). kept_in p b) is))

noted_kept : (kind : EndKind) (w n : ℕ) (b : Booking) → b.phase ≡ Ending kind → IsEndWord w → kept_in b.phase (noted w n b) ≡ kept_in b.phase b
noted_kept kind w n b is end =
    let low = end.0 in
    ap (λ (p : Phase). kept_in p (noted w n b)) is
    ∙ ((λ j. Some (record {
      row = b.row;
      generation = b.generation;
      phase = b.phase;
      retailer = get_or-set_other b.words w 1 n 0 (λ e. omega (arith, e, low)) j;
      limit = get_or-set_other b.words w 2 n 0 (λ e. omega (arith, e, low)) j;
      total = get_or-set_other b.words w 3 n 0 (λ e. omega (arith, e, low)) j;
      items = map placed b.items;
      end = end_in b.phase b.end;
    }))
    ∙ sym (ap (λ (p : Phase). kept_in p b) is))

give_kept : (d item : ℕ) (b : Booking) → MayGive d item b → kept_in b.phase (given item b) ≡ kept_in b.phase b
give_kept d item b (inl (made, last)) = making_kept b.phase (given item b) b made.0 refl refl
give_kept d item b (inr ((kind, ends), left)) = given_kept kind item b ends.0

note_kept : (d w n : ℕ) (b : Booking) → MayNote d w b → kept_in b.phase (noted w n b) ≡ kept_in b.phase b
note_kept d w n b (inl (made, its)) = making_kept b.phase (noted w n b) b made.0 refl refl
note_kept d w n b (inr ((kind, ends), its)) = noted_kept kind w n b ends.0 its

turned_key : (d : ℕ) (to : Phase) (end : End) (x : Booking) → key_of (turned d to end x) ≡ key_of x
turned_key d (Ending kind) end x = refl
turned_key d _ end x = refl

step_same : (g : Layout) (s : State) (d : ℕ) (st : Step) (row : ℕ) → IsAllowedStep g s d st → restands row st ≡ false → kept_of_row (apply_step s d st) row ≡ kept_of_row s row
step_same g s d (Look place half shown) row may same = refl
step_same g s d (SawRow q word value) row may same = refl
step_same g s d (LostTurn q wanted shown) row may same = refl
step_same g s d Met row may same = refl
step_same g s d (Start q generation) row may same =
    ap (λ (o : Option Booking). option_and_then (λ b. kept_in b.phase b) o) (present-started_other s q generation d (words_of_row s q) row (another q row same))
step_same g s d (Take q place span) row may same =
    let b = found (present s q) (λ b. IsMadeBy d b × _) may.2 in
    by_row s q row (item_taken place span) b.0 (λ x. refl) b.1 (making_kept b.0.phase (item_taken place span b.0) b.0 b.2.0.0 refl refl)
step_same g s d (Give q item) row may same =
    let b = found (present s q) (MayGive d item) may.1 in
    by_row s q row (given item) b.0 (λ x. refl) b.1 (give_kept d item b.0 b.2)
step_same g s d (Note q word value) row may same =
    let b = found (present s q) (MayNote d word) may.1 in
    by_row s q row (noted word value) b.0 (λ x. refl) b.1 (note_kept d word value b.0 b.2)
step_same g s d (Seal q phase) row may same = other_row s q row (in_phase phase) (λ x. refl) same
step_same g s d (Turn q from to moment amount successor) row may same = other_row s q row (turned d to (end_at moment amount successor)) (turned_key d to (end_at moment amount successor)) same
step_same g s d (Close q) row may same = other_row s q row closed (λ x. refl) same

steps_same : (g : Layout) (s : State) (es : List Entry) (row : ℕ) → IsLegalFrom g s es → AllByRecursion (λ (e : Entry). restands row e.step ≡ false) es → kept_of_row (state_after s es) row ≡ kept_of_row s row
steps_same g s [] row legal same = refl
steps_same g s (e ∷ es) row legal same = steps_same g (apply s e) es row legal.1 same.1 ∙ step_same g s e.desk e.step row legal.0 same.0

pub unchanged : (g : Layout) (history more : List Entry) (row : ℕ) → IsLegal g (history ++ more) → AllByRecursion (λ (e : Entry). restands row e.step ≡ false) more
    → kept_of_row (state_of g history) row ≡ kept_of_row (state_of g (history ++ more)) row
unchanged g history more row legal same =
    sym (ap (λ (s : State). kept_of_row s row) (state_of-append g history more) ∙ steps_same g (state_of g history) more row (legal-rest g history more legal) same)
