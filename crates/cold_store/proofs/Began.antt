-- The bookings of an export are steady at the beginning.
use Rattle.std.proofs.Common.{◌≡◌, ⊎_elim, ℕ, ◌+◌, ◌<◌, ◌≤◌, Bool, true, false, List, [], ◌∷◌, map, Contains, Option, Some, None, IfSome, IsSome, IsSomeAnd, refl, sym, ap, subst, arith}
use Rattle.std.specs.List.{AllByRecursion}
use Rattle.std.specs.Option.{option_map_or}
use Rattle.std.proofs.lemmas.List.Elements.{All-contains_itself, All-from_recursion, recursion_from_All}
use Rattle.history_model.specs.declared.phase.EndKind.{EndKind}
use Rattle.history_model.specs.declared.phase.EndKind.TheVariants.{Release, Expire, Refund, Exchange}
use Rattle.history_model.specs.declared.phase.Phase.{Phase}
use Rattle.history_model.specs.declared.phase.Phase.TheVariants.{Free, Making, Prebooked, Confirmed, Fulfilled, Ending, Ended}
use Rattle.history_model.specs.Booking.{Booking, Layout, State, key_of, next_in, next_generation, successor_word}
use Rattle.history_model.specs.Laws.{AreClear}
use Rattle.history_model.specs.Lists.{Pairwise}
use Rattle.history_model.specs.Phase.{is_ended}
use Rattle.history_model.proofs.Generations.{next_above}
use Rattle.history_model.proofs.ListLemmas.{All-both, All-of_map, All-under_map}
use Rattle.claim_rule.specs.Openings.{booked, end_in, opening_booking, opening_of}
use Rattle.line_text.specs.declared.heads.SaidItem.{SaidItem}
use Rattle.line_text.specs.declared.ends.SaidRow.{SaidRow}
use Rattle.cold_store.specs.Exports.{NoneBelow}
use Rattle.cold_store.specs.Imports.{OpensAs}
use Rattle.cold_store.specs.Laws.{HasBegun}
use Rattle.line_text.specs.Lines.{HasLetter, IsSayable, SaidBooking}
use Rattle.cold_store.specs.Right.{AreClear as AreClearSaid, HasLine, IsEndIn, IsRight, OwnsSuccessor, kept_item, kept_of}
use Rattle.cold_store.proofs.Steady.{AreSteady, EndsRight, IsRightEnd, IsSteady}

clear_from : (given : Bool) (i : SaidItem) (js : List SaidItem) → AllByRecursion (AreClearSaid i) js → AllByRecursion (AreClear (booked given (kept_item i))) (map (booked given) (map kept_item js))
clear_from given i [] h = tt
clear_from given i (j ∷ js) h = (h.0, clear_from given i js h.1)

pairs_from : (given : Bool) (is : List SaidItem) → Pairwise AreClearSaid is → Pairwise AreClear (map (booked given) (map kept_item is))
pairs_from given [] h = tt
pairs_from given (i ∷ is) h = (clear_from given i is h.0, pairs_from given is h.1)

-- the row of a line has its generation, and no lower next one
line_below : (legs : List ℕ) (rows : ℕ) (said all : List SaidBooking) (b : SaidBooking) → AllByRecursion (IsRight legs rows all) said → Contains said b
    → (b.row < rows) × (b.generation + 1 ≤ next_generation (opening_of (map kept_of said)) b.row)
line_below legs rows said all b right (k, below, at) =
    let s : State = opening_of (map kept_of said) in
    let each : AllByRecursion (λ (c : SaidBooking). c.generation + 1 ≤ next_generation s c.row) said =
    All-under_map (λ c. c.generation + 1 ≤ next_generation s c.row) kept_of said (All-under_map (λ (c : Booking). c.generation + 1 ≤ next_generation s c.row) opening_booking (map kept_of said) (next_above s)) in
    let here = subst (IsRight legs rows all) at (All-from_recursion (IsRight legs rows all) said right k b below) in (
      here.alone.head.row,
      subst (λ (c : SaidBooking). c.generation + 1 ≤ next_generation s c.row) at (All-from_recursion (λ (c : SaidBooking). c.generation + 1 ≤ next_generation s c.row) said each k b below),
    )

module _ (g : Layout) (said : List SaidBooking) (right : AllByRecursion (IsRight g.legs g.rows said) said) (others : NoneBelow g.rows (OwnsSuccessor said)) where
  abbrev keys : List (ℕ × ℕ)
  keys = map key_of (opening_of (map kept_of said))

  successor_end : (b : SaidBooking) → Contains said b → IsRight g.legs g.rows said b → (o : Option SaidRow) → b.end.successor ≡ o → IsSome o → IsRightEnd g keys b.row b.limit Exchange (kept_of b).end
  successor_end b at is None e some = absurd (let no : false ≡ true = some in cc)
  successor_end b at is (Some s) e some =
      let line : HasLine said s = subst (λ (o : Option SaidRow). IfSome o (HasLine said)) e is.successor in
      let low = line_below g.legs g.rows said said line.0 right line.1 in
      let own : IsSomeAnd b.end.successor (λ t. t.row ≡ b.row) → ⊥ = λ on. others b.row is.alone.head.row (b, at, refl, on) in (
        s.row,
        s.generation,
        subst (λ (r : ℕ). r < g.rows) line.2 low.0,
        (λ here. own (subst (λ (o : Option SaidRow). IsSomeAnd o (λ t. t.row ≡ b.row)) (sym e) here)),
        (let l : line.0.generation + 1 ≤ next_in keys s.row = subst (λ (r : ℕ). line.0.generation + 1 ≤ next_in keys r) line.2 low.1 in let n = line.3 in omega (arith, l, n)),
        ap (λ (o : Option SaidRow). option_map_or (λ (t : SaidRow). successor_word t.row t.generation) o 0) e,
      )

  end_from : (b : SaidBooking) → Contains said b → IsRight g.legs g.rows said b → (kind : EndKind) → IsEndIn kind b.limit b.end → IsRightEnd g keys b.row b.limit kind (kept_of b).end
  end_from b at is Release end = ap (λ (o : Option SaidRow). option_map_or (λ (t : SaidRow). successor_word t.row t.generation) o 0) (end.others (λ e. cc))
  end_from b at is Expire end = (end.expired refl, ap (λ (o : Option SaidRow). option_map_or (λ (t : SaidRow). successor_word t.row t.generation) o 0) (end.others (λ e. cc)))
  end_from b at is Refund end = ap (λ (o : Option SaidRow). option_map_or (λ (t : SaidRow). successor_word t.row t.generation) o 0) (end.others (λ e. cc))
  end_from b at is Exchange end = successor_end b at is b.end.successor refl (end.exchanged refl)

  ends_from : (b : SaidBooking) → Contains said b → IsRight g.legs g.rows said b → (ph : Phase) → HasLetter ph → b.phase ≡ ph → EndsRight g keys b.row b.limit ph (end_in ph (kept_of b).end)
  ends_from b at is (Ended kind) letter e = end_from b at is kind (is.alone.end kind e)
  ends_from b at is Free letter e = tt
  ends_from b at is Making letter e = tt
  ends_from b at is Prebooked letter e = tt
  ends_from b at is Confirmed letter e = tt
  ends_from b at is Fulfilled letter e = tt
  ends_from b at is (Ending kind) letter e = absurd (letter refl)

  steady_booking : (b : SaidBooking) → Contains said b → IsRight g.legs g.rows said b → IsSayable b → IsSteady g keys (opening_booking (kept_of b))
  steady_booking b at is say = record {
    apart = pairs_from (is_ended b.phase) b.items is.alone.apart;
    end = ends_from b at is b.phase say.phase refl;
  }

  steady_from : AllByRecursion IsSayable said → AreSteady g (opening_of (map kept_of said))
  steady_from say = All-of_map (IsSteady g keys) opening_booking (map kept_of said) (All-of_map (λ k. IsSteady g keys (opening_booking k)) kept_of said
      (All-both {P = λ b. Contains said b × IsRight g.legs g.rows said b} {Q = IsSayable} (λ b p q. steady_booking b p.0 p.1 q) said
      (All-both {P = Contains said} {Q = IsRight g.legs g.rows said} (λ b p q. (p, q)) said (recursion_from_All (Contains said) said (All-contains_itself said)) right) say))

from_text : (g : Layout) (text : List ℕ) → OpensAs g.legs g.rows text g → AreSteady g g.opening
from_text g text (said, sound, is) =
    subst (λ (s : State). AreSteady g s) (sym (ap (λ (h : Layout). h.opening) is)) (steady_from g said sound.right sound.others sound.sized.each)

pub steady_begun : (g : Layout) → HasBegun g → AreSteady g g.opening
steady_begun g begun = ⊎_elim
    (λ (none : g.opening ≡ []). subst (λ (s : State). AreSteady g s) (sym none) tt)
    (λ (some : (text : List ℕ) × OpensAs g.legs g.rows text g). from_text g some.0 some.1) begun
