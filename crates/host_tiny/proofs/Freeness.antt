-- A place is free in the list of reservations exactly where no item of the words' bookings blocks it.
use Rattle.std.proofs.Common.{◌≡◌, ℕ, zero, suc, List, [], ◌∷◌, ◌++◌, sym, ap, ◌∙◌, subst, arith, append-nil}
use Rattle.std.specs.Prelude.{◌↔◌, All}
use Rattle.std.specs.List.{AllByRecursion}
use Rattle.leg_masks.specs.Interval.{Interval, PlacedSpan as Item}
use Rattle.history_model.specs.declared.booking.BookedItem.{BookedItem}
use Rattle.history_model.specs.Allowed.{Blocks}
use Rattle.history_model.specs.Booking.{Booking, State, all_items}
use Rattle.history_model.proofs.ListLemmas.{All-append, All-left, All-right, flat_map-append}
use Rattle.hold_core.specs.declared.adds.Added.TheVariants as added
use Rattle.lone_desk.specs.Decided.{IsFreeAt, FindsFirst}
use Rattle.host_tiny.specs.Reservations.{Held, Takes, IsFree, IsLeastFree, IsNoneFree}
use Rattle.host_tiny.specs.Run.{IsSold, reservations}
use Rattle.host_tiny.proofs.Pieces.{clear_items, items_clear, sold_held}

-- a fact of each element, by recursion and by number

pub by_number : {X : Type 0} (P : X → Type 0) (xs : List X) → AllByRecursion P xs → All P xs
by_number P [] all k d below = absurd (omega (arith, below))
by_number P (x ∷ xs) all zero d below = all.0
by_number P (x ∷ xs) all (suc k) d below = by_number P xs all.1 k d (omega (arith, below))

by_recursion : {X : Type 0} (P : X → Type 0) (xs : List X) → All P xs → AllByRecursion P xs
by_recursion P [] all = tt
by_recursion P (x ∷ xs) all = (all 0 x (omega arith), by_recursion P xs (λ k d below. all (suc k) d (omega (arith, below))))

module _ (place : ℕ) (span : Interval) where
  abbrev IsNotTaken : Held → Type 0
  IsNotTaken h = Takes h place span → ⊥

  abbrev IsNotBlocked : BookedItem → Type 0
  IsNotBlocked i = ¬ Blocks place span i

  to_free : (sold : State) → AllByRecursion IsSold sold → AllByRecursion IsNotBlocked (all_items sold) → AllByRecursion IsNotTaken (reservations sold)
  to_free [] each open_ = tt
  to_free (b ∷ bs) each open_ =
      let one = each.0.one in
      let here = subst (AllByRecursion IsNotBlocked) each.0.items (All-left IsNotBlocked b.items (all_items bs) open_) in
      subst (λ (hs : List Held). AllByRecursion IsNotTaken (hs ++ reservations bs)) (sym (sold_held b each.0))
      (items_clear one place span here, to_free bs each.1 (All-right IsNotBlocked b.items (all_items bs) open_))

  from_free : (sold : State) → AllByRecursion IsSold sold → AllByRecursion IsNotTaken (reservations sold) → AllByRecursion IsNotBlocked (all_items sold)
  from_free [] each free = tt
  from_free (b ∷ bs) each free =
      let one = each.0.one in
      let all = subst (λ (hs : List Held). AllByRecursion IsNotTaken (hs ++ reservations bs)) (sold_held b each.0) free in
      All-append IsNotBlocked b.items (all_items bs)
      (subst (AllByRecursion IsNotBlocked) (sym each.0.items) (clear_items one place span all.0))
      (from_free bs each.1 all.1)

-- an empty row has no item
items_before : (sold : State) (b : Booking) → b.items ≡ [] → all_items (sold ++ b ∷ []) ≡ all_items sold
items_before sold b none =
    flat_map-append (λ (x : Booking). x.items) sold (b ∷ [])
    ∙ (ap (λ (is : List BookedItem). all_items sold ++ (is ++ [])) none ∙ append-nil (all_items sold))

-- in each state that has the bookings sold and an empty row, a place is free exactly where it is so of the reservations
pub free_at : (s sold : State) (b : Booking) → AllByRecursion IsSold sold → b.items ≡ [] → s ≡ sold ++ b ∷ []
    → (place : ℕ) (span : Interval) → IsFreeAt s span place ↔ IsFree (reservations sold) place span
free_at s sold b each none is place span =
    let same : all_items s ≡ all_items sold = ap all_items is ∙ items_before sold b none in (
      λ open_. by_number (IsNotTaken place span) (reservations sold) (to_free place span sold each (subst (AllByRecursion (IsNotBlocked place span)) same open_)),
      λ free. subst (AllByRecursion (IsNotBlocked place span)) (sym same) (from_free place span sold each (by_recursion (IsNotTaken place span) (reservations sold) free)),
    )

-- what is found in the words is so of the reservations
module _ (s : State) (held : List Held) (span : Interval) (places : ℕ) (won : List Item) (free : (place : ℕ) → IsFreeAt s span place ↔ IsFree held place span) where
  pub least_found : (found : FindsFirst s span places added.All won) → IsLeastFree held places found.0 span
  least_found found = record {
    known = found.2;
    free = (free found.0).0 found.3;
    least = λ lower below there. found.4 lower below ((free lower).1 there);
  }

  pub none_found : (n : ℕ) → FindsFirst s span places (added.NoPlace n) won → IsNoneFree held places span
  none_found n found place below there = found.1 place below ((free place).1 there)
