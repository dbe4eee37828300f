-- A reservation, and the items of its booking: one for each piece of the span.
use Rattle.std.proofs.Common.{◌≡◌, ℕ, ◌<◌, ◌≤◌, List, [], ◌∷◌, false, length, map, refl, sym, ap, ◌∙◌, subst, ⊎_elim, arith}
use Rattle.std.specs.Prelude.{slice_index_or}
use Rattle.std.specs.List.{AllByRecursion}
use Rattle.std.proofs.lemmas.Bool.{cases_lt}
use Rattle.leg_masks.specs.Interval.{Interval, IsPiece, is_piece, items_at, pieces, word_legs, PlacedSpan as Item}
use Rattle.leg_masks.proofs.HalfLegs.{cases_piece, pieces-whole, pieces-border, ends-border, before_border, behind_border}
use Rattle.history_model.specs.declared.booking.BookedItem.{BookedItem}
use Rattle.history_model.specs.Allowed.{Blocks}
use Rattle.history_model.specs.Booking.{Booking}
use Rattle.claim_rule.specs.Holds.{held as item_of}
use Rattle.host_tiny.specs.Reservations.{Held, Takes}
use Rattle.host_tiny.specs.Run.{IsSold, held_of}

-- the items of these pieces at a place
abbrev at : ℕ → List Interval → List Item
at place ps = map (λ piece. record { place = place; span = piece }) ps

-- a fact of a span's pieces holds where it does of the span alone, and of its two parts
by_piece : (P : List Interval → Type 0) (span : Interval) → (IsPiece span → P (span ∷ []))
    → (span.from < word_legs → word_legs < span.to → P (before_border span ∷ behind_border span ∷ [])) → P (pieces span)
by_piece P span whole parts = ⊎_elim
    (λ (p : IsPiece span). subst P (sym (pieces-whole span p)) (whole p))
    (λ (b : is_piece span ≡ false). let ends = ends-border span b in subst P (sym (pieces-border span b)) (parts ends.0 ends.1))
    (cases_piece span)

-- the first of them is at the place
pub first_at : (span : Interval) (place : ℕ) (other : Item) → (slice_index_or (items_at span place) 0 other).place ≡ place
first_at span place other = by_piece (λ ps. (slice_index_or (at place ps) 0 other).place ≡ place) span (λ p. refl) (λ from to. refl)

-- there is one
pub some_at : (span : Interval) (place : ℕ) → 1 ≤ length (items_at span place)
some_at span place = by_piece (λ ps. 1 ≤ length (at place ps)) span (λ p. omega arith) (λ from to. omega arith)

-- and all are there
pub all_at : (P : ℕ → Type 0) (span : Interval) (place : ℕ) → P place → AllByRecursion (λ i. P i.place) (items_at span place)
all_at P span place is = by_piece (λ ps. AllByRecursion (λ i. P i.place) (at place ps)) span (λ p. (is, tt)) (λ from to. (is, (is, tt)))

-- the items of a place on a span are one reservation
pub one_held : (h : Held) → held_of (map item_of (items_at h.span h.place)) ≡ h ∷ []
one_held h = by_piece (λ ps. held_of (map item_of (at h.place ps)) ≡ h ∷ []) h.span (λ p. refl) (λ from to. refl)

pub sold_held : (b : Booking) → (sold : IsSold b) → held_of b.items ≡ sold.one ∷ []
sold_held b sold = ap held_of sold.items ∙ one_held sold.one

-- and take the place on a leg of a span where the reservation does
module _ (h : Held) (place : ℕ) (span : Interval) where
  abbrev pub IsClearOf : List BookedItem → Type 0
  IsClearOf is = AllByRecursion (λ i. ¬ Blocks place span i) is

  pub items_clear : IsClearOf (map item_of (items_at h.span h.place)) → Takes h place span → ⊥
  items_clear = by_piece (λ ps. IsClearOf (map item_of (at h.place ps)) → Takes h place span → ⊥) h.span
      (λ p clear takes. clear.0 (refl, takes.0, takes.1))
      (λ from to clear takes.
      let leg : ℕ = takes.1.0 in ⊎_elim
      (λ (low : leg < word_legs). clear.0 (refl, takes.0, (leg, (takes.1.1.0, low), takes.1.2)))
      (λ (high : word_legs ≤ leg). clear.1.0 (refl, takes.0, (leg, (high, takes.1.1.1), takes.1.2)))
      (cases_lt leg word_legs))

  pub clear_items : (Takes h place span → ⊥) → IsClearOf (map item_of (items_at h.span h.place))
  clear_items free = by_piece (λ ps. IsClearOf (map item_of (at h.place ps))) h.span
      (λ p. ((λ blocks. free (blocks.1, blocks.2)), tt))
      (λ from to. (
        (λ blocks. free (blocks.1, (blocks.2.0, (blocks.2.1.0, (let e : blocks.2.0 < h.span.to = omega (arith, blocks.2.1.1, to) in e)), blocks.2.2))),
        ((λ blocks. free (blocks.1, (blocks.2.0, ((let e : h.span.from ≤ blocks.2.0 = omega (arith, blocks.2.1.0, from) in e), blocks.2.1.1), blocks.2.2))), tt),
      ))
