-- A place is free on a span exactly where the words of its halves are clear on the pieces.
use Rattle.std.proofs.Common.{◌≡◌, inl, inr, ℕ, ◌<◌, ◌≤◌, List, [], ◌∷◌, false, refl, sym, ap, ◌∙◌, subst, ⊎_elim, arith}
use Rattle.std.specs.Prelude.{◌↔◌}
use Rattle.std.specs.List.{AllByRecursion}
use Rattle.std.proofs.lemmas.Bool.{cases_lt}
use Rattle.leg_masks.specs.Interval.{Interval, IsPiece, is_piece, IsClear, half_of, pieces}
use Rattle.leg_masks.proofs.HalfLegs.{cases_piece, pieces-whole, pieces-border, ends-border, before_border, behind_border}
use Rattle.leg_masks.proofs.Masks.{bit}
use Rattle.history_model.specs.Allowed.{IsOpen}
use Rattle.history_model.specs.Booking.{State, is_occupied}
use Rattle.history_model.specs.Words.{place_word}
use Rattle.history_model.proofs.Bits.{shows-on_piece}
use Rattle.history_model.proofs.Changes.{legs_from_open, open_from_legs}
use Rattle.claim_rule.proofs.Moves.{open_of_clear}

-- each piece is clear in the word of its half
abbrev pub AllClearAt : State → ℕ → List Interval → Type 0
AllClearAt s place ps = AllByRecursion (λ p. IsClear (place_word s place (half_of p)) p) ps

clear_of_open : (s : State) (place : ℕ) (piece : Interval) → piece.to ≤ 126 → IsPiece piece → IsOpen s place piece → IsClear (place_word s place (half_of piece)) piece
clear_of_open s place piece fits is open_ leg from to = shows-on_piece s place piece fits is leg (from, to) ∙ ap bit (legs_from_open s place piece open_ leg (from, to))

-- a part of the span is open where the span is
part_open : (s : State) (place : ℕ) (span part : Interval) → span.from ≤ part.from → part.to ≤ span.to → IsOpen s place span → IsOpen s place part
part_open s place span part from to open_ = open_from_legs s place part (λ leg holds. legs_from_open s place span open_ leg (omega (arith, from, holds.0), omega (arith, to, holds.1)))

-- the span is open where both parts are
both_open : (s : State) (place : ℕ) (span : Interval) → IsOpen s place (before_border span) → IsOpen s place (behind_border span) → IsOpen s place span
both_open s place span a b = open_from_legs s place span (λ leg holds. ⊎_elim
    (λ (low : leg < 63). legs_from_open s place (before_border span) a leg (holds.0, low))
    (λ (high : 63 ≤ leg). legs_from_open s place (behind_border span) b leg (high, holds.1))
    (cases_lt leg 63))

pub open_is_clear : (s : State) (place : ℕ) (span : Interval) → span.to ≤ 126 → AllClearAt s place (pieces span) ↔ IsOpen s place span
open_is_clear s place span fits = (to, back)
  where
    to : AllClearAt s place (pieces span) → IsOpen s place span
    to all = ⊎_elim
        (λ (p : IsPiece span). open_of_clear s place (place_word s place (half_of span)) span fits p refl (subst (AllClearAt s place) (pieces-whole span p) all).0)
        (λ (b : is_piece span ≡ false).
        let two : AllClearAt s place (before_border span ∷ behind_border span ∷ []) = subst (AllClearAt s place) (pieces-border span b) all in
        both_open s place span
        (open_of_clear s place (place_word s place (half_of (before_border span))) (before_border span) (omega arith) (inl (omega arith)) refl two.0)
        (open_of_clear s place (place_word s place (half_of (behind_border span))) (behind_border span) fits (inr (omega arith)) refl two.1.0))
        (cases_piece span)

    back : IsOpen s place span → AllClearAt s place (pieces span)
    back open_ = ⊎_elim
        (λ (p : IsPiece span). subst (AllClearAt s place) (sym (pieces-whole span p)) (clear_of_open s place span fits p open_, tt))
        (λ (b : is_piece span ≡ false).
        let ends = ends-border span b in
        subst (AllClearAt s place) (sym (pieces-border span b)) (
          clear_of_open s place (before_border span) (omega arith) (inl (omega arith)) (part_open s place span (before_border span) (omega arith) (omega (arith, ends.1)) open_),
          (clear_of_open s place (behind_border span) fits (inr (omega arith)) (part_open s place span (behind_border span) (omega (arith, ends.0)) (omega arith) open_), tt),
        ))
        (cases_piece span)

-- where nothing changes at a place, it is as free as before
pub same_open : (s t : State) (place : ℕ) (span : Interval) → ((leg : ℕ) → is_occupied t place leg ≡ is_occupied s place leg) → IsOpen s place span → IsOpen t place span
same_open s t place span same open_ = open_from_legs t place span (λ leg holds. same leg ∙ legs_from_open s place span open_ leg holds)
