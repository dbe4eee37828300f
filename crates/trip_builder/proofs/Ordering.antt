-- The order of trips, and how the best are kept.
use Rattle.std.proofs.Common.{◌≡◌, ◌∙◌, ℕ, ◌≤◌, true, false, List, [], ◌∷◌, length, refl, sym, arith, nat_lt, drop, length-drop, ◌-◌}
use Rattle.std.proofs.lemmas.Bool.Decides.{nat_tests}
use Rattle.std.proofs.Math.ListN.{drop_of_length-le}
use Rattle.train_runs.specs.declared.segment.Segment.{Segment}
use Rattle.trip_builder.specs.Order.{are_lower, exceeds}

-- of what an ended list stands before
ended_lower : (rest : List Segment) → are_lower [] rest ≡ nat_lt 0 (length rest)
ended_lower [] = refl
ended_lower (t ∷ rest) = let it : nat_lt 0 (length (t ∷ rest)) ≡ true = grind (arith, nat_tests) in sym it

-- where the one list has ended, the other is the longer one or not
pub lower_end : (a b : List Segment) (n : ℕ) → length a ≡ n → are_lower (drop n a) (drop n b) ≡ nat_lt (length a) (length b)
lower_end a b n e =
    let over : length a ≤ n = omega arith in
    let count : length (drop n b) ≡ length b - n = length-drop n b in
    let same : nat_lt 0 (length (drop n b)) ≡ nat_lt (length a) (length b) = grind (arith, nat_tests) in
    rw (drop_of_length-le a over) (ended_lower (drop n b) ∙ same)

-- where what begins has ended, it isn't the higher
pub exceeds_end : (begun trip : List Segment) (n : ℕ) → length begun ≡ n → exceeds (drop n begun) (drop n trip) ≡ false
exceeds_end begun trip n e =
    let over : length begun ≤ n = omega arith in
    rw (drop_of_length-le begun over) refl
