-- Steps of counting.
use Rattle.std.proofs.Common.{◌+◌, ◌≤◌, ℕ, zero, suc, arith}
use Rattle.std.specs.Prelude.{Bool, true, false}
use Rattle.host_drill.specs.Totals.{count_below, one_if}

pub one_is_few : (b : Bool) → one_if b ≤ 1
one_is_few true = let e : 1 ≤ 1 = omega arith in e
one_is_few false = let e : 0 ≤ 1 = omega arith in e

pub count_few : (test : ℕ → Bool) (n : ℕ) → count_below test n ≤ n
count_few test zero = let e : 0 ≤ 0 = omega arith in e
count_few test (suc n) =
    let before = count_few test n in
    let one = one_is_few (test n) in
    let e : count_below test n + one_if (test n) ≤ suc n = omega arith in e
