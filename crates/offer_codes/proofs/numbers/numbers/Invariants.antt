use Rattle.std.proofs.Common.{◌≡◌, ◌++◌, None, drop}
use Rattle.offer_codes.specs.Marked.{numbers_in}
use Rattle.offer_codes.proofs.numbers.numbers.Given as goal

abbrev pub invariant-loop-b : goal.invariant-loop-b
invariant-loop-b l = l.found.items ++ numbers_in l.current (drop l.b-index l.text) ≡ numbers_in None l.fn.text
