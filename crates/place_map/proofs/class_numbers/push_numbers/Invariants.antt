use Rattle.std.proofs.Common.{◌≡◌, ◌++◌}
use Rattle.place_map.specs.ByClass.{numbers_up}
use Rattle.place_map.proofs.class_numbers.push_numbers.Given as goal

abbrev pub invariant-loop-n : goal.invariant-loop-n
invariant-loop-n l = l.numbers.items ≡ l.fn.numbers.items ++ numbers_up l.from l.n
