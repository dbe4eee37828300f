use Rattle.std.proofs.Common.{◌≡◌, map}
use Rattle.std.specs.List.{range_with_len}
use Rattle.hold_core.specs.Tries.{place_number}
use Rattle.host_tiny.proofs.run.place_numbers.Given as goal

abbrev pub invariant-loop-number : goal.invariant-loop-number
invariant-loop-number l = map place_number l.places.items ≡ range_with_len 0 l.number
