use Rattle.std.proofs.Common.{◌≡◌, take, drop}
use Rattle.trip_builder.specs.Trips.{is_chain, are_connected}
use Rattle.trip_builder.proofs.chain.are_connected.Given as goal

abbrev pub invariant-loop-n : goal.invariant-loop-n
invariant-loop-n l = is_chain l.runs (take l.n l.segments) (drop l.n l.segments) ≡ are_connected l.runs l.segments
