use Rattle.std.proofs.Common.{drop}
use Rattle.place_map.specs.Places.{AreRisingFrom}
use Rattle.place_map.proofs.map.rises.Given as goal

abbrev pub invariant-loop-place : goal.invariant-loop-place
invariant-loop-place l = AreRisingFrom l.coach l.least (drop l.place-index l.places) → AreRisingFrom l.coach 0 l.places
