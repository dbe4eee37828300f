use Rattle.std.proofs.Common.{drop}
use Rattle.place_map.specs.Places.{AreOfOthers}
use Rattle.place_map.proofs.map.is_new.Given as goal

abbrev pub invariant-loop-place : goal.invariant-loop-place
invariant-loop-place l = AreOfOthers l.coach (drop l.place-index l.places) → AreOfOthers l.coach l.places
