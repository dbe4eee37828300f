use Rattle.std.proofs.Common.{◌≡◌, ◌≤◌, length, take}
use Rattle.place_map.specs.Places.{coach_places}
use Rattle.place_map.proofs.map.places_of.Given as goal

abbrev pub invariant-loop-group : goal.invariant-loop-group
invariant-loop-group l = record {
  places : l.places.items ≡ coach_places l.run.0 l.fn.coach.number l.fn.coach.class (take l.group-index l.group-items);
  some : l.group-index ≤ length l.places.items;
}
