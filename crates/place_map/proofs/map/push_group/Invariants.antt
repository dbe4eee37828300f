use Rattle.std.proofs.Common.{◌≡◌, ◌++◌, ◌-◌, ◌+◌}
use Rattle.place_map.specs.Places.{places_from, group_places}
use Rattle.place_map.proofs.map.push_group.Given as goal

abbrev pub invariant-loop-number : goal.invariant-loop-number
invariant-loop-number l =
    l.places.items ++ places_from l.run.0 l.coach l.class l.group.traits l.number (l.group.last + 1 - l.number)
    ≡ l.fn.places.items ++ group_places l.run.0 l.coach l.class l.group
