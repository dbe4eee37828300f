-- Numbers of places, put together from those of each class.
use Rattle.std.specs.Prelude.{List, [], ◌∷◌, ◌++◌, take, drop, if◌then◌else◌}
use Rattle.rail_ids.specs.declared.PlaceNo.{PlaceNo}
use Rattle.place_map.specs.declared.coach.Class.TheVariants.{First}
use Rattle.place_map.specs.declared.coach.Place.{Place}
use Rattle.place_map.specs.Candidates.{is_class}

-- for each place the next number of its class
abbrev pub in_turn : List Place → List PlaceNo → List PlaceNo → List PlaceNo
in_turn [] first second = []
in_turn (p ∷ rest) first second =
    if is_class p.class First then take 1 first ++ in_turn rest (drop 1 first) second else take 1 second
    ++ in_turn rest first (drop 1 second)
