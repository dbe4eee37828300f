use Rattle.std.proofs.Common.{◌≡◌, ◌++◌, drop, codes, nat_lt, false}
use Rattle.serde_json.specs.View.{items_of}
use Rattle.serde_json.specs.Written.{items_text}
use Rattle.osdm_parts.specs.Places.{place_trees}
use Rattle.osdm_parts.specs.PlaceTexts.{traits_text}
use Rattle.osdm_parts.proofs.places.places_text.Given as goal

abbrev pub invariant-loop-n : goal.invariant-loop-n
invariant-loop-n l =
    (l.text.items ++ items_text (nat_lt 0 l.n) (items_of (place_trees (drop l.n l.places) (drop l.n l.free)))
    ≡ codes "{\"places\":[" ++ items_text false (items_of (place_trees l.places l.free)))
    × (l.end.items ≡ traits_text l.traits)
