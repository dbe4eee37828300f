use Rattle.std.proofs.Common.{◌≡◌, map, drop}
use Rattle.json_text.specs.View.{view}
use Rattle.rail_catalogue.specs.Coaches.{traits_from}
use Rattle.rail_catalogue.proofs.coaches.read_trait_items.Given as goal

abbrev pub invariant-loop-n : goal.invariant-loop-n
invariant-loop-n l = traits_from l.at.run l.at.coach l.at.group l.n l.found (map view (drop l.n l.items)) ≡ traits_from l.at.run l.at.coach l.at.group 0 0 (map view l.items)
