use Rattle.std.proofs.Common.{◌≡◌, [], map, drop, length}
use Rattle.json_text.specs.View.{view}
use Rattle.rail_catalogue.specs.Steps.{steps_from}
use Rattle.rail_catalogue.proofs.steps.read_steps.Given as goal

abbrev pub invariant-loop-item : goal.invariant-loop-item
invariant-loop-item l = record {
  count : length l.steps.items ≡ l.item-index;
  whole : steps_from l.steps.items (map view (drop l.item-index l.items)) ≡ steps_from [] (map view l.items);
}
