use Rattle.std.proofs.Common.{◌≡◌, [], length, map, drop}
use Rattle.json_text.specs.View.{view}
use Rattle.rail_catalogue.specs.Coaches.{groups_from}
use Rattle.rail_catalogue.proofs.coaches.read_groups.Given as goal

abbrev pub invariant-loop-item : goal.invariant-loop-item
invariant-loop-item l = record {
  whole : groups_from l.run l.coach l.groups.items (map view (drop l.item-index l.items)) ≡ groups_from l.run l.coach [] (map view l.items);
  count : length l.groups.items ≡ l.item-index;
}
