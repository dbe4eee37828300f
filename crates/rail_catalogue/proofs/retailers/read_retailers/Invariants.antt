use Rattle.std.proofs.Common.{◌≡◌, [], map, drop, length}
use Rattle.json_text.specs.View.{view}
use Rattle.rail_catalogue.specs.Retailers.{retailers_from}
use Rattle.rail_catalogue.proofs.retailers.read_retailers.Given as goal

abbrev pub invariant-loop-n : goal.invariant-loop-n
invariant-loop-n l = record {
  count : length l.found ≡ l.n;
  whole : retailers_from l.found (map view (drop l.n l.items)) ≡ retailers_from [] (map view l.items);
}
