use Rattle.std.proofs.Common.{◌≡◌, ◌≤◌, map, drop}
use Rattle.json_text.specs.View.{view}
use Rattle.osdm_json.specs.Members.{traits_from}
use Rattle.osdm_json.proofs.members.sum_of_traits.Given as goal

abbrev pub invariant-loop-item : goal.invariant-loop-item
invariant-loop-item l = record {
  rest : traits_from l.found (map view (drop l.item-index l.items)) ≡ traits_from 0 (map view l.items);
  most : l.found ≤ 31;
}
