use Rattle.std.proofs.Common.{◌≡◌, ◌<◌, [], All, map, drop, length}
use Rattle.json_text.specs.View.{view}
use Rattle.rail_catalogue.specs.Stops.{stops_from}
use Rattle.rail_catalogue.proofs.stops.read_stops.Given as goal

abbrev pub invariant-loop-item : goal.invariant-loop-item
invariant-loop-item l = record {
  count : length l.found.items ≡ l.item-index;
  known : All (λ s. s.station.0 < length l.runs.stations) l.found.items;
  whole : stops_from l.runs.stations l.run (length l.items) l.found.items (map view (drop l.item-index l.items)) ≡ stops_from l.runs.stations l.run (length l.items) [] (map view l.items);
}
