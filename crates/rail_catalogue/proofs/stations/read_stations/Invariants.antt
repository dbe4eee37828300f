use Rattle.std.proofs.Common.{◌≡◌, [], map, drop, length}
use Rattle.json_text.specs.View.{view}
use Rattle.rail_catalogue.specs.Stations.{stations_from}
use Rattle.rail_catalogue.proofs.stations.read_stations.Given as goal

abbrev pub invariant-loop-n : goal.invariant-loop-n
invariant-loop-n l = record {
  count : l.n ≡ length l.runs.stations;
  no_run : l.runs.runs ≡ [];
  whole : stations_from l.runs.stations (map view (drop l.n l.items)) ≡ stations_from [] (map view l.items);
}
