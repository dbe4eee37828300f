use Rattle.std.proofs.Common.{◌≡◌, ◌≤◌, ◌+◌, length, map, drop}
use Rattle.json_text.specs.View.{view}
use Rattle.place_map.specs.Places.{EndsWithRun}
use Rattle.rail_catalogue.specs.Coaches.{coaches_from}
use Rattle.rail_catalogue.proofs.coaches.read_coaches.Given as goal

abbrev pub invariant-loop-n : goal.invariant-loop-n
invariant-loop-n l = record {
  whole : coaches_from l.run l.n l.places (map view (drop l.n l.items)) ≡ coaches_from l.run 0 l.fn.places (map view l.items);
  no_later_run : EndsWithRun l.run l.places;
  grown : length l.fn.places + l.n ≤ length l.places;
}
