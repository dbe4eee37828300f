use Rattle.std.proofs.Common.{◌≡◌, ◌+◌, is_some, true, length}
use Rattle.json_text.specs.Ahead.{ahead}
use Rattle.catalogue_contents.specs.Contents.{IsWhole}
use Rattle.rail_catalogue.specs.Format.{network_from}
use Rattle.rail_catalogue.specs.Networks.{network_view, start_of}
use Rattle.rail_catalogue.specs.Listed.{all_ahead}
use Rattle.rail_catalogue.proofs.runs.read_runs.Given as goal

abbrev pub invariant-items : goal.invariant-items
invariant-items l = record {
  there : is_some (ahead l.items) ≡ true;
  count : l.n ≡ length l.network.runs.runs;
  parts : IsWhole l.network.runs l.network.fares.items l.network.places;
  size : l.n + length (all_ahead l.items) ≡ length (all_ahead l.fn.items);
  whole : network_from (network_view l.network) l.n (all_ahead l.items) ≡ network_from (start_of l.fn.runs.stations) 0 (all_ahead l.fn.items);
}

abbrev pub decreases-items : goal.decreases-items
decreases-items l = length (all_ahead l.items)
