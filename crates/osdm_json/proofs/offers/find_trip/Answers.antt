use Rattle.std.proofs.Common.{◌≡◌, Some, sym, rules}
use Rattle.train_runs.specs.Stations.{station_with}
use Rattle.osdm_json.proofs.Finding.{same_code}
use Rattle.osdm_json.proofs.offers.find_trip.Goals as goal

pub returns-clause-wish : goal.returns-clause-wish
returns-clause-wish c =
    let stations = c.args.cat.now.runs.stations in
    let origin : station_with c.args.ends.now.origin.now stations ≡ Some c.in-Some.origin = first_of (search rules, cc) in
    let destination : station_with c.args.ends.now.destination.now stations ≡ Some c.in-Some-station_of.destination = first_of (search rules, cc) in
    record {
      origin = search rules;
      destination = search rules;
      differ = λ same. c.requires.differ (same_code 0 c.args.ends.now.destination.now c.args.ends.now.origin.now stations c.in-Some-station_of.destination c.in-Some.origin destination origin (sym same));
      window = c.requires.window;
      in_years = c.requires.in_years;
    }
