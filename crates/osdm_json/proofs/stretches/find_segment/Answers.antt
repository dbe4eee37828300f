use Rattle.std.proofs.Common.{◌≡◌, Some, rules}
use Rattle.train_runs.specs.Runs.{span_of}
use Rattle.osdm_json.proofs.Finding.{span_within}
use Rattle.osdm_json.proofs.stretches.find_segment.Goals as goal

pub returns-in-Some-span_between-clause-within : goal.returns-in-Some-span_between-clause-within
returns-in-Some-span_between-clause-within c =
    let runs = c.args.cat.now.runs in
    let found : span_of runs c.args.run c.in-Some.start c.in-Some-station_of.end ≡ Some c.in-Some-span_between.span = first_of (search rules, cc) in
    let within = span_within runs c.args.run c.in-Some.start c.in-Some-station_of.end c.in-Some-span_between.span found in
    record { run = within.run_view; found = within.found; some = within.some; legs = within.legs }
