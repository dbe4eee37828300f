use Rattle.std.proofs.Common.{◌∙◌, sym, ap}
use Rattle.std.specs.BTreeMap.{get}
use Rattle.std.specs.Ordering.{nat_cmp}
use Rattle.train_runs.specs.Runs.{RunsView}
use Rattle.train_runs.specs.Stations.{station_with}
use Rattle.train_runs.proofs.Coding.{known_of}
use Rattle.train_runs.proofs.Numbers.{uncoded}
use Rattle.train_runs.proofs.runs.Runs.station_of.Goals as goal

pub returns-then-not-is_code-clause-value : goal.returns-then-not-is_code-clause-value
returns-then-not-is_code-clause-value c =
    let same = ap (λ (r : RunsView). station_with c.args.code.now r.stations) c.self.view_is in
    sym (sym same ∙ uncoded 0 c.args.code.now c.self.inside.stations.items c.self.invariant.0.codes (sym c.is_code.ensures ∙ c.if-not-is_code.true))

pub returns-clause-known : goal.returns-clause-known
returns-clause-known c =
    let same = ap (λ (r : RunsView). station_with c.args.code.now r.stations) c.self.view_is in
    known_of _ c.args.code.now c.args.self.now.stations (c.copied.ensures ∙ (c.get.ensures.value ∙ (ap (get nat_cmp c.self.inside.numbers) c.code_number.ensures ∙ c.self.invariant.1 c.args.code.now (sym c.is_code.ensures ∙ c.if-not-is_code.false) ∙ same)))
