use Rattle.std.proofs.Common.{rules}
use Rattle.rail_catalogue.specs.Faults.{fault_of}
use Rattle.rail_catalogue.specs.Listed.{AreListed}
use Rattle.rail_catalogue.specs.Networks.{runs_at}
use Rattle.rail_catalogue.proofs.Fronts.{passes_on, network_refused}
use Rattle.rail_catalogue.proofs.runs.read_network.Goals as goal

pub returns-in_err-network-clause-err : goal.returns-in_err-network-clause-err
returns-in_err-network-clause-err c =
    let listed : AreListed (runs_at c.args.place c.args.text.now) c.in-Some.items = rw c.in-Some.is at c.in_ok-items.ensures in
    let refused = passes_on (fault_of c.in_err-network.field-0.0) _ _ (λ f. network_refused c.args.runs.stations _ c.in-Some.items f listed) c.in_err-network.ensures.err in
    search (rules, refused)
