use Rattle.std.proofs.Common.{sym, subst}
use Rattle.std.specs.Prelude.{slice_index_or}
use Rattle.std.proofs.lemmas.List.Elements.{All-get_or}
use Rattle.claim_rule.specs.Desks.{IsOf}
use Rattle.claim_rule.specs.Out.{IsIdle}
use Rattle.host_drill.specs.declared.connection.Connection.{Connection}
use Rattle.host_drill.specs.Connections.{Serves}
use Rattle.host_drill.proofs.crew.serve_all.Goals as goal

pub returns-clause-served : goal.returns-clause-served
returns-clause-served g c i none less =
    let call = (c.for_each_mut.ensures i none less).1 in
    subst (λ (d : Connection). Serves c.args.cat.now d (slice_index_or c.for_each_mut.new.s i none)) call.argument_is
    (subst (λ (d : Connection). Serves c.args.cat.now call.argument.now d) call.left call.call.1.1)

pub returns-clause-idle : goal.returns-clause-idle
returns-clause-idle g c i none less =
    let call = (c.for_each_mut.ensures i none less).1 in
    subst (λ (d : Connection). IsIdle d.desk) call.left call.call.1.0

pub for_each_mut-requires-clause-accepts : goal.for_each_mut-requires-clause-accepts
for_each_mut-requires-clause-accepts g c κs within i p less is =
    let own = All-get_or (λ (d : Connection). IsOf c.args.books.now d.desk) c.args.crew.now i p.now less c.requires.own in
    let idle = All-get_or (λ (d : Connection). IsIdle d.desk) c.args.crew.now i p.now less c.requires.idle in (
      subst (λ (d : Connection). IsOf c.args.books.now d.desk) (sym is) own,
      (subst (λ (d : Connection). IsIdle d.desk) (sym is) idle, (c.requires.legs, c.requires.rows)),
    )
