use Rattle.std.proofs.Common.{sym, subst}
use Rattle.std.specs.Prelude.{slice_index_or}
use Rattle.claim_rule.specs.Desks.{IsOf}
use Rattle.claim_rule.specs.Out.{IsTidy}
use Rattle.worker_pool.specs.Turns.{KeepsDesk}
use Rattle.worker_pool.specs.declared.member.Member.{Member}
use Rattle.worker_pool.proofs.running.run_workers.Goals as goal

pub returns-clause-keeps : goal.returns-clause-keeps
returns-clause-keeps g c i none lt =
    let k = (c.for_each_mut.ensures i none lt).1 in
    subst (λ (m : Member g.row.W.Denot). KeepsDesk m.desk (slice_index_or c.for_each_mut.new.s i none).desk) k.argument_is
    (subst (λ (m : Member g.row.W.Denot). KeepsDesk k.argument.now.desk m.desk) k.left k.call.1.1.1.0)

pub for_each_mut-requires-clause-accepts : goal.for_each_mut-requires-clause-accepts
for_each_mut-requires-clause-accepts g c κs within i p lt is = (
  subst (λ (m : Member g.row.W.Denot). g.W.Worker.fits m.worker c.args.books.now) (sym is) (c.requires.fits i p.now lt),
  subst (λ (m : Member g.row.W.Denot). IsOf c.args.books.now m.desk) (sym is) (c.requires.own i p.now lt),
  subst (λ (m : Member g.row.W.Denot). IsTidy m.desk) (sym is) (c.requires.tidy i p.now lt),
)

pub returns-clause-tidy : goal.returns-clause-tidy
returns-clause-tidy g c i none lt =
    let k = (c.for_each_mut.ensures i none lt).1 in
    subst (λ (m : Member g.row.W.Denot). IsTidy m.desk) k.left k.call.1.1.0
