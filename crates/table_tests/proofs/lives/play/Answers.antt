use Rattle.std.proofs.Common.{sym, subst}
use Rattle.claim_rule.specs.Desks.{IsOf}
use Rattle.claim_rule.specs.Out.{EndsNone}
use Rattle.table_tests.specs.declared.lives.Member.{Member}
use Rattle.table_tests.proofs.lives.play.Goals as goal

pub for_each_mut-requires-clause-accepts : goal.for_each_mut-requires-clause-accepts
for_each_mut-requires-clause-accepts g c κs within i p lt is =
    let so = c.requires.own i p.now lt in
    (subst (λ (m : Member). IsOf c.args.books.now m.desk) (sym is) so.0, subst (λ (m : Member). EndsNone m.desk) (sym is) so.1)
