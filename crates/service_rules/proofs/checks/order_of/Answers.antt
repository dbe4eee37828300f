use Rattle.std.proofs.Common.{arith}
use Rattle.std.proofs.lemmas.Grind.{common_steps}
use Rattle.service_rules.proofs.Sound.{sound_order}
use Rattle.service_rules.proofs.checks.order_of.Goals as goal

pub returns-clause-exact : goal.returns-clause-exact
returns-clause-exact c = grind (arith, common_steps)

pub returns-clause-sound : goal.returns-clause-sound
returns-clause-sound c = λ readable. sound_order c.args.cat.now c.args.now c.args.command.now _ readable (returns-clause-exact c)
