use Rattle.claim_rule.proofs.Out.{makes_empty}
use Rattle.service_rules.proofs.Nothing.{nothing}
use Rattle.rail_service.proofs.Carried.{refused}
use Rattle.rail_service.proofs.performing.say.Goals as goal

pub returns-in-Err-clause-said : goal.returns-in-Err-clause-said
returns-in-Err-clause-said c =
    rw c.in-Err.ensures.exact
    (refused c.args.shop.now.cat.now c.args.asker.retailer.0 c.args.asker.moment c.in-Err.problem c.args.desk.now c.args.desk.now
    (nothing c.args.shop.now.books.now c.args.desk.now c.requires.home.own)
    (makes_empty c.args.shop.now.books.now c.args.desk.now c.requires.home.own c.requires.home.idle.0))

pub returns-in-Err-clause-home : goal.returns-in-Err-clause-home
returns-in-Err-clause-home c = record { home = c.requires.home; tidy = λ tidy. tidy }
