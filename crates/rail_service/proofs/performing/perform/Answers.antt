use Rattle.std.proofs.Common.{sym}
use Rattle.claim_rule.proofs.Out.{makes_empty}
use Rattle.service_rules.specs.Checks.{ordered}
use Rattle.rail_service.proofs.Performed.{told_so, went_on, bounded_so, complete_so}
use Rattle.rail_service.proofs.performing.perform.Goals as goal

pub returns-clause-idle : goal.returns-clause-idle
returns-clause-idle c = c.say-said.ensures.home.home.idle

pub returns-clause-tidy : goal.returns-clause-tidy
returns-clause-tidy c = c.say-said.ensures.home.tidy

pub returns-clause-no_item : goal.returns-clause-no_item
returns-clause-no_item c =
    makes_empty c.args.books.now _ c.say-said.ensures.home.home.own c.say-said.ensures.home.home.idle.0

pub returns-clause-goes_on : goal.returns-clause-goes_on
returns-clause-goes_on c =
    went_on c.args.cat.now c.args.retailer.0 c.args.now (ordered c.args.cat.now c.args.now c.args.command.now) _ _ _
    c.requires.own.legal c.say-said.ensures.said

pub returns-clause-bound : goal.returns-clause-bound
returns-clause-bound c =
    bounded_so c.args.cat.now c.args.books.now c.args.retailer.0 c.args.now (ordered c.args.cat.now c.args.now c.args.command.now)
    _ _ _ c.requires.own (sym c.requires.rows) c.say-said.ensures.said

pub returns-clause-complete : goal.returns-clause-complete
returns-clause-complete c =
    complete_so c.args.cat.now c.args.books.now c.args.retailer.0 c.args.now (ordered c.args.cat.now c.args.now c.args.command.now)
    _ _ _ c.requires.own (sym c.requires.rows) c.say-said.ensures.said

pub returns-clause-answer : goal.returns-clause-answer
returns-clause-answer c =
    told_so c.args.cat.now c.args.retailer.0 c.args.now c.args.last
    (ordered c.args.cat.now c.args.now c.args.command.now) _ _ _ _ c.requires.own.legal c.say-said.ensures.said
    c.answer_of.ensures.bytes
