use Rattle.refund_core.specs.declared.quoting.Quoted.TheVariants as quoted
use Rattle.trade_service.proofs.Calm.{quoted_home}
use Rattle.trade_service.proofs.Replying.{offers_refund, offers_unknown, offers_wrong}
use Rattle.trade_service.proofs.refunds.quote_refund_booking.Goals as goal

pub returns-in-Done-clause-home : goal.returns-in-Done-clause-home
returns-in-Done-clause-home c =
    quoted_home c.args.shop.now.cat.now c.args.shop.now.books.now.layout.rows c.args.row c.args.asker.retailer.0 c.args.asker.moment (quoted.Done c.in-Done.code) c.args.shop.now.books.now c.args.desk.now c.quote_refund.new.desk c.quote_refund.ensures.own c.in-Done.ensures.entries c.in-Done.ensures.holds c.in-Done.ensures.endings c.requires.home

pub returns-in-Done-clause-answer : goal.returns-in-Done-clause-answer
returns-in-Done-clause-answer c =
    offers_refund c.args.shop.now.cat.now c.args.shop.now.books.now.layout.rows c.args.row c.args.asker.retailer.0 c.args.asker.moment c.in-Done.code c.args.desk.now c.quote_refund.new.desk c.refund_offer_answer.result c.in-Done.ensures.entries c.refund_offer_answer.ensures.told c.refund_offer_answer.ensures.untold

pub returns-in-Unknown-clause-home : goal.returns-in-Unknown-clause-home
returns-in-Unknown-clause-home c =
    quoted_home c.args.shop.now.cat.now c.args.shop.now.books.now.layout.rows c.args.row c.args.asker.retailer.0 c.args.asker.moment quoted.Unknown c.args.shop.now.books.now c.args.desk.now c.quote_refund.new.desk c.quote_refund.ensures.own c.in-Unknown.ensures.entries c.in-Unknown.ensures.holds c.in-Unknown.ensures.endings c.requires.home

pub returns-in-Unknown-clause-answer : goal.returns-in-Unknown-clause-answer
returns-in-Unknown-clause-answer c =
    offers_unknown c.args.shop.now.cat.now c.args.shop.now.books.now.layout.rows c.args.row c.args.asker.retailer.0 c.args.asker.moment c.args.desk.now c.quote_refund.new.desk c.in-Unknown.ensures.entries

pub returns-in-WrongState-clause-home : goal.returns-in-WrongState-clause-home
returns-in-WrongState-clause-home c =
    quoted_home c.args.shop.now.cat.now c.args.shop.now.books.now.layout.rows c.args.row c.args.asker.retailer.0 c.args.asker.moment (quoted.WrongState c.in-WrongState.shown) c.args.shop.now.books.now c.args.desk.now c.quote_refund.new.desk c.quote_refund.ensures.own c.in-WrongState.ensures.entries c.in-WrongState.ensures.holds c.in-WrongState.ensures.endings c.requires.home

pub returns-in-WrongState-clause-answer : goal.returns-in-WrongState-clause-answer
returns-in-WrongState-clause-answer c =
    offers_wrong c.args.shop.now.cat.now c.args.shop.now.books.now.layout.rows c.args.row c.args.asker.retailer.0 c.args.asker.moment c.in-WrongState.shown c.args.desk.now c.quote_refund.new.desk c.in-WrongState.ensures.entries
