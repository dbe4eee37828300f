use Rattle.offer_codes.specs.Offers.{offer_view}
use Rattle.exchange_core.specs.declared.quoting.QuotedExchange.TheVariants as quoted
use Rattle.trade_service.proofs.Settling.{quoted_home}
use Rattle.trade_service.proofs.Exchanging.{offers_exchange, offers_unknown, offers_wrong}
use Rattle.trade_service.proofs.exchanges.quote_exchange_booking.Goals as goal

pub returns-in-Done-clause-home : goal.returns-in-Done-clause-home
returns-in-Done-clause-home c =
    quoted_home c.args.shop.now.cat.now c.args.shop.now.books.now.layout.rows c.args.row c.args.asker.retailer.0 (offer_view c.args.offer.now) c.args.asker.moment (quoted.Done c.in-Done.code) c.args.shop.now.books.now c.args.desk.now c.quote_exchange-quoted.new.desk c.quote_exchange-quoted.ensures.own c.in-Done.ensures.entries c.in-Done.ensures.holds c.in-Done.ensures.endings c.requires.home

pub returns-in-Done-clause-answer : goal.returns-in-Done-clause-answer
returns-in-Done-clause-answer c =
    offers_exchange c.args.shop.now.cat.now c.args.shop.now.books.now.layout.rows c.args.row c.args.asker.retailer.0 (offer_view c.args.offer.now) c.args.asker.moment c.in-Done.code c.args.desk.now c.quote_exchange-quoted.new.desk c.exchange_offer_answer.result c.in-Done.ensures.entries c.exchange_offer_answer.ensures.told c.exchange_offer_answer.ensures.untold

pub returns-in-Unknown-clause-home : goal.returns-in-Unknown-clause-home
returns-in-Unknown-clause-home c =
    quoted_home c.args.shop.now.cat.now c.args.shop.now.books.now.layout.rows c.args.row c.args.asker.retailer.0 (offer_view c.args.offer.now) c.args.asker.moment quoted.Unknown c.args.shop.now.books.now c.args.desk.now c.quote_exchange-quoted.new.desk c.quote_exchange-quoted.ensures.own c.in-Unknown.ensures.entries c.in-Unknown.ensures.holds c.in-Unknown.ensures.endings c.requires.home

pub returns-in-Unknown-clause-answer : goal.returns-in-Unknown-clause-answer
returns-in-Unknown-clause-answer c =
    offers_unknown c.args.shop.now.cat.now c.args.shop.now.books.now.layout.rows c.args.row c.args.asker.retailer.0 (offer_view c.args.offer.now) c.args.asker.moment c.args.desk.now c.quote_exchange-quoted.new.desk c.in-Unknown.ensures.entries

pub returns-in-WrongState-clause-home : goal.returns-in-WrongState-clause-home
returns-in-WrongState-clause-home c =
    quoted_home c.args.shop.now.cat.now c.args.shop.now.books.now.layout.rows c.args.row c.args.asker.retailer.0 (offer_view c.args.offer.now) c.args.asker.moment (quoted.WrongState c.in-WrongState.shown) c.args.shop.now.books.now c.args.desk.now c.quote_exchange-quoted.new.desk c.quote_exchange-quoted.ensures.own c.in-WrongState.ensures.entries c.in-WrongState.ensures.holds c.in-WrongState.ensures.endings c.requires.home

pub returns-in-WrongState-clause-answer : goal.returns-in-WrongState-clause-answer
returns-in-WrongState-clause-answer c =
    offers_wrong c.args.shop.now.cat.now c.args.shop.now.books.now.layout.rows c.args.row c.args.asker.retailer.0 (offer_view c.args.offer.now) c.args.asker.moment c.in-WrongState.shown c.args.desk.now c.quote_exchange-quoted.new.desk c.in-WrongState.ensures.entries
