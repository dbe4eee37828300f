use Rattle.std.proofs.lemmas.Result.{err_from_is_err_and}
use Rattle.offer_codes.specs.Exchanges.{exchange_view}
use Rattle.claim_rule.proofs.Out.{makes_empty}
use Rattle.shop.proofs.Homes.{stays_then}
use Rattle.trade_service.proofs.Exchanging.{is_ready_of, carried, refused}
use Rattle.trade_service.proofs.exchanges.accept_exchange_booking.Goals as goal

pub carry_out-requires-clause-same : goal.carry_out-requires-clause-same
carry_out-requires-clause-same c = is_ready_of c.args.shop.now.cat.now c.args.shop.now.books.now.layout.rows c.args.asker.retailer.0 (exchange_view c.args.code.now) c.args.asker.moment c.in_ok-ready.ready c.args.desk.now c.check.new.desk c.in_ok-ready.ensures.fine

pub returns-clause-answer : goal.returns-clause-answer
returns-clause-answer c =
    carried c.args.shop.now.cat.now c.args.shop.now.books.now.layout.rows c.args.asker.retailer.0 (exchange_view c.args.code.now) c.args.asker.moment c.in_ok-ready.ready c.args.desk.now c.check.new.desk c.carry_out.new.desk _ c.in_ok-ready.ensures.fine c.carry_out.ensures.answer

pub returns-clause-home : goal.returns-clause-home
returns-clause-home c = stays_then _ _ _ _ c.check.ensures.home c.carry_out.ensures.home

pub returns-in_err-ready-clause-answer : goal.returns-in_err-ready-clause-answer
returns-in_err-ready-clause-answer c =
    let p = err_from_is_err_and c.from_residual.result c.from_residual.ensures.1 in
    rw (p.1, p.2) (refused c.args.shop.now.cat.now c.args.shop.now.books.now.layout.rows c.args.asker.retailer.0 (exchange_view c.args.code.now) c.args.asker.moment _ c.args.desk.now c.check.new.desk c.in_err-ready.ensures.unready
    (makes_empty c.args.shop.now.books.now c.check.new.desk c.check.ensures.home.home.own c.check.ensures.home.home.idle.0))

pub returns-in_err-ready-clause-home : goal.returns-in_err-ready-clause-home
returns-in_err-ready-clause-home c = c.check.ensures.home
