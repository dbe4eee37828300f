use Rattle.std.proofs.Common.{subst}
use Rattle.offer_codes.specs.Exchanges.{exchange_view}
use Rattle.booking_service.specs.Deciding.{OnBooking, shows, ConfirmsFound, FulfilsFound, ReleasesFound}
use Rattle.trade_service.specs.Refunds.{RefundsFound}
use Rattle.trade_service.specs.Exchanges.{AnswersAcceptedExchange}
use Rattle.rail_service.proofs.Carried.{by_rows}
use Rattle.rail_service.proofs.performing.carry_out.Goals as goal

pub returns-in-Book-clause-answer : goal.returns-in-Book-clause-answer
returns-in-Book-clause-answer c = rw c.in-Book.is c.book_offer.ensures.answer

pub returns-in-Show-clause-answer : goal.returns-in-Show-clause-answer
returns-in-Show-clause-answer c =
    let row = c.in-Show.row in
    rw c.in-Show.is
    (by_rows c.args.shop.now.cat.now (λ n. OnBooking n row c.args.asker.retailer.0 (shows row)) _ c.args.desk.now c.show_booking.new.desk _ c.args.shop.now.rows c.show_booking.ensures.answer)

pub returns-in-Release-clause-answer : goal.returns-in-Release-clause-answer
returns-in-Release-clause-answer c =
    let row = c.in-Release.row in
    let retailer = c.args.asker.retailer.0 in
    rw c.in-Release.is
    (by_rows c.args.shop.now.cat.now (λ n. OnBooking n row retailer (ReleasesFound n row retailer c.args.asker.moment)) _ c.args.desk.now c.release_booking.new.desk _ c.args.shop.now.rows c.release_booking.ensures.answer)

pub returns-in-Confirm-clause-answer : goal.returns-in-Confirm-clause-answer
returns-in-Confirm-clause-answer c =
    let row = c.in-Confirm.row in
    let retailer = c.args.asker.retailer.0 in
    rw c.in-Confirm.is
    (by_rows c.args.shop.now.cat.now (λ n. OnBooking n row retailer (ConfirmsFound n row retailer c.args.asker.moment)) _ c.args.desk.now c.confirm_booking.new.desk _ c.args.shop.now.rows c.confirm_booking.ensures.answer)

pub returns-in-Fulfil-clause-answer : goal.returns-in-Fulfil-clause-answer
returns-in-Fulfil-clause-answer c =
    let row = c.in-Fulfil.row in
    let retailer = c.args.asker.retailer.0 in
    rw c.in-Fulfil.is
    (by_rows c.args.shop.now.cat.now (λ n. OnBooking n row retailer (FulfilsFound n row retailer)) _ c.args.desk.now c.fulfil_booking.new.desk _ c.args.shop.now.rows c.fulfil_booking.ensures.answer)

pub returns-in-AcceptRefund-clause-answer : goal.returns-in-AcceptRefund-clause-answer
returns-in-AcceptRefund-clause-answer c =
    let cat = c.args.shop.now.cat.now in
    let retailer = c.args.asker.retailer.0 in
    let code = c.in-AcceptRefund.code in
    rw c.in-AcceptRefund.is
    (by_rows cat (λ n. OnBooking n code.row retailer (RefundsFound cat n retailer code c.args.asker.moment)) _ c.args.desk.now c.accept_refund_booking.new.desk _ c.args.shop.now.rows c.accept_refund_booking.ensures.answer)

pub returns-in-AcceptExchange-clause-answer : goal.returns-in-AcceptExchange-clause-answer
returns-in-AcceptExchange-clause-answer c =
    let cat = c.args.shop.now.cat.now in
    let (reply, did, all, told) = c.accept_exchange_booking.ensures.answer in
    let by_cat = subst (λ n. AnswersAcceptedExchange cat n c.args.asker.retailer.0 (exchange_view c.in-AcceptExchange.code.now) c.args.asker.moment c.args.desk.now c.accept_exchange_booking.new.desk reply) c.args.shop.now.rows did in
    rw c.in-AcceptExchange.is (reply, by_cat, all, told)
