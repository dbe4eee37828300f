use Rattle.std.proofs.Common.{◌∙◌, Some, None, ap}
use Rattle.booking_rows.specs.Views.{RowSeen}
use Rattle.osdm_texts.specs.Answers.{booking, reply_told}
use Rattle.trade_service.specs.Refunds.{RefundsFound}
use Rattle.shop.proofs.Homes.{stays_then}
use Rattle.booking_service.proofs.Calm.{found_home}
use Rattle.booking_service.proofs.Replying.{unknown, no_memory}
use Rattle.trade_service.proofs.Ids.{refunded_ids}
use Rattle.trade_service.proofs.Calm.{accepted_home}
use Rattle.trade_service.proofs.Replying.{decided, refused, not_refused, is_refunded}
use Rattle.trade_service.proofs.refunds.accept_refund_booking.Goals as goal

pub returns-in_default-clause-home : goal.returns-in_default-clause-home
returns-in_default-clause-home c = found_home c.args.shop.now.books.now.layout.rows c.args.code.now.row c.args.asker.retailer.0 None c.args.shop.now.books.now c.args.desk.now c.find_booking.new.desk c.find_booking.ensures.own c.in_default.ensures.entries c.in_default.ensures.holds c.in_default.ensures.endings c.requires.home

pub returns-in_default-clause-answer : goal.returns-in_default-clause-answer
returns-in_default-clause-answer c =
    unknown c.args.shop.now.cat.now c.args.shop.now.books.now.layout.rows c.args.code.now.row c.args.asker.retailer.0 (RefundsFound c.args.shop.now.cat.now c.args.shop.now.books.now.layout.rows c.args.asker.retailer.0 c.args.code.now c.args.asker.moment) c.args.desk.now c.find_booking.new.desk c.in_default.ensures.entries

pub booking_answer-requires : goal.booking_answer-requires
booking_answer-requires c = record { ids = refunded_ids c.args.code.now.row c.args.asker.moment c.args.code.now.amount c.in-Some.view c.refunded-ended.result c.in-Some.ensures.generation c.refunded-ended.ensures.view }

pub returns-in_default-booking_answer-clause-home : goal.returns-in_default-booking_answer-clause-home
returns-in_default-booking_answer-clause-home c = found_home c.args.shop.now.books.now.layout.rows c.args.code.now.row c.args.asker.retailer.0 (Some c.in-Some.view) c.args.shop.now.books.now c.args.desk.now c.find_booking.new.desk c.find_booking.ensures.own c.in-Some.ensures.entries c.in-Some.ensures.holds c.in-Some.ensures.endings c.requires.home

pub returns-in_default-booking_answer-clause-answer : goal.returns-in_default-booking_answer-clause-answer
returns-in_default-booking_answer-clause-answer c =
    no_memory c.args.shop.now.cat.now c.args.shop.now.books.now.layout.rows c.args.code.now.row c.args.asker.retailer.0 (RefundsFound c.args.shop.now.cat.now c.args.shop.now.books.now.layout.rows c.args.asker.retailer.0 c.args.code.now c.args.asker.moment) c.in-Some.view c.args.desk.now c.find_booking.new.desk c.in-Some.ensures.entries

pub returns-in-None-clause-home : goal.returns-in-None-clause-home
returns-in-None-clause-home c =
    let found = found_home c.args.shop.now.books.now.layout.rows c.args.code.now.row c.args.asker.retailer.0 (Some c.in-Some.view) c.args.shop.now.books.now c.args.desk.now c.find_booking.new.desk c.find_booking.ensures.own c.in-Some.ensures.entries c.in-Some.ensures.holds c.in-Some.ensures.endings c.requires.home in
    stays_then _ _ _ _ found (accepted_home c.args.shop.now.cat.now c.args.shop.now.books.now.layout.rows c.args.asker.retailer.0 c.args.code.now c.args.asker.moment c.accept_refund-accepted.result c.args.shop.now.books.now c.find_booking.new.desk c.accept_refund-accepted.new.desk c.accept_refund-accepted.ensures.own c.accept_refund-accepted.ensures.entries c.accept_refund-accepted.ensures.holds c.accept_refund-accepted.ensures.none found.home)

pub returns-in-None-clause-answer : goal.returns-in-None-clause-answer
returns-in-None-clause-answer c =
    decided c.args.shop.now.cat.now c.args.shop.now.books.now.layout.rows c.args.asker.retailer.0 c.args.code.now c.args.asker.moment c.in-Some.view c.accept_refund-accepted.result c.args.desk.now c.find_booking.new.desk c.accept_refund-accepted.new.desk _ c.in-Some.ensures.entries c.accept_refund-accepted.ensures.entries
    (not_refused c.args.shop.now.cat.now c.args.code.now c.args.asker.moment c.in-Some.view c.accept_refund-accepted.result _ c.in-None.ensures.problem
    (c.in-Some-booking_answer.ensures.told ∙ ap (λ (v : RowSeen). reply_told c.args.shop.now.cat.now (booking c.args.code.now.row v)) c.refunded-ended.ensures.view))

pub returns-in-None-clause-refunded : goal.returns-in-None-clause-refunded
returns-in-None-clause-refunded c =
    is_refunded c.args.shop.now.cat.now c.args.shop.now.books.now.layout.rows c.args.asker.retailer.0 c.args.code.now c.args.asker.moment c.accept_refund-accepted.result c.find_booking.new.desk c.accept_refund-accepted.new.desk c.in-None.ensures.problem c.accept_refund-accepted.ensures.entries c.accept_refund-accepted.ensures.refunded

pub returns-in-Some-refusal-clause-home : goal.returns-in-Some-refusal-clause-home
returns-in-Some-refusal-clause-home c =
    let found = found_home c.args.shop.now.books.now.layout.rows c.args.code.now.row c.args.asker.retailer.0 (Some c.in-Some.view) c.args.shop.now.books.now c.args.desk.now c.find_booking.new.desk c.find_booking.ensures.own c.in-Some.ensures.entries c.in-Some.ensures.holds c.in-Some.ensures.endings c.requires.home in
    stays_then _ _ _ _ found (accepted_home c.args.shop.now.cat.now c.args.shop.now.books.now.layout.rows c.args.asker.retailer.0 c.args.code.now c.args.asker.moment c.accept_refund-accepted.result c.args.shop.now.books.now c.find_booking.new.desk c.accept_refund-accepted.new.desk c.accept_refund-accepted.ensures.own c.accept_refund-accepted.ensures.entries c.accept_refund-accepted.ensures.holds c.accept_refund-accepted.ensures.none found.home)

pub returns-in-Some-refusal-clause-answer : goal.returns-in-Some-refusal-clause-answer
returns-in-Some-refusal-clause-answer c =
    decided c.args.shop.now.cat.now c.args.shop.now.books.now.layout.rows c.args.asker.retailer.0 c.args.code.now c.args.asker.moment c.in-Some.view c.accept_refund-accepted.result c.args.desk.now c.find_booking.new.desk c.accept_refund-accepted.new.desk _ c.in-Some.ensures.entries c.accept_refund-accepted.ensures.entries
    (refused c.args.shop.now.cat.now c.args.code.now c.args.asker.moment c.in-Some.view c.accept_refund-accepted.result c.in-Some-refusal.problem c.in-Some-refusal.ensures.problem)

pub accept_refund-accepted-requires-clause-none : goal.accept_refund-accepted-requires-clause-none
accept_refund-accepted-requires-clause-none c = c.find_booking.ensures.endings.none c.requires.home.idle.1
