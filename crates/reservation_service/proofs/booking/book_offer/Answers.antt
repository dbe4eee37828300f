use Rattle.offer_codes.specs.Offers.{offer_view}
use Rattle.claim_rule.specs.Out.{IsIdle}
use Rattle.claim_rule.proofs.Out.{makes_empty}
use Rattle.reservation_service.proofs.Replying.{no_row, readied, fell_short, answered_home}
use Rattle.reservation_service.proofs.booking.book_offer.Goals as goal

pub returns-in_default-clause-answer : goal.returns-in_default-clause-answer
returns-in_default-clause-answer c =
    no_row c.args.shop.now.cat.now c.args.asker.retailer.0 c.args.asker.moment (offer_view c.args.offer.now) c.args.together c.args.desk.now c.start_hold.new.desk c.in_default.ensures.entries
    (makes_empty c.args.shop.now.books.now c.start_hold.new.desk c.start_hold.ensures.own c.in_default.ensures.none_out)

pub returns-in_default-clause-home : goal.returns-in_default-clause-home
returns-in_default-clause-home c =
    let idle : IsIdle c.start_hold.new.desk = (c.in_default.ensures.none_out, c.in_default.ensures.endings.none c.requires.home.idle.1) in
    answered_home c.args.shop.now.cat.now c.args.asker.retailer.0 c.args.asker.moment (offer_view c.args.offer.now) c.args.together c.args.desk.now c.start_hold.new.desk _ c.args.shop.now.books.now c.start_hold.ensures.own (returns-in_default-clause-answer c) idle

pub returns-in-Ok-clause-answer : goal.returns-in-Ok-clause-answer
returns-in-Ok-clause-answer c =
    readied c.args.shop.now.cat.now c.args.asker.retailer.0 c.args.asker.moment (offer_view c.args.offer.now) c.args.together c.in-Some.hold.row c.make_ready.new.hold c.args.desk.now c.start_hold.new.desk c.make_ready.new.desk c.seal-row.new.desk _
    c.in-Some.ensures.entries c.make_ready.ensures.row c.in-Ok.ensures.made c.seal-row.ensures.entries c.seal-row.ensures.items
    (makes_empty c.args.shop.now.books.now c.seal-row.new.desk c.seal-row.ensures.own c.seal-row.ensures.none)

pub returns-in-Ok-clause-home : goal.returns-in-Ok-clause-home
returns-in-Ok-clause-home c =
    let idle : IsIdle c.seal-row.new.desk = (c.seal-row.ensures.none, c.seal-row.ensures.endings.none (c.make_ready.ensures.out.endings.none (c.start_hold.ensures.endings.none c.requires.home.idle.1))) in
    answered_home c.args.shop.now.cat.now c.args.asker.retailer.0 c.args.asker.moment (offer_view c.args.offer.now) c.args.together c.args.desk.now c.seal-row.new.desk _ c.args.shop.now.books.now c.seal-row.ensures.own (returns-in-Ok-clause-answer c) idle

pub returns-in-Err-clause-answer : goal.returns-in-Err-clause-answer
returns-in-Err-clause-answer c =
    fell_short c.args.shop.now.cat.now c.args.asker.retailer.0 c.args.asker.moment (offer_view c.args.offer.now) c.args.together c.in-Some.hold.row c.make_ready.new.hold.row c.make_ready.new.hold.items c.in-Err.problem c.args.desk.now c.start_hold.new.desk c.make_ready.new.desk c.abandon.new.desk
    c.in-Some.ensures.entries c.make_ready.ensures.row c.in-Err.ensures.failed c.abandon.ensures.entries
    (makes_empty c.args.shop.now.books.now c.abandon.new.desk c.abandon.ensures.own c.abandon.ensures.none)

pub returns-in-Err-clause-home : goal.returns-in-Err-clause-home
returns-in-Err-clause-home c =
    let idle : IsIdle c.abandon.new.desk = (c.abandon.ensures.none, c.abandon.ensures.endings.none (c.make_ready.ensures.out.endings.none (c.start_hold.ensures.endings.none c.requires.home.idle.1))) in
    answered_home c.args.shop.now.cat.now c.args.asker.retailer.0 c.args.asker.moment (offer_view c.args.offer.now) c.args.together c.args.desk.now c.abandon.new.desk _ c.args.shop.now.books.now c.abandon.ensures.own (returns-in-Err-clause-answer c) idle
