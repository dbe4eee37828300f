use Rattle.std.proofs.Common.{false, ◌∙◌, sym}
use Rattle.offer_codes.specs.Offers.{offer_view}
use Rattle.offer_codes.specs.Exchanges.{exchange_view}
use Rattle.reservation_service.proofs.Placed.{some_of, few_of}
use Rattle.claim_rule.proofs.Out.{makes_empty}
use Rattle.reservation_service.proofs.Replying.{some_held}
use Rattle.shop.specs.Homes.{IsAtHome}
use Rattle.trade_service.specs.Exchanges.{ready_of}
use Rattle.trade_service.proofs.Settling.{no_row_settles, held_settles, gave_settles, settled_home}
use Rattle.trade_service.proofs.Exchanging.{has_party, has_segments, ready_held, no_row, given_up, decided}
use Rattle.trade_service.proofs.exchanges.carry_out.Goals as goal

pub returns-in_default-clause-answer : goal.returns-in_default-clause-answer
returns-in_default-clause-answer c =
    no_row c.args.shop.now.cat.now (ready_of c.args.asker.retailer.0 (exchange_view c.args.code.now) c.args.asker.moment) c.args.desk.now c.hold_places.new.desk c.in_default.ensures.no_row
    (makes_empty c.args.shop.now.books.now c.hold_places.new.desk c.in_default.ensures.home.own c.in_default.ensures.home.idle.0)

pub decide-requires-clause-some : goal.decide-requires-clause-some
decide-requires-clause-some c =
    let o = c.args.code.now.offer in
    let party = has_party (offer_view o) c.requires.offer in
    some_held c.args.shop.now.cat.now (offer_view o) false c.in-Some.field-0.hold.row c.in-Some.field-0.placing c.in-Some.field-0.hold.items c.args.desk.now c.hold_places.new.desk c.in-Some.ensures.placed (sym c.problem.ensures ∙ c.in-None.is)
    (some_of o.adults o.children party) (few_of o.adults o.children party) (has_segments (offer_view o) c.requires.offer)

pub decide-requires-clause-ready : goal.decide-requires-clause-ready
decide-requires-clause-ready c =
    ready_held c.args.shop.now.cat.now (offer_view c.args.code.now.offer) c.in-Some.field-0.hold.row c.in-Some.field-0.placing c.in-Some.field-0.hold.items c.args.ready c.args.desk.now c.hold_places.new.desk c.in-Some.ensures.placed c.requires.ready

pub returns-in-Some-problem-clause-answer : goal.returns-in-Some-problem-clause-answer
returns-in-Some-problem-clause-answer c =
    given_up c.args.shop.now.cat.now (ready_of c.args.asker.retailer.0 (exchange_view c.args.code.now) c.args.asker.moment) c.in-Some.field-0.hold.row c.in-Some.field-0.placing c.in-Some-problem.problem c.in-Some.field-0.hold.items c.args.desk.now c.hold_places.new.desk c.abandon.new.desk
    c.in-Some.ensures.placed (sym c.problem.ensures ∙ c.in-Some-problem.is) c.abandon.ensures.entries
    (makes_empty c.args.shop.now.books.now c.abandon.new.desk c.abandon.ensures.own c.abandon.ensures.none)

pub returns-in-None-clause-answer : goal.returns-in-None-clause-answer
returns-in-None-clause-answer c =
    let a = c.decide.ensures.answer in
    decided c.args.shop.now.cat.now (ready_of c.args.asker.retailer.0 (exchange_view c.args.code.now) c.args.asker.moment) c.args.ready c.in-Some.field-0.hold.row c.in-Some.field-0.placing c.in-Some.field-0.hold.items _ c.args.desk.now c.hold_places.new.desk c.decide.new.desk a.0 _
    c.in-Some.ensures.placed (sym c.problem.ensures ∙ c.in-None.is) c.requires.same c.detail_for-detail.ensures.detail a.1
    (makes_empty c.args.shop.now.books.now c.decide.new.desk c.decide.ensures.home.own c.decide.ensures.home.idle.0) a.2

pub decide-requires-clause-none : goal.decide-requires-clause-none
decide-requires-clause-none c = c.in-Some.ensures.out.endings.none c.requires.home.idle.1

-- the desk is at home again, and what was settled stays so

pub returns-in_default-clause-home : goal.returns-in_default-clause-home
returns-in_default-clause-home c = settled_home _ _ _ c.in_default.ensures.home (no_row_settles c.args.desk.now c.hold_places.new.desk c.in_default.ensures.no_row)

pub returns-in-Some-problem-clause-home : goal.returns-in-Some-problem-clause-home
returns-in-Some-problem-clause-home c =
    let h = c.in-Some.field-0 in
    let gave = c.abandon.ensures in
    let home : IsAtHome c.args.shop.now.books.now c.abandon.new.desk = record { own = gave.own; idle = (gave.none, gave.endings.none (c.in-Some.ensures.out.endings.none c.requires.home.idle.1)) } in
    settled_home _ _ _ home
    (λ was. gave_settles h.hold.row h.hold.items c.hold_places.new.desk c.abandon.new.desk gave.entries
    (held_settles c.args.shop.now.cat.now (offer_view c.args.code.now.offer) h.hold.row h.placing h.hold.items c.args.desk.now c.hold_places.new.desk c.in-Some.ensures.placed was))

pub returns-in-None-clause-home : goal.returns-in-None-clause-home
returns-in-None-clause-home c =
    let h = c.in-Some.field-0 in
    settled_home _ _ _ c.decide.ensures.home
    (λ was. c.decide.ensures.settled (held_settles c.args.shop.now.cat.now (offer_view c.args.code.now.offer) h.hold.row h.placing h.hold.items c.args.desk.now c.hold_places.new.desk c.in-Some.ensures.placed was))
