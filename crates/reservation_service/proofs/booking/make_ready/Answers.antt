use Rattle.std.proofs.Common.{sym, ◌∙◌}
use Rattle.claim_rule.proofs.Out.{endings_then}
use Rattle.booking_rows.proofs.ViewLemmas.{generation_of_hold}
use Rattle.offer_codes.specs.Offers.{offer_view}
use Rattle.reservation_service.proofs.Placed.{some_of, few_of}
use Rattle.reservation_service.proofs.Replying.{some_placed, made_by}
use Rattle.reservation_service.proofs.booking.make_ready.Goals as goal

pub created_answer-requires : goal.created_answer-requires
created_answer-requires c =
    let did = c.place_segments in
    record { id = generation_of_hold c.args.shop.now.books.now did.new.desk did.new.hold did.ensures.out.out.own did.ensures.out.out.held }

pub returns-clause-out : goal.returns-clause-out
returns-clause-out c =
    let noted = c.note_detail.ensures in
    record {
      out = record { own = noted.own; held = noted.hold };
      endings = endings_then c.args.desk.now c.place_segments.new.desk c.note_detail.new.desk c.place_segments.ensures.out.endings noted.endings;
    }

pub returns-clause-sealable : goal.returns-clause-sealable
returns-clause-sealable c =
    let o = c.args.offer.now in
    let did = c.place_segments in
    c.note_detail.ensures.ready did.ensures.noted
    (some_placed c.args.shop.now.cat.now (offer_view o) c.args.together c.args.hold.now.row did.result did.new.hold.items c.args.desk.now did.new.desk did.ensures.placed (sym c.problem.ensures ∙ c.in-None.is)
    (some_of o.adults o.children c.requires.party) (few_of o.adults o.children c.requires.party) c.requires.some)
    c.detail_for-detail.ensures.total

pub returns-clause-made : goal.returns-clause-made
returns-clause-made c =
    let did = c.place_segments in
    made_by c.args.shop.now.cat.now c.args.asker.retailer.0 c.args.asker.moment (offer_view c.args.offer.now) c.args.together did.new.hold c.note_detail.new.hold c.args.hold.now.row did.result c.detail_for-detail.result
    c.args.desk.now did.new.desk c.note_detail.new.desk _ did.ensures.placed (sym c.problem.ensures ∙ c.in-None.is) did.ensures.row c.note_detail.ensures.same c.detail_for-detail.ensures.detail c.note_detail.ensures.entries
    c.in-Some-created_answer.ensures.told
