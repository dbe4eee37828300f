use Rattle.std.proofs.Common.{◌∙◌, ◌≡◌, ◌≤◌, ◌<◌, true, List, length, subst, arith}
use Rattle.std.proofs.lemmas.Grind.{common_steps}
use Rattle.train_runs.specs.declared.segment.Segment.{Segment}
use Rattle.offer_codes.specs.Offers.{offer_view}
use Rattle.offer_prices.specs.Runs.{is_of_runs}
use Rattle.reservation_service.proofs.Outs.{out_then}
use Rattle.reservation_service.proofs.Placed.{next_by, stop_by, room_left, few_of, some_of}
use Rattle.reservation_service.proofs.holding.place_segments.Goals as goal

pub place_segment-requires : goal.place_segment-requires
place_segment-requires c =
    let s = c.as_slice-segment-items in
    let o = c.args.offer.now in
    let same = s.ensures.value in
    let room = room_left c.args.shop.now.cat.now (offer_view o) c.args.together c.args.hold.now.row o.segments.items c.loop-segment.segment-index c.loop-segment.hold.items c.args.desk.now c.loop-segment.desk c.segment-item.result c.loop-segment.invariant.placed
    (subst (λ (l : List Segment). c.loop-segment.segment-index < length l) same c.loop-segment-test.true) (subst (λ (l : List Segment). length l ≤ 3) same s.ensures.fits)
    (some_of o.adults o.children c.requires.party) (few_of o.adults o.children c.requires.party) in
    let run : is_of_runs c.args.shop.now.cat.now.runs c.segment-item.result ≡ true = grind (arith, common_steps) in
    record { may = record { out = c.loop-segment.invariant.out.out; noted = c.loop-segment.invariant.noted; party = c.requires.party; run = run; room = room } }

pub returns-in_default : goal.returns-in_default
returns-in_default c =
    let i = c.loop-segment.invariant in
    let did = c.place_segment in
    let s = c.as_slice-segment-items in
    record {
      out = out_then _ _ _ _ _ _ i.out did.ensures.placed.out;
      noted = did.ensures.placed.noted;
      row = did.ensures.placed.row ∙ i.row;
      placed = stop_by c.args.shop.now.cat.now (offer_view c.args.offer.now) c.args.together c.args.hold.now.row c.loop-segment.hold.row c.loop-segment.hold.items s.result.now c.args.offer.now.segments.items c.loop-segment.segment-index c.segment-item.result did.result did.new.hold.items c.args.desk.now c.loop-segment.desk did.new.desk
          s.ensures.value c.loop-segment-test.true c.segment-item.is i.row i.placed did.ensures.placed.placed c.in_default.not-Whole;
    }

pub loop-segment-preserved : goal.loop-segment-preserved
loop-segment-preserved c =
    let i = c.loop-segment.invariant in
    let did = c.place_segment in
    let s = c.as_slice-segment-items in
    record {
      out = out_then _ _ _ _ _ _ i.out did.ensures.placed.out;
      noted = did.ensures.placed.noted;
      row = did.ensures.placed.row ∙ i.row;
      placed = next_by c.args.shop.now.cat.now (offer_view c.args.offer.now) c.args.together c.args.hold.now.row c.loop-segment.hold.row c.loop-segment.hold.items s.result.now c.args.offer.now.segments.items c.loop-segment.segment-index c.segment-item.result _ did.new.hold.items c.args.desk.now c.loop-segment.desk did.new.desk
          s.ensures.value c.loop-segment-test.true c.segment-item.is i.row i.placed c.in-Whole.ensures.placed.placed;
    }
