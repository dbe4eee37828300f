use Rattle.std.proofs.Common.{◌≡◌, take, []}
use Rattle.claim_rule.specs.Out.{HasNotedItems}
use Rattle.offer_codes.specs.Offers.{offer_view}
use Rattle.reservation_service.specs.declared.holding.Placing.TheVariants.{Whole}
use Rattle.reservation_service.specs.Outs.{StaysOut}
use Rattle.reservation_service.specs.Holding.{PlacesAll}
use Rattle.reservation_service.proofs.holding.place_segments.Given as goal

abbrev pub invariant-loop-segment : goal.invariant-loop-segment
invariant-loop-segment l = record {
  out : StaysOut l.shop.books.now l.fn.desk l.desk l.hold;
  noted : HasNotedItems l.desk l.hold;
  row : l.hold.row ≡ l.fn.hold.row;
  placed : PlacesAll l.shop.cat.now (offer_view l.offer) l.together l.fn.hold.row [] (take l.segment-index l.offer.segments.items) Whole l.hold.items l.fn.desk l.desk;
}
