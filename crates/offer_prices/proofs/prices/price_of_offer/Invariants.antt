use Rattle.std.proofs.Common.{◌≡◌, ◌≤◌, ◌*◌, take}
use Rattle.std.specs.Prelude.{sum_by}
use Rattle.tariff.specs.Prices.{greatest_price}
use Rattle.offer_prices.specs.Prices.{segment_price}
use Rattle.offer_prices.proofs.prices.price_of_offer.Given as goal

abbrev pub invariant-loop-segment : goal.invariant-loop-segment
invariant-loop-segment l = record {
  sum : l.total ≡ sum_by (segment_price l.cat l.offer.class l.offer.adults l.offer.children) (take l.segment-index l.offer.segments.items);
  bound : l.total ≤ greatest_price * l.segment-index;
}
