use Rattle.std.proofs.Common.{◌∙◌}
use Rattle.osdm_parts.specs.Offers.{offer_tree}
use Rattle.osdm_parts.proofs.Chains.{turned, mapped}
use Rattle.osdm_parts.proofs.offers.put_offers.Goals as goal

pub loop-offer-preserved : goal.loop-offer-preserved
loop-offer-preserved c = record {
  before = c.in_ok-put_offer.ensures.before ∙ c.loop-offer.invariant.before;
  rest = turned _ _ _ (offer_tree c.args.cat.now c.offer-item.result) _ _
      (mapped (offer_tree c.args.cat.now) c.args.offers.now c.loop-offer.offer-index c.offer-item.result c.loop-offer-test.true c.offer-item.is)
      c.loop-offer.invariant.rest c.in_ok-put_offer.ensures.tokens;
}
