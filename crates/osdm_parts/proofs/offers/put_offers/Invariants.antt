use Rattle.std.proofs.Common.{◌≡◌, drop, map, ◌++◌}
use Rattle.osdm_parts.specs.Offers.{offer_tree}
use Rattle.osdm_parts.specs.Appends.{listed}
use Rattle.osdm_parts.proofs.offers.put_offers.Given as goal

abbrev pub invariant-loop-offer : goal.invariant-loop-offer
invariant-loop-offer l = record {
  before : l.out.before ≡ l.fn.out.before;
  rest : l.out.tokens ++ listed (map (offer_tree l.cat) (drop l.offer-index l.offers)) ≡ l.fn.out.tokens ++ listed (map (offer_tree l.cat) l.offers);
}
