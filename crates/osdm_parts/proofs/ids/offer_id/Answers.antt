use Rattle.std.proofs.Common.{sym, subst, IsAscii, List, ℕ}
use Rattle.offer_codes.specs.Offers.{offer_view}
use Rattle.osdm_parts.specs.Ids.{offer_id}
use Rattle.osdm_parts.proofs.Ascii.{IsAscii-offer_id}
use Rattle.osdm_parts.proofs.ids.offer_id.Goals as goal

pub returns-clause-text : goal.returns-clause-text
unfolding offer_id
returns-clause-text c = c.write_offer.ensures.spelling

pub returns-clause-ascii : goal.returns-clause-ascii
unfolding offer_id
returns-clause-ascii c = subst (λ (bs : List ℕ). IsAscii bs) (sym c.write_offer.ensures.spelling) (IsAscii-offer_id (offer_view c.args.code.now) c.requires.ranges)
