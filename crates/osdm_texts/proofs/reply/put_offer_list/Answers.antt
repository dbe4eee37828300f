use Rattle.std.proofs.Common.{refl, map}
use Rattle.osdm_parts.specs.Offers.{offer_tree}
use Rattle.osdm_parts.proofs.Chains.{one, step, last, last_call, ended}
use Rattle.osdm_texts.proofs.reply.put_offer_list.Goals as goal

pub returns : goal.returns
returns c =
    last_call c.end_object.result c.end_object.new.self _ (step (step (one c.in_ok-begin_object.ensures) (one c.in_ok-key.ensures)) (one c.in_ok-begin_array.ensures))
    (last c.end_object.result (ended (map (offer_tree c.args.cat.now) c.args.offers.now) c.in_ok-put_offers.ensures (one c.in_ok-end_array.ensures)) c.end_object.ensures refl)
    refl
