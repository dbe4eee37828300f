use Rattle.std.proofs.Common.{◌≡◌, ◌∙◌, refl}
use Rattle.offer_codes.specs.Offers.{offer_view}
use Rattle.osdm_parts.specs.Ids.{offer_id}
use Rattle.osdm_parts.specs.Offers.{segment_trees}
use Rattle.osdm_parts.proofs.Chains.{one, step, last, last_call, ended}
use Rattle.osdm_parts.proofs.offers.put_offer.Goals as goal

pub returns : goal.returns
returns c =
    let r = c.end_object.result in
    let end = c.end_object.new.self in
    let o = c.args.offer.now in
    let id : c.text_of.result.now ≡ offer_id (offer_view o.code) = c.text_of.ensures ∙ c.as_slice.ensures.value ∙ c.offer_id-id.ensures.text in
    let segments = rw (c.as_slice-2.ensures.value, c.as_slice-3.ensures.value) at c.in_ok-put_segments.ensures in
    let front = step (step (step (step (one c.in_ok-begin_object.ensures) (rw id at c.in_ok-put_text.ensures)) (rw c.currency_text.ensures.value at c.in_ok-put_price.ensures)) (one c.in_ok-key.ensures)) (one c.in_ok-begin_array.ensures) in
    last_call r end _ front
    (last_call r end _ (ended (segment_trees c.args.cat.now o.code.segments.items o.free.items) segments (one c.in_ok-end_array.ensures))
    (last r (rw c.later.ensures at c.in_ok-put_time.ensures) c.end_object.ensures refl)
    refl)
    refl
