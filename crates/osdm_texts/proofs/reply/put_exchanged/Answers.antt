use Rattle.std.proofs.Common.{refl, rules, FitsSigned, w64, to_z-of_z}
use Rattle.osdm_parts.proofs.Chains.{one, step, last, last_call}
use Rattle.osdm_texts.proofs.reply.put_exchanged.Goals as goal

pub returns : goal.returns
returns c =
    let fits : FitsSigned w64 c.args.difference = search rules in
    last_call c.end_object.result c.end_object.new.self _ (step (one c.in_ok-begin_object.ensures) (one c.in_ok-key.ensures))
    (last_call c.end_object.result c.end_object.new.self _ c.in_ok-put_booking.ensures
    (last c.end_object.result (step (simp (to_z-of_z, c.currency_text.ensures.value) at c.in_ok-put_amount.ensures) c.in_ok-put_booking_id.ensures) c.end_object.ensures refl)
    refl)
    refl
