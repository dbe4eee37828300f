use Rattle.std.proofs.Common.{refl, rules, FitsSigned, w64, to_z-of_z}
use Rattle.osdm_parts.proofs.Chains.{last_call}
use Rattle.osdm_texts.proofs.bookings.put_end.Goals as goal

pub returns-in_ok-put_amount-in-Some : goal.returns-in_ok-put_amount-in-Some
returns-in_ok-put_amount-in-Some c =
    let fits : FitsSigned w64 c.in-Some.end.amount = search rules in
    rw c.in-Some.is (last_call c.put_time.result c.put_time.new.out _ (simp (to_z-of_z, c.currency_text.ensures.value) at c.in_ok-put_amount-in-Some.ensures) c.put_time.ensures refl)
