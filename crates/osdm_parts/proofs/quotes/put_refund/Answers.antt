use Rattle.osdm_parts.proofs.Chains.{one, step, last}
use Rattle.osdm_parts.proofs.quotes.put_refund.Goals as goal

pub returns : goal.returns
returns c = last c.end_object.result (step (step (step (one c.in_ok-begin_object.ensures) c.in_ok-put_price.ensures) c.in_ok-put_text.ensures) c.in_ok-put_time.ensures) c.end_object.ensures (cc)
