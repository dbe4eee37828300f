use Rattle.osdm_parts.proofs.Chains.{one, step, last}
use Rattle.osdm_parts.proofs.offers.put_segment.Goals as goal

pub returns : goal.returns
returns c =
    last c.end_object.result
    (step (step (step (step (step (step (step (one c.in_ok-begin_object.ensures) c.in_ok-put_time.ensures) c.in_ok-put_time-2.ensures) c.in_ok-put_count.ensures) c.in_ok-put_text.ensures) c.in_ok-put_count-2.ensures) c.in_ok-put_text-2.ensures) c.in_ok-put_count-3.ensures)
    c.end_object.ensures (cc)
