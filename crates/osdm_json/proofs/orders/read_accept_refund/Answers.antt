use Rattle.osdm_json.specs.Asked.{accept_refund}
use Rattle.osdm_json.proofs.orders.read_accept_refund.Goals as goal

pub returns-clause-ok : goal.returns-clause-ok
returns-clause-ok c =
    (c.args.id.now, c.args.offer.now, c.if-not-has_status.ensures (accept_refund c.args.id.now c.args.offer.now), c.row_of.ensures, c.refund_of.ensures.spelled)
