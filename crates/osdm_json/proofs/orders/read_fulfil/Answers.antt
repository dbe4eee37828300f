use Rattle.osdm_json.specs.Asked.{fulfil}
use Rattle.osdm_json.proofs.orders.read_fulfil.Goals as goal

pub returns-clause-ok : goal.returns-clause-ok
returns-clause-ok c = (c.args.id.now, c.if-not-has_status.ensures (fulfil c.args.id.now), c.row_of.ensures)
