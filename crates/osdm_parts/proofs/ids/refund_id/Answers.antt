use Rattle.std.proofs.Common.{sym, subst, IsAscii, List, ℕ}
use Rattle.osdm_parts.specs.Ids.{refund_id}
use Rattle.osdm_parts.proofs.Ascii.{IsAscii-refund_id}
use Rattle.osdm_parts.proofs.ids.refund_id.Goals as goal

pub returns-clause-text : goal.returns-clause-text
unfolding refund_id
returns-clause-text c = c.write_refund.ensures.spelling

pub returns-clause-ascii : goal.returns-clause-ascii
unfolding refund_id
returns-clause-ascii c = subst (λ (bs : List ℕ). IsAscii bs) (sym c.write_refund.ensures.spelling) (IsAscii-refund_id c.args.code.now c.requires.ranges)
