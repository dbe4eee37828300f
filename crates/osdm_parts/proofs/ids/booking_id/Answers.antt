use Rattle.std.proofs.Common.{sym, subst, IsAscii, List, ℕ, arith}
use Rattle.osdm_parts.specs.Ids.{booking_id}
use Rattle.osdm_parts.proofs.Ascii.{IsAscii-booking_id}
use Rattle.osdm_parts.proofs.ids.booking_id.Goals as goal

pub returns-clause-text : goal.returns-clause-text
unfolding booking_id
returns-clause-text c = c.write_booking_id.ensures.spelling

pub returns-clause-ascii : goal.returns-clause-ascii
unfolding booking_id
returns-clause-ascii c = subst (λ (bs : List ℕ). IsAscii bs) (sym c.write_booking_id.ensures.spelling) (IsAscii-booking_id c.args.row (omega arith) c.requires.generation)
