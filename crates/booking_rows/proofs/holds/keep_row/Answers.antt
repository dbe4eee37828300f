use Rattle.std.proofs.Common.{Some, sym, subst}
use Rattle.claim_rule.specs.Out.{HoldsNone, KeepsEndings}
use Rattle.claim_rule.proofs.Out.{endings_same}
use Rattle.booking_rows.proofs.StartLemmas.{kept_none, endings_beside}
use Rattle.booking_rows.proofs.holds.keep_row.Goals as goal

pub returns-clause-none : goal.returns-clause-none
returns-clause-none c = subst HoldsNone (sym c.keep.ensures.kept) (kept_none c.args.desk.now c.args.hold c.requires.hold)

pub returns-clause-endings : goal.returns-clause-endings
returns-clause-endings c = let d = c.args.desk.now in subst (KeepsEndings d) (sym c.keep.ensures.kept) (endings_beside d d (Some c.args.hold.row) d.past (endings_same d))
