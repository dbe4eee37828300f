use Rattle.std.proofs.Common.{sym, ◌∙◌, ap, subst, inr, arith}
use Rattle.http_wire.specs.Stages.{IsStage, searched}
use Rattle.http_wire.proofs.ScanLemmas.{many_lines, head_at_end}
use Rattle.http_wire.proofs.intake.after_search.Goals as goal

pub returns-then-scan-gt-HEAD_LINES-clause-front : goal.returns-then-scan-gt-HEAD_LINES-clause-front
returns-then-scan-gt-HEAD_LINES-clause-front c = inr (many_lines c.args.text.now c.args.scan (omega arith) c.requires.stage)

pub after_head-requires-clause-at : goal.after_head-requires-clause-at
after_head-requires-clause-at c = (head_at_end c.args.text.now c.args.scan c.in-Some.end c.in-Some.is (omega arith) c.requires.stage).0

pub after_head-requires-clause-within : goal.after_head-requires-clause-within
after_head-requires-clause-within c = (head_at_end c.args.text.now c.args.scan c.in-Some.end c.in-Some.is (omega arith) c.requires.stage).1

pub after_head-requires-clause-stage : goal.after_head-requires-clause-stage
after_head-requires-clause-stage c =
    subst (IsStage c.args.number c.args.text.now) (sym c.requires.kept) c.requires.stage

pub after_head-requires-clause-searched : goal.after_head-requires-clause-searched
after_head-requires-clause-searched c =
    ap searched c.requires.kept ∙ (head_at_end c.args.text.now c.args.scan c.in-Some.end c.in-Some.is (omega arith) c.requires.stage).2
