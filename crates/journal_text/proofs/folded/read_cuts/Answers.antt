use Rattle.journal_text.proofs.CutsRead.{all_read, at_start, step}
use Rattle.journal_text.proofs.folded.read_cuts.Goals as goal

pub loop-cut-init : goal.loop-cut-init
loop-cut-init c = at_start c.args.first.digits c.args.reader.now.rest.now c.args.lasts.now c.requires.table

pub loop-cut-preserved : goal.loop-cut-preserved
loop-cut-preserved c =
    step _ c.args.first.digits c.args.reader.now.rest.now _ _ _ c.put_lines.new.lasts _ _ c.in-Some.cut c.loop-cut.invariant c.in-Some.ensures.read
    c.in_ok-put_lines.ensures.ok c.put_lines.ensures.len

pub returns-clause-ok : goal.returns-clause-ok
returns-clause-ok c =
    all_read _ c.args.first.digits c.args.reader.now.rest.now c.loop-cut.reader.rest.now _ c.loop-cut.lasts c.loop-cut.cuts c.loop-cut.invariant c.in_default.ensures.read
    c.in_default.ensures.none
