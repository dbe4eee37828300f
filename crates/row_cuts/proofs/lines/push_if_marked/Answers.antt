use Rattle.std.proofs.Common.{Bool, [], ◌∷◌, cond, subst, sym}
use Rattle.claim_rule.specs.Calls.{AddsStepsBy}
use Rattle.row_cuts.specs.Lines.{WritesLines}
use Rattle.row_cuts.proofs.Writing.{lines_none}
use Rattle.row_cuts.proofs.lines.push_if_marked.Goals as goal

pub returns-then-not-marked-clause-lines : goal.returns-then-not-marked-clause-lines
returns-then-not-marked-clause-lines c =
    let text = c.args.text.now.items in
    subst (λ (t : Bool). AddsStepsBy (WritesLines (cond t (c.args.row ∷ []) []) text text 0) c.args.desk.now c.args.desk.now) (sym c.if-not-marked.true)
    (lines_none text c.args.desk.now c.requires.own.legal)
