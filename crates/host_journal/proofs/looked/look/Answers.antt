use Rattle.std.proofs.Common.{[], sym, subst}
use Rattle.claim_rule.specs.Desks.{IsOf}
use Rattle.claim_rule.specs.Out.{IsTidy}
use Rattle.claim_rule.specs.Rule.{DeskView}
use Rattle.claim_rule.proofs.Shapes.{shape_none}
use Rattle.host_journal.proofs.looked.look.Goals as goal
use Rattle.host_journal.proofs.looked.look.Goals.{then-is_whole+in_ok-count, else-is_whole+in_ok-count-2}

-- nothing was looked at
pub returns-in_err-text-clause-looks : goal.returns-in_err-text-clause-looks
returns-in_err-text-clause-looks c = ([], tt, shape_none c.args.desk.now c.requires.own.legal)

pub returns-clause-own : goal.returns-clause-own
returns-clause-own c =
    elim c.if-is_whole.branch [
      | then-is_whole+in_ok-count w ↦ subst (λ (d : DeskView). IsOf c.args.books.now d) (sym w.desk-is) w.push_all_lines.ensures.own
      | else-is_whole+in_ok-count-2 w ↦ subst (λ (d : DeskView). IsOf c.args.books.now d) (sym w.desk-is) w.push_marked_lines.ensures.own
    ]

pub returns-clause-tidy : goal.returns-clause-tidy
returns-clause-tidy c =
    elim c.if-is_whole.branch [
      | then-is_whole+in_ok-count w ↦ subst (λ (d : DeskView). IsTidy c.args.desk.now → IsTidy d) (sym w.desk-is) w.push_all_lines.ensures.tidy
      | else-is_whole+in_ok-count-2 w ↦ subst (λ (d : DeskView). IsTidy c.args.desk.now → IsTidy d) (sym w.desk-is) w.push_marked_lines.ensures.tidy
    ]
