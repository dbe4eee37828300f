use Rattle.std.proofs.Common.{◌∙◌, ℕ, rules, subst, sym, w64, FitsSigned}
use Rattle.std.proofs.lemmas.Int.{to_z-of_z}
use Rattle.settle_report.specs.Accounts.{state_on}
use Rattle.settle_report.specs.Steps.{IsAmountBy, IsInPhase}
use Rattle.settle_report.proofs.RowFacts.{ended_amount, shows_end}
use Rattle.settle_report.proofs.rows.amount_at.Goals as goal

pub amount_of-requires : goal.amount_of-requires
amount_of-requires c =
    let w = c.args.wall.now in
    let kind = c.in-Ended.kind in
    let b = ended_amount w c.args.row kind c.requires.settled (subst (IsInPhase (state_on w) c.args.row) c.in-Ended.is c.requires.phase) in
    record { word = (b.0.end.amount, subst (λ (n : ℕ). IsAmountBy kind n b.0.end.amount) (sym c.word_at.ensures) b.3) }

pub returns-in-Ended : goal.returns-in-Ended
returns-in-Ended c =
    let w = c.args.wall.now in
    let kind = c.in-Ended.kind in
    let b = ended_amount w c.args.row kind c.requires.settled (subst (IsInPhase (state_on w) c.args.row) c.in-Ended.is c.requires.phase) in
    let is = c.amount_of.ensures b.0.end.amount (subst (λ (n : ℕ). IsAmountBy kind n b.0.end.amount) (sym c.word_at.ensures) b.3) in
    let fits : FitsSigned w64 c.amount_of.result = search rules in
    shows_end (state_on w) c.args.row kind b.0 _ b.1 b.2 (to_z-of_z w64 c.amount_of.result fits ∙ is)
