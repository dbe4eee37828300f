use Rattle.std.proofs.Common.{ℤ, to_z-of_z, w64, subst}
use Rattle.history_model.specs.declared.booking.End.{End}
use Rattle.history_model.specs.WholeEnds.{end_at}
use Rattle.claim_rule.specs.Turns.{IsTurned, IsTurnedTo}
use Rattle.claim_rule.proofs.EndingLemmas.{has_turned}
use Rattle.claim_rule.proofs.books.Books.step_turn.Goals as goal

pub returns-in-None-clause-turned : goal.returns-in-None-clause-turned
returns-in-None-clause-turned c =
    let a = c.args in
    let end : ℤ → End = λ x. end_at a.moment x a.successor in
    let same = to_z-of_z {w = w64} {z = a.amount} c.ranges.amount in
    has_turned a.row a.from a.to (end a.amount) a.desk.now c.turn_row.new.desk c.turned_to.result
    (subst (λ (x : ℤ). IsTurned a.row a.from a.to (end x) a.desk.now c.turn_row.new.desk) same c.in-None.ensures.turned)
    (subst (λ (x : ℤ). IsTurnedTo a.row a.to (end x) c.turned_to.result) same c.turned_to.ensures)
