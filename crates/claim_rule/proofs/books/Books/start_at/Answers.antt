use Rattle.std.proofs.Common.{ℕ, ◌==◌, sym, subst}
use prog.Atomic.{either}
use Rattle.history_model.specs.declared.entry.Step.TheVariants.{Start}
use Rattle.history_model.specs.declared.word.Word.TheVariants.{Row}
use Rattle.claim_rule.specs.Rule.{Steps}
use Rattle.claim_rule.specs.Seats.{either_step}
use Rattle.claim_rule.proofs.Moves.{starts}
use Rattle.claim_rule.proofs.books.Books.start_at.Goals as goal

pub exchange_as-requires-clause-step : goal.exchange_as-requires-clause-step
exchange_as-requires-clause-step c =
    let row = c.args.row in
    let old = c.args.expected in
    subst (λ (y : ℕ). Steps c.args.self.now.layout c.args.seat.now.me.0 (Row row.row 0) (λ n. either (n == old) y n) (either_step old (Start row.row row.generation) (Row row.row 0))) (sym c.row_word_of-making.ensures)
    (starts c.args.self.now.layout c.args.seat.now.me.0 row old c.requires.row c.requires.expected)
