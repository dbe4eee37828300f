use Rattle.std.proofs.Common.{ℕ, ◌==◌, sym, subst}
use prog.Atomic.{either}
use Rattle.claim_rule.specs.Rule.{Steps}
use Rattle.claim_rule.specs.Seats.{turn_step}
use Rattle.claim_rule.proofs.Moves.{turns}
use Rattle.claim_rule.proofs.books.Books.turn_at.Goals as goal
use Rattle.history_model.specs.declared.entry.Step.{Step}
use Rattle.history_model.specs.declared.word.Word.TheVariants.{Row}

pub exchange_as-requires-clause-step : goal.exchange_as-requires-clause-step
exchange_as-requires-clause-step c =
    let t = c.requires.turn in
    subst (λ (x : ℕ × ℕ × Step). Steps c.args.self.now.layout c.args.seat.now.me.0 (Row c.args.row.row 0) (λ n. either (n == x.0) x.1 n) (turn_step x.0 x.2))
    (λ i. (sym c.row_word_of-old.ensures i, sym c.row_word_of-new.ensures i, sym t.1 i))
    (turns c.args.self.now.layout c.args.seat.now c.args.row c.args.from c.args.to t.0 t.2)
