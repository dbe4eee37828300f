use Rattle.std.proofs.Common.{ℕ, ◌==◌, sym, subst}
use prog.Atomic.{either}
use Rattle.claim_rule.specs.Rule.{Steps}
use Rattle.claim_rule.proofs.Moves.{seals}
use Rattle.claim_rule.proofs.books.Books.seal_at.Goals as goal
use Rattle.history_model.specs.declared.entry.Step.TheVariants.{Seal}
use Rattle.history_model.specs.declared.word.Word.TheVariants.{Row}

pub exchange_as-requires-clause-step : goal.exchange_as-requires-clause-step
exchange_as-requires-clause-step c =
    subst (λ (x : ℕ × ℕ). Steps c.args.self.now.layout c.args.seat.now.me.0 (Row c.args.row.row 0) (λ n. either (n == x.0) x.1 n) (λ _. Seal c.args.row.row c.args.phase)) (λ i. (sym c.row_word_of-making.ensures i, sym c.row_word_of-new.ensures i))
    (seals c.args.self.now.layout c.args.seat.now c.args.row c.args.phase c.requires.ready)
