use Rattle.std.proofs.Common.{ℕ, ◌==◌, sym, subst}
use prog.Atomic.{either}
use Rattle.history_model.specs.declared.entry.Step.TheVariants.{Close}
use Rattle.history_model.specs.declared.word.Word.TheVariants.{Row}
use Rattle.claim_rule.specs.Rule.{Steps}
use Rattle.claim_rule.proofs.Moves.{closes}
use Rattle.claim_rule.proofs.books.Books.close_at.Goals as goal

pub exchange_as-requires-clause-step : goal.exchange_as-requires-clause-step
exchange_as-requires-clause-step c =
    subst (λ (x : ℕ × ℕ). Steps c.args.self.now.layout c.args.seat.now.me.0 (Row c.args.row.row 0) (λ n. either (n == x.0) x.1 n) (λ _. Close c.args.row.row)) (λ i. (sym c.row_word_of-old.ensures i, sym c.row_word_of-new.ensures i))
    (closes c.args.self.now.layout c.args.seat.now c.args.row c.args.kind c.requires.row c.requires.ready)
