use Rattle.claim_rule.proofs.Moves.{notes}
use Rattle.claim_rule.proofs.books.Books.note_at.Goals as goal

pub store_as-requires-clause-step : goal.store_as-requires-clause-step
store_as-requires-clause-step c = notes c.args.self.now.layout c.args.seat.now c.args.row c.args.word c.args.value c.requires.row
