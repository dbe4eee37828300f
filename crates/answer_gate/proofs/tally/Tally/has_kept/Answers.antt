use Rattle.std.proofs.lemmas.Bool.{leb-true}
use Rattle.answer_gate.proofs.Receipts.{before}
use Rattle.answer_gate.proofs.tally.Tally.has_kept.Goals as goal

-- what was shown of the last kept cut stands in the lock
pub returns-clause-shown : goal.returns-clause-shown
returns-clause-shown g c = λ kept. before g.K.Receipt.kept c.args.self.now.kept c.args.cut c.args.self.now.shown
    (leb-true c.args.cut c.args.self.now.kept kept)
