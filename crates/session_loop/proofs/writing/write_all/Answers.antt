use Rattle.session_loop.specs.Writes.{showing}
use Rattle.session_loop.proofs.WriteLemmas.{writes_so}
use Rattle.session_loop.proofs.writing.write_all.Goals as goal

pub returns-clause-writes : goal.returns-clause-writes
returns-clause-writes g c =
    writes_so (showing g.K.Sink.told g.K.Sink.takes g.K.Sink.held) c.args.sink.now c.hand_all.new.sink c.args.piece.now c.hand_all.result
    c.hand_all.ensures.hands
