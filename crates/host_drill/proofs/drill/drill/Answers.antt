use Rattle.host_words.specs.Options.{words_texts}
use Rattle.host_drill.proofs.Ending.{unsaid}
use Rattle.host_drill.proofs.drill.drill.Goals as goal

pub returns-in-Err-clause-leaves : goal.returns-in-Err-clause-leaves
returns-in-Err-clause-leaves g c =
    unsaid (words_texts c.args.words.now) (g.K.Sink.told c.args.output.now) c.in-Err.cause c.in-Err.ensures.words c.in-Err.ensures.memory c.in-Err.ensures.causes
