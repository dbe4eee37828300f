use Rattle.cold_store.proofs.Tidied.{only_memory}
use Rattle.cold_store.proofs.tidy.export_tidy.Goals as goal

pub returns-clause-err : goal.returns-clause-err
returns-clause-err c = only_memory c.args.wall.now c.requires.closed.legal c.requires.tidy c.export_text.result c.export_text.ensures.err
