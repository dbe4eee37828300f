use Rattle.cold_store.specs.Exports.{AreLiveWords}
use Rattle.cold_store.proofs.wall_rows.live_words.Given as goal

abbrev pub invariant-loop-row : goal.invariant-loop-row
invariant-loop-row l = AreLiveWords l.wall l.row l.words.items
