use Rattle.cold_store.proofs.ItemWords.{AreWordsBy}
use Rattle.cold_store.proofs.LiveRows.{taken_by}
use Rattle.cold_store.proofs.wall_rows.add_live.Given as goal

abbrev pub invariant-loop-k : goal.invariant-loop-k
invariant-loop-k l = AreWordsBy l.wall (taken_by l.wall l.row l.k) l.words
