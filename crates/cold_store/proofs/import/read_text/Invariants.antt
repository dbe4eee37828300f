use Rattle.std.proofs.Common.{length}
use Rattle.cold_store.proofs.Reading.{ReadSoFar}
use Rattle.cold_store.proofs.import.read_text.Given as goal

abbrev pub invariant-loop-reader : goal.invariant-loop-reader
invariant-loop-reader l =
    ReadSoFar l.legs l.text l.sizes.0 l.sizes.1 l.fn.draft.rows l.reader.rest.now l.draft

abbrev pub decreases-loop-reader : goal.decreases-loop-reader
decreases-loop-reader l = length l.reader.rest.now
