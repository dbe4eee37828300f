use Rattle.http_wire.proofs.OnceLemmas.{spells_once}
use Rattle.http_wire.proofs.SomeReading.{spells_some}
use Rattle.http_wire.proofs.one_reading.Goals as goal

pub returns : goal.returns
returns c = record { unique = spells_once; some = spells_some }
