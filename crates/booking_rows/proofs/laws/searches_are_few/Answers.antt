use Rattle.booking_rows.proofs.SearchLemmas.{all_few, few_misses}
use Rattle.booking_rows.proofs.laws.searches_are_few.Goals as goal

pub returns : goal.returns
returns c = record { few = all_few; each = few_misses }
