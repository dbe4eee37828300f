use Rattle.cold_store.proofs.FirstLine.{first_read, no_first_feed, no_sizes, no_word}
use Rattle.cold_store.proofs.import.first_line.Goals as goal

pub returns-then-not-eat : goal.returns-then-not-eat
returns-then-not-eat c = no_word c.if-not-eat.ensures

pub returns-in_err-sizes : goal.returns-in_err-sizes
returns-in_err-sizes c = rw c.from_residual.ensures (no_sizes c.if-not-eat.ensures c.in_err-sizes.ensures)

pub returns-then-not-eat-2 : goal.returns-then-not-eat-2
returns-then-not-eat-2 c = no_first_feed c.if-not-eat.ensures c.in_ok-sizes.ensures c.if-not-eat-2.ensures

pub returns : goal.returns
returns c = first_read c.if-not-eat.ensures c.in_ok-sizes.ensures c.if-not-eat-2.ensures
