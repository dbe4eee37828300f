use Rattle.std.proofs.Common.{refl}
use Rattle.osdm_parts.proofs.places.first_traits.Goals as goal

pub returns-in-true-true-true-clause-text : goal.returns-in-true-true-true-clause-text
returns-in-true-true-true-clause-text c = rw (c.in-true-true-true.is-0, c.in-true-true-true.is-1, c.in-true-true-true.is-2) refl

pub returns-in-true-true-false-clause-text : goal.returns-in-true-true-false-clause-text
returns-in-true-true-false-clause-text c = rw (c.in-true-true-false.is-0, c.in-true-true-false.is-1, c.in-true-true-false.is-2) refl

pub returns-in-true-false-true-clause-text : goal.returns-in-true-false-true-clause-text
returns-in-true-false-true-clause-text c = rw (c.in-true-false-true.is-0, c.in-true-false-true.is-1, c.in-true-false-true.is-2) refl

pub returns-in-false-true-true-clause-text : goal.returns-in-false-true-true-clause-text
returns-in-false-true-true-clause-text c = rw (c.in-false-true-true.is-0, c.in-false-true-true.is-1, c.in-false-true-true.is-2) refl
