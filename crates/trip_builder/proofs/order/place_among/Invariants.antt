use Rattle.std.proofs.Common.{◌≡◌, ◌+◌, ◌≤◌, true, false, length}
use Rattle.std.specs.List.{AllWithin}
use Rattle.trip_builder.specs.Order.{stands_before}
use Rattle.trip_builder.proofs.order.place_among.Given as goal

abbrev pub invariant-halves : goal.invariant-halves
invariant-halves l = record {
  within : l.first + l.size ≤ length l.sorted;
  before : AllWithin (λ t. stands_before l.runs t l.trip ≡ true) l.sorted 0 l.first;
  after : AllWithin (λ t. stands_before l.runs t l.trip ≡ false) l.sorted (l.first + l.size) (length l.sorted);
}

abbrev pub decreases-halves : goal.decreases-halves
decreases-halves l = l.size
