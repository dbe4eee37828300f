use Rattle.std.proofs.Common.{◌+◌, ◌<◌, ◌≤◌, length}
use Rattle.std.specs.List.{AllWithin}
use Rattle.trip_builder.proofs.board.count_before.Given as goal

abbrev pub invariant-halves : goal.invariant-halves
invariant-halves l = record {
  within : l.first + l.size ≤ length l.useful;
  earlier : AllWithin (λ u. u.moment < l.seconds) l.useful 0 l.first;
  later : AllWithin (λ u. l.seconds ≤ u.moment) l.useful (l.first + l.size) (length l.useful);
}

abbrev pub decreases-halves : goal.decreases-halves
decreases-halves l = l.size
