use Rattle.std.proofs.Common.{◌≡◌, ◌+◌, ◌<◌, ◌≤◌, length}
use Rattle.std.specs.List.{AllWithin}
use Rattle.std.specs.Int.Digits.{digits_of}
use Rattle.train_runs.proofs.departure.first_from.Given as goal

abbrev pub invariant-halves : goal.invariant-halves
invariant-halves g l = record {
  within : l.first + l.size ≤ length l.departures;
  earlier : AllWithin (λ d. d.moment < l.seconds) l.departures 0 l.first;
  later : AllWithin (λ d. l.seconds ≤ d.moment) l.departures (l.first + l.size) (length l.departures);
  counted : l.steps + length (digits_of 2 l.size) ≡ l.fn.steps + length (digits_of 2 (length l.departures));
}

abbrev pub decreases-halves : goal.decreases-halves
decreases-halves g l = l.size
