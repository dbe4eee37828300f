use Rattle.std.proofs.Common.{◌≡◌, ◌++◌, length, map}
use Rattle.osdm_parts.specs.Reservations.{reservations, reservation_tree}
use Rattle.osdm_parts.specs.Appends.{listed}
use Rattle.osdm_parts.proofs.reservations.put_reservations.Given as goal

abbrev pub invariant-loop-reservation : goal.invariant-loop-reservation
invariant-loop-reservation l = record {
  before : l.out.before ≡ l.fn.out.before;
  rest : l.out.tokens ++ listed (map (reservation_tree l.cat) (reservations l.left)) ≡ l.fn.out.tokens ++ listed (map (reservation_tree l.cat) (reservations l.items));
}

abbrev pub decreases-loop-reservation : goal.decreases-loop-reservation
decreases-loop-reservation l = length l.left
