use Rattle.std.proofs.Common.{◌≡◌, ◌≤◌, max, map, drop}
use Rattle.history_model.specs.Booking.{key_of, next_in, next_generation}
use Rattle.history_model.proofs.shown.latest_of.Given as goal

abbrev pub invariant-loop-b : goal.invariant-loop-b
invariant-loop-b l = (max l.next (next_in (map key_of (drop l.b-index l.bookings)) l.row) ≡ next_generation l.bookings l.row) × (l.next ≤ 4294967296)
