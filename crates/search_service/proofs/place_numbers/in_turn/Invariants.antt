use Rattle.std.proofs.Common.{◌≡◌, ◌++◌, ◌≤◌, drop}
use Rattle.search_service.specs.Numbering.{in_turn as in_turn_of}
use Rattle.search_service.proofs.place_numbers.in_turn.Given as goal

abbrev pub invariant-loop-place : goal.invariant-loop-place
invariant-loop-place l =
    (l.firsts ≤ l.place-index) × (l.seconds ≤ l.place-index)
    × (l.numbers.items ++ in_turn_of (drop l.place-index l.places) (drop l.firsts l.first) (drop l.seconds l.second) ≡ in_turn_of l.places l.first l.second)
