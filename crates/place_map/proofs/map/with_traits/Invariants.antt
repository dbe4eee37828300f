use Rattle.std.proofs.Common.{◌≡◌, ◌≤◌, ◌++◌, drop, length, vec_len, vec_capacity}
use Rattle.std.specs.List.{filter}
use Rattle.place_map.specs.ByClass.{has_traits}
use Rattle.place_map.proofs.map.with_traits.Given as goal

abbrev pub invariant-loop-number : goal.invariant-loop-number
invariant-loop-number l =
    (l.found.items ++ filter (has_traits l.wanted l.places) (drop l.number-index l.numbers) ≡ filter (has_traits l.wanted l.places) l.numbers)
    × (vec_len l.found ≤ l.number-index)
    × (length l.numbers ≤ vec_capacity l.found)
