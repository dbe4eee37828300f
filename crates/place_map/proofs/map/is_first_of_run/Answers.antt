use Rattle.std.proofs.Common.{◌≡◌, ◌-◌, ◌⊎◌, inl, inr, true, get_or, ltb, arith}
use Rattle.std.proofs.lemmas.List.Sorted.{IsPartitionedBy-ltb}
use Rattle.place_map.specs.Places.{run_number}
use Rattle.place_map.specs.ByClass.{no_place}
use Rattle.place_map.proofs.Halves.{splits_at, is_below, not_below}
use Rattle.place_map.proofs.map.is_first_of_run.Goals as goal
use Rattle.place_map.proofs.map.is_first_of_run.Goals.{else-at-gt0-via-then-at-gt0+else-places-at, else-at-gt0-via-else-at-gt0}

pub returns-else-at-places-2-clause-splits : goal.returns-else-at-places-2-clause-splits
returns-else-at-places-2-clause-splits c = λ here.
    let places = c.args.places.now in
    let n = c.args.at in
    let run = c.args.run.0 in
    let before : n ≡ 0 ⊎ ltb (run_number (get_or places (n - 1) no_place)) run ≡ true =
    elim c.else-at-gt0.branch [
      | else-at-gt0-via-then-at-gt0+else-places-at w ↦ inr (is_below (run_number (get_or places (n - 1) no_place)) run w.if-places-at.false)
      | else-at-gt0-via-else-at-gt0 w ↦ inl (omega (arith, w.if-at-gt0.false))
    ] in
    splits_at (λ p. ltb (run_number p) run) places n no_place (IsPartitionedBy-ltb run_number places run c.requires.by_run) before (inr (not_below (run_number (get_or places n no_place)) run here)) c.if-at-places.false
