use Rattle.std.proofs.Common.{◌≡◌, ◌-◌, ◌⊎◌, inl, inr, true, get_or, ltb, arith}
use Rattle.rail_ids.specs.declared.PlaceNo.{PlaceNo}
use Rattle.place_map.proofs.Halves.{splits_at, is_below, not_below}
use Rattle.place_map.proofs.class_numbers.splits_here.Goals as goal
use Rattle.place_map.proofs.class_numbers.splits_here.Goals.{else-at-gt0-via-then-at-gt0+else-numbers-at, else-at-gt0-via-else-at-gt0}

pub returns-else-at-numbers-2-clause-splits : goal.returns-else-at-numbers-2-clause-splits
returns-else-at-numbers-2-clause-splits c = λ here.
    let numbers = c.args.numbers.now in
    let n = c.args.at in
    let limit = c.args.limit in
    let none : PlaceNo = record { 0 = 0 } in
    let before : n ≡ 0 ⊎ ltb (get_or numbers (n - 1) none).0 limit ≡ true =
    elim c.else-at-gt0.branch [
      | else-at-gt0-via-then-at-gt0+else-numbers-at w ↦ inr (is_below (get_or numbers (n - 1) none).0 limit w.if-numbers-at.false)
      | else-at-gt0-via-else-at-gt0 w ↦ inl (omega (arith, w.if-at-gt0.false))
    ] in
    splits_at (λ (it : PlaceNo). ltb it.0 limit) numbers n none c.requires.in_order before (inr (not_below (get_or numbers n none).0 limit here)) c.if-at-numbers.false
