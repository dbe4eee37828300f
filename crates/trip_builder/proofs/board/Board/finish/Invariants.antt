use Rattle.std.proofs.Common.{◌≡◌, ℕ, ◌-◌, length, get_or}
use Rattle.trip_builder.specs.Bounds.{IsNoted, Rises}
use Rattle.trip_builder.proofs.Posting.{IsHalf}
use Rattle.trip_builder.proofs.board.Board.finish.Given as goal

abbrev pub invariant-loop-back : goal.invariant-loop-back
invariant-loop-back l = record {
  size : length l.self-inside.useful.items ≡ l.count;
  next_is : l.later ≡ get_or l.self-inside.useful.items (l.count - l.back) l.later;
  rises : Rises l.self-inside.useful.items;
  half : (depart arrival : ℕ) → IsNoted l.fn.self depart arrival → IsHalf (l.count - l.back) l.self-inside.useful.items depart arrival;
}
