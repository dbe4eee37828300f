use Rattle.std.proofs.Common.{◌+◌, ◌/◌, ◌<◌, length, arith}
use Rattle.trip_builder.proofs.Posting.{below_side}
use Rattle.trip_builder.proofs.board.count_before.Goals as goal

pub halves-preserved-then-moment_at-seconds : goal.halves-preserved-then-moment_at-seconds
halves-preserved-then-moment_at-seconds c =
    let within = c.halves.invariant.within in
    let fits : c.halves.first + c.halves.size / 2 < length c.args.useful.now = omega (arith, within, c.halves-test.true) in
    record {
      within = omega (arith, within);
      earlier = λ k d low high. below_side c.args.useful.now c.args.seconds (c.halves.first + c.halves.size / 2) d c.requires.rises fits
          (let at = c.moment_at.ensures.value d in let small = c.if-moment_at-seconds.true in omega (arith, at, small)) k d (omega (arith, high));
      later = λ k d low high. c.halves.invariant.later k d (omega (arith, low)) high;
    }
