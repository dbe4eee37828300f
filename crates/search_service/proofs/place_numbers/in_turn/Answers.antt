use Rattle.std.proofs.Common.{arith}
use Rattle.search_service.proofs.Numbers.{next_first, next_second}
use Rattle.search_service.proofs.place_numbers.in_turn.Goals as goal
use Rattle.search_service.proofs.place_numbers.in_turn.Goals.{in-First+in_ok-push_at-in-First, in-Second+in_ok-push_at-in-Second}

pub loop-place-preserved : goal.loop-place-preserved
loop-place-preserved c =
    elim c.match-place.branch [
      | in-First+in_ok-push_at-in-First w ↦ (
        omega (arith, w.firsts-is, c.loop-place.invariant.0),
        omega (arith, w.seconds-is, c.loop-place.invariant.1),
        rw (w.numbers-is, w.firsts-is, w.seconds-is, w.in_ok-push_at-in-First.ensures)
            (next_first c.args.places.now c.args.first.now c.args.second.now c.loop-place.numbers.items _ c.loop-place.place-index c.loop-place.firsts c.loop-place.seconds _ c.loop-place-test.true w.in-First.is c.loop-place.invariant.2),
      )
      | in-Second+in_ok-push_at-in-Second w ↦ (
        omega (arith, w.firsts-is, c.loop-place.invariant.0),
        omega (arith, w.seconds-is, c.loop-place.invariant.1),
        rw (w.numbers-is, w.firsts-is, w.seconds-is, w.in_ok-push_at-in-Second.ensures)
            (next_second c.args.places.now c.args.first.now c.args.second.now c.loop-place.numbers.items _ c.loop-place.place-index c.loop-place.firsts c.loop-place.seconds _ c.loop-place-test.true w.in-Second.is c.loop-place.invariant.2),
      )
    ]
