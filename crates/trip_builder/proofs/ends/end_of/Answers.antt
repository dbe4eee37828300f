use Rattle.trip_builder.proofs.Calling.{call_is}
use Rattle.trip_builder.proofs.ends.end_of.Goals as goal

pub returns-then-stop-wish : goal.returns-then-stop-wish
returns-then-stop-wish c =
    call_is c.args.runs.now c.args.wish.now c.args.run.0 c.loop-n.n c.seconds-arrive.result c.in-Some.it.now c.stops-stop-items.result.now c.stop-item.result
    c.in-Some.ensures.value c.in-Some.ensures.sound c.stops-stop-items.ensures.value c.loop-n-test.true c.stop-item.is c.if-stop-wish.true c.seconds-arrive.ensures.value
