use Rattle.trip_builder.proofs.ahead.arrive.Goals as goal

pub longer-way-requires-clause-stop : goal.longer-way-requires-clause-stop
longer-way-requires-clause-stop c = c.in-At.ensures.value.few
