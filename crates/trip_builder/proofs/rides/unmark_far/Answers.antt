use Rattle.trip_builder.proofs.rides.unmark_far.Goals as goal

pub loop-station-preserved : goal.loop-station-preserved
loop-station-preserved c = λ station at holds was. c.unmark.ensures station at holds (c.loop-station.invariant station at holds was)
