use Rattle.trip_builder.proofs.rides.Rides.note.Goals as goal

pub returns-then-two-late-clause-rides : goal.returns-then-two-late-clause-rides
returns-then-two-late-clause-rides c = λ r w v changes are own. c.mark.ensures.rides r w v changes (c.put.ensures.rides r w v changes are own)
