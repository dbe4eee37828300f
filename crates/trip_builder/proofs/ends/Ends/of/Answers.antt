use Rattle.trip_builder.proofs.ends.Ends.of.Goals as goal

pub returns-in-Unknown-clause-kept : goal.returns-in-Unknown-clause-kept
returns-in-Unknown-clause-kept c = c.note.ensures c.args.runs.now c.args.wish.now c.requires c.end_of-found.ensures
