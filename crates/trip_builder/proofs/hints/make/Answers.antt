use Rattle.trip_builder.proofs.Resting.{rests_made}
use Rattle.trip_builder.proofs.hints.make.Goals as goal

pub returns : goal.returns
returns c = rests_made c.args.useful.now c.args.parts c.note_all.new.rests c.settle.new.rests c.settle.auto.rests c.note_all.ensures c.settle.ensures
