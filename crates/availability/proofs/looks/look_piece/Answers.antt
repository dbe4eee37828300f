use Rattle.availability.proofs.Looking.{as_piece}
use Rattle.availability.proofs.looks.look_piece.Goals as goal

pub returns-clause-entries : goal.returns-clause-entries
returns-clause-entries c =
    as_piece c.args.desk.now c.glance.new.desk c.args.place c.args.piece c.half_of.result c.glance.result c.free_on.result c.half_of.ensures.value c.free_on.ensures c.glance.ensures.entries
