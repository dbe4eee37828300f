use Rattle.table_tests.proofs.left.fault_is.Goals as goal

pub wall_of-wall-requires-clause-idle : goal.wall_of-wall-requires-clause-idle
wall_of-wall-requires-clause-idle g c = c.requires.idle
