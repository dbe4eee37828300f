use Rattle.host_serve.proofs.sweeping.Sweeper.take_turn.Goals as goal

pub returns-clause-tidy : goal.returns-clause-tidy
returns-clause-tidy g c = c.sweep_begun-swept.ensures.tidy c.requires.tidy
