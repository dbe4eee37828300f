use Rattle.history_model.specs.History.{state_of}
use Rattle.history_model.proofs.Legal.{WellFormed-history, NoDouble-from_WellFormed}
use Rattle.history_model.proofs.Ranges.{ranges_all}
use Rattle.history_model.proofs.laws.legal_histories.Goals as goal

pub returns-clause-well_formed : goal.returns-clause-well_formed
returns-clause-well_formed c = λ g history l. WellFormed-history g g.opening history l.0.well_formed l.1

pub returns-clause-no_double : goal.returns-clause-no_double
returns-clause-no_double c = λ g history l. NoDouble-from_WellFormed g (state_of g history) (WellFormed-history g g.opening history l.0.well_formed l.1)

pub returns-clause-in_range : goal.returns-clause-in_range
returns-clause-in_range c = ranges_all
