use Rattle.history_model.proofs.Owners.{owners_key_law, owners_law, stands_law}
use Rattle.history_model.proofs.laws.owners_change_alone.Goals as goal

pub returns-clause-owner_alone : goal.returns-clause-owner_alone
returns-clause-owner_alone c = owners_key_law

pub returns-clause-in_row : goal.returns-clause-in_row
returns-clause-in_row c = owners_law

pub returns-clause-stands : goal.returns-clause-stands
returns-clause-stands c = stands_law
