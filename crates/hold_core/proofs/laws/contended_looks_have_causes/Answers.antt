use Rattle.hold_core.proofs.Contending.{changes_between}
use Rattle.hold_core.proofs.laws.contended_looks_have_causes.Goals as goal

pub returns : goal.returns
returns c = record { causes = λ g history entries desk place piece shown. changes_between g desk place piece shown history entries }
