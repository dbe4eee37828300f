use Rattle.std.proofs.Common.{◌≡◌, ◌∙◌, ℕ, List, Ok, Err, IfSome, subst}
use Rattle.rail_catalogue.specs.Faults.{fault_of}
use Rattle.rail_catalogue.specs.Format.{catalogue_of}
use Rattle.host_drill.proofs.Fitting.{read_fits, read_faultless}
use Rattle.host_drill.proofs.catalogue.drill_catalogue.Goals as goal

pub returns-in-Ok-clause-catalogue : goal.returns-in-Ok-clause-catalogue
returns-in-Ok-clause-catalogue c = subst (λ (t : List ℕ). catalogue_of t ≡ Ok c.in-Ok.catalogue) (c.as_slice.ensures.value ∙ c.in_ok-text.ensures) c.in-Ok.ensures.ok

pub returns-in-Ok-clause-fits : goal.returns-in-Ok-clause-fits
returns-in-Ok-clause-fits c =
    read_fits c.args.places c.in-Ok.catalogue c.requires.some c.requires.most
    (subst (λ (t : List ℕ). catalogue_of t ≡ Ok c.in-Ok.catalogue) (c.as_slice.ensures.value ∙ c.in_ok-text.ensures) c.in-Ok.ensures.ok)

pub unreachable-requires : goal.unreachable-requires
unreachable-requires c =
    c.in_default.not-NoMemory
    (read_faultless c.args.places c.in-Err.fault c.requires.some c.requires.most
    (subst (λ (t : List ℕ). IfSome (fault_of c.in-Err.fault) (λ f. catalogue_of t ≡ Err f)) (c.as_slice.ensures.value ∙ c.in_ok-text.ensures) c.in-Err.ensures.err))
