-- A desk that made no step has done nothing.
use Rattle.claim_rule.specs.Rule.{BooksView, DeskView}
use Rattle.claim_rule.specs.Desks.{IsOf}
use Rattle.claim_rule.proofs.Shapes.{shape_none}
use Rattle.service_rules.specs.Performing.{DoesNothing}

pub nothing : (books : BooksView) (desk : DeskView) → IsOf books desk → DoesNothing desk desk
nothing books desk own = shape_none desk own.legal
