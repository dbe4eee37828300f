-- What is said of orders that were carried out, and of commands that were refused.
use Rattle.std.proofs.Common.{◌≡◌, ℕ, Err, refl, subst}
use Rattle.catalogue_contents.specs.Contents.{CatalogueView}
use Rattle.claim_rule.specs.Rule.{DeskView}
use Rattle.claim_rule.specs.Out.{MakesEmpty}
use Rattle.osdm_parts.specs.declared.problem.Problem.{Problem}
use Rattle.osdm_texts.specs.Answers.{Reply, problem, Told, refused as refused_told, reply_told}
use Rattle.osdm_texts.proofs.Telling.{of_problem}
use Rattle.booking_service.specs.Deciding.{Replying, Answered}
use Rattle.service_rules.specs.Performing.{DoesNothing}
use Rattle.rail_service.specs.Commands.{Says}

pub refused : (cat : CatalogueView) (retailer now : ℕ) (p : Problem) (old new : DeskView) → DoesNothing old new → MakesEmpty new
    → Says cat retailer now (Err p) old new (refused_told p)
refused cat retailer now p old new did none = (problem p, (did, refl), none, of_problem cat p)

-- an answer by the books' number of rows, which is the catalogue's, to an order that books nothing
pub by_rows : (cat : CatalogueView) (Does : ℕ → Replying) (rows : ℕ) (old new : DeskView) (said : Told) → rows ≡ cat.rows → Answered cat (Does rows) old new said
    → (reply : Reply) × Does cat.rows old new reply × Unit {0} × (said ≡ reply_told cat reply)
by_rows cat Does rows old new said same is =
    let told = subst (λ n. Answered cat (Does n) old new said) same is in (told.0, told.1, tt, told.2)
