-- What a request asks for, and which cut its answer waits for.
use Rattle.std.proofs.Common.{◌≡◌, ℕ, Result, Ok, Err, refl, ap, subst, sym, ◌∙◌}
use Rattle.history_model.specs.History.{IsLegal}
use Rattle.claim_rule.specs.Rule.{DeskView}
use Rattle.claim_rule.specs.Calls.{AddsStepsBy}
use Rattle.claim_rule.specs.Out.{AllLooks}
use Rattle.rail_io.specs.declared.clock.Reach.{Reach}
use Rattle.rail_io.specs.declared.clock.Reach.TheVariants.{Changes}
use Rattle.http_wire.specs.Requests.{RequestText}
use Rattle.catalogue_contents.specs.Contents.{CatalogueView}
use Rattle.rail_ids.specs.declared.RetailerNo.{RetailerNo}
use Rattle.osdm_parts.specs.declared.problem.Problem.{Problem}
use Rattle.osdm_texts.specs.Answers.{Told}
use Rattle.osdm_json.specs.declared.command.Command.{Command}
use Rattle.service_rules.specs.Checks.{ordered}
use Rattle.rail_service.specs.Commands.{Says}
use Rattle.rail_service.specs.Reaching.{reach_of}
use Rattle.rail_service.specs.Moments.{IsGivenCut}
use Rattle.rail_service.specs.Serving.{AsksSomewhere, AsksAdmitted}
use Rattle.rail_service.proofs.Looking.{looks_alone}

-- what a retailer asks for, by what its request asks for
abbrev pub by_retailer : RetailerNo → Result Command Problem → Result (RetailerNo × Command) Problem
by_retailer retailer (Ok command) = Ok (retailer, command)
by_retailer retailer (Err p) = Err p

-- asked by a retailer who may ask, at the request's own route
pub asked_by_retailer : (cat : CatalogueView) (request : RequestText) (retailer : RetailerNo) (asked : Result Command Problem)
    → AsksSomewhere cat request asked → AsksAdmitted cat request (Ok retailer) (by_retailer retailer asked)
asked_by_retailer cat request retailer asked (Err p, has, is) = (Err p, has, ap (by_retailer retailer) is)
asked_by_retailer cat request retailer (Ok command) (Ok r, has, is) = (Ok r, has, (refl, is))
asked_by_retailer cat request retailer (Err p) (Ok r, has, is) = (Ok r, has, is)

-- a command that isn't said to change bookings looks alone, by what was said of it
pub said_looks : (cat : CatalogueView) (retailer now : ℕ) (command : Command) (reach : Reach) (old new : DeskView) (said : Told)
    → IsLegal old.layout old.seen → reach ≡ reach_of command → Says cat retailer now (ordered cat now command) old new said
    → (reach ≡ Changes → ⊥) → AddsStepsBy AllLooks old new
said_looks cat retailer now command reach old new said legal is (reply, did, all, so) other =
    looks_alone command (λ e. other (is ∙ e)) cat retailer now old new reply legal did

-- one that a clock gave
pub given_by : {C : Type 0} (begun : C → Reach → Type 0) (ends : C → ℕ → C → Type 0) (old new : DeskView) (clock after : C) (reach : Reach) (cut given : ℕ)
    → cut ≡ given → begun clock reach → ((reach ≡ Changes → ⊥) → AddsStepsBy AllLooks old new) → ends clock given after
    → IsGivenCut begun ends old new cut after
given_by begun ends old new clock after reach cut given same began looks is = record {
  clock = clock;
  reach = reach;
  began = began;
  looks = looks;
  given = subst (λ (n : ℕ). ends clock n after) (sym same) is;
}
