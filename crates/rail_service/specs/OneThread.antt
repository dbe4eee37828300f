-- What a connection of a host of one thread is answered.
use Rattle.std.specs.Prelude.{◌≡◌, ◌⊎◌, ℕ, true, List, [], Option, None, Result, Ok, Err}
use Rattle.rail_ids.specs.declared.RetailerNo.{RetailerNo}
use Rattle.rail_io.specs.Told.{with_front, with_end}
use Rattle.http_wire.specs.Requests.{RequestText}
use Rattle.session_loop.specs.declared.end.ConnEnd.{ConnEnd}
use Rattle.session_loop.specs.declared.end.ConnEnd.TheVariants.{NoMemory}
use Rattle.session_loop.specs.Session.{Answering, Refusing, IsEnd}
use Rattle.catalogue_contents.specs.Contents.{CatalogueView}
use Rattle.osdm_parts.specs.declared.problem.Problem.{Problem}
use Rattle.osdm_parts.specs.declared.problem.Problem.TheVariants as refused
use Rattle.osdm_texts.specs.Answers.{Reply, problem}
use Rattle.rail_service.specs.Bytes.{reply_bytes}
use Rattle.osdm_json.specs.declared.command.Command.{Command}
use Rattle.service_rules.specs.Checks.{ordered}
use Rattle.plain_host.specs.Plain.{Plain}
use Rattle.plain_host.specs.Outcomes.{outcome_of}
use Rattle.plain_host.specs.PlainOf.{plain_of}
use Rattle.plain_host.specs.Plainly.{MayKeep}
use Rattle.rail_service.specs.Refusals.{problem_of_wire}
use Rattle.rail_service.specs.Serving.{retailer_of, first_after, AsksFor}
use Rattle.rail_service.specs.Connections.{ServiceView, ConnectionView, IsReading}

-- what a connection's host stands at: its list of bookings, the retailer of its first known key, and the clock's
-- readings to come
pub record PlainView : Type 0 where
  pub plain : Plain
  pub first : Option RetailerNo
  pub clock : Option (ℕ → ℕ)

-- a service whose desk is alone, as a host of one thread
abbrev pub plain_view : ServiceView → PlainView
plain_view s = record { plain = plain_of s.desk; first = s.first; clock = s.clock }

-- the reply is the command's outcome at the list, and leaves the outcome's list; or there was no memory
abbrev pub IsOutcome : CatalogueView → ℕ → RetailerNo × Command → Plain → Reply → Plain → Type 0
IsOutcome cat now a before reply after =
    (let o = outcome_of cat a.0.0 now a.1 before in (reply ≡ o.reply) × (after ≡ o.plain))
    ⊎ ((reply ≡ problem refused.NoMemory) × MayKeep cat.rows (ordered cat now a.1) before after)

-- what was asked is answered so; a refusal leaves the list as it was
abbrev pub AnswersPlain : CatalogueView → ℕ → Result (RetailerNo × Command) Problem → Plain → Reply → Plain → Type 0
AnswersPlain cat now (Ok a) before reply after = IsOutcome cat now a before reply after
AnswersPlain cat now (Err p) before reply after = (reply ≡ problem p) × (after ≡ before)

-- A request is answered at the clock's next reading, from the list alone.
pub record IsPlainAnswer (cat : CatalogueView) (before : PlainView) (request : RequestText) (written : List ℕ)
    (after : PlainView) : Type 0 where
  pub moment : ℕ
  pub reading : IsReading before.clock moment after.clock
  pub reply : Reply
  pub asked : Result (RetailerNo × Command) Problem
  pub asks : AsksFor cat before.first request asked
  pub is : AnswersPlain cat moment asked before.plain reply after.plain
  pub bytes : written ≡ reply_bytes cat request.last reply
  pub first : after.first ≡ first_after before.first (retailer_of cat request)

abbrev pub plain_answers_of : CatalogueView → Answering PlainView
plain_answers_of cat = λ before request written after. IsPlainAnswer cat before request written after

abbrev pub plain_refusals_of : CatalogueView → Refusing PlainView
plain_refusals_of cat = λ host fault written. written ≡ reply_bytes cat true (problem (problem_of_wire fault))

-- How a connection of such a host ended: without memory to begin with, and nothing done, or with its requests answered
-- from the list.
abbrev pub IsOneThread : CatalogueView → PlainView → PlainView → List ℕ → Option (List ℕ) → List ℕ → ConnEnd → Type 0
IsOneThread cat before after taken told written end =
    ((end ≡ NoMemory) × (taken ≡ []) × (written ≡ []))
    ⊎ IsEnd (plain_answers_of cat) (plain_refusals_of cat) before after taken told written end

-- The bytes written up to this end are those of a host of one thread, which begins with the desk's bookings.
abbrev pub ServesAlone : CatalogueView → ConnectionView → ConnectionView → ConnEnd → Type 0
ServesAlone cat before after end = (taken written : List ℕ) × (first : Option RetailerNo)
    × (before.source ≡ with_front taken after.source) × (after.sink ≡ with_end before.sink written)
    × IsOneThread cat (record { plain = plain_of before.desk; first = None; clock = before.clock })
    (record { plain = plain_of after.desk; first = first; clock = after.clock }) taken after.source written end
