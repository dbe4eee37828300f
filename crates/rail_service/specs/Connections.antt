-- What a connection is promised.
use Rattle.std.specs.Prelude.{◌≡◌, ◌⊎◌, ℕ, ◌+◌, true, List, [], Option, None, IfSome, IsSomeAnd}
use mathlib.Core.List.{IsPrefix}
use Rattle.rail_ids.specs.declared.RetailerNo.{RetailerNo}
use Rattle.history_model.specs.declared.entry.Entry.{Entry}
use Rattle.history_model.specs.declared.entry.Step.{Step}
use Rattle.history_model.specs.History.{state_of}
use Rattle.history_model.specs.Laws.{NoDouble}
use Rattle.rail_io.specs.Told.{with_front, with_end}
use Rattle.http_wire.specs.Requests.{RequestText}
use Rattle.session_loop.specs.declared.end.ConnEnd.{ConnEnd}
use Rattle.session_loop.specs.declared.end.ConnEnd.TheVariants.{NoMemory}
use Rattle.session_loop.specs.Session.{Answering, Refusing, IsEnd}
use Rattle.claim_rule.specs.Rule.{DeskView}
use Rattle.claim_rule.specs.Desks.{AddsSteps}
use Rattle.claim_rule.specs.Out.{IsIdle}
use Rattle.catalogue_contents.specs.Contents.{CatalogueView}
use Rattle.osdm_texts.specs.Answers.{Reply, problem}
use Rattle.rail_service.specs.Bytes.{reply_bytes}
use Rattle.claim_rule.specs.Out.{MakesEmpty}
use Rattle.rail_service.specs.Sparing.{SparesBookings}
use Rattle.rail_service.specs.Refusals.{problem_of_wire}
use Rattle.rail_service.specs.Serving.{retailer_of, first_after, AnswersRequest}

-- what a connection's service stands at: its desk, the retailer of its first known key, and the clock's readings to
-- come, where the clock tells them
pub record ServiceView : Type 0 where
  pub desk : DeskView
  pub first : Option RetailerNo
  pub clock : Option (ℕ → ℕ)

-- the moment is the first of the readings to come, and the others come after it
abbrev pub IsReading : Option (ℕ → ℕ) → ℕ → Option (ℕ → ℕ) → Type 0
IsReading before moment after =
    IfSome before (λ readings. (moment ≡ readings 0) × IsSomeAnd after (λ later. (i : ℕ) → later i ≡ readings (i + 1)))

-- A request is answered at the clock's next reading, by the bytes of its defined reply.
pub record IsAnswer (cat : CatalogueView) (before : ServiceView) (request : RequestText) (written : List ℕ)
    (after : ServiceView) : Type 0 where
  pub moment : ℕ
  pub reading : IsReading before.clock moment after.clock
  pub reply : Reply
  pub is : AnswersRequest cat before.first request moment before.desk after.desk reply
  pub bytes : written ≡ reply_bytes cat request.last reply
  pub first : after.first ≡ first_after before.first (retailer_of cat request)
  -- all that the desk did is of this reply
  pub steps : List Step
  pub shape : AddsSteps before.desk after.desk steps
  pub spares : SparesBookings reply steps
  pub idle : IsIdle after.desk
  pub no_item : MakesEmpty after.desk

abbrev pub answers_of : CatalogueView → Answering ServiceView
answers_of cat = λ before request written after. IsAnswer cat before request written after

-- what stands in a request's place is answered by its problem, last
abbrev pub refusals_of : CatalogueView → Refusing ServiceView
refusals_of cat = λ service fault written. written ≡ reply_bytes cat true (problem (problem_of_wire fault))

-- No two live bookings share a place on a leg, at any moment of the history.
abbrev pub NeverDouble : DeskView → Type 0
NeverDouble desk = (history : List Entry) → IsPrefix history desk.seen → NoDouble (state_of desk.layout history)

-- The bytes written are the replies to the requests of the bytes taken, in order, each by the desk's own entries, in
-- one legal history that begins with what the desk had seen and holds of the desk nothing else.
pub record IsServed (cat : CatalogueView) (before after : ServiceView) (taken : List ℕ) (told : Option (List ℕ))
    (written : List ℕ) (end : ConnEnd) : Type 0 where
  pub answered : IsEnd (answers_of cat) (refusals_of cat) before after taken told written end
  pub steps : List Step
  pub shape : AddsSteps before.desk after.desk steps
  pub no_double : NeverDouble after.desk
  pub idle : IsIdle after.desk

-- nothing was read, written or done
pub record IsUntouched (before after : ServiceView) (taken written : List ℕ) : Type 0 where
  pub no_read : taken ≡ []
  pub no_write : written ≡ []
  pub same : after ≡ before

-- How a connection ended: without memory to begin with, and nothing done, or with its requests served.
abbrev pub HasServed : CatalogueView → ServiceView → ServiceView → List ℕ → Option (List ℕ) → List ℕ → ConnEnd → Type 0
HasServed cat before after taken told written end =
    ((end ≡ NoMemory) × IsUntouched before after taken written) ⊎ IsServed cat before after taken told written end

-- what a whole connection is served with: a desk, and what its clock, its source and its sink tell, where they do
pub record ConnectionView : Type 0 where
  pub desk : DeskView
  pub clock : Option (ℕ → ℕ)
  pub source : Option (List ℕ)
  pub sink : Option (List ℕ)

abbrev pub connection_at : DeskView → Option (ℕ → ℕ) → Option (List ℕ) → Option (List ℕ) → ConnectionView
connection_at desk clock source sink = record { desk = desk; clock = clock; source = source; sink = sink }

-- The bytes written up to this end are the defined replies to the requests of the bytes taken, whatever other desks do.
abbrev pub ServesWhole : CatalogueView → ConnectionView → ConnectionView → ConnEnd → Type 0
ServesWhole cat before after end = (taken written : List ℕ) × (first : Option RetailerNo)
    × (before.source ≡ with_front taken after.source) × (after.sink ≡ with_end before.sink written)
    × HasServed cat (record { desk = before.desk; first = None; clock = before.clock })
    (record { desk = after.desk; first = first; clock = after.clock }) taken after.source written end
