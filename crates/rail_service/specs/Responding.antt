-- How the service responds.
use Rattle.std.specs.Prelude.{◌≡◌, ◌⊎◌, ℕ, true, List, Option}
use Rattle.http_wire.specs.declared.request.WireFault.{WireFault}
use Rattle.http_wire.specs.Requests.{RequestText}
use Rattle.claim_rule.specs.Out.{IsTidy}
use Rattle.rail_io.specs.declared.clock.Reach.{Reach}
use Rattle.osdm_texts.specs.Answers.{problem}
use Rattle.rail_service.specs.Bytes.{reply_bytes}
use Rattle.rail_service.specs.declared.service.Service.{Service}
use Rattle.rail_service.specs.Refusals.{problem_of_wire}
use Rattle.rail_service.specs.Connections.{ServiceView, IsAnswer}
use Rattle.rail_service.specs.Moments.{IsGivenCut}

-- what contracts see of a service, by what its clock tells
abbrev pub view_of : {C : Type 0} → (C → Option (ℕ → ℕ)) → Service C → ServiceView
view_of told s = record { desk = s.desk.now; first = s.first; clock = told s.clock.now }

-- a request is answered so, by a service that stays with its catalogue, its books, its desk and its clock
pub record Responds {C : Type 0} (told : C → Option (ℕ → ℕ)) (before : Service C) (request : RequestText)
    (text : List ℕ) (after : Service C) : Type 0 where
  pub answer : IsAnswer before.cat.now (view_of told before) request text (view_of told after)
  pub tidy : IsTidy before.desk.now → IsTidy after.desk.now
  pub cat : after.cat.now ≡ before.cat.now
  pub books : after.books.now ≡ before.books.now
  pub desk : after.desk.ghost_name ≡ before.desk.ghost_name
  pub clock : after.clock.ghost_name ≡ before.clock.ghost_name

-- An answer waits for a cut that an `end` of the clock gave, where a command of some reach had begun, and 0 is none. Or
-- it waits for none, where the desk has done nothing.
abbrev pub Awaits : {C : Type 0} → (C → Reach → Type 0) → (C → ℕ → C → Type 0) → Service C → ℕ → Service C → Type 0
Awaits begun ends before cut after =
    ((cut ≡ 0) × (after.desk.now ≡ before.desk.now))
    ⊎ IsGivenCut begun ends before.desk.now after.desk.now cut after.clock.now

abbrev pub Declines : {C : Type 0} → Service C → WireFault → List ℕ → Type 0
Declines service fault text = text ≡ reply_bytes service.cat.now true (problem (problem_of_wire fault))
