-- What may be handed over next, at each moment of a connection, and what was.
use Rattle.std.specs.Prelude.{◌≡◌, ◌⊎◌, ℕ, List, Option, None}
use Rattle.history_model.specs.declared.entry.Step.{Step}
use Rattle.claim_rule.specs.Rule.{DeskView}
use Rattle.claim_rule.specs.Calls.{AddsStepsBy}
use Rattle.claim_rule.specs.Desks.{AddsSteps}
use Rattle.claim_rule.specs.Out.{AllLooks}
use Rattle.rail_ids.specs.declared.RetailerNo.{RetailerNo}
use Rattle.catalogue_contents.specs.Contents.{CatalogueView}
use Rattle.rail_io.specs.Told.{with_front}
use Rattle.rail_io.specs.declared.clock.Reach.{Reach}
use Rattle.rail_io.specs.declared.clock.Reach.TheVariants.{Changes}
use Rattle.session_loop.specs.declared.end.ConnEnd.{ConnEnd}
use Rattle.session_loop.specs.Moments.{Awaiting, Permitting, MayWrite}
use Rattle.session_loop.specs.Writes.{Showing, Handed}
use Rattle.rail_service.specs.Connections.{ServiceView, ConnectionView, answers_of, refusals_of, NeverDouble, HasServed}

-- a service at the start of a connection
abbrev pub service_at : DeskView → Option (ℕ → ℕ) → ServiceView
service_at desk clock = record { desk = desk; first = None; clock = clock }

-- A clock gave this cut by an `end`, at which a command of some reach had begun. Where that reach isn't to change
-- bookings, the desk has made looks alone from the one to the other.
pub record IsGivenCut {C : Type 0} (begun : C → Reach → Type 0) (ends : C → ℕ → C → Type 0) (old new : DeskView)
    (cut : ℕ) (after : C) : Type 0 where
  pub clock : C
  pub reach : Reach
  pub began : begun clock reach
  pub looks : (reach ≡ Changes → ⊥) → AddsStepsBy AllLooks old new
  pub given : ends clock cut after

-- The cut that a reply waits for: an `end` of the clock gave it, and 0 is none. Or 0, where the desk has done nothing.
abbrev pub CutGiven : {C : Type 0} → (C → Option (ℕ → ℕ)) → (C → Reach → Type 0) → (C → ℕ → C → Type 0)
    → Awaiting ServiceView
CutGiven {C} told begun ends before cut after =
    ((cut ≡ 0) × (after.desk ≡ before.desk))
    ⊎ ((clock : C) × IsGivenCut begun ends before.desk after.desk cut clock × (told clock ≡ after.clock))

-- whichever cut it waits for
abbrev pub AnyCut : Awaiting ServiceView
AnyCut before cut after = Unit {0}

-- At a moment of a connection these bytes may be handed over. They are all that is left of the defined reply to the
-- next request of a beginning of the bytes that were to come, or to what stands in its place. Calls of the outlet's own
-- took the replies to those before it, whole and in order, and nothing else. The replies are by entries that the desk
-- may have, in some legal history that begins with what it had seen, and in which no two live bookings ever share a
-- place on a leg.
pub record MayReply {K : Type 0} (cat : CatalogueView) (awaits : Awaiting ServiceView) (shows : Showing K)
    (before : ServiceView) (source : Option (List ℕ)) (sink now : K) (piece : List ℕ) : Type 0 where
  pub is : MayWrite (answers_of cat) (refusals_of cat) awaits shows before source sink now piece
  pub steps : List Step
  pub shape : AddsSteps before.desk is.after.desk steps
  pub no_double : NeverDouble is.after.desk

-- The outlet permits each such piece.
abbrev pub PermitsReplies : {K : Type 0} → Permitting K → CatalogueView → Awaiting ServiceView → Showing K → ServiceView
    → Option (List ℕ) → K → Type 0
PermitsReplies {K} permits cat awaits shows before source sink =
    (now : K) (piece : List ℕ) → MayReply cat awaits shows before source sink now piece → permits now piece

-- Up to this end calls of the outlet's own took just the defined replies to the requests of the bytes taken, in order.
-- So it is also of an outlet that tells no bytes, but shows its calls.
abbrev pub HandsReplies : {K : Type 0} → CatalogueView → Showing K → ConnectionView → ConnectionView → K → K → ConnEnd
    → Type 0
HandsReplies cat shows before after sink now end = (taken written : List ℕ) × (first : Option RetailerNo)
    × (before.source ≡ with_front taken after.source) × Handed shows sink written now
    × HasServed cat (record { desk = before.desk; first = None; clock = before.clock })
    (record { desk = after.desk; first = first; clock = after.clock }) taken after.source written end
