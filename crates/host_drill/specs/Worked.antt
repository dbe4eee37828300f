-- What a worker's requests did, one after the other, and what each was answered.
use Rattle.std.specs.Prelude.{◌≡◌, ◌⊎◌, ℕ, ◌+◌, ◌*◌, ◌==◌, false, List, [], ◌∷◌, ◌++◌, length}
use Rattle.place_map.specs.declared.coach.Class.TheVariants.{Second}
use Rattle.train_runs.specs.declared.segment.Segment.{Segment}
use Rattle.history_model.specs.declared.entry.Step.{Step}
use Rattle.claim_rule.specs.Rule.{DeskView}
use Rattle.claim_rule.specs.Desks.{AddsSteps}
use Rattle.claim_rule.specs.Out.{IsIdle}
use Rattle.catalogue_contents.specs.Contents.{CatalogueView}
use Rattle.osdm_parts.specs.declared.problem.Problem.TheVariants.{NoMemory}
use Rattle.osdm_texts.specs.Answers.{Reply, problem, status_of}
use Rattle.rail_service.specs.Bytes.{reply_bytes}
use Rattle.reservation_service.specs.Reserving.{reserved, Reserves}
use Rattle.service_rules.specs.Performing.{DoesNothing}
use Rattle.host_drill.specs.Generator.{drill_leg}
use Rattle.host_drill.specs.Totals.{one_if}
use Rattle.host_drill.specs.Parts.{on_leg}
use Rattle.host_drill.specs.Fits.{drill_retailer}

-- the one leg of the drill's one run
abbrev pub leg_segment : ℕ → Segment
leg_segment leg = record { run = record { 0 = 0 }; span = on_leg leg }

-- the request for the leg is carried out at moment 0, or there was no memory to read its body
abbrev pub ReservesLeg : CatalogueView → ℕ → DeskView → DeskView → Reply → Type 0
ReservesLeg cat leg old new reply =
    Reserves cat drill_retailer 0 (reserved (leg_segment leg) Second 1 0 0) false old new reply
    ⊎ (DoesNothing old new × (reply ≡ problem NoMemory))

-- the requests from the k-th on are answered one after the other, each by its reply
abbrev pub AnswersEach : CatalogueView → ℕ → ℕ → DeskView → List Reply → List ℕ → DeskView → Type 0
AnswersEach cat seed k old [] written new = (written ≡ []) × (new ≡ old)
AnswersEach cat seed k old (reply ∷ more) written new =
    (mid : DeskView) × (steps : List Step) × (rest : List ℕ) × ReservesLeg cat (drill_leg seed k) old mid reply
    × AddsSteps old mid steps
    × IsIdle mid × (written ≡ reply_bytes cat false reply ++ rest) × AnswersEach cat seed (k + 1) mid more rest new

-- a worker's requests, from the desk that it began at
pub record IsWorked (cat : CatalogueView) (seed size worker : ℕ) (begins desk : DeskView) (answered : List ℕ)
    (replies : List Reply) : Type 0 where
  pub number : length replies ≡ size
  pub each : AnswersEach cat seed (worker * size) begins replies answered desk

-- how many of the replies have this status
abbrev pub replies_with : ℕ → List Reply → ℕ
replies_with status [] = 0
replies_with status (reply ∷ more) = one_if (status_of reply == status) + replies_with status more

-- and of all workers' replies
abbrev pub all_replies_with : ℕ → List (List Reply) → ℕ
all_replies_with status [] = 0
all_replies_with status (replies ∷ more) = replies_with status replies + all_replies_with status more
