-- Which call of a desk begins after which.
use Rattle.std.specs.Prelude.{◌≡◌, ◌⊎◌, List}
use mathlib.Core.List.{IsPrefix}
use Rattle.history_model.specs.declared.entry.Entry.{Entry}
use Rattle.history_model.specs.declared.entry.Step.{Step}
use Rattle.history_model.specs.History.{own}
use Rattle.claim_rule.specs.Rule.{DeskView, HasAll}
use Rattle.claim_rule.specs.Desks.{AddsSteps}
use Rattle.expiry_sweeper.specs.Complete.{BeginsAt}

-- a call may be said to begin where its desk had seen no more
abbrev pub CallsBeginAtSeen : Type 0
CallsBeginAtSeen = (old new : DeskView) (steps : List Step) → AddsSteps old new steps → BeginsAt old new old.seen

-- the call adds no entry, or it begins after all that the desk of an earlier call had seen when that was answered
abbrev pub BeginsAfter : DeskView → DeskView → DeskView → Type 0
BeginsAfter earlier old new =
    (own new.seen old.number ≡ own old.seen old.number)
    ⊎ ((begun : List Entry) × BeginsAt old new begun × IsPrefix earlier.seen begun)

-- Calls in their order in time. Between them, when the earlier was answered and the other hadn't begun, both desks had
-- seen beginnings of one history, the other with all its own entries
abbrev pub CallsInOrder : Type 0
CallsInOrder =
    (earlier old new : DeskView) (steps : List Step) (between later : List Entry) → AddsSteps old new steps
    → IsPrefix earlier.seen between → IsPrefix old.seen between → HasAll between old.seen old.number
    → IsPrefix between later → IsPrefix new.seen later → BeginsAfter earlier old new

-- where a desk has learned what another told, each of its calls begins after all that the other had seen
abbrev pub LearnedCallsAreLater : Type 0
LearnedCallsAreLater =
    (told old new : DeskView) (steps : List Step) → AddsSteps old new steps → IsPrefix told.seen old.seen
    → BeginsAfter told old new
