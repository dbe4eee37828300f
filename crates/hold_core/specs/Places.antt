-- Adding places to a hold, and giving them back.
use Rattle.std.specs.Prelude.{◌≡◌, ◌≢◌, ℕ, ◌+◌, ◌<◌, List, [], ◌∷◌, ◌++◌, length, map, zero, suc}
use Rattle.std.specs.List.{AllByRecursion}
use Rattle.leg_masks.specs.Interval.{Interval}
use Rattle.leg_masks.specs.Interval.{PlacedSpan as Item}
use Rattle.history_model.specs.declared.entry.Step.{Step}
use Rattle.history_model.specs.declared.entry.Step.TheVariants.{Give}
use Rattle.claim_rule.specs.Rule.{DeskView}
use Rattle.claim_rule.specs.Holds.{HoldView}
use Rattle.claim_rule.specs.Calls.{AddsStepsBy}
use Rattle.hold_core.specs.declared.tries.Outcome.{Outcome}
use Rattle.hold_core.specs.declared.tries.Outcome.TheVariants.{Won, Refused, Contended}
use Rattle.hold_core.specs.declared.adds.Added.{Added}
use Rattle.hold_core.specs.declared.adds.Added.TheVariants as added
use Rattle.hold_core.specs.Tries.{Try, IsTry, items_tried, try_steps, with_items}

abbrev pub won_by : Interval → Try → List Item
won_by span t = items_tried t.place span t.outcome

-- the items that the tries added
abbrev pub items_won : Interval → List Try → List Item
items_won span [] = []
items_won span (t ∷ ts) = won_by span t ++ items_won span ts

abbrev pub place_won : ℕ → Outcome → List ℕ
place_won place Won = place ∷ []
place_won place Refused = []
place_won place Contended = []

-- the places that the tries won, in order
abbrev pub places_won : List Try → List ℕ
places_won [] = []
places_won (t ∷ ts) = place_won t.place t.outcome ++ places_won ts

-- the steps of the tries, of which the first would add the item of this number
abbrev pub tries_steps : ℕ → ℕ → Interval → List Try → List Step
tries_steps row k span [] = []
tries_steps row k span (t ∷ ts) = try_steps row k t ++ tries_steps row (k + length (won_by span t)) span ts

-- the places that were tried, in order
abbrev pub tried : List Try → List ℕ
tried tries = map (λ t. t.place) tries

-- each was won or refused
abbrev pub AllSettled : List Try → Type 0
AllSettled tries = AllByRecursion (λ t. t.outcome ≢ Contended) tries

-- the last of them ended so, and those before it were won or refused
pub record EndsWith (tries : List Try) (outcome : Outcome) : Type 0 where
  pub before : List Try
  pub last : Try
  pub are : tries ≡ before ++ last ∷ []
  pub settled : AllSettled before
  pub ends : last.outcome ≡ outcome

-- The tries, one for each of the first candidates in order, and what came of them. Either as many places were won as
-- were wanted, the last among them. Or all candidates were tried, and too few won; or the last one was contended, with
-- too few won before it
abbrev pub IsAdding : Interval → ℕ → List ℕ → List Try → Added → Type 0
IsAdding span count candidates tries added.All =
    EndsWith tries Won × (length (places_won tries) ≡ count) × ((left : List ℕ) × (candidates ≡ tried tries ++ left))
IsAdding span count candidates tries (added.NoPlace won) =
    AllSettled tries × (length (places_won tries) ≡ won) × (won < count) × (candidates ≡ tried tries)
IsAdding span count candidates tries (added.Contended place) =
    ((ends : EndsWith tries Contended) × (ends.last.place ≡ place.0))
    × (length (places_won tries) < count) × ((left : List ℕ) × (candidates ≡ tried tries ++ left))

-- the steps of adding places to a hold of the row that has that many items, with the items won
pub record Adds (row k : ℕ) (span : Interval) (count : ℕ) (candidates : List ℕ) (answer : Added) (won : List Item)
    (es : List Step) : Type 0 where
  pub tries : List Try
  pub each : AllByRecursion (IsTry span) tries
  pub adding : IsAdding span count candidates tries answer
  pub items : won ≡ items_won span tries
  pub steps : es ≡ tries_steps row k span tries

-- the steps that add places to the hold, and the hold with the items won after those that it had
abbrev pub AddsPlaces : DeskView → HoldView → Interval → ℕ → List ℕ → Added → DeskView → HoldView → Type 0
AddsPlaces old hold span count candidates answer new held =
    (won : List Item)
    × AddsStepsBy (Adds hold.row.row (length hold.items) span count candidates answer won) old new
    × (held ≡ with_items hold won)

-- how many entries there are at most for one candidate: for each of two pieces eight looks, a take and a note
abbrev pub most_entries : ℕ
most_entries = 20

-- the items of a row are given back, from the last to the first
abbrev pub gives_back : ℕ → ℕ → List Step
gives_back row zero = []
gives_back row (suc n) = Give row n ∷ gives_back row n
