-- A try of one candidate: the looks at each piece of the span in turn, and how it ended.
use Rattle.std.specs.Prelude.{◌≡◌, ◌≢◌, ◌⊎◌, ℕ, ◌+◌, ◌-◌, ◌≤◌, List, [], ◌∷◌, ◌++◌, length, map}
use Rattle.std.specs.List.{AllByRecursion}
use Rattle.leg_masks.specs.Interval.{Interval, IsClear, item_word, items_at, pieces}
use Rattle.leg_masks.specs.Interval.{PlacedSpan as Item}
use Rattle.rail_ids.specs.declared.PlaceNo.{PlaceNo}
use Rattle.history_model.specs.declared.entry.Step.{Step}
use Rattle.history_model.specs.declared.entry.Step.TheVariants.{Take, Give, Note}
use Rattle.history_model.specs.Booking.{first_item_word}
use Rattle.history_model.specs.Looks.{look_at}
use Rattle.claim_rule.specs.Rule.{DeskView}
use Rattle.claim_rule.specs.Desks.{AddsSteps}
use Rattle.claim_rule.specs.Holds.{HoldView, with_one}
use Rattle.hold_core.specs.declared.tries.Outcome.{Outcome}
use Rattle.hold_core.specs.declared.tries.Outcome.TheVariants.{Won, Refused, Contended}

abbrev pub place_number : PlaceNo → ℕ
place_number p = p.0

-- how many looks at one piece there are at most: a take is tried after each but the last
abbrev pub most_looks : ℕ
most_looks = 9

abbrev pub most_takes : ℕ
most_takes = 8

-- the looks at one piece of a candidate, with what they showed, and how they ended
pub record Part : Type 0 where
  pub piece : Interval
  pub shown : List ℕ
  pub outcome : Outcome

-- the parts of one candidate that were tried, and how its try ended
pub record Try : Type 0 where
  pub place : ℕ
  pub parts : List Part
  pub outcome : Outcome

abbrev pub looks_at : ℕ → Interval → List ℕ → List Step
looks_at place piece shown = map (λ word. look_at place piece word) shown

-- each unlike the one before
abbrev pub AreMoving : List ℕ → Type 0
AreMoving [] = Unit {0}
AreMoving (a ∷ []) = Unit {0}
AreMoving (a ∷ b ∷ rest) = (b ≢ a) × AreMoving (b ∷ rest)

-- all free on the piece
abbrev pub AllClear : Interval → List ℕ → Type 0
AllClear piece shown = AllByRecursion (λ word. IsClear word piece) shown

-- all but the last free on the piece, and that one not
abbrev pub EndsTaken : Interval → List ℕ → Type 0
EndsTaken piece shown =
    (front : List ℕ) × (last : ℕ) × AllClear piece front × (¬ IsClear last piece) × (shown ≡ front ++ last ∷ [])

abbrev pub IsOutcome : Interval → List ℕ → Outcome → Type 0
IsOutcome piece shown Won = (length shown ≤ most_takes) × AllClear piece shown
IsOutcome piece shown Refused = (length shown ≤ most_looks) × EndsTaken piece shown
IsOutcome piece shown Contended = (length shown ≡ most_looks) × AllClear piece shown

pub record IsPart (t : Part) : Type 0 where
  pub some : 1 ≤ length t.shown
  pub moving : AreMoving t.shown
  pub outcome : IsOutcome t.piece t.shown t.outcome

-- a part for each of the pieces in turn, up to the first that isn't won; all together end as the last of them
abbrev pub AreParts : List Interval → List Part → Outcome → Type 0
AreParts [] [] outcome = outcome ≡ Won
AreParts [] (t ∷ ts) outcome = ⊥
AreParts (piece ∷ pieces) [] outcome = ⊥
AreParts (piece ∷ pieces) (t ∷ ts) outcome =
    (t.piece ≡ piece) × IsPart t
    × (((t.outcome ≡ Won) × AreParts pieces ts outcome) ⊎ ((t.outcome ≢ Won) × (ts ≡ []) × (outcome ≡ t.outcome)))

abbrev pub IsTry : Interval → Try → Type 0
IsTry span t = AreParts (pieces span) t.parts t.outcome

-- the take of the item of this number, and its note
abbrev pub won_steps : ℕ → ℕ → ℕ → Interval → Outcome → List Step
won_steps row k place piece Won = Take row place piece ∷ Note row (first_item_word + k) (item_word place piece) ∷ []
won_steps row k place piece Refused = []
won_steps row k place piece Contended = []

-- the steps of a part, whose item would have this number
abbrev pub part_steps : ℕ → ℕ → ℕ → Part → List Step
part_steps row k place t = looks_at place t.piece t.shown ++ won_steps row k place t.piece t.outcome

-- the steps of the parts, of which each but the last adds an item
abbrev pub parts_steps : ℕ → ℕ → ℕ → List Part → List Step
parts_steps row k place [] = []
parts_steps row k place (t ∷ ts) = part_steps row k place t ++ parts_steps row (k + 1) place ts

-- where a candidate isn't won, its first piece is given back, if that one was won
abbrev pub undone : ℕ → ℕ → Outcome → List Part → List Step
undone row k Won parts = []
undone row k Refused (first ∷ second ∷ rest) = Give row k ∷ []
undone row k Contended (first ∷ second ∷ rest) = Give row k ∷ []
undone row k outcome parts = []

-- the steps of a try, whose first item would have this number
abbrev pub try_steps : ℕ → ℕ → Try → List Step
try_steps row k t = parts_steps row k t.place t.parts ++ undone row k t.outcome t.parts

-- what a try adds to the hold: an item for each piece, or none
abbrev pub items_tried : ℕ → Interval → Outcome → List Item
items_tried place span Won = items_at span place
items_tried place span Refused = []
items_tried place span Contended = []

abbrev pub piece_won : ℕ → Interval → Outcome → List Item
piece_won place piece Won = record { place = place; span = piece } ∷ []
piece_won place piece Refused = []
piece_won place piece Contended = []

abbrev pub with_items : HoldView → List Item → HoldView
with_items hold more = record { row = hold.row; items = hold.items ++ more }

-- the try of one piece of a place that a desk made for its hold, with what the hold has then
abbrev pub TriesPiece : DeskView → HoldView → ℕ → Interval → DeskView → HoldView → Outcome → Type 0
TriesPiece old hold place piece new held outcome =
    (shown : List ℕ) × IsPart (record { piece = piece; shown = shown; outcome = outcome })
    × AddsSteps old new (part_steps hold.row.row (length hold.items) place
    (record { piece = piece; shown = shown; outcome = outcome }))
    × (held ≡ with_items hold (piece_won place piece outcome))

-- the same of all pieces of the span
abbrev pub TriesPlace : DeskView → HoldView → ℕ → Interval → DeskView → HoldView → Outcome → Type 0
TriesPlace old hold place span new held outcome =
    (parts : List Part) × AreParts (pieces span) parts outcome
    × AddsSteps old new (try_steps hold.row.row (length hold.items)
    (record { place = place; parts = parts; outcome = outcome }))
    × (held ≡ with_items hold (items_tried place span outcome))

-- where the second piece isn't won, the hold's last item is given back
abbrev pub given_first : HoldView → Outcome → List Step
given_first hold Won = []
given_first hold Refused = Give hold.row.row (length hold.items - 1) ∷ []
given_first hold Contended = Give hold.row.row (length hold.items - 1) ∷ []

-- what the hold has after the second piece: its item too, or no more the first one's
abbrev pub HasSecond : HoldView → ℕ → Interval → Outcome → HoldView → Type 0
HasSecond hold place piece Won held = held ≡ with_one hold (record { place = place; span = piece })
HasSecond hold place piece Refused held = (first : Item) × (hold ≡ with_one held first)
HasSecond hold place piece Contended held = (first : Item) × (hold ≡ with_one held first)

-- the try of the second piece, after the first that was won: where it isn't won, the first is given back
abbrev pub TriesSecond : DeskView → HoldView → ℕ → Interval → DeskView → HoldView → Outcome → Type 0
TriesSecond old hold place piece new held outcome =
    (shown : List ℕ) × IsPart (record { piece = piece; shown = shown; outcome = outcome })
    × AddsSteps old new (part_steps hold.row.row (length hold.items) place
    (record { piece = piece; shown = shown; outcome = outcome }) ++ given_first hold outcome)
    × HasSecond hold place piece outcome held
