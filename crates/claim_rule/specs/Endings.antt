-- What an ending stands for, and what a turn answers.
use Rattle.std.specs.Prelude.{◌≡◌, ℕ, zero, suc, ◌<◌, ◌≤◌, ◌==◌, if◌then◌else◌, Bool, true, false, List, [], ◌∷◌, map, length, Some}
use Rattle.std.specs.List.{AllByRecursion}
use Rattle.leg_masks.specs.Interval.{item_word}
use Rattle.leg_masks.specs.Interval.{PlacedSpan as Item}
use Rattle.rail_ids.specs.declared.RowNo.{RowNo}
use Rattle.history_model.specs.declared.booking.BookedItem.{BookedItem}
use Rattle.history_model.specs.declared.booking.End.{End}
use Rattle.history_model.specs.declared.entry.Step.{Step}
use Rattle.history_model.specs.declared.entry.Step.TheVariants.{SawRow}
use Rattle.history_model.specs.declared.phase.EndKind.{EndKind}
use Rattle.history_model.specs.declared.phase.Phase.TheVariants.{Ending}
use Rattle.history_model.specs.Booking.{Booking, present, amount_word, first_item_word, count_word, end_successor_word, end_amount_word}
use Rattle.history_model.specs.History.{state_of}
use Rattle.claim_rule.specs.Rule.{DeskView, Each}
use Rattle.claim_rule.specs.Holds.{held, IsItem}

-- `given` of the items are given back, from the front. Where the items aren't read yet there are none here
pub record EndingView : Type 0 where
  pub row : RowNo
  pub kind : EndKind
  pub end : End
  pub items : List Item
  pub given : ℕ
  pub read : Bool

-- the items with this number from the front given back
abbrev pub given_front : ℕ → List BookedItem → List BookedItem
given_front zero items = items
given_front (suc more) [] = []
given_front (suc more) (item ∷ items) = record item { given_back = true } ∷ given_front more items

-- the booking is its row's present one, and the desk's, ending in this way, with these items
pub record IsEndingOf (desk : DeskView) (ending : EndingView) : Type 0 where
  pub booking : Booking
  pub found : present (state_of desk.layout desk.seen) ending.row.row ≡ Some booking
  pub generation : booking.generation ≡ ending.row.generation
  pub owner : booking.owner ≡ desk.number
  pub phase : booking.phase ≡ Ending ending.kind
  pub end : booking.end ≡ ending.end
  pub row : ending.row.row < desk.layout.rows
  pub few : ending.given ≤ length ending.items
  pub fresh :
      ending.read ≡ false → AllByRecursion (λ i. i.given_back ≡ false) booking.items × (ending.items ≡ [])
  pub items : ending.read ≡ true → booking.items ≡ given_front ending.given (map held ending.items)
  pub within : Each (IsItem desk.layout) ending.items

-- an ending as a turn leaves it
abbrev pub unread : RowNo → EndKind → End → EndingView
unread row kind end = record { row = row; kind = kind; end = end; items = []; given = 0; read = false }

-- the end words, 5 to 7
abbrev pub end_word : EndKind → End → ℕ → ℕ
end_word kind end word =
    if word == end_successor_word then end.successor
    else if word == end_amount_word then amount_word kind end.amount else end.moment

-- the looks at the words of items, from one on
abbrev pub item_looks : ℕ → ℕ → List Item → List Step
item_looks row word [] = []
item_looks row word (item ∷ items) =
    SawRow row word (item_word item.place item.span) ∷ item_looks row (suc word) items

-- the looks that read the items of a row
abbrev pub items_read : ℕ → List Item → List Step
items_read row items = SawRow row count_word (length items) ∷ item_looks row first_item_word items
