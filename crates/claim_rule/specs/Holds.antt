-- What a hold stands for.
use Rattle.std.specs.Prelude.{◌≡◌, ◌<◌, ◌≤◌, List, [], ◌∷◌, ◌++◌, map, length, slice_index, Some, None, false}
use Rattle.rail_ids.specs.declared.RowNo.{RowNo}
use Rattle.leg_masks.specs.Interval.{IsPiece, most_legs}
use Rattle.leg_masks.specs.Interval.{PlacedSpan as Item}
use Rattle.history_model.specs.declared.booking.BookedItem.{BookedItem}
use Rattle.history_model.specs.declared.phase.Phase.TheVariants.{Making}
use Rattle.history_model.specs.Booking.{Layout, Booking, present}
use Rattle.history_model.specs.History.{state_of}
use Rattle.claim_rule.specs.Rule.{DeskView, Each}

pub record HoldView : Type 0 where
  pub row : RowNo
  pub items : List Item

-- an item as its holder has it
abbrev pub held : Item → BookedItem
held item = record { place = item.place; span = item.span; given_back = false }

-- the item lies within its place, in one half
pub record IsItem (layout : Layout) (item : Item) : Type 0 where
  pub place : item.place < length layout.legs
  pub some : item.span.from < item.span.to
  pub within : item.span.to ≤ slice_index layout.legs item.place
  pub fits : item.span.to ≤ most_legs
  pub piece : IsPiece item.span

-- the booking is its row's present one, and the desk's, in the making, with just these items
pub record StandsFor (desk : DeskView) (hold : HoldView) : Type 0 where
  pub booking : Booking
  pub found : present (state_of desk.layout desk.seen) hold.row.row ≡ Some booking
  pub generation : booking.generation ≡ hold.row.generation
  pub owner : booking.owner ≡ desk.number
  pub making : booking.phase ≡ Making
  pub items : booking.items ≡ map held hold.items
  pub row : hold.row.row < desk.layout.rows
  pub within : Each (IsItem desk.layout) hold.items

-- the hold is this desk's, and is out: the desk keeps no other row
abbrev pub IsHoldOf : DeskView → HoldView → Type 0
IsHoldOf desk hold = StandsFor desk hold × (desk.kept ≡ None)

abbrev pub empty_hold : RowNo → HoldView
empty_hold row = record { row = row; items = [] }

abbrev pub with_one : HoldView → Item → HoldView
with_one hold item = record { row = hold.row; items = hold.items ++ item ∷ [] }
