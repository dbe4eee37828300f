-- What a reader of a line of a text answers.
use Rattle.std.specs.Prelude.{◌≡◌, ℕ, ◌≤◌, ◌++◌, ◌∷◌, Bool, false, true, List, [], Option, Some, None, IfSome, IsSomeAnd, length, map, nat_lt, if◌then◌else◌}
use Rattle.std.specs.List.{AllByRecursion}
use Rattle.leg_masks.specs.Interval.{PlacedSpan as Item}
use Rattle.history_model.specs.Booking.{most_items}
use Rattle.line_text.specs.declared.heads.Head.{Head}
use Rattle.line_text.specs.declared.heads.SaidItem.{SaidItem}
use Rattle.line_text.specs.declared.ends.SaidEnd.{SaidEnd}
use Rattle.line_text.specs.Lines.{AreItemNumbers, IsNumber, IsSayable, SaidBooking}
use Rattle.line_text.specs.Lines.{booking_line, first_line, items_fields, number_field}
use Rattle.line_text.specs.Reads.{IsCut}
use Rattle.cold_store.specs.Right.{IsWithin, head_of, kept_item}

-- the items are those that were said; there are none where these are too many, or one doesn't lie within its place
abbrev pub AreItemsOf : List ℕ → List SaidItem → Option (List Item) → Type 0
AreItemsOf legs said (Some items) =
    AllByRecursion (IsWithin legs) said × (length said ≤ most_items) × (items ≡ map kept_item said)
AreItemsOf legs said None = ¬ (AllByRecursion (IsWithin legs) said × (length said ≤ most_items))

pub record ReadsItems (legs : List ℕ) (count : ℕ) (old new : List ℕ) (read : Option (Option (List Item))) : Type 0 where
  pub found : IfSome read (λ items. (said : List SaidItem) × AllByRecursion AreItemNumbers said × (length said ≡ count)
      × (old ≡ items_fields said ++ new) × AreItemsOf legs said items)
  pub only : (said : List SaidItem) (rest : List ℕ) → AllByRecursion AreItemNumbers said → length said ≡ count
      → IsCut rest → old ≡ items_fields said ++ rest → IsSomeAnd read (AreItemsOf legs said) × (new ≡ rest)

-- the items with one more
abbrev pub items_with : Option (List Item) → Option Item → Option (List Item)
items_with (Some items) (Some item) = if nat_lt (length items) most_items then Some (items ++ item ∷ []) else None
items_with _ _ = None

-- a line that was read
pub record LineView : Type 0 where
  pub head : Head
  pub items : Option (List Item)
  pub end : SaidEnd

pub record IsLineOf (legs : List ℕ) (b : SaidBooking) (line : LineView) : Type 0 where
  pub head : line.head ≡ head_of b
  pub items : AreItemsOf legs b.items line.items
  pub end : line.end ≡ b.end

pub record ReadsLine (legs old new : List ℕ) (read : Option LineView) : Type 0 where
  pub found : IfSome read (λ line. (b : SaidBooking) × IsSayable b × (old ≡ booking_line b ++ 10 ∷ new)
      × IsLineOf legs b line)
  pub only : (b : SaidBooking) (rest : List ℕ) → IsSayable b → old ≡ booking_line b ++ 10 ∷ rest
      → IsSomeAnd read (IsLineOf legs b) × (new ≡ rest)

-- the first line with its line feed, which says these numbers of places and rows
pub record ReadsFirst (old new : List ℕ) (read : Option (ℕ × ℕ)) : Type 0 where
  pub found : IfSome read (λ sizes. IsNumber sizes.0 × IsNumber sizes.1
      × (old ≡ first_line sizes.0 sizes.1 ++ 10 ∷ new))
  pub only : (places rows : ℕ) (rest : List ℕ) → IsNumber places → IsNumber rows
      → old ≡ first_line places rows ++ 10 ∷ rest → (read ≡ Some (places, rows)) × (new ≡ rest)

-- what stands after `end` in the last line, with its line feed
pub record EatsLast (count : ℕ) (old new : List ℕ) (read : Bool) : Type 0 where
  pub found : read ≡ true → old ≡ number_field count ++ 10 ∷ new
  pub none : read ≡ false → (rest : List ℕ) → ¬ (old ≡ number_field count ++ 10 ∷ rest)
