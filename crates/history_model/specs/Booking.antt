-- Bookings, the state that is a list of them, and what is occupied in it.
use Rattle.std.specs.Prelude.{ℕ, ℤ, pos, negsuc, ◌+◌, ◌*◌, ◌-◌, ◌==◌, ◌&&◌, max, Bool, not, List, [], ◌∷◌, Option, find, map, slice_index, replicate, if◌then◌else◌}
use Rattle.std.specs.List.{list_any, flat_map}
use Rattle.std.specs.Option.{option_map_or}
use Rattle.history_model.specs.declared.phase.Phase.{Phase}
use Rattle.history_model.specs.declared.phase.Phase.TheVariants.{Free}
use Rattle.history_model.specs.declared.phase.EndKind.{EndKind}
use Rattle.history_model.specs.declared.phase.EndKind.TheVariants.{Release, Expire, Refund, Exchange}
use Rattle.history_model.specs.declared.booking.BookedItem.{BookedItem}
use Rattle.history_model.specs.declared.booking.End.{End}
use Rattle.leg_masks.specs.Interval.{most_legs, has_leg}
use Rattle.history_model.specs.Lists.{change_first}

-- the sizes of the format: words of a row, and items of a booking
abbrev pub row_words : ℕ
row_words = 64

abbrev pub most_items : ℕ
most_items = 48

-- the words of a row by their numbers. They are how its booking stands, which is its phase and its generation; whose it
-- is, until when it may be confirmed, what it costs, and how many items it has. Then come its end's successor, amount
-- and moment, and its first item. The words past those of the items stay 0
abbrev pub standing_word : ℕ
standing_word = 0

abbrev pub retailer_word : ℕ
retailer_word = 1

abbrev pub limit_word : ℕ
limit_word = 2

abbrev pub total_word : ℕ
total_word = 3

abbrev pub count_word : ℕ
count_word = 4

abbrev pub end_successor_word : ℕ
end_successor_word = 5

abbrev pub end_amount_word : ℕ
end_amount_word = 6

abbrev pub end_moment_word : ℕ
end_moment_word = 7

abbrev pub first_item_word : ℕ
first_item_word = 8

-- how many rows there may be
abbrev pub most_rows : ℕ
most_rows = 262144

-- the last moment in seconds, 2099-12-31T23:59:59Z
abbrev pub last_moment : ℕ
last_moment = 4102444799

-- the greatest number of a retailer
abbrev pub greatest_retailer : ℕ
greatest_retailer = 4294967295

-- the greatest total, and the greatest amount paid back, in minor units
abbrev pub greatest_amount : ℕ
greatest_amount = 99999999999

-- the difference of an exchange lies between these two
abbrev pub least_difference : ℤ
least_difference = negsuc 99999999998

abbrev pub greatest_difference : ℤ
greatest_difference = pos 100009999999

-- a booking. Its words are those of its row; the standing word is not used here, since the phase stands for it
pub record Booking : Type 0 where
  pub row : ℕ
  pub generation : ℕ
  pub owner : ℕ
  pub phase : Phase
  pub items : List BookedItem
  pub words : List ℕ
  pub end : End

abbrev pub State : Type 0
State = List Booking

-- the places, with the number of legs of each, the number of rows, and the bookings at the beginning
pub record Layout : Type 0 where
  pub legs : List ℕ
  pub rows : ℕ
  pub opening : State

-- how many legs each place of a list host has
abbrev pub host_legs : ℕ
host_legs = most_legs

-- what a list host holds
pub record Host : Type 0 where
  pub layout : Layout
  pub bookings : State

abbrev pub layout_of : ℕ → ℕ → Layout
layout_of places rows = record { legs = replicate places host_legs; rows = rows; opening = [] }

-- word w of the booking's row, for w from 1
abbrev pub word_at : Booking → ℕ → ℕ
word_at b w = slice_index b.words w

abbrev pub limit_of : Booking → ℕ
limit_of b = word_at b limit_word

-- how many rows the word of a successor has room for
abbrev pub successor_rows : ℕ
successor_rows = 4294967296

-- how a booking stands as the successor of another, in a turn and in its end's successor word; 0 is for none
abbrev pub successor_word : ℕ → ℕ → ℕ
successor_word row generation = 1 + row + successor_rows * generation

-- the row and the generation, by which bookings differ
abbrev pub key_of : Booking → ℕ × ℕ
key_of b = (b.row, b.generation)

abbrev pub stands_as : ℕ → ℕ → Booking → Bool
stands_as row generation b = b.row == row && b.generation == generation

-- the booking of this row and generation
abbrev pub booking_at : State → ℕ → ℕ → Option Booking
booking_at s row generation = find (stands_as row generation) s

-- its phase, which is Free where there is none
abbrev pub phase_at : State → ℕ → ℕ → Phase
phase_at s row generation = option_map_or (λ b. b.phase) (booking_at s row generation) Free

-- one more than the highest generation of a row, and 0 where the row has none
abbrev pub next_in : List (ℕ × ℕ) → ℕ → ℕ
next_in [] row = 0
next_in (k ∷ ks) row = max (if k.0 == row then k.1 + 1 else 0) (next_in ks row)

abbrev pub next_generation : State → ℕ → ℕ
next_generation s row = next_in (map key_of s) row

-- whether the booking is the row's present one: that of the highest generation
abbrev pub stands_in : State → ℕ → Booking → Bool
stands_in s row = stands_as row (next_generation s row - 1)

abbrev pub present : State → ℕ → Option Booking
present s row = find (stands_in s row) s

abbrev pub phase_of_row : State → ℕ → Phase
phase_of_row s row = option_map_or (λ b. b.phase) (present s row) Free

-- the state with the row's booking changed
abbrev pub change : State → ℕ → (Booking → Booking) → State
change s row f = change_first (stands_in s row) f s

-- the items of all bookings
abbrev pub all_items : State → List BookedItem
all_items s = flat_map (λ b. b.items) s

-- the item is at the place, isn't given back, and has the leg
abbrev pub occupies : ℕ → ℕ → BookedItem → Bool
occupies place leg i = i.place == place && (not i.given_back && (has_leg i.span leg))

abbrev pub is_occupied : State → ℕ → ℕ → Bool
is_occupied s place leg = list_any (occupies place leg) (all_items s)

-- the amount of an end as a word
abbrev pub amount_word : EndKind → ℤ → ℕ
amount_word Release _ = 0
amount_word Expire _ = 0
amount_word Refund (pos n) = n
amount_word Refund (negsuc _) = 0
amount_word Exchange (pos n) = 2 * n
amount_word Exchange (negsuc n) = 2 * n + 1
