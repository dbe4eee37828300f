-- Bookings that are kept: the list of them that a state gives, and the state that a later history opens with.
use Rattle.std.specs.Prelude.{◌≡◌, ℕ, ◌-◌, ◌<◌, pos, Bool, List, [], ◌∷◌, ◌++◌, map, length, filter_map, replicate, Option, Some, None, option_and_then, ◌==◌, if◌then◌else◌}
use Rattle.std.specs.List.{AllByRecursion, range_with_len}
use Rattle.leg_masks.specs.Interval.{item_word}
use Rattle.leg_masks.specs.Interval.{PlacedSpan as Item}
use Rattle.history_model.specs.declared.booking.BookedItem.{BookedItem}
use Rattle.history_model.specs.declared.booking.End.{End}
use Rattle.history_model.specs.declared.phase.Phase.{Phase}
use Rattle.history_model.specs.declared.phase.Phase.TheVariants.{Free, Making, Ended}
use Rattle.history_model.specs.declared.phase.EndKind.TheVariants.{Release}
use Rattle.history_model.specs.Lists.{Pairwise}
use Rattle.history_model.specs.Phase.{is_ended}
use Rattle.history_model.specs.Booking.{Booking, Layout, State, amount_word, first_item_word, present, row_words, word_at, retailer_word, limit_word, total_word}
use Rattle.history_model.specs.Laws.{IsOpening}
use Rattle.history_model.specs.Words.{AreWordsOf}
use Rattle.history_model.specs.WholeEnds.{end_at}

-- a booking that is kept. Where it hasn't ended its end is `no_end`
pub record KeptBooking : Type 0 where
  pub row : ℕ
  pub generation : ℕ
  pub phase : Phase
  pub retailer : ℕ
  pub limit : ℕ
  pub total : ℕ
  pub items : List Item
  pub end : End

abbrev pub no_end : End
no_end = end_at 0 (pos 0) 0

-- the end that counts: an ended booking's own
abbrev pub end_in : Phase → End → End
end_in (Ended kind) end = end
end_in _ end = no_end

abbrev pub placed : BookedItem → Item
placed item = record { place = item.place; span = item.span }

abbrev pub kept_as : Booking → KeptBooking
kept_as booking =
    record {
      row = booking.row;
      generation = booking.generation;
      phase = booking.phase;
      retailer = word_at booking retailer_word;
      limit = word_at booking limit_word;
      total = word_at booking total_word;
      items = map placed booking.items;
      end = end_in booking.phase booking.end;
    }

-- what is kept of a row that serves again, and whose booking isn't made yet: that the generations up to this one are
-- gone. No retailer has number 0, so it is unknown to all
abbrev pub stub : ℕ → ℕ → KeptBooking
stub row generation =
    record {
      row = row;
      generation = generation;
      phase = Ended Release;
      retailer = 0;
      limit = 0;
      total = 0;
      items = record { place = 0; span = record { from = 0; to = 1 } } ∷ [];
      end = no_end;
    }

-- what is kept of a booking in this phase
abbrev pub kept_in : Phase → Booking → Option KeptBooking
kept_in Free booking = None
kept_in Making booking =
    if booking.generation == 0 then None else Some (stub booking.row booking.generation)
kept_in _ booking = Some (kept_as booking)

abbrev pub kept_of_row : State → ℕ → Option KeptBooking
kept_of_row state row = option_and_then (λ b. kept_in b.phase b) (present state row)

-- the present bookings of the rows below a number that are kept, in rising row
abbrev pub kept_bookings : ℕ → State → List KeptBooking
kept_bookings rows state = filter_map (kept_of_row state) (range_with_len 0 rows)

-- the item as a booking has it, given back or not
abbrev pub booked : Bool → Item → BookedItem
booked given item = record { place = item.place; span = item.span; given_back = given }

-- the words 5 to 7
abbrev pub end_words : Phase → End → List ℕ
end_words (Ended kind) end = end.successor ∷ amount_word kind end.amount ∷ end.moment ∷ []
end_words _ end = 0 ∷ 0 ∷ 0 ∷ []

-- the words of the items, and 0 in all words after them
abbrev pub item_words : List Item → List ℕ
item_words items =
    map (λ i. item_word i.place i.span) items ++ replicate ((row_words - first_item_word) - length items) 0

-- the words of the row; word 0 is not used here
abbrev pub opening_words : KeptBooking → List ℕ
opening_words kept =
    (0 ∷ kept.retailer ∷ kept.limit ∷ kept.total ∷ length kept.items ∷ end_words kept.phase kept.end)
    ++ item_words kept.items

abbrev pub opening_booking : KeptBooking → Booking
opening_booking kept =
    record {
      row = kept.row;
      generation = kept.generation;
      owner = 0;
      phase = kept.phase;
      items = map (booked (is_ended kept.phase)) kept.items;
      words = opening_words kept;
      end = end_in kept.phase kept.end;
    }

-- the state that a history opens with
abbrev pub opening_of : List KeptBooking → State
opening_of kept = map opening_booking kept

-- the layout of books that open with these bookings
abbrev pub layout_with : List ℕ → ℕ → List KeptBooking → Layout
layout_with legs rows kept = record { legs = legs; rows = rows; opening = opening_of kept }

-- in rising row
abbrev pub AreRising : List KeptBooking → Type 0
AreRising kept = Pairwise (λ j k. j.row < k.row) kept

-- a booking that hasn't ended has no end
abbrev pub HasOwnEnd : KeptBooking → Type 0
HasOwnEnd kept = kept.end ≡ end_in kept.phase kept.end

-- The bookings may be kept ones of books of these legs and rows. An opening has its rows, ends and successors in range
pub record MayOpen (legs : List ℕ) (rows : ℕ) (kept : List KeptBooking) : Type 0 where
  pub rising : AreRising kept
  pub ends : AllByRecursion HasOwnEnd kept
  pub opening : IsOpening (layout_with legs rows kept) (opening_of kept)

-- And the words are those of the state that they open with. Where no place has more legs than there may be, no other
-- list has the same words
pub record OpensWith (legs : List ℕ) (rows : ℕ) (words : List ℕ) (kept : List KeptBooking) : Type 0 where
  pub may : MayOpen legs rows kept
  pub are : AreWordsOf (layout_with legs rows kept) (opening_of kept) words

-- the layout opens with the list of each such words, of which there is just one
abbrev pub AllOpenings : List ℕ → ℕ → List ℕ → Layout → Type 0
AllOpenings legs rows words layout =
    (kept : List KeptBooking) → OpensWith legs rows words kept → layout ≡ layout_with legs rows kept

-- the layout opens with one such list
abbrev pub IsLayoutOf : List ℕ → ℕ → List ℕ → Layout → Type 0
IsLayoutOf legs rows words layout =
    (kept : List KeptBooking) × OpensWith legs rows words kept × (layout ≡ layout_with legs rows kept)
