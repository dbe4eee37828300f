-- What an export answers.
use Rattle.std.specs.Prelude.{◌≡◌, ◌≢◌, ◌⊎◌, ℕ, ◌<◌, ◌≤◌, ◌&&◌, nat_lt, All, Bool, true, List, map, filter, length, slice_get, slice_index, slice_set, bit_or, Some, None, ◌++◌, ◌∷◌, [], flat_map, option_to_list}
use Rattle.leg_masks.specs.Interval.{half_of, halves, mask, most_places}
use Rattle.leg_masks.specs.Interval.{PlacedSpan as Item}
use Rattle.history_model.specs.declared.phase.Phase.{Phase}
use Rattle.history_model.specs.declared.phase.Phase.TheVariants.{Making, Ending, Ended}
use Rattle.history_model.specs.declared.phase.EndKind.{EndKind}
use Rattle.history_model.specs.declared.phase.EndKind.TheVariants.{Exchange}
use Rattle.history_model.specs.Allowed.{OnRow}
use Rattle.history_model.specs.Booking.{Booking, State, present, successor_rows, successor_word}
use Rattle.history_model.specs.History.{IsLegal, state_of}
use Rattle.history_model.specs.Phase.{is_live, is_sealed}
use Rattle.history_model.specs.Words.{AreWordsOf, place_number, place_word, place_words, row_word}
use Rattle.claim_rule.specs.Openings.{KeptBooking, kept_bookings, kept_of_row, placed, stub}
use Rattle.claim_rule.specs.Rule.{most_place_legs}
use Rattle.claim_rule.specs.Walls.{WallView}
use Rattle.cold_store.specs.declared.fault.ExportFault.{ExportFault}
use Rattle.cold_store.specs.declared.fault.ExportFault.TheVariants.{RowOpen, PlaceHeld, NoMemory}
use Rattle.cold_store.specs.Written.{said_of}
use Rattle.line_text.specs.Lines.{SaidBooking, booking_line, end_fields, export_text_of, items_fields, number_field, text_of}

abbrev pub state_on : WallView → State
state_on w = state_of w.layout w.history

-- the wall is one that books were closed to: its words are those of its history, which is legal, and it has no more
-- places, and these no more legs, than books may have
pub record IsClosed (w : WallView) : Type 0 where
  pub legal : IsLegal w.layout w.history
  pub are : AreWordsOf w.layout (state_on w) w.words
  pub places : length w.layout.legs ≤ most_places
  pub legs : All (λ n. n ≤ most_place_legs) w.layout.legs

-- the row is free, or its booking of just this generation is in the making
abbrev pub IsUnmade : State → ℕ → ℕ → Type 0
IsUnmade s row generation =
    (present s row ≡ None) ⊎ OnRow s row (λ b. (b.phase ≡ Making) × (b.generation ≡ generation))

-- the word is that of a successor that isn't made yet
abbrev pub SaysUnmade : State → ℕ → Type 0
SaysUnmade s word =
    (row generation : ℕ) × (row < successor_rows) × (word ≡ successor_word row generation) × IsUnmade s row generation

-- ending, or exchanged for a booking that isn't made yet
abbrev pub IsOpenBooking : State → Booking → Type 0
IsOpenBooking s b =
    ((kind : EndKind) × (b.phase ≡ Ending kind)) ⊎ ((b.phase ≡ Ended Exchange) × SaysUnmade s b.end.successor)

-- it lives, and its row is below a number
abbrev pub is_live_below : ℕ → Booking → Bool
is_live_below rows b = nat_lt b.row rows && is_live b.phase

abbrev pub IsOpenRow : State → ℕ → Type 0
IsOpenRow s row = OnRow s row (IsOpenBooking s)

-- the half of the place isn't taken just by the live bookings
abbrev pub IsHeldHalf : State → ℕ → ℕ → Type 0
IsHeldHalf s place half = place_word s place half ≢ place_word (filter (λ b. is_live b.phase) s) place half

-- a half of it isn't
abbrev pub IsHeldPlace : State → ℕ → Type 0
IsHeldPlace s place = (half : ℕ) × (half < halves) × IsHeldHalf s place half

-- none below a number, and the least below it
abbrev pub NoneBelow : ℕ → (ℕ → Type 0) → Type 0
NoneBelow count P = (n : ℕ) → n < count → ¬ P n

abbrev pub IsLeastBelow : ℕ → (ℕ → Type 0) → ℕ → Type 0
IsLeastBelow count P n = (n < count) × P n × NoneBelow n P

abbrev pub NoneOpen : WallView → Type 0
NoneOpen w = NoneBelow w.layout.rows (IsOpenRow (state_on w))

abbrev pub NoneHeld : WallView → Type 0
NoneHeld w = NoneBelow (length w.layout.legs) (IsHeldPlace (state_on w))

abbrev pub said_on : WallView → List SaidBooking
said_on w = map said_of (kept_bookings w.layout.rows (state_on w))

abbrev pub text_on : WallView → List ℕ
text_on w = export_text_of (length w.layout.legs) w.layout.rows (said_on w)

-- the row's booking is sealed, and has an item at this place of its list
abbrev pub HasItem : WallView → ℕ → ℕ → Type 0
HasItem w row item = OnRow (state_on w) row (λ b. (is_sealed b.phase ≡ true) × (item < length b.items))

-- and this is it
abbrev pub IsItemAt : WallView → ℕ → ℕ → Item → Type 0
IsItemAt w row item i = OnRow (state_on w) row (λ b. slice_get (map placed b.items) item ≡ Some i)

-- the words are those of the places as the live bookings of the rows below a number take them
pub record AreLiveWords (w : WallView) (rows : ℕ) (words : List ℕ) : Type 0 where
  pub count : length words ≡ place_words w.layout
  pub each : (place half : ℕ) → place < length w.layout.legs → half < halves
      → slice_index words (place_number place half) ≡ place_word (filter (is_live_below rows) (state_on w)) place half

-- the words with the legs of an item added to the word of its half
abbrev pub item_number : Item → ℕ
item_number i = place_number i.place (half_of i.span)

abbrev pub with_item : Item → List ℕ → List ℕ
with_item i words = slice_set words (item_number i) (bit_or (slice_index words (item_number i)) (mask i.span))

-- the cause of each fault, in the order in which they are tried
abbrev pub IsExportFault : WallView → ExportFault → Type 0
IsExportFault w (RowOpen row) = IsLeastBelow w.layout.rows (IsOpenRow (state_on w)) row
IsExportFault w (PlaceHeld place) = NoneOpen w × IsLeastBelow (length w.layout.legs) (IsHeldPlace (state_on w)) place
IsExportFault w NoMemory = Unit {0}

-- the text is that of all that is kept
abbrev pub IsExport : WallView → List ℕ → Type 0
IsExport w text = NoneOpen w × NoneHeld w × (text ≡ text_on w)

-- the row's booking is in this phase and of this generation
abbrev pub IsShownAs : WallView → ℕ → Phase → ℕ → Type 0
IsShownAs w row phase generation =
    (is_sealed phase ≡ true) × OnRow (state_on w) row (λ b. (b.phase ≡ phase) × (b.generation ≡ generation))

-- the line of a row, or nothing where nothing is kept of it
abbrev pub row_text : WallView → ℕ → List ℕ
row_text w row = text_of (map (λ k. booking_line (said_of k)) (option_to_list (kept_of_row (state_on w) row)))

-- the line of a stub
abbrev pub stub_text : ℕ → ℕ → List ℕ
stub_text row generation = text_of (booking_line (said_of (stub row generation)) ∷ [])

-- the fields of words 1 to 4 of a row
abbrev pub words_text : WallView → ℕ → List ℕ
words_text w row =
    number_field (row_word (state_on w) row 1) ++ (number_field (row_word (state_on w) row 2)
    ++ (number_field (row_word (state_on w) row 3) ++ number_field (row_word (state_on w) row 4)))

-- the fields of its items, and those of its end
abbrev pub items_text : WallView → ℕ → List ℕ
items_text w row =
    flat_map (λ (k : KeptBooking). items_fields (said_of k).items)
    (option_to_list (kept_of_row (state_on w) row))

abbrev pub end_text : WallView → ℕ → List ℕ
end_text w row =
    flat_map (λ (k : KeptBooking). end_fields k.phase (said_of k).end)
    (option_to_list (kept_of_row (state_on w) row))

-- the lines of all bookings were added, which are that many
abbrev pub AddsRows : WallView → List ℕ → List ℕ → ℕ → Type 0
AddsRows w old new count = (new ≡ old ++ text_of (map booking_line (said_on w))) × (count ≡ length (said_on w))
