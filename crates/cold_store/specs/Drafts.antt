-- Books in the making from the lines of an export.
use Rattle.std.specs.Prelude.{◌≡◌, ℕ, ◌+◌, ◌*◌, ◌<◌, ◌≤◌, ◌++◌, ◌∷◌, Bool, List, [], Option, Some, None, IfNone, IfSome, IsSomeAnd, bit_and, bit_or, filter_map, length, map, min, nat_le, nat_lt, ◌&&◌, ◌==◌, option_map, option_to_list, slice_index, slice_set, Any, if◌then◌else◌}
use Rattle.std.specs.List.{AllByRecursion, last_or}
use Rattle.std.specs.Option.{option_map_or}
use Rattle.leg_masks.specs.Interval.{Meet, half_of, halves, item_word, mask}
use Rattle.leg_masks.specs.Interval.{PlacedSpan as Item}
use Rattle.rail_ids.specs.Spelling.{last_generation}
use Rattle.history_model.specs.declared.phase.Phase.{Phase}
use Rattle.history_model.specs.declared.phase.Phase.TheVariants.{Ended}
use Rattle.history_model.specs.declared.phase.EndKind.{EndKind}
use Rattle.history_model.specs.Booking.{amount_word, row_words, successor_rows, successor_word}
use Rattle.history_model.specs.Lists.{Pairwise}
use Rattle.history_model.specs.Phase.{is_live, row_word_of}
use Rattle.history_model.specs.Words.{AreWordsOf, place_number}
use Rattle.claim_rule.specs.Openings.{KeptBooking, layout_with, opening_of}
use Rattle.line_text.specs.declared.heads.Head.{Head}
use Rattle.cold_store.specs.declared.draft.Follows.{Follows}
use Rattle.line_text.specs.declared.ends.SaidEnd.{SaidEnd}
use Rattle.line_text.specs.declared.ends.SaidRow.{SaidRow}
use Rattle.cold_store.specs.Exports.{IsLeastBelow, NoneBelow}
use Rattle.line_text.specs.Lines.{HasLetter, IsSayable, SaidBooking, booking_line}
use Rattle.cold_store.specs.Reads.{IsLineOf, LineView}
use Rattle.cold_store.specs.Right.{IsApartAt, IsEndIn, IsHeadRight, IsRightAlone, OwnsSuccessor, kept_of}

pub record DraftView : Type 0 where
  pub places : ℕ
  pub rows : ℕ
  pub words : List ℕ
  pub lines : List SaidRow
  pub follows : List Follows
  pub wrong : Option ℕ
  pub overlap : Option ℕ

-- the two items have a leg of a place in common
abbrev pub MeetsItem : Item → Item → Type 0
MeetsItem i j = (j.place ≡ i.place) × Meet j.span i.span

abbrev pub NoneMeet : List Item → Type 0
NoneMeet items = Pairwise (λ i j. ¬ MeetsItem i j) items

-- the line is right but for the line of its successor
pub record IsRightLine (rows : ℕ) (line : LineView) : Type 0 where
  pub head : IsHeadRight rows line.head
  pub items : IsSomeAnd line.items (λ items. (1 ≤ length items) × NoneMeet items)
  pub end : (kind : EndKind) → line.head.phase ≡ Ended kind → IsEndIn kind line.head.limit line.end

-- the successor's word in the draft, where a row can be it
abbrev pub drafted_successor : Option SaidRow → ℕ
drafted_successor successor =
    option_map_or (λ (s : SaidRow). if nat_lt s.row successor_rows && nat_le s.generation last_generation
    then successor_word s.row s.generation else 0) successor 0

abbrev pub drafted : SaidBooking → KeptBooking
drafted b = record (kept_of b) { end = record (kept_of b).end { successor = drafted_successor b.end.successor } }

-- the number of a row's first word
abbrev pub first_word_of : DraftView → ℕ → ℕ
first_word_of d row = halves * d.places + row_words * row

-- the words with these from a place on
abbrev pub put : List ℕ → ℕ → List ℕ → List ℕ
put words at [] = words
put words at (n ∷ ns) = put (slice_set words at n) (at + 1) ns

abbrev pub with_words : DraftView → ℕ → List ℕ → DraftView
with_words d row ns = record d { words = put d.words (first_word_of d row) ns }

-- with the item taken for a live booking
abbrev pub least_of : Option ℕ → ℕ → ℕ
least_of None place = place
least_of (Some other) place = min other place

abbrev pub word_of_item : Item → ℕ
word_of_item i = place_number i.place (half_of i.span)

-- whether a leg of the item is taken
abbrev pub is_free_for : DraftView → Item → Bool
is_free_for d i = bit_and (slice_index d.words (word_of_item i)) (mask i.span) == 0

abbrev pub took : DraftView → Item → DraftView
took d i =
    record d {
      words = slice_set d.words (word_of_item i) (bit_or (slice_index d.words (word_of_item i)) (mask i.span));
      overlap = if is_free_for d i then d.overlap else Some (least_of d.overlap i.place);
    }

abbrev pub with_taken : DraftView → List Item → DraftView
with_taken d [] = d
with_taken d (i ∷ is) = with_taken (took d i) is

-- the words 5 to 7 of a line
abbrev pub end_words_of : Phase → SaidEnd → List ℕ
end_words_of (Ended kind) end = drafted_successor end.successor ∷ amount_word kind end.amount ∷ end.moment ∷ []
end_words_of _ end = 0 ∷ 0 ∷ 0 ∷ []

-- the words of a line, without the zeros after those of its items
abbrev pub words_of_line : Head → SaidEnd → List Item → List ℕ
words_of_line h end items =
    (row_word_of h.phase h.generation ∷ h.retailer ∷ h.limit ∷ h.total ∷ h.count ∷ end_words_of h.phase end)
    ++ map (λ i. item_word i.place i.span) items

abbrev pub with_items : DraftView → Head → SaidEnd → List Item → DraftView
with_items d h end items =
    let written = with_words d h.row (words_of_line h end items) in
    if is_live h.phase then with_taken written items else written

abbrev pub with_line : DraftView → LineView → DraftView
with_line d line = option_map_or (with_items d line.head line.end) line.items d

-- which rows have a line, and which a successor
abbrev pub row_said : SaidBooking → SaidRow
row_said b = record { row = b.row; generation = b.generation }

abbrev pub follows_of : SaidBooking → Option Follows
follows_of b = option_map (λ s. record { row = b.row; successor = s }) b.end.successor

-- the first of the bookings that isn't right by itself is of this row
pub record IsFirstWrongAlone (legs : List ℕ) (rows : ℕ) (said : List SaidBooking) (row : ℕ) : Type 0 where
  pub before : List SaidBooking
  pub booking : SaidBooking
  pub behind : List SaidBooking
  pub parts : said ≡ before ++ booking ∷ behind
  pub right : AllByRecursion (IsRightAlone legs rows) before
  pub wrong : ¬ IsRightAlone legs rows booking
  pub is : booking.row ≡ row

-- the words are those of the bookings, and this is the least place where live ones overlap
pub record IsDrafted (legs : List ℕ) (rows : ℕ) (said : List SaidBooking) (d : DraftView) : Type 0 where
  pub letters : AllByRecursion (λ (b : SaidBooking). HasLetter b.phase) said
  pub right : AllByRecursion (IsRightAlone legs rows) said
  pub are : AreWordsOf (layout_with legs rows (map drafted said)) (opening_of (map drafted said)) d.words
  pub overlap : IfSome d.overlap (IsLeastBelow (length legs) (λ at. ¬ IsApartAt said at))
  pub none : IfNone d.overlap (NoneBelow (length legs) (λ at. ¬ IsApartAt said at))

-- in rising row
abbrev pub AreRisingRows : List SaidRow → Type 0
AreRisingRows lines = Pairwise (λ (a b : SaidRow). a.row < b.row) lines

-- the draft is that of the bookings
pub record IsDraftOf (legs : List ℕ) (rows : ℕ) (said : List SaidBooking) (d : DraftView) : Type 0 where
  pub sizes : (d.places ≡ length legs) × (d.rows ≡ rows)
  pub lines : d.lines ≡ map row_said said
  pub rising : AreRisingRows d.lines
  pub follows : d.follows ≡ filter_map follows_of said
  pub wrong : IfSome d.wrong (IsFirstWrongAlone legs rows said)
  pub right : IfNone d.wrong (IsDrafted legs rows said d)

abbrev pub IsSomeDraft : DraftView → Type 0
IsSomeDraft d = (legs : List ℕ) × (said : List SaidBooking) × IsDraftOf legs d.rows said d

-- so for all bookings of which it is the draft
abbrev pub EachDraft : DraftView → (List ℕ → List SaidBooking → Type 0) → Type 0
EachDraft d P = (legs : List ℕ) (said : List SaidBooking) → IsDraftOf legs d.rows said d → P legs said

-- the row is one of the draft, and the place is, and the words are as many as both need
abbrev pub IsWholeDraft : DraftView → Type 0
IsWholeDraft d = length d.words ≡ halves * d.places + row_words * d.rows

abbrev pub IsRowOf : DraftView → ℕ → Type 0
IsRowOf d row = IsWholeDraft d × (row < d.rows)

abbrev pub IsPlaceOf : DraftView → ℕ → Type 0
IsPlaceOf d place = IsWholeDraft d × (place < d.places)

-- the row is greater than those of all lines
abbrev pub IsNextRow : List SaidRow → ℕ → Type 0
IsNextRow lines row = IfSome (last_or None lines) (λ last. last.row < row)

-- a line of the successor's row is among these, of no lower generation
abbrev pub HasLineOf : List SaidRow → SaidRow → Type 0
HasLineOf lines s = Any (λ line. (line.row ≡ s.row) × (s.generation ≤ line.generation)) lines

-- the row is less than the first wrong one
abbrev pub IsBeforeWrong : Option ℕ → ℕ → Type 0
IsBeforeWrong wrong row = IfSome wrong (λ w. row < w)

-- the draft is one of some bookings, and the line is of a booking of a greater row
pub record MayAdd (d : DraftView) (line : LineView) : Type 0 where
  pub legs : List ℕ
  pub said : List SaidBooking
  pub booking : SaidBooking
  pub draft : IsDraftOf legs d.rows said d
  pub of : IsLineOf legs booking line
  pub letter : HasLetter line.head.phase
  pub next : IsNextRow d.lines line.head.row

-- the new draft is that of one booking more
abbrev pub AddsLine : DraftView → LineView → DraftView → Type 0
AddsLine old line new =
    EachDraft old (λ legs said. (b : SaidBooking) → IsLineOf legs b line → IsDraftOf legs old.rows (said ++ b ∷ []) new)

-- which row the line is of, and its successor's
abbrev pub noted : DraftView → LineView → DraftView
noted d line =
    record d {
      lines = d.lines ++ record { row = line.head.row; generation = line.head.generation } ∷ [];
      follows = d.follows ++ option_to_list
          (option_map (λ s. record { row = line.head.row; successor = s }) line.end.successor);
    }

-- the least row that is its own successor's
abbrev pub IsLeastOwn : List SaidBooking → ℕ → Type 0
IsLeastOwn said row = OwnsSuccessor said row × ((lower : ℕ) → lower < row → ¬ OwnsSuccessor said lower)

-- the next line with its line feed, of a booking of a greater row than these lines have
pub record ReadsNext (legs : List ℕ) (lines : List SaidRow) (old new : List ℕ) (read : Option LineView) : Type 0 where
  pub found : IfSome read
      (λ line. (b : SaidBooking) × IsSayable b × (old ≡ booking_line b ++ 10 ∷ new) × IsLineOf legs b line)
  pub only : (b : SaidBooking) (rest : List ℕ) → IsSayable b → IsNextRow lines b.row → old ≡ booking_line b ++ 10 ∷ rest
      → IsSomeAnd read (IsLineOf legs b) × (new ≡ rest)
