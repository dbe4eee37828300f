-- What a list host allows and shows, and what bookings have, as contracts say it.
use Rattle.std.specs.Prelude.{◌≡◌, ◌≢◌, ◌<◌, ◌≤◌, ◌^◌, ℕ, if◌then◌else◌, List, map, take, drop, length, slice_index}
use Rattle.std.specs.Int.{bit_at}
use Rattle.leg_masks.specs.Interval.{Interval, IsPiece, halves, item_word, leg_of, word_legs}
use Rattle.history_model.specs.declared.booking.BookedItem.{BookedItem}
use Rattle.history_model.specs.declared.booking.End.{End}
use Rattle.history_model.specs.declared.entry.Entry.{Entry}
use Rattle.history_model.specs.declared.phase.Phase.{Phase}
use Rattle.history_model.specs.Phase.{row_word_of}
use Rattle.history_model.specs.Booking.{Booking, Host, State, row_words, first_item_word, is_occupied, limit_of, standing_word}
use Rattle.history_model.specs.Allowed.{IsAllowed, IsAllowedStep, IsMadeBy, IsPlace, IsRow, IsSealable, MaySealAs, TurnsWith}
use Rattle.history_model.specs.WholeEnds.{end_turn}
use Rattle.history_model.specs.Words.{place_word, row_word}

abbrev pub IsAllowedIn : Host → Entry → Type 0
IsAllowedIn h e = IsAllowed h.layout h.bookings e

abbrev pub IsTurnIn : Host → ℕ → ℕ → Phase → Phase → End → Type 0
IsTurnIn h desk row from to end = IsAllowedStep h.layout h.bookings desk (end_turn row from to end)

-- the span lies in one half, and within the legs of the place
abbrev pub FitsIn : Host → ℕ → Interval → Type 0
FitsIn h place span =
    IsPlace h.layout place × (span.from < span.to) × IsPiece span × (span.to ≤ slice_index h.layout.legs place)

-- the number is the word of a half of a place; that of a row; and word 0 of the row, which isn't the one wanted
abbrev pub ShowsPlace : Host → ℕ → ℕ → ℕ → Type 0
ShowsPlace h place half shown = IsPlace h.layout place × (half < halves) × (shown ≡ place_word h.bookings place half)

abbrev pub ShowsRow : Host → ℕ → ℕ → ℕ → Type 0
ShowsRow h row word value = IsRow h.layout row × (word < row_words) × (value ≡ row_word h.bookings row word)

abbrev pub ShowsOther : Host → ℕ → ℕ → ℕ → Type 0
ShowsOther h row wanted shown = IsRow h.layout row × (shown ≡ row_word h.bookings row standing_word) × (shown ≢ wanted)

-- 1 where a leg of a place is occupied
abbrev pub occupied_bit : Host → ℕ → ℕ → ℕ
occupied_bit h place leg = if is_occupied h.bookings place leg then 1 else 0

-- each bit of the word says whether its leg of this half of the place is occupied
abbrev pub HasOccupiedBits : Host → ℕ → ℕ → ℕ → Type 0
HasOccupiedBits h place half word =
    (bit : ℕ) → bit < word_legs → bit_at word bit ≡ occupied_bit h place (leg_of half bit)

-- the words of a row have those of the items, in order
abbrev pub AreWrittenIn : List ℕ → List BookedItem → Type 0
AreWrittenIn words items = take (length items) (drop first_item_word words) ≡ map (λ i. item_word i.place i.span) items

-- the booking is the desk's in the making, with all that a seal asks of it, and may be sealed in the phase
abbrev pub IsSealableAs : State → ℕ → Phase → Booking → Type 0
IsSealableAs s desk phase b = IsMadeBy desk b × IsSealable b × MaySealAs s desk b phase

-- the booking is in the phase, and a turn to the other phase may have this end
abbrev pub TurnsFrom : State → ℕ → Phase → Phase → End → Booking → Type 0
TurnsFrom s desk from to end b = (b.phase ≡ from) × TurnsWith s desk (limit_of b) to end

-- the number is no row's word
abbrev pub IsNoRowWord : ℕ → Type 0
IsNoRowWord word = (phase : Phase) (generation : ℕ) → generation < 2 ^ 32 → row_word_of phase generation ≢ word
