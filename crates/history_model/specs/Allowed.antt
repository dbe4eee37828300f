-- Which entries are allowed in a state.
use Rattle.std.specs.Prelude.{◌≡◌, ◌≢◌, ℕ, ◌+◌, ◌<◌, ◌≤◌, ℤ, pos, ◌≤ℤ◌, true, false, ◌⊎◌, length, map, take, drop, None, slice_index, slice_get, IsSomeAnd}
use Rattle.std.specs.List.{AllByRecursion, Any}
use Rattle.leg_masks.specs.Interval.{Interval, IsPiece, Meet, halves, item_word}
use Rattle.history_model.specs.declared.phase.Phase.{Phase}
use Rattle.history_model.specs.declared.phase.Phase.TheVariants.{Making, Prebooked, Confirmed, Fulfilled, Ending, Ended}
use Rattle.history_model.specs.declared.phase.EndKind.{EndKind}
use Rattle.history_model.specs.declared.phase.EndKind.TheVariants.{Release, Expire, Refund, Exchange}
use Rattle.history_model.specs.declared.booking.BookedItem.{BookedItem}
use Rattle.history_model.specs.declared.booking.End.{End}
use Rattle.history_model.specs.declared.entry.Entry.{Entry}
use Rattle.history_model.specs.declared.entry.Step.{Step}
use Rattle.history_model.specs.declared.entry.Step.TheVariants.{Look, Take, Give, Start, SawRow, Note, Seal, Turn, LostTurn, Close, Met}
use Rattle.rail_ids.specs.Spelling.{last_generation}
use Rattle.history_model.specs.Phase.{is_turn, is_ended}
use Rattle.history_model.specs.Booking.{Booking, Layout, State, row_words, most_items, first_item_word, last_moment, greatest_retailer, greatest_amount, least_difference, greatest_difference, word_at, limit_of, present, all_items, amount_word, successor_word, standing_word, retailer_word, limit_word, total_word, count_word, end_successor_word, end_amount_word, end_moment_word}
use Rattle.history_model.specs.WholeEnds.{end_at}
use Rattle.history_model.specs.Words.{place_word, row_word}

abbrev pub IsPlace : Layout → ℕ → Type 0
IsPlace g place = place < length g.legs

abbrev pub IsRow : Layout → ℕ → Type 0
IsRow g row = row < g.rows

-- a booking stands in the row, and this holds of it
abbrev pub OnRow : State → ℕ → (Booking → Type 0) → Type 0
OnRow s row P = IsSomeAnd (present s row) P

-- the booking is in the making, and the desk's
abbrev pub IsMadeBy : ℕ → Booking → Type 0
IsMadeBy desk b = (b.phase ≡ Making) × (b.owner ≡ desk)

-- the booking is ending in this way, and the desk's
abbrev pub IsEndedBy : ℕ → EndKind → Booking → Type 0
IsEndedBy desk kind b = (b.phase ≡ Ending kind) × (b.owner ≡ desk)

-- the booking is ending in some way, and the desk's
abbrev pub IsBeingEndedBy : ℕ → Booking → Type 0
IsBeingEndedBy desk b = (kind : EndKind) × IsEndedBy desk kind b

-- the item isn't given back, is at the place, and meets the span
abbrev pub Blocks : ℕ → Interval → BookedItem → Type 0
Blocks place span i = (i.given_back ≡ false) × (i.place ≡ place) × Meet i.span span

abbrev pub IsOpen : State → ℕ → Interval → Type 0
IsOpen s place span = AllByRecursion (λ i. ¬ Blocks place span i) (all_items s)

-- the item at this place of the list is there, and isn't given back
abbrev pub IsLeft : Booking → ℕ → Type 0
IsLeft b item = IsSomeAnd (slice_get b.items item) (λ i. i.given_back ≡ false)

abbrev pub AllGiven : Booking → Type 0
AllGiven b = AllByRecursion (λ i. i.given_back ≡ true) b.items

-- words that a maker notes, and those that the owner of an ending notes
abbrev pub IsMakerWord : ℕ → Type 0
IsMakerWord w = ((retailer_word ≤ w) × (w ≤ count_word)) ⊎ ((first_item_word ≤ w) × (w < first_item_word + most_items))

abbrev pub IsEndWord : ℕ → Type 0
IsEndWord w = (end_successor_word ≤ w) × (w ≤ end_moment_word)

abbrev pub MayGive : ℕ → ℕ → Booking → Type 0
MayGive desk item b = (IsMadeBy desk b × (item + 1 ≡ length b.items)) ⊎ (IsBeingEndedBy desk b × IsLeft b item)

abbrev pub MayNote : ℕ → ℕ → Booking → Type 0
MayNote desk word b = (IsMadeBy desk b × IsMakerWord word) ⊎ (IsBeingEndedBy desk b × IsEndWord word)

-- the words that a sealed booking has
pub record IsSealable (b : Booking) : Type 0 where
  pub some : 1 ≤ length b.items
  pub retailer : word_at b retailer_word ≤ greatest_retailer
  pub limit : word_at b limit_word ≤ last_moment
  pub total : word_at b total_word ≤ greatest_amount
  pub count : word_at b count_word ≡ length b.items
  pub items : take (length b.items) (drop first_item_word b.words) ≡ map (λ i. item_word i.place i.span) b.items

-- the words 5 to 7 of an ended booking
pub record HasEndWords (kind : EndKind) (b : Booking) : Type 0 where
  pub successor : word_at b end_successor_word ≡ b.end.successor
  pub amount : word_at b end_amount_word ≡ amount_word kind b.end.amount
  pub moment : word_at b end_moment_word ≡ b.end.moment

abbrev pub MayClose : ℕ → Booking → Type 0
MayClose desk b = (kind : EndKind) × IsEndedBy desk kind b × AllGiven b × HasEndWords kind b

-- a row may be started: in generation 0 where it is free, and in the next one where its present booking has ended
abbrev pub MayStart : State → ℕ → ℕ → Type 0
MayStart s row generation = ((generation ≡ 0) × (present s row ≡ None))
    ⊎ ((generation ≤ last_generation) × OnRow s row (λ b. (is_ended b.phase ≡ true) × (generation ≡ b.generation + 1)))

-- the booking was turned to an exchange by the desk, for this successor
abbrev pub IsExchangedFor : ℕ → ℕ → Booking → Type 0
IsExchangedFor desk successor b =
    (b.owner ≡ desk) × (b.end.successor ≡ successor) × ((b.phase ≡ Ending Exchange) ⊎ (b.phase ≡ Ended Exchange))

-- in which phase the booking may be sealed
abbrev pub MaySealAs : State → ℕ → Booking → Phase → Type 0
MaySealAs s desk b phase = (phase ≡ Prebooked)
    ⊎ ((phase ≡ Confirmed) × Any (IsExchangedFor desk (successor_word b.row b.generation)) s)

-- a booking in the making of the desk is this successor
abbrev pub IsSuccessor : State → ℕ → ℕ → Type 0
IsSuccessor s desk successor = Any (λ b. IsMadeBy desk b × (successor_word b.row b.generation ≡ successor)) s

-- the amount that an end of this kind may have: of a refund what is paid back, of an exchange what the new booking
-- costs more
abbrev pub IsAmountOf : EndKind → ℤ → Type 0
IsAmountOf Release amount = amount ≡ pos 0
IsAmountOf Expire amount = amount ≡ pos 0
IsAmountOf Refund amount = (pos 0 ≤ℤ amount) × (amount ≤ℤ pos greatest_amount)
IsAmountOf Exchange amount = (least_difference ≤ℤ amount) × (amount ≤ℤ greatest_difference)

-- what a turn to a phase asks of its end, where the booking has this limit
abbrev pub TurnsWith : State → ℕ → ℕ → Phase → End → Type 0
TurnsWith s desk limit Confirmed end = (end.moment ≤ limit) × (end.amount ≡ pos 0) × (end.successor ≡ 0)
TurnsWith s desk limit Fulfilled end = (end.moment ≡ 0) × (end.amount ≡ pos 0) × (end.successor ≡ 0)
TurnsWith s desk limit (Ending Release) end = IsAmountOf Release end.amount × (end.successor ≡ 0)
TurnsWith s desk limit (Ending Expire) end = (limit < end.moment) × IsAmountOf Expire end.amount × (end.successor ≡ 0)
TurnsWith s desk limit (Ending Refund) end = IsAmountOf Refund end.amount × (end.successor ≡ 0)
TurnsWith s desk limit (Ending Exchange) end = IsAmountOf Exchange end.amount × IsSuccessor s desk end.successor
TurnsWith s desk limit _ end = ⊥

-- whether the desk's step is allowed
abbrev pub IsAllowedStep : Layout → State → ℕ → Step → Type 0
IsAllowedStep g s desk (Look place half shown) = IsPlace g place × (half < halves) × (shown ≡ place_word s place half)
IsAllowedStep g s desk (SawRow row word value) = IsRow g row × (word < row_words) × (value ≡ row_word s row word)
IsAllowedStep g s desk (Start row generation) = IsRow g row × MayStart s row generation
IsAllowedStep g s desk (Take row place span) =
    IsRow g row × IsPlace g place × OnRow s row (λ b. IsMadeBy desk b × (length b.items < most_items))
    × (span.from < span.to) × IsPiece span × (span.to ≤ slice_index g.legs place) × IsOpen s place span
IsAllowedStep g s desk (Give row item) =
    IsRow g row × OnRow s row (MayGive desk item)
IsAllowedStep g s desk (Note row word value) =
    IsRow g row × OnRow s row (MayNote desk word)
IsAllowedStep g s desk (Seal row phase) =
    IsRow g row × OnRow s row (λ b. IsMadeBy desk b × IsSealable b × MaySealAs s desk b phase)
IsAllowedStep g s desk (Turn row from to moment amount successor) =
    IsRow g row × (is_turn from to ≡ true) × (moment ≤ last_moment)
    × OnRow s row
    (λ b. (b.phase ≡ from) × TurnsWith s desk (limit_of b) to (end_at moment amount successor))
IsAllowedStep g s desk (LostTurn row wanted shown) =
    IsRow g row × (shown ≡ row_word s row standing_word) × (shown ≢ wanted)
IsAllowedStep g s desk (Close row) =
    IsRow g row × OnRow s row (MayClose desk)
IsAllowedStep g s desk Met = Unit {0}

abbrev pub IsAllowed : Layout → State → Entry → Type 0
IsAllowed g s e = IsAllowedStep g s e.desk e.step
