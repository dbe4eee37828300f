-- A seat at the table, as the steps see it. No crate but this one cites it.
use Rattle.std.specs.Prelude.{◌≡◌, Option, Some, ℕ, ◌<◌, ◌≤◌, length, false, [], cond, eqb, List, slice_get}
use Rattle.atomic_table.specs.declared.shared.Seat.{Seat}
use Rattle.rail_ids.specs.declared.RowNo.{RowNo}
use Rattle.claim_rule.specs.declared.rule.View.{View}
use Rattle.claim_rule.specs.Desks.{CanTurn}
use Rattle.claim_rule.specs.Holds.{held}
use Rattle.claim_rule.specs.Rule.{Added, BooksView, DeskView}
use Rattle.history_model.specs.Allowed.{AllGiven, HasEndWords, IsAllowedStep, IsEndedBy, IsMadeBy, MayGive, MayNote, OnRow}
use Rattle.history_model.specs.Booking.{Layout, most_items, standing_word}
use Rattle.history_model.specs.History.{IsLegal, state_of}
use Rattle.history_model.specs.Phase.{row_word_of}
use Rattle.history_model.specs.WholeEnds.{end_turn}
use Rattle.history_model.specs.declared.booking.End.{End}
use Rattle.history_model.specs.declared.entry.Entry.{Entry}
use Rattle.history_model.specs.declared.entry.Step.{Step}
use Rattle.history_model.specs.declared.entry.Step.TheVariants.{Look, LostTurn, Met, SawRow, Seal, Start, Take, Turn}
use Rattle.history_model.specs.declared.phase.EndKind.{EndKind}
use Rattle.history_model.specs.declared.phase.Phase.{Phase}
use Rattle.history_model.specs.declared.word.Word.{Word}
use Rattle.history_model.specs.declared.word.Word.TheVariants.{Place, Row}
use Rattle.leg_masks.specs.Interval.{half_of, most_legs}
use Rattle.leg_masks.specs.Interval.{PlacedSpan as Item}

-- a seat, not spent, of these books
abbrev pub IsSeatOf : BooksView → Layout → Seat ℕ View → Type 0
IsSeatOf books layout seat = (seat.table_id ≡ books.table) × (books.layout ≡ layout) × (seat.me.0.spent ≡ false)

-- what contracts see of a desk, by its seat, the row that it keeps, and the rows that it knows to be taken
abbrev pub desk_view : Seat ℕ View → Option RowNo → ℕ → DeskView
desk_view seat kept past =
    record {
      table = seat.table_id;
      layout = seat.me.0.plan;
      number = seat.me.0.number;
      seen = seat.me.0.seen;
      joined = seat.me.0.joined;
      parted = seat.me.0.parted;
      kept = kept;
      past = past;
    }

pub record IsAtRest (seat : Seat ℕ View) : Type 0 where
  pub fresh : seat.me.0.spent ≡ false
  pub settled : seat.me.0.olds ≡ []
  pub empty : seat.me.1 ≡ []
  pub legal : IsLegal seat.me.0.plan seat.me.0.seen

-- the seat has made this step
abbrev pub HasMade : Layout → Step → Seat ℕ View → Seat ℕ View → Type 0
HasMade layout step old new =
    (new.table_id ≡ old.table_id) × (new.id ≡ old.id) × (new.me.1 ≡ old.me.1) × Added layout step old.me.0 new.me.0

-- the step of one that saw the word
abbrev pub seeing : Word → ℕ → Step
seeing (Place place half) shown = Look place half shown
seeing (Row row word) shown = SawRow row word shown

-- the step of an exchange, by the number found
abbrev pub either_step : ℕ → Step → Word → ℕ → Step
either_step expected hit at found = cond (eqb found expected) hit (seeing at found)

-- the step of a take, of a start and of a turn, by the number found
abbrev pub take_step : ℕ → Item → ℕ → ℕ → Step
take_step row item expected found =
    either_step expected (Take row item.place item.span) (Place item.place (half_of item.span)) found

abbrev pub start_step : RowNo → ℕ → ℕ → Step
start_step row expected found = either_step expected (Start row.row row.generation) (Row row.row standing_word) found

-- the lost turn of a turn that wanted a word, by the word found
abbrev pub lost : Step → ℕ → ℕ → Step
lost (Turn row from to moment amount successor) wanted found = LostTurn row wanted found
lost _ wanted found = Met

abbrev pub turn_step : ℕ → Step → ℕ → Step
turn_step wanted hit found = cond (eqb found wanted) hit (lost hit wanted found)

abbrev pub turn_step_from : Phase → RowNo → Step → ℕ → Step
turn_step_from from row = turn_step (row_word_of from row.generation)

-- the row is this seat's in the making, with room for an item
abbrev pub CanTake : Layout → Seat ℕ View → ℕ → Type 0
CanTake layout seat row =
    (row < layout.rows)
    × OnRow (state_of layout seat.me.0.seen) row (λ b. IsMadeBy seat.me.0.number b × (length b.items < most_items))

-- the row is this seat's, and this is its item of this number, which may be given back
abbrev pub CanGive : Layout → Seat ℕ View → ℕ → ℕ → Item → Type 0
CanGive layout seat row number item =
    (row < layout.rows) × (item.place < length layout.legs) × (item.span.to ≤ most_legs)
    × OnRow (state_of layout seat.me.0.seen) row
    (λ b. MayGive seat.me.0.number number b × (slice_get b.items number ≡ Some (held item)))

-- the row is this seat's, and the word may be noted
abbrev pub CanNote : Layout → Seat ℕ View → ℕ → ℕ → Type 0
CanNote layout seat row word =
    (row < layout.rows) × OnRow (state_of layout seat.me.0.seen) row (MayNote seat.me.0.number word)

-- the step is a turn that can be made
abbrev pub IsTurning : Layout → List Entry → ℕ → RowNo → Phase → Phase → Step → Type 0
IsTurning layout seen desk row from to hit =
    (end : End) × (hit ≡ end_turn row.row from to end) × CanTurn layout seen desk row from to end

-- the seal is allowed in what was seen, and the row's present booking is of this generation
abbrev pub CanSeal : Layout → List Entry → ℕ → RowNo → Phase → Type 0
CanSeal layout seen desk row phase = IsAllowedStep layout (state_of layout seen) desk (Seal row.row phase)
    × OnRow (state_of layout seen) row.row (λ b. b.generation ≡ row.generation)

-- the row's present booking is this seat's, of this generation, ending in this way, and all that a close asks is done
abbrev pub CanClose : Layout → List Entry → ℕ → RowNo → EndKind → Type 0
CanClose layout seen desk row kind =
    OnRow (state_of layout seen) row.row
    (λ b. (b.generation ≡ row.generation) × IsEndedBy desk kind b × AllGiven b × HasEndWords kind b)
