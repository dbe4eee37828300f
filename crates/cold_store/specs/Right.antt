-- Which bookings of an export books of some legs and rows may open with.
use Rattle.std.specs.Prelude.{◌≡◌, ◌≢◌, ℕ, ◌<◌, ◌≤◌, ◌++◌, ◌∷◌, List, map, length, true, None, IfSome, IsSome, IsSomeAnd, slice_index, Contains}
use Rattle.std.specs.List.{AllByRecursion}
use Rattle.std.specs.Option.{option_map_or}
use Rattle.leg_masks.specs.Interval.{Interval, IsPiece, Meet}
use Rattle.leg_masks.specs.Interval.{PlacedSpan as Item}
use Rattle.rail_ids.specs.Spelling.{last_generation}
use Rattle.history_model.specs.Allowed.{IsAmountOf}
use Rattle.history_model.specs.Booking.{greatest_amount, greatest_retailer, last_moment, most_items, successor_word}
use Rattle.history_model.specs.Lists.{Across, Pairwise}
use Rattle.history_model.specs.Phase.{is_live}
use Rattle.history_model.specs.declared.phase.Phase.TheVariants.{Ended}
use Rattle.history_model.specs.declared.phase.EndKind.{EndKind}
use Rattle.history_model.specs.declared.phase.EndKind.TheVariants.{Expire, Exchange}
use Rattle.claim_rule.specs.Openings.{KeptBooking}
use Rattle.line_text.specs.declared.heads.Head.{Head}
use Rattle.line_text.specs.declared.heads.SaidItem.{SaidItem}
use Rattle.line_text.specs.declared.ends.SaidEnd.{SaidEnd}
use Rattle.line_text.specs.declared.ends.SaidRow.{SaidRow}
use Rattle.line_text.specs.Lines.{SaidBooking}

abbrev pub span_of : SaidItem → Interval
span_of i = record { from = i.from; to = i.to }

-- the item is a piece within its place's legs
pub record IsWithin (legs : List ℕ) (i : SaidItem) : Type 0 where
  pub place : i.place < length legs
  pub some : i.from < i.to
  pub piece : IsPiece (span_of i)
  pub within : i.to ≤ slice_index legs i.place

-- the two have no leg of a place in common; of this place
abbrev pub AreClear : SaidItem → SaidItem → Type 0
AreClear i j = i.place ≡ j.place → ¬ Meet (span_of i) (span_of j)

abbrev pub AreClearAt : ℕ → SaidItem → SaidItem → Type 0
AreClearAt place i j = i.place ≡ place → j.place ≡ place → ¬ Meet (span_of i) (span_of j)

-- An end of this kind, where the booking has this limit, that a turn could have given. An exchange has a successor, and
-- no other end has one
pub record IsEndIn (kind : EndKind) (limit : ℕ) (end : SaidEnd) : Type 0 where
  pub moment : end.moment ≤ last_moment
  pub amount : IsAmountOf kind end.amount
  pub expired : kind ≡ Expire → limit < end.moment
  pub exchanged : kind ≡ Exchange → IsSome end.successor
  pub others : kind ≢ Exchange → end.successor ≡ None

-- the numbers before the items are a sealed booking's in that many rows
pub record IsHeadRight (rows : ℕ) (h : Head) : Type 0 where
  pub row : h.row < rows
  pub generation : h.generation ≤ last_generation
  pub retailer : h.retailer ≤ greatest_retailer
  pub limit : h.limit ≤ last_moment
  pub total : h.total ≤ greatest_amount

abbrev pub head_of : SaidBooking → Head
head_of b =
    record {
      row = b.row;
      generation = b.generation;
      phase = b.phase;
      retailer = b.retailer;
      limit = b.limit;
      total = b.total;
      count = length b.items;
    }

-- the booking is right by itself
pub record IsRightAlone (legs : List ℕ) (rows : ℕ) (b : SaidBooking) : Type 0 where
  pub head : IsHeadRight rows (head_of b)
  pub some : 1 ≤ length b.items
  pub few : length b.items ≤ most_items
  pub items : AllByRecursion (IsWithin legs) b.items
  pub apart : Pairwise AreClear b.items
  pub end : (kind : EndKind) → b.phase ≡ Ended kind → IsEndIn kind b.limit b.end

-- some line is of the successor's row, and of no lower generation
abbrev pub HasLine : List SaidBooking → SaidRow → Type 0
HasLine said s = (b : SaidBooking) × Contains said b × (b.row ≡ s.row) × (s.generation ≤ b.generation)

-- and among the bookings of all lines
pub record IsRight (legs : List ℕ) (rows : ℕ) (said : List SaidBooking) (b : SaidBooking) : Type 0 where
  pub alone : IsRightAlone legs rows b
  pub successor : IfSome b.end.successor (HasLine said)

abbrev pub AreRight : List ℕ → ℕ → List SaidBooking → List SaidBooking → Type 0
AreRight legs rows said some = AllByRecursion (IsRight legs rows said) some

-- the first booking that isn't right is of this row
pub record IsFirstWrong (legs : List ℕ) (rows : ℕ) (said : List SaidBooking) (row : ℕ) : Type 0 where
  pub before : List SaidBooking
  pub booking : SaidBooking
  pub behind : List SaidBooking
  pub parts : said ≡ before ++ booking ∷ behind
  pub right : AreRight legs rows said before
  pub wrong : ¬ IsRight legs rows said booking
  pub is : booking.row ≡ row

-- no items of two live bookings meet at the place
abbrev pub IsApartAt : List SaidBooking → ℕ → Type 0
IsApartAt said place =
    Pairwise (λ (a b : SaidBooking). is_live a.phase ≡ true → is_live b.phase ≡ true
    → Across (AreClearAt place) a.items b.items) said

-- a booking of the row is exchanged for one of its own row
abbrev pub OwnsSuccessor : List SaidBooking → ℕ → Type 0
OwnsSuccessor said row =
    (b : SaidBooking) × Contains said b × (b.row ≡ row) × IsSomeAnd b.end.successor (λ s. s.row ≡ row)

-- the booking that is kept
abbrev pub kept_item : SaidItem → Item
kept_item i = record { place = i.place; span = span_of i }

abbrev pub kept_of : SaidBooking → KeptBooking
kept_of b =
    record {
      row = b.row;
      generation = b.generation;
      phase = b.phase;
      retailer = b.retailer;
      limit = b.limit;
      total = b.total;
      items = map kept_item b.items;
      end = record {
        moment = b.end.moment;
        amount = b.end.amount;
        successor = option_map_or (λ (s : SaidRow). successor_word s.row s.generation) b.end.successor 0;
      };
    }
