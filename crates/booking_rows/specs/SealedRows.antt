-- Bookings that are sealed in what a desk has seen, and numbers that stand in their words.
use Rattle.std.specs.Prelude.{◌≡◌, ℕ, ◌+◌, ◌≤◌, true, List, [], ◌∷◌, length, All}
use Rattle.std.specs.List.{AllByRecursion}
use Rattle.leg_masks.specs.Interval.{Interval, IsItemOf, most_places}
use Rattle.history_model.specs.declared.phase.Phase.{Phase}
use Rattle.history_model.specs.declared.phase.Phase.TheVariants.{Ended}
use Rattle.history_model.specs.declared.phase.EndKind.{EndKind}
use Rattle.history_model.specs.declared.phase.EndKind.TheVariants.{Release, Expire, Refund, Exchange}
use Rattle.history_model.specs.Phase.{is_sealed}
use Rattle.history_model.specs.Booking.{Booking, Layout, next_generation, last_moment, greatest_amount, greatest_retailer}
use Rattle.rail_ids.specs.declared.RowNo.{RowNo}
use Rattle.claim_rule.specs.Rule.{DeskView, OnBooking, most_place_legs, state_seen}
use Rattle.booking_rows.specs.Views.{RowWords, last_successor}

-- each item of these places has a word: there are not too many places, and none has too many legs
pub record FitWords (g : Layout) : Type 0 where
  pub places : length g.legs ≤ most_places
  pub legs : All (λ n. n ≤ most_place_legs) g.legs

-- the booking is sealed in what the desk has seen. It need not be its row's present one
abbrev pub IsSealedRow : DeskView → RowNo → Type 0
IsSealedRow desk row = OnBooking (state_seen desk) row (λ b. is_sealed b.phase ≡ true)

-- it is sealed, and ended where this phase of it says so
abbrev pub IsAfter : Phase → Booking → Type 0
IsAfter phase b = (is_sealed b.phase ≡ true) × ((kind : EndKind) → phase ≡ Ended kind → b.phase ≡ Ended kind)

abbrev pub IsSealedSince : DeskView → RowNo → Phase → Type 0
IsSealedSince desk row phase = OnBooking (state_seen desk) row (IsAfter phase)

-- its row has no booking of a later generation
abbrev pub IsStillPresent : DeskView → RowNo → Type 0
IsStillPresent desk row = next_generation (state_seen desk) row.row ≡ row.generation + 1

-- the number can stand in an end's amount word
abbrev pub IsAmountWord : EndKind → ℕ → Type 0
IsAmountWord Release n = n ≡ 0
IsAmountWord Expire n = n ≡ 0
IsAmountWord Refund n = n ≤ greatest_amount
IsAmountWord Exchange n = Unit {0}

-- the number is an item's word
abbrev pub IsItemWord : ℕ → Type 0
IsItemWord n = (place : ℕ) × (span : Interval) × IsItemOf place span n

-- it is sealed, with that many items
abbrev pub HasItems : DeskView → RowNo → ℕ → Type 0
HasItems desk row n = OnBooking (state_seen desk) row (λ b. (is_sealed b.phase ≡ true) × (length b.items ≡ n))

-- end words of a booking that has ended in this way
abbrev pub IsEndOf : Phase → List ℕ → Type 0
IsEndOf (Ended kind) (successor ∷ amount ∷ moment ∷ []) =
    (successor ≤ last_successor) × IsAmountWord kind amount × (moment ≤ last_moment)
IsEndOf (Ended kind) _ = ⊥
IsEndOf phase ns = Unit {0}

-- the words are in the ranges that those of one sealed booking have
pub record AreOfOne (ws : RowWords) : Type 0 where
  pub retailer : ws.retailer ≤ greatest_retailer
  pub limit : ws.limit ≤ last_moment
  pub total : ws.total ≤ greatest_amount
  pub count : ws.count ≡ length ws.items
  pub items : AllByRecursion IsItemWord ws.items
  pub end : IsEndOf ws.phase ws.end
