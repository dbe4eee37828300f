-- What a retailer sold, by the bookings that are kept.
use Rattle.std.specs.Prelude.{◌≡◌, ℕ, ◌<◌, ◌≤◌, ◌==◌, Bool, true, false, List, [], ◌∷◌, map, filter, length, Any, ◌↔◌, Contains, option_to_list}
use Rattle.std.specs.List.{sum, range_with_len}
use Rattle.std.specs.Prelude.{ℤ, pos, ◌+ℤ◌}
use Rattle.history_model.specs.declared.phase.Phase.{Phase}
use Rattle.history_model.specs.declared.phase.Phase.TheVariants.{Confirmed, Fulfilled, Ending, Ended}
use Rattle.history_model.specs.declared.phase.EndKind.{EndKind}
use Rattle.history_model.specs.declared.phase.EndKind.TheVariants.{Refund, Exchange}
use Rattle.history_model.specs.Allowed.{OnRow}
use Rattle.history_model.specs.Booking.{State, most_rows, present}
use Rattle.history_model.specs.History.{IsLegal, state_of}
use Rattle.history_model.specs.Lists.{Pairwise}
use Rattle.history_model.specs.Phase.{is_live}
use Rattle.history_model.specs.Words.{AreWordsOf}
use Rattle.claim_rule.specs.Openings.{KeptBooking, kept_bookings}
use Rattle.claim_rule.specs.Walls.{WallView}
use Rattle.settle_report.specs.declared.account.Account.{Account}

-- the bookings of a retailer
abbrev pub of_retailer : ℕ → List KeptBooking → List KeptBooking
of_retailer retailer kept = filter (λ k. k.retailer == retailer) kept

-- a booking in this phase was sold: it was confirmed, and has not been given back for nothing
abbrev pub is_sold : Phase → Bool
is_sold Confirmed = true
is_sold Fulfilled = true
is_sold (Ended Refund) = true
is_sold (Ended Exchange) = true
is_sold _ = false

abbrev pub is_refunded : Phase → Bool
is_refunded (Ended Refund) = true
is_refunded _ = false

abbrev pub is_exchanged : Phase → Bool
is_exchanged (Ended Exchange) = true
is_exchanged _ = false

-- the bookings whose phase passes
abbrev pub in_phases : (Phase → Bool) → List KeptBooking → List KeptBooking
in_phases test kept = filter (λ k. test k.phase) kept

abbrev pub totals_of : List KeptBooking → ℕ
totals_of kept = sum (map (λ (k : KeptBooking). k.total) kept)

-- the sum of amounts, some of which may be below 0
abbrev pub sum_amounts : List ℤ → ℤ
sum_amounts [] = pos 0
sum_amounts (a ∷ rest) = a +ℤ sum_amounts rest

abbrev pub amounts_of : List KeptBooking → ℤ
amounts_of kept = sum_amounts (map (λ (k : KeptBooking). k.end.amount) kept)

-- the account of some bookings: how many they are, how many live, the sum of the totals of those sold, of the amounts
-- paid back for refunds, and of the differences of exchanges
abbrev pub account_of : List KeptBooking → Account
account_of kept =
    record {
      bookings = length kept;
      live = length (in_phases is_live kept);
      sold = totals_of (in_phases is_sold kept);
      refunded = amounts_of (in_phases is_refunded kept);
      exchanged = amounts_of (in_phases is_exchanged kept);
    }

-- the retailers above 0 that have a booking, in rising number
pub record AreRetailers (kept : List KeptBooking) (retailers : List ℕ) : Type 0 where
  pub rising : Pairwise (λ (a b : ℕ). a < b) retailers
  pub just : (retailer : ℕ) → Contains retailers retailer ↔ ((0 < retailer) × Any (λ k. k.retailer ≡ retailer) kept)

-- the generation of a row's present booking, and 0 where it has none. So often the row was given away
abbrev pub generation_at : State → ℕ → ℕ
generation_at s row = sum (map (λ b. b.generation) (option_to_list (present s row)))

-- how often the rows below a number were given away
abbrev pub given_away : ℕ → State → ℕ
given_away rows s = sum (map (generation_at s) (range_with_len 0 rows))

-- no booking is ending
abbrev pub NoneEnding : State → ℕ → Type 0
NoneEnding s rows = (row : ℕ) (kind : EndKind) → row < rows → ¬ OnRow s row (λ b. b.phase ≡ Ending kind)

abbrev pub state_on : WallView → State
state_on w = state_of w.layout w.history

abbrev pub kept_on : WallView → List KeptBooking
kept_on w = kept_bookings w.layout.rows (state_on w)

-- the words of the wall are those of its history, which is legal, it has no more rows than books may have, and none of
-- its bookings is ending
pub record IsSettled (w : WallView) : Type 0 where
  pub legal : IsLegal w.layout w.history
  pub words : AreWordsOf w.layout (state_on w) w.words
  pub rows : w.layout.rows ≤ most_rows
  pub none_ending : NoneEnding (state_on w) w.layout.rows
