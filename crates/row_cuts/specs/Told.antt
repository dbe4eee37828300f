-- What was told before a cut, and the books that open with the fold.
use Rattle.std.specs.Prelude.{◌≡◌, ◌⊎◌, ℕ, ◌<◌, true, List, [], IfSome, length, map}
use mathlib.Core.List.{IsPrefix}
use Rattle.history_model.specs.declared.entry.Entry.{Entry}
use Rattle.history_model.specs.declared.phase.EndKind.{EndKind}
use Rattle.history_model.specs.declared.phase.Phase.TheVariants.{Ended}
use Rattle.history_model.specs.Allowed.{OnRow}
use Rattle.history_model.specs.Booking.{Booking, Layout, State, booking_at, limit_word, retailer_word, total_word}
use Rattle.history_model.specs.Booking.{word_at}
use Rattle.history_model.specs.History.{state_of}
use Rattle.history_model.specs.Life.{LeadsTo}
use Rattle.history_model.specs.Phase.{is_sealed}
use Rattle.claim_rule.specs.Openings.{kept_bookings, layout_with, placed}
use Rattle.claim_rule.specs.Walls.{WallView}
use Rattle.cold_store.specs.Exports.{IsClosed, state_on}
use Rattle.cold_store.specs.Imports.{OpensAs}
use Rattle.cold_store.specs.Laws.{HasBegun, HasSizes}
use Rattle.cold_store.specs.Tidy.{IsTidyWall}
use Rattle.row_cuts.specs.Cuts.{Cut, FollowOn, folded_text, last_state}

-- The cuts follow each other from nothing, and at the last one the desks were between two calls. The wall is the one
-- that the books would have been closed to then, so its history is the one that the cut is of
pub record EndsAt (w : WallView) (cuts : List Cut) : Type 0 where
  pub sizes : HasSizes w.layout
  pub begun : HasBegun w.layout
  pub closed : IsClosed w
  pub tidy : IsTidyWall w
  pub follow : FollowOn w.layout.rows [] cuts
  pub last : last_state [] cuts ≡ state_on w

-- the second is the first booking, which was sealed, in the same phase or in one that it leads to: with the retailer,
-- limit, total and items of its seal, and with its end, where it had ended
pub record IsStillIt (b c : Booking) : Type 0 where
  pub generation : c.generation ≡ b.generation
  pub phase : LeadsTo b.phase c.phase
  pub retailer : word_at c retailer_word ≡ word_at b retailer_word
  pub limit : word_at c limit_word ≡ word_at b limit_word
  pub total : word_at c total_word ≡ word_at b total_word
  pub items : map placed c.items ≡ map placed b.items
  pub end : (kind : EndKind) → b.phase ≡ Ended kind → c.end ≡ b.end

-- the state has it in its row, or a booking of a later generation
abbrev pub StandsOrIsFollowed : State → Booking → Type 0
StandsOrIsFollowed s b = OnRow s b.row (λ c. (b.generation < c.generation) ⊎ IsStillIt b c)

-- so it is of each booking that is sealed in the former state
abbrev pub HasAllOf : State → State → Type 0
HasAllOf former s =
    (row generation : ℕ)
    → IfSome (booking_at former row generation) (λ b. is_sealed b.phase ≡ true → StandsOrIsFollowed s b)

-- the books open with just what the history at the last cut keeps, and they have all bookings of what was told
pub record GoOnFrom (w : WallView) (told : List Entry) (opened : Layout) : Type 0 where
  pub opens : opened ≡ layout_with w.layout.legs w.layout.rows (kept_bookings w.layout.rows (state_on w))
  pub have : HasAllOf (state_of w.layout told) opened.opening

-- What a desk had seen when it answered begins the history of each later cut that has learned of it. Then books that
-- open with the fold of the cuts up to that one go on from this history, and have all bookings that the answer showed
abbrev pub ToldHistoriesGoOn : Type 0
ToldHistoriesGoOn =
    (w : WallView) (cuts : List Cut) (told : List Entry) (opened : Layout) → EndsAt w cuts → IsPrefix told w.history
    → OpensAs w.layout.legs w.layout.rows (folded_text (length w.layout.legs) w.layout.rows cuts) opened
    → GoOnFrom w told opened
