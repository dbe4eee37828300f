-- Pairs of live bookings that share a place on a leg.
use Rattle.std.specs.Prelude.{ℕ, zero, suc, ◌+◌, ◌==◌, ◌&&◌, ◌||◌, Bool, false, List, [], if◌then◌else◌}
use Rattle.std.specs.List.{list_any}
use Rattle.std.specs.Option.{option_map_or}
use Rattle.leg_masks.specs.Interval.{has_leg}
use Rattle.history_model.specs.Phase.{is_live}
use Rattle.history_model.specs.declared.booking.BookedItem.{BookedItem}
use Rattle.history_model.specs.Booking.{State, present}
use Rattle.host_drill.specs.Totals.{count_below}

-- whether some number below n passes
abbrev pub any_below : (ℕ → Bool) → ℕ → Bool
any_below test zero = false
any_below test (suc n) = any_below test n || test n

-- the items are at one place, and have a leg in common
abbrev pub share_a_leg : BookedItem → BookedItem → Bool
share_a_leg i j = (i.place == j.place) && any_below (λ leg. has_leg i.span leg && has_leg j.span leg) i.span.to

-- the items of the row's present booking, where it is live
abbrev pub live_items : State → ℕ → List BookedItem
live_items s row = option_map_or (λ b. if is_live b.phase then b.items else []) (present s row) []

-- the live bookings of two rows share a place on a leg
abbrev pub are_double : State → ℕ → ℕ → Bool
are_double s row other = list_any (λ i. list_any (share_a_leg i) (live_items s other)) (live_items s row)

-- the pairs of such rows, of this many rows
abbrev pub doubled_of : State → ℕ → ℕ
doubled_of s zero = 0
doubled_of s (suc row) = doubled_of s row + count_below (are_double s row) row
