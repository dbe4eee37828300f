-- What stands in a state: the sealed ones among its rows' present bookings, and the row that a desk makes.
use Rattle.std.specs.Prelude.{◌&&◌, Bool, true, false, List, map, find, Option, Some, None, option_map}
use Rattle.std.specs.List.{filter}
use Rattle.leg_masks.specs.Interval.{PlacedSpan as Item}
use Rattle.history_model.specs.declared.phase.Phase.{Phase}
use Rattle.history_model.specs.declared.phase.Phase.TheVariants.{Making, Ended}
use Rattle.history_model.specs.declared.booking.BookedItem.{BookedItem}
use Rattle.history_model.specs.declared.booking.End.{End}
use Rattle.history_model.specs.Phase.{is_sealed}
use Rattle.rail_ids.specs.declared.RowNo.{RowNo}
use Rattle.history_model.specs.Booking.{Booking, State, word_at, stands_in, retailer_word, limit_word, total_word}
use Rattle.claim_rule.specs.Openings.{KeptBooking}
use Rattle.claim_rule.specs.Rule.{DeskView, state_seen}
use Rattle.booking_rows.specs.Views.{RowSeen}
use Rattle.plain_host.specs.Plain.{Standing, Plain}

abbrev pub item_of : BookedItem → Item
item_of i = record { place = i.place; span = i.span }

abbrev pub end_in : Phase → End → Option End
end_in (Ended kind) end = Some end
end_in phase end = None

-- a booking as a look at its row shows it
abbrev pub view_of : Booking → RowSeen
view_of b = record {
  phase = b.phase;
  retailer = word_at b retailer_word;
  limit = word_at b limit_word;
  total = word_at b total_word;
  items = map item_of b.items;
  ended = end_in b.phase b.end;
}

abbrev pub row_of : Booking → RowNo
row_of b = record { row = b.row; generation = b.generation }

abbrev pub standing_of : Booking → Standing
standing_of b = record { row = row_of b; view = view_of b }

-- a booking stands once it is sealed, for as long as it is its row's present one
abbrev pub is_standing : State → Booking → Bool
is_standing s b = stands_in s b.row b && is_sealed b.phase

abbrev pub standings_of : State → List Standing
standings_of s = map standing_of (filter (is_standing s) s)

abbrev pub is_in_making : Phase → Bool
is_in_making Making = true
is_in_making phase = false

-- the row in the making, with its generation
abbrev pub kept_of : State → Option RowNo
kept_of s = option_map row_of (find (λ (b : Booking). is_in_making b.phase) s)

-- what a state has
abbrev pub plain_in : State → Plain
plain_in s = record { bookings = standings_of s; kept = kept_of s }

-- a booking that books open with
abbrev pub standing_kept : KeptBooking → Standing
standing_kept k =
    record {
      row = record { row = k.row; generation = k.generation };
      view = record {
        phase = k.phase;
        retailer = k.retailer;
        limit = k.limit;
        total = k.total;
        items = k.items;
        ended = end_in k.phase k.end;
      };
    }

-- what a host has that begins with these
abbrev pub plain_kept : List KeptBooking → Plain
plain_kept kept = record { bookings = map standing_kept kept; kept = None }

-- what a desk that is alone has
abbrev pub plain_of : DeskView → Plain
plain_of desk = plain_in (state_seen desk)
