-- The usual life of a booking at a plain host, worked: booked, confirmed, collected; and what is swept, and refused.
use Rattle.std.specs.Prelude.{◌≡◌, refl, ℕ, pos, ◌+◌, Bool, true, false, List, [], ◌∷◌, ◌++◌, Some, None, codes}
use Rattle.leg_masks.specs.Interval.{Interval, PlacedSpan as Item}
use Rattle.rail_ids.specs.declared.RowNo.{RowNo}
use Rattle.history_model.specs.declared.phase.Phase.TheVariants as phase
use Rattle.history_model.specs.declared.phase.EndKind.TheVariants as kind
use Rattle.history_model.specs.WholeEnds.{end_at}
use Rattle.booking_rows.specs.Views.{RowSeen}
use Rattle.place_map.specs.declared.coach.Class.{Class}
use Rattle.place_map.specs.declared.coach.Class.TheVariants.{First, Second}
use Rattle.place_map.specs.declared.coach.Place.{Place}
use Rattle.train_runs.specs.declared.run.Stop.{Stop}
use Rattle.tariff.specs.Prices.{FareAmounts}
use Rattle.train_runs.specs.declared.segment.Segment.{Segment}
use Rattle.offer_codes.specs.Offers.{OfferView}
use Rattle.catalogue_contents.specs.Contents.{CatalogueView}
use Rattle.osdm_parts.specs.declared.problem.Problem.TheVariants.{NoPlace, RowsFull, TooLate, WrongState, UnknownBooking}
use Rattle.osdm_texts.specs.Answers.{created, booking, place_list, swept, problem}
use Rattle.osdm_json.specs.declared.command.Command.TheVariants as command
use Rattle.plain_host.specs.Plain.{Plain, Outcome, chosen}
use Rattle.plain_host.specs.Outcomes.{booked, outcome_of}

-- two trains, from Basel by Olten to Bern, and from Bern to Thun

abbrev six : ℕ
six = 1780293600

abbrev place : ℕ → ℕ → Class → ℕ → ℕ → Place
place run coach class traits number = record { run = record { 0 = run }; coach = coach; number = number; class = class; traits = traits }

abbrev stop : ℕ → ℕ → ℕ → Stop
stop station arrive depart = record { station = record { 0 = station }; arrive = arrive; depart = depart }

abbrev fare : ℕ → ℕ → FareAmounts
fare base per_leg = record { base = base; per_leg = per_leg }

abbrev places_of_first : List Place
places_of_first =
    place 0 1 First 0 1 ∷ place 0 1 First 0 2 ∷ place 0 1 First 0 3 ∷ place 0 1 First 0 4
    ∷ place 0 2 Second 1 11 ∷ place 0 2 Second 1 12 ∷ place 0 2 Second 1 13 ∷ place 0 2 Second 1 14
    ∷ place 0 2 Second 2 15 ∷ place 0 2 Second 2 16 ∷ place 0 2 Second 2 17 ∷ place 0 2 Second 2 18 ∷ []

abbrev places_of_second : List Place
places_of_second =
    place 1 1 Second 1 11 ∷ place 1 1 Second 1 12 ∷ place 1 1 Second 1 13 ∷ place 1 1 Second 1 14
    ∷ place 1 1 Second 2 15 ∷ place 1 1 Second 2 16 ∷ []

-- with this many rows
abbrev example : ℕ → CatalogueView
example rows = record {
  currency = codes "EUR";
  rows = rows;
  retailers = record { number = 1; key = codes "north" } ∷ record { number = 2; key = codes "south" } ∷ [];
  runs = record {
    stations = record { code = codes "BASEL"; change = 300 } ∷ record { code = codes "OLTEN"; change = 300 }
        ∷ record { code = codes "BERN"; change = 300 } ∷ record { code = codes "THUN"; change = 300 } ∷ [];
    runs = record { train = 501; stops = stop 0 (six + 7200) (six + 7200) ∷ stop 1 (six + 8700) (six + 8820) ∷ stop 2 (six + 10800) (six + 10800) ∷ [] }
        ∷ record { train = 812; stops = stop 2 (six + 11400) (six + 11400) ∷ stop 3 (six + 12600) (six + 12600) ∷ [] } ∷ [];
  };
  fares = record { first = fare 1000 600; second = fare 500 300 } ∷ record { first = fare 800 400; second = fare 400 200 } ∷ [];
  places = places_of_first ++ places_of_second;
  terms = record { steps = []; ticket_fee = 500; exchange_fee = 300; confirm_seconds = 900 };
}

abbrev span : ℕ → ℕ → Interval
span from to = record { from = from; to = to }

abbrev segment : ℕ → ℕ → ℕ → Segment
segment run from to = record { run = record { 0 = run }; span = span from to }

-- two adults and a child by a window, from Basel to Thun
abbrev family : OfferView
family = record { made = six; adults = 2; children = 1; class = Second; wanted = 1; segments = segment 0 0 2 ∷ segment 1 0 1 ∷ [] }

abbrev row_at : ℕ → ℕ → RowNo
row_at row generation = record { row = row; generation = generation }

abbrev row0 : RowNo
row0 = row_at 0 0

abbrev empty : Plain
empty = record { bookings = []; kept = None }

abbrev item : ℕ → ℕ → ℕ → Item
item place from to = record { place = place; span = span from to }

abbrev family_view : RowSeen
family_view = record {
  phase = phase.Prebooked;
  retailer = 1;
  limit = six + 1200;
  total = 4250;
  items = item 4 0 2 ∷ item 5 0 2 ∷ item 6 0 2 ∷ item 12 0 1 ∷ item 13 0 1 ∷ item 14 0 1 ∷ [];
  ended = None;
}

-- five minutes after six
abbrev after_booking : Outcome
after_booking = booked (example 2) 1 (six + 300) family false empty

is_booked : after_booking.reply ≡ created row0 family_view
is_booked = refl

abbrev after_confirming : Outcome
after_confirming = outcome_of (example 2) 1 (six + 360) (command.Confirm (Some row0)) after_booking.plain

is_confirmed : after_confirming.reply ≡ booking row0 (record family_view { phase = phase.Confirmed })
is_confirmed = refl

abbrev after_collecting : Outcome
after_collecting = outcome_of (example 2) 1 (six + 420) (command.Fulfil (Some row0)) after_confirming.plain

is_collected : after_collecting.reply ≡ booking row0 (record family_view { phase = phase.Fulfilled })
is_collected = refl

-- another family finds one window place too few, and keeps row 1
abbrev after_second : Outcome
after_second = booked (example 2) 2 (six + 300) family false after_booking.plain

none_left : (after_second.reply ≡ problem NoPlace) × (after_second.plain.kept ≡ Some (row_at 1 0))
none_left = (refl, refl)

-- with one row there is no second booking
is_full : (booked (example 1) 2 (six + 300) family false (booked (example 1) 1 (six + 300) family false empty).plain).reply ≡ problem RowsFull
is_full = refl

-- at the limit itself it is confirmed, a second later it is too late
at_limit : (outcome_of (example 2) 1 (six + 1200) (command.Confirm (Some row0)) after_booking.plain).reply
    ≡ booking row0 (record family_view { phase = phase.Confirmed })
at_limit = refl

past_limit : (outcome_of (example 2) 1 (six + 1201) (command.Confirm (Some row0)) after_booking.plain).reply ≡ problem (TooLate (six + 1200) (six + 1201))
past_limit = refl

-- a confirmed booking isn't released; another retailer's isn't known
is_wrong : (outcome_of (example 2) 1 (six + 420) (command.Release (Some row0)) after_confirming.plain).reply ≡ problem (WrongState phase.Confirmed)
is_wrong = refl

is_unknown : (outcome_of (example 2) 2 (six + 420) (command.Show (Some row0)) after_confirming.plain).reply ≡ problem UnknownBooking
is_unknown = refl

-- a sweep waits at the limit, and expires the booking after it; its places are free again
waits : (outcome_of (example 2) 1 (six + 1200) command.Sweep after_booking.plain).reply ≡ swept (record { expired = 0; lost = 0; waiting = 1 })
waits = refl

abbrev after_sweep : Outcome
after_sweep = outcome_of (example 2) 1 (six + 1201) command.Sweep after_booking.plain

expires : after_sweep.reply ≡ swept (record { expired = 1; lost = 0; waiting = 0 })
expires = refl

is_expired : (outcome_of (example 2) 1 (six + 1300) (command.Show (Some row0)) after_sweep.plain).reply
    ≡ booking row0 (record family_view { phase = phase.Ended kind.Expire; ended = Some (end_at (six + 1201) (pos 0) 0) })
is_expired = refl

frees : (outcome_of (example 2) 1 (six + 1300) (command.Places (segment 1 0 1)) after_sweep.plain).reply
    ≡ place_list 1 (true ∷ true ∷ true ∷ true ∷ true ∷ true ∷ [])
frees = refl

-- two passengers by a window on legs of both words of a place have two items each; who is there on the last of the legs
-- alone keeps the place from them
abbrev over_the_border : ℕ → ℕ → OfferView
over_the_border adults from = record { made = six; adults = adults; children = 0; class = Second; wanted = 1; segments = segment 1 from 64 ∷ [] }

abbrev pair : OfferView
pair = over_the_border 2 62

has_two_items : chosen (example 2) [] pair false pair.segments ≡ Some (item 12 62 63 ∷ item 12 63 64 ∷ item 13 62 63 ∷ item 13 63 64 ∷ [])
has_two_items = refl

finds_whole_spans : chosen (example 2) (booked (example 2) 1 (six + 300) (over_the_border 1 63) false empty).plain.bookings pair false pair.segments
    ≡ Some (item 13 62 63 ∷ item 13 63 64 ∷ item 14 62 63 ∷ item 14 63 64 ∷ [])
finds_whole_spans = refl

-- with one row a released booking gives way to the next generation, and is then known no more
abbrev after_release : Outcome
after_release = outcome_of (example 1) 1 (six + 310) (command.Release (Some row0)) (booked (example 1) 1 (six + 300) family false empty).plain

abbrev after_again : Outcome
after_again = booked (example 1) 1 (six + 320) family false after_release.plain

is_again : (after_again.reply ≡ created (row_at 0 1) (record family_view { limit = six + 1220 })) × (after_again.plain.kept ≡ None)
is_again = (refl, refl)

is_gone : (outcome_of (example 1) 1 (six + 330) (command.Show (Some row0)) after_again.plain).reply ≡ problem UnknownBooking
is_gone = refl

is_full_again : (booked (example 1) 1 (six + 330) family false after_again.plain).reply ≡ problem RowsFull
is_full_again = refl

-- where no place was found it has given way in vain: the row is kept with the next generation
abbrev too_many : OfferView
too_many = record family { adults = 5 }

abbrev after_vain : Outcome
after_vain = booked (example 1) 1 (six + 320) too_many false after_release.plain

in_vain : (after_vain.reply ≡ problem NoPlace) × (after_vain.plain ≡ record { bookings = []; kept = Some (row_at 0 1) })
in_vain = (refl, refl)

is_next : (booked (example 1) 1 (six + 330) family false after_vain.plain).reply ≡ created (row_at 0 1) (record family_view { limit = six + 1230 })
is_next = refl

-- from Basel to Bern one passenger by a window, one by the aisle; then parties
abbrev reserving : ℕ → ℕ → Bool → Plain → Outcome
reserving count wanted together plain = outcome_of (example 9) 1 six (command.Reserve (segment 0 0 2) Second count wanted together) plain

abbrev party_view : ℕ → List Item → RowSeen
party_view total items = record { phase = phase.Prebooked; retailer = 1; limit = six + 900; total = total; items = items; ended = None }

abbrev after_two : Outcome
after_two = reserving 1 2 false (reserving 1 1 false empty).plain

abbrev after_three : Outcome
after_three = reserving 3 0 true after_two.plain

sit_apart : (reserving 1 1 false empty).reply ≡ created row0 (party_view 1100 (item 4 0 2 ∷ []))
sit_apart = refl

sits_by_aisle : after_two.reply ≡ created (row_at 1 0) (party_view 1100 (item 8 0 2 ∷ []))
sits_by_aisle = refl

-- the first three neighbours that are free, and the next
sit_together : after_three.reply ≡ created (row_at 2 0) (party_view 3300 (item 5 0 2 ∷ item 6 0 2 ∷ item 7 0 2 ∷ []))
sit_together = refl

sit_behind : (reserving 3 0 true after_three.plain).reply ≡ created (row_at 3 0) (party_view 3300 (item 9 0 2 ∷ item 10 0 2 ∷ item 11 0 2 ∷ []))
sit_behind = refl

-- for four there is no such stretch: they get the first free places
sit_where_free : (reserving 4 0 true after_two.plain).reply ≡ created (row_at 2 0) (party_view 4400 (item 5 0 2 ∷ item 6 0 2 ∷ item 7 0 2 ∷ item 9 0 2 ∷ []))
sit_where_free = refl

-- and seven have too few
too_few : (reserving 7 0 true after_two.plain).reply ≡ problem NoPlace
too_few = refl
