-- A host of one thread: a plain list of the bookings that its rows have, and the row that it keeps.
use Rattle.std.specs.Prelude.{ℕ, ◌+◌, ◌==◌, ◌&&◌, nat_lt, max, min, Bool, true, not, List, [], ◌∷◌, ◌++◌, length, map, take, find, Option, Some, None, option_map, if◌then◌else◌}
use Rattle.std.specs.List.{filter, flat_map, list_all, list_any, range_with_len}
use Rattle.std.specs.Option.{option_map_or}
use Rattle.leg_masks.specs.Interval.{Interval, items_at, PlacedSpan as Item}
use Rattle.history_model.specs.declared.phase.Phase.{Phase}
use Rattle.rail_ids.specs.Spelling.{last_generation}
use Rattle.rail_ids.specs.declared.RowNo.{RowNo}
use Rattle.history_model.specs.Phase.{word_of_phase, is_live, is_ended}
use Rattle.booking_rows.specs.Views.{RowSeen}
use Rattle.train_runs.specs.declared.segment.Segment.{Segment}
use Rattle.offer_codes.specs.Offers.{OfferView}
use Rattle.catalogue_contents.specs.Contents.{CatalogueView}
use Rattle.place_map.specs.declared.coach.Place.{Place}
use Rattle.party_places.specs.Stretches.{is_beside}
use Rattle.osdm_texts.specs.Answers.{Reply}
use Rattle.reservation_service.specs.Holding.{count_of, candidates_in}

-- a booking in its row, with its generation there
pub record Standing : Type 0 where
  pub row : RowNo
  pub view : RowSeen

-- the bookings, at most one in each row, in the order in which they were made; and a row that is kept for the next,
-- with its generation
pub record Plain : Type 0 where
  pub bookings : List Standing
  pub kept : Option RowNo

-- what a command is answered, and what the host is then
pub record Outcome : Type 0 where
  pub reply : Reply
  pub plain : Plain

abbrev pub outcome : Reply → Plain → Outcome
outcome reply plain = record { reply = reply; plain = plain }

-- places

-- spans that have a leg in common
abbrev pub meets : Interval → Interval → Bool
meets a b = nat_lt (max a.from b.from) (min a.to b.to)

abbrev pub blocks : ℕ → Interval → Item → Bool
blocks place span i = i.place == place && meets i.span span

-- a live booking has the place on a leg of the span
abbrev pub has_place : ℕ → Interval → Standing → Bool
has_place place span b = is_live b.view.phase && list_any (blocks place span) b.view.items

abbrev pub is_taken : List Standing → Interval → ℕ → Bool
is_taken bookings span place = list_any (has_place place span) bookings

abbrev pub is_free : List Standing → Interval → ℕ → Bool
is_free bookings span place = not (is_taken bookings span place)

-- the first candidates of the segment that are free, one for each passenger
abbrev pub first_free : CatalogueView → List Standing → OfferView → Segment → List ℕ
first_free cat bookings o s = take (count_of o) (filter (is_free bookings s.span) (candidates_in cat o s))

-- each of the places is in the coach of the one before, with the number one above
abbrev pub are_beside : List Place → List ℕ → Bool
are_beside places [] = true
are_beside places (p ∷ []) = true
are_beside places (p ∷ q ∷ rest) = is_beside places p q && are_beside places (q ∷ rest)

-- that many neighbours, side by side and all free
abbrev pub is_free_stretch : List Place → (ℕ → Bool) → ℕ → List ℕ → Bool
is_free_stretch places free count stretch =
    length stretch == count && (are_beside places stretch && list_all free stretch)

-- the first candidates from each one on, that many of them
abbrev pub neighbours : ℕ → List ℕ → List (List ℕ)
neighbours count [] = []
neighbours count (p ∷ rest) = take count (p ∷ rest) ∷ neighbours count rest

-- the first stretch of the segment's candidates all of whose places are free
abbrev pub first_stretch : CatalogueView → List Standing → OfferView → Segment → Option (List ℕ)
first_stretch cat bookings o s =
    let count = count_of o in
    find (is_free_stretch cat.places (is_free bookings s.span) count) (neighbours count (candidates_in cat o s))

-- the places that the passengers get: where they are to sit together the first such stretch, and else, or without one,
-- the first free ones
abbrev pub seats : CatalogueView → List Standing → OfferView → Bool → Segment → List ℕ
seats cat bookings o together s =
    let apart = first_free cat bookings o s in
    if together then option_map_or (λ (stretch : List ℕ). stretch) (first_stretch cat bookings o s) apart else apart

-- what there is of the segment at these places, and the rest, where there are as many places as wanted
abbrev pub with_places : ℕ → Interval → List ℕ → Option (List Item) → Option (List Item)
with_places count span places rest =
    if length places == count then option_map (λ more. flat_map (items_at span) places ++ more) rest else None

-- the places of an offer's segments; none where there are too few for one of them
abbrev pub chosen : CatalogueView → List Standing → OfferView → Bool → List Segment → Option (List Item)
chosen cat bookings o together [] = Some []
chosen cat bookings o together (s ∷ rest) =
    with_places (count_of o) s.span (seats cat bookings o together s) (chosen cat bookings o together rest)

-- rows

abbrev pub uses_row : List Standing → ℕ → Bool
uses_row bookings row = list_any (λ (b : Standing). b.row.row == row) bookings

-- the first of so many rows that no booking has
abbrev pub least_unused : ℕ → List Standing → Option ℕ
least_unused rows bookings = find (λ row. not (uses_row bookings row)) (range_with_len 0 rows)

-- the booking is in the row, and has ended before the last generation: another may follow it there
abbrev pub gives_way : ℕ → Standing → Bool
gives_way row b = b.row.row == row && (is_ended b.view.phase && nat_lt b.row.generation last_generation)

-- the first of that many rows whose booking gives way
abbrev pub least_ended : ℕ → List Standing → Option ℕ
least_ended rows bookings = find (λ row. list_any (gives_way row) bookings) (range_with_len 0 rows)

-- a row chosen for a new booking, and the bookings that are left besides it
pub record Choice : Type 0 where
  pub row : RowNo
  pub left : List Standing

abbrev pub first_in : ℕ → List Standing → Choice
first_in row bookings = record { row = record { row = row; generation = 0 }; left = bookings }

abbrev pub without : ℕ → List Standing → List Standing
without row bookings = filter (λ (b : Standing). not (b.row.row == row)) bookings

-- the booking that gives way is away at once
abbrev pub following : List Standing → Standing → Choice
following bookings b =
    record { row = record { row = b.row.row; generation = b.row.generation + 1 }; left = without b.row.row bookings }

abbrev pub choice_among : List Standing → Option ℕ → Option Choice
choice_among bookings None = None
choice_among bookings (Some row) = option_map (following bookings) (find (gives_way row) bookings)

abbrev pub choice_of : ℕ → List Standing → Option ℕ → Option Choice
choice_of rows bookings (Some row) = Some (first_in row bookings)
choice_of rows bookings None = choice_among bookings (least_ended rows bookings)

abbrev pub choice_kept : ℕ → List Standing → Option RowNo → Option Choice
choice_kept rows bookings (Some row) = Some (record { row = row; left = bookings })
choice_kept rows bookings None = choice_of rows bookings (least_unused rows bookings)

-- the row of a new booking: the one kept; else the first that no booking has; else the first whose booking gives way.
-- None where there is none of these
abbrev pub choice_for : ℕ → Plain → Option Choice
choice_for rows plain = choice_kept rows plain.bookings plain.kept

-- the row chosen is kept
abbrev pub keeping : Choice → Plain
keeping c = record { bookings = c.left; kept = Some c.row }

-- bookings

abbrev pub is_booking : RowNo → Standing → Bool
is_booking row b = b.row.row == row.row && b.row.generation == row.generation

-- it is this retailer's
abbrev pub is_own : RowNo → ℕ → Standing → Bool
is_own row retailer b = is_booking row b && b.view.retailer == retailer

abbrev pub own_view : Plain → RowNo → ℕ → Option RowSeen
own_view plain row retailer = option_map (λ (b : Standing). b.view) (find (is_own row retailer) plain.bookings)

abbrev pub is_in : Phase → RowSeen → Bool
is_in phase v = word_of_phase v.phase == word_of_phase phase

-- the booking as it is now
abbrev pub replaced : RowNo → RowSeen → Standing → Standing
replaced row v b = if is_booking row b then record { row = b.row; view = v } else b

abbrev pub with_view : Plain → RowNo → RowSeen → Plain
with_view plain row v = record { bookings = map (replaced row v) plain.bookings; kept = plain.kept }

-- a new booking, after the others; no row is kept
abbrev pub with_new : Plain → RowNo → RowSeen → Plain
with_new plain row v = record { bookings = plain.bookings ++ record { row = row; view = v } ∷ []; kept = None }
