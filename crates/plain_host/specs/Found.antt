-- Which of the candidates are won where no other desk is, and which row is started.
use Rattle.std.specs.Prelude.{◌≡◌, ◌<◌, ◌≤◌, ℕ, Bool, List, ◌∷◌, length, take, find, Option, Some, None}
use Rattle.std.specs.List.{filter, flat_map}
use Rattle.leg_masks.specs.Interval.{Interval, items_at, PlacedSpan as Item}
use Rattle.hold_core.specs.declared.adds.Added.{Added}
use Rattle.hold_core.specs.declared.adds.Added.TheVariants as added
use Rattle.rail_ids.specs.declared.RowNo.{RowNo}
use Rattle.party_places.specs.declared.party.PartyAdded.{PartyAdded}
use Rattle.party_places.specs.declared.party.PartyAdded.TheVariants as party
use Rattle.party_places.specs.Parties.{Party}
use Rattle.plain_host.specs.Plain.{is_free_stretch, neighbours, Plain, Choice, choice_for, keeping}

-- that many of the candidates are wanted: the first free ones are won, each with an item for each piece of the span, or
-- too few are free; nothing is contended
abbrev pub FindsFree : (ℕ → Bool) → Interval → ℕ → List ℕ → Added → List Item → Type 0
FindsFree free span count candidates added.All won =
    (won ≡ flat_map (items_at span) (take count (filter free candidates))) × (count ≤ length (filter free candidates))
FindsFree free span count candidates (added.NoPlace n) won = length (filter free candidates) < count
FindsFree free span count candidates (added.Contended place) won = ⊥

-- the first stretch of a party's candidates all of whose places are free
abbrev pub stretch_of : Party → (ℕ → Bool) → Option (List ℕ)
stretch_of g free = find (is_free_stretch g.places free g.count) (neighbours g.count g.candidates)

-- the party gets that stretch; or there is none, and the first free ones are won, or too few are free; nothing is
-- contended
abbrev pub SeatsFree : Party → (ℕ → Bool) → PartyAdded → List Item → Type 0
SeatsFree g free (party.Together first) won =
    (others : List ℕ) × (stretch_of g free ≡ Some (first.0 ∷ others))
    × (won ≡ flat_map (items_at g.span) (first.0 ∷ others))
SeatsFree g free party.Apart won = (stretch_of g free ≡ None) × FindsFree free g.span g.count g.candidates added.All won
SeatsFree g free (party.NoPlace n) won =
    (stretch_of g free ≡ None) × FindsFree free g.span g.count g.candidates (added.NoPlace n) won
SeatsFree g free (party.Contended place) won = ⊥

-- the row started is the plain host's choice, and is kept with what that leaves; or there is none to choose, and
-- nothing changes
abbrev pub ChoosesRow : ℕ → Plain → Option RowNo → Plain → Type 0
ChoosesRow rows before (Some row) after =
    (c : Choice) × (choice_for rows before ≡ Some c) × (c.row ≡ row) × (after ≡ keeping c)
ChoosesRow rows before None after = (choice_for rows before ≡ None) × (after ≡ before)
