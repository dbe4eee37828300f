-- What looks at rows show.
use Rattle.std.specs.Prelude.{◌≡◌, ℕ, ◌/◌, ◌%◌, ◌==◌, if◌then◌else◌, Bool, true, false, List, [], ◌∷◌, Option, Some}
use Rattle.std.specs.Prelude.{None, flat_map, option_map}
use Rattle.std.specs.Option.{option_map_or}
use Rattle.history_model.specs.declared.booking.End.{End}
use Rattle.history_model.specs.declared.entry.Step.{Step}
use Rattle.history_model.specs.declared.entry.Step.TheVariants.{SawRow}
use Rattle.history_model.specs.declared.phase.Phase.{Phase}
use Rattle.history_model.specs.declared.phase.Phase.TheVariants.{Free, Making}
use Rattle.history_model.specs.Booking.{standing_word}
use Rattle.history_model.specs.Phase.{generation_words, is_sealed, said_phase}
use Rattle.claim_rule.specs.Openings.{KeptBooking, no_end, stub}
use Rattle.booking_rows.specs.Views.{LooksRow, RowSeen}

-- Looks at a row: word 0, as the first showed it; the booking, as those after it showed it; and these looks
pub record RowLook : Type 0 where
  pub row : ℕ
  pub word : ℕ
  pub seen : Option RowSeen
  pub after : List Step

-- the phase and the generation that the first look showed
abbrev pub phase_looked : RowLook → Phase
phase_looked l = said_phase (l.word % generation_words)

abbrev pub generation_looked : RowLook → ℕ
generation_looked l = l.word / generation_words

-- where the first look showed a sealed booking, the others are at it; else there are no others
abbrev pub GoesOn : Bool → RowLook → Type 0
GoesOn true l = LooksRow (record { row = l.row; generation = generation_looked l }) l.seen l.after
GoesOn false l = (l.seen ≡ None) × (l.after ≡ [])

abbrev pub IsRowLook : RowLook → Type 0
IsRowLook l = GoesOn (is_sealed (phase_looked l)) l

-- all its looks, and those at several rows
abbrev pub look_steps : RowLook → List Step
look_steps l = SawRow l.row standing_word l.word ∷ l.after

abbrev pub looks_steps : List RowLook → List Step
looks_steps looks = flat_map look_steps looks

-- the end that was seen
abbrev pub end_seen : Option End → End
end_seen ended = option_map_or (λ (e : End). e) ended no_end

-- the booking that was seen
abbrev pub kept_seen : ℕ → ℕ → RowSeen → KeptBooking
kept_seen row generation v =
    record {
      row = row;
      generation = generation;
      phase = v.phase;
      retailer = v.retailer;
      limit = v.limit;
      total = v.total;
      items = v.items;
      end = end_seen v.ended;
    }

-- what is kept of a row that serves for this generation, whose booking isn't made yet
abbrev pub kept_unmade : ℕ → ℕ → Option KeptBooking
kept_unmade row generation = if generation == 0 then None else Some (stub row generation)

-- what is kept of the row as the looks showed it, where the first showed this phase
abbrev pub kept_by : Phase → RowLook → Option KeptBooking
kept_by Free l = None
kept_by Making l = kept_unmade l.row (generation_looked l)
kept_by _ l = option_map (kept_seen l.row (generation_looked l)) l.seen

abbrev pub kept_looked : RowLook → Option KeptBooking
kept_looked l = kept_by (phase_looked l) l

-- the steps are looks at this row, and this is what is kept of it
abbrev pub LooksAt : ℕ → Option KeptBooking → List Step → Type 0
LooksAt row kept es = (l : RowLook) × IsRowLook l × (l.row ≡ row) × (kept_looked l ≡ kept) × (es ≡ look_steps l)
