-- One run in words: the reservations that its desk has seen, and what holds of them.
use Rattle.std.specs.Prelude.{◌≡◌, ◌⊎◌, ℕ, ◌+◌, ◌<◌, ◌≤◌, List, [], ◌∷◌, ◌++◌, length, map, replicate}
use Rattle.std.specs.List.{AllByRecursion, flat_map, range_with_len}
use Rattle.leg_masks.specs.Interval.{Interval, items_at}
use Rattle.rail_ids.specs.declared.PlaceNo.{PlaceNo}
use Rattle.history_model.specs.declared.booking.BookedItem.{BookedItem}
use Rattle.history_model.specs.declared.entry.Step.{Step}
use Rattle.history_model.specs.declared.entry.Step.TheVariants.{Note, Seal}
use Rattle.history_model.specs.declared.phase.Phase.TheVariants.{Making, Prebooked}
use Rattle.history_model.specs.Booking.{Booking, State, retailer_word, limit_word, total_word, count_word}
use Rattle.claim_rule.specs.Rule.{BooksView, DeskView, most_place_legs, state_seen}
use Rattle.claim_rule.specs.Holds.{held as item_of}
use Rattle.claim_rule.specs.Desks.{IsOf}
use Rattle.claim_rule.specs.Out.{HoldsNone}
use Rattle.hold_core.specs.Tries.{place_number}
use Rattle.lone_desk.specs.Lone.{IsAlone}
use Rattle.host_words.specs.Limits.{most_run_places}
use Rattle.host_tiny.specs.Reservations.{Held, IsLeastFree, IsNoneFree, most_reservations}
use Rattle.host_tiny.specs.declared.run.Reservation.{Reservation}
use Rattle.host_tiny.specs.declared.run.Reservation.TheVariants.{Place, RowsFull, NoPlace}

-- the reservation that a booking's items are: at one place, from the first item's first leg to the last one's last
abbrev pub held_of : List BookedItem → List Held
held_of [] = []
held_of (i ∷ []) = record { place = i.place; span = i.span } ∷ []
held_of (i ∷ j ∷ rest) = record { place = i.place; span = record { from = i.span.from; to = j.span.to } } ∷ []

-- the reservations of all bookings, in order
abbrev pub reservations : State → List Held
reservations s = flat_map (λ b. held_of b.items) s

abbrev pub reserved : DeskView → List Held
reserved desk = reservations (state_seen desk)

-- the booking is one place on one span, prebooked
pub record IsSold (b : Booking) : Type 0 where
  pub phase : b.phase ≡ Prebooked
  pub one : Held
  pub items : b.items ≡ map item_of (items_at one.span one.place)

-- the booking is the first of this row, in the making by the first desk, with nothing taken: a refusal left it
pub record IsEmptyRow (row : ℕ) (b : Booking) : Type 0 where
  pub phase : b.phase ≡ Making
  pub none : b.items ≡ []
  pub owner : b.owner ≡ 0
  pub row_is : b.row ≡ row
  pub first : b.generation ≡ 0

-- the bookings are the first ones of the rows from this one on, in order
abbrev pub StandFrom : ℕ → State → Type 0
StandFrom row [] = Unit {0}
StandFrom row (b ∷ bs) = (b.row ≡ row) × (b.generation ≡ 0) × StandFrom (row + 1) bs

-- the notes of a booking's detail, and its seal
abbrev pub notes_and_seal : ℕ → ℕ → ℕ → ℕ → ℕ → List Step
notes_and_seal row retailer limit total count =
    Note row retailer_word retailer ∷ Note row limit_word limit ∷ Note row total_word total ∷ Note row count_word count
    ∷ Seal row Prebooked ∷ []

-- a row for each reservation, in order, and after them at most an empty one
pub record IsSettled (s : State) : Type 0 where
  pub sold : State
  pub each : AllByRecursion IsSold sold
  pub rows : StandFrom 0 sold
  pub is : (s ≡ sold) ⊎ ((b : Booking) × IsEmptyRow (length sold) b × (s ≡ sold ++ b ∷ []))

-- the books have a place with these legs for each of these numbers, which are all from 0 on, and a row for each of the
-- most reservations; the desk is alone at them
pub record IsRun (legs : ℕ) (places : List PlaceNo) (books : BooksView) (desk : DeskView) : Type 0 where
  pub some : 0 < legs
  pub few : legs ≤ most_place_legs
  pub most : length places ≤ most_run_places
  pub numbers : map place_number places ≡ range_with_len 0 (length places)
  pub layout : books.layout ≡ record { legs = replicate (length places) legs; rows = most_reservations; opening = [] }
  pub own : IsOf books desk
  pub alone : IsAlone desk
  pub none : HoldsNone desk
  pub settled : IsSettled (state_seen desk)

-- what contracts see of a run
pub record RunView : Type 0 where
  pub legs : ℕ
  -- how many places it has
  pub places : ℕ
  pub held : List Held

-- What a wish for a place on the span comes to where these are held, and what is held after it.
abbrev pub Reserves : ℕ → List Held → Interval → Reservation → List Held → Type 0
Reserves places held span (Place place) after =
    (length held < most_reservations) × IsLeastFree held places place span
    × (after ≡ held ++ record { place = place; span = span } ∷ [])
Reserves places held span RowsFull after = (most_reservations ≤ length held) × (after ≡ held)
Reserves places held span NoPlace after =
    (length held < most_reservations) × IsNoneFree held places span × (after ≡ held)
