-- The boards of all stations in one list.
use Rattle.std.specs.Prelude.{◌≡◌, ◌<◌, ◌≤◌, ◌+◌, ◌-◌, ◌/◌, ◌%◌, ◌^◌, ◌++◌, ℕ, length, List, [], ◌∷◌, map, slice_index_or, slice_range}
use Rattle.train_runs.specs.declared.departure.Departure.{Departure}
use Rattle.trip_builder.specs.declared.board.Useful.{Useful}
use Rattle.trip_builder.specs.declared.boards.Head.{Head}
use Rattle.trip_builder.specs.declared.hints.Hints.{Hints}
use Rattle.trip_builder.specs.declared.ranks.FirstTwo.{FirstTwo}
use Rattle.trip_builder.specs.declared.rests.Parts.{Parts}
use Rattle.trip_builder.specs.Bounds.{Precede, Rises, IsNoted, IsPosted, unknown}

-- ---- what is put on a board

-- the later ones leave no earlier
abbrev pub InOrder : List Departure → Type 0
InOrder ds =
    (j k : ℕ) (none : Departure) → j ≤ k → k < length ds
    → (slice_index_or ds j none).moment ≤ (slice_index_or ds k none).moment

-- those that lead to the destination before that rank, by the two of each, are noted
abbrev pub AreNoted : List Departure → List FirstTwo → ℕ → List Useful → Type 0
AreNoted ds twos late board =
    (k rank : ℕ) (none : Departure) → k < length ds → k < length twos → Precede (slice_index_or twos k unknown) rank
    → rank < late
    → IsNoted board (slice_index_or ds k none).moment rank

-- likewise they have their places
abbrev pub ArePosted : List Departure → List FirstTwo → ℕ → List Useful → Type 0
ArePosted ds twos late board =
    (k rank : ℕ) (none : Departure) → k < length ds → k < length twos → Precede (slice_index_or twos k unknown) rank
    → rank < late
    → IsPosted board (slice_index_or ds k none).moment rank

-- one board more, with those departures
pub record HasAdded (old : List (List Useful)) (ds : List Departure) (twos : List FirstTwo) (late : ℕ)
    (new : List (List Useful)) : Type 0 where
  pub board : List Useful
  pub is : new ≡ old ++ board ∷ []
  pub posted : ArePosted ds twos late board

-- ---- parts of the time

-- the part in which a moment lies: those before the first one lie in it
abbrev pub part_at : Parts → ℕ → ℕ
part_at parts seconds = (seconds - parts.start) / 2 ^ (parts.shift % 64)

-- all that the old ones precede, where these two precede it as well
abbrev pub KeepsBy : FirstTwo → List FirstTwo → List FirstTwo → Type 0
KeepsBy two old new =
    (n rank : ℕ) → Precede two rank → Precede (slice_index_or old n unknown) rank
    → Precede (slice_index_or new n unknown) rank

-- a part no earlier than the n-th has two that precede the rank
pub record IsAhead (rests : List FirstTwo) (n rank : ℕ) : Type 0 where
  pub place : ℕ
  pub from : n ≤ place
  pub within : place < length rests
  pub precedes : Precede (slice_index_or rests place unknown) rank

-- so it is from each part up to this one: there it is told, or in the last part
abbrev pub IsTold : List FirstTwo → ℕ → ℕ → Type 0
IsTold rests part rank = (n : ℕ) → n ≤ part → n < length rests → IsAhead rests n rank

-- each part has two that precede what the part and all later ones had
abbrev pub AreSettled : List FirstTwo → List FirstTwo → Type 0
AreSettled old new =
    (n m rank : ℕ) → n ≤ m → m < length old → Precede (slice_index_or old m unknown) rank
    → Precede (slice_index_or new n unknown) rank

-- what each departure of the board leads to is told in its part
abbrev pub AreTold : List Useful → Parts → List FirstTwo → Type 0
AreTold board parts rests =
    (j rank : ℕ) (none : Useful) → j < length board → Precede (slice_index_or board j none).onward rank
    → IsTold rests (part_at parts (slice_index_or board j none).moment) rank

-- ---- a board's hints

-- the two of each part precede what leaves by the board in it or later
abbrev pub AreRestsIn : List Useful → Parts → List FirstTwo → Type 0
AreRestsIn board parts rests =
    (j n rank : ℕ) (none : Useful) → j < length board → n ≤ part_at parts (slice_index_or board j none).moment
    → n < length rests
    → Precede (slice_index_or board j none).onward rank → Precede (slice_index_or rests n unknown) rank

-- likewise, where each has its part
abbrev pub AreRests : List Useful → Parts → (ℕ → FirstTwo) → Type 0
AreRests board parts rest =
    (j n rank : ℕ) (none : Useful) → j < length board → n ≤ part_at parts (slice_index_or board j none).moment
    → Precede (slice_index_or board j none).onward rank → Precede (rest n) rank

-- the board's departures leave by the last moment, in that many parts, with the two of each
pub record AreHints (board : List Useful) (parts : Parts) (last count : ℕ) (rest : ℕ → FirstTwo) : Type 0 where
  pub stops : (j : ℕ) (none : Useful) → j < length board → (slice_index_or board j none).moment ≤ last
  pub few : (j : ℕ) (none : Useful) → j < length board → part_at parts (slice_index_or board j none).moment < count
  pub rests : AreRests board parts rest

abbrev pub AreHintsOf : List Useful → Hints → Type 0
AreHintsOf board h = AreHints board h.parts h.last (length h.rests.items) (λ n. slice_index_or h.rests.items n unknown)

-- ---- all boards

-- a board's two of each part, where they stand among all
abbrev pub rest_in : List FirstTwo → Head → ℕ → FirstTwo
rest_in rests h n = slice_index_or rests (h.hints + n) unknown

-- of a station without a board
abbrev pub no_head : Head
no_head =
    record {
      begin = 0;
      end = 0;
      hints = 0;
      parts = record { start = 0; shift = 0 };
      last = 0;
    }

abbrev pub board_of : List Useful → Head → List Useful
board_of useful h = slice_range useful h.begin h.end

-- the board of this number
abbrev pub board_at : List Head → List Useful → ℕ → List Useful
board_at heads useful number = board_of useful (slice_index_or heads number no_head)

-- that of each station, by the stations' numbers of boards
abbrev pub boards_at : List Head → List Useful → List ℕ → List (List Useful)
boards_at heads useful numbers = map (board_at heads useful) numbers

pub record IsHead (useful : List Useful) (rests : List FirstTwo) (h : Head) : Type 0 where
  pub begins : h.begin ≤ h.end
  pub ends : h.end ≤ length useful
  pub rises : Rises (board_of useful h)
  pub hinted : AreHints (board_of useful h) h.parts h.last (length rests - h.hints) (rest_in rests h)

-- the first head is that of no board
pub record AreHeads (heads : List Head) (useful : List Useful) (rests : List FirstTwo) (numbers : List ℕ) : Type 0 where
  pub some : 0 < length heads
  pub nothing : board_at heads useful 0 ≡ []
  pub each : (k : ℕ) → k < length heads → IsHead useful rests (slice_index_or heads k no_head)
  pub numbered : (k : ℕ) → k < length numbers → slice_index_or numbers k 0 < length heads

-- the head is that of the station's board
pub record IsHeadOf (numbers : List ℕ) (heads : List Head) (station : ℕ) (h : Head) : Type 0 where
  pub known : station < length numbers
  pub within : slice_index_or numbers station 0 < length heads
  pub is : h ≡ slice_index_or heads (slice_index_or numbers station 0) no_head
