-- What the turns of members do.
use Rattle.std.specs.Prelude.{◌≡◌, ◌<◌, ◌+◌, ◌-◌, ℕ, zero, suc, Bool, true, false, not, ◌⊎◌, List, [], ◌∷◌, ◌++◌, map}
use Rattle.std.specs.Prelude.{Option, Some, None, length, slice_index_or}
use Rattle.history_model.specs.History.{entry, own}
use Rattle.history_model.specs.declared.entry.Step.{Step}
use Rattle.session_loop.specs.declared.end.ConnEnd.{ConnEnd}
use Rattle.claim_rule.specs.Rule.{BooksView, DeskView}
use Rattle.claim_rule.specs.Calls.{AddsStepsBy}
use Rattle.claim_rule.specs.Out.{AllLooks}
use Rattle.catalogue_contents.specs.Contents.{CatalogueView, legs_in}
use Rattle.expiry_sweeper.specs.AllRows.{Sweeps}
use Rattle.booking_rows.specs.declared.swept.Swept.{Swept}
use Rattle.rail_service.specs.Connections.{IsReading, ServesWhole, connection_at}
use Rattle.rail_service.specs.Listeners.{Handing, HandingBy, HandsOn, IsGiven}
use Rattle.answer_gate.specs.declared.clock.GatedClock.{GatedClock}
use Rattle.host_words.specs.declared.serve.Serving.{Serving as Numbers}
use Rattle.host_serve.specs.declared.member.Post.{Post}
use Rattle.host_serve.specs.declared.member.Post.TheVariants.{Serving, Sweeping, Watching}

-- the readings of a clock to come, where it tells them
abbrev pub Readings : Type 0
Readings = Option (ℕ → ℕ)

-- what a clock tells that goes through a gate
abbrev pub gated : {R C : Type 0} → (C → Readings) → GatedClock R C → Readings
gated told c = told c.clock

-- of what the clocks told, the clock of the member at this place, from 0: the first member has the last one
abbrev pub clock_for : List Readings → ℕ → Readings
clock_for clocks i = slice_index_or clocks (length clocks - (i + 1)) None

-- what one call of a ticker shows: the ticker before it, after how many seconds it was asked for a tick, whether it
-- ticked, and the ticker after it
abbrev pub TickingBy : Type 0 → Type 1
TickingBy T = T → ℕ → Bool → T → Type 0

-- from the first ticker to the last it was asked so often, each time after these seconds, and each time it ticked
abbrev pub Ticks : {T : Type 0} → TickingBy T → ℕ → ℕ → T → T → Type 0
Ticks ticked seconds zero first last = last ≡ first
Ticks {T} ticked seconds (suc n) first last =
    (mid : T) × Ticks ticked seconds n first mid × ticked mid seconds true last

-- it ticked so often, and was then asked once more
abbrev pub Asks : {T : Type 0} → TickingBy T → T → ℕ → ℕ → Type 0
Asks {T} ticked first seconds n =
    (before after : T) × (answer : Bool) × Ticks ticked seconds n first before × ticked before seconds answer after

-- A ticker was asked once, and this is what was made of its answer: a tick only where it ticked, and none only where it
-- didn't, or where the other thing was shown.
pub record TicksUntil {T : Type 0} (ticked : TickingBy T) (Over : Type 0) (old : T) (seconds : ℕ) (answer : Bool)
    (new : T)
    : Type 0 where
  pub told : Bool
  pub asked : ticked old seconds told new
  pub goes_on : answer ≡ true → told ≡ true
  pub ends : answer ≡ false → (told ≡ false) ⊎ ∥ Over ∥₁

-- the books have the catalogue's places and rows
pub record HasCatalogue (books : BooksView) (cat : CatalogueView) : Type 0 where
  pub legs : books.layout.legs ≡ legs_in cat
  pub rows : books.layout.rows ≡ cat.rows

-- a desk, with the readings to come of the clock that it is worked by
pub record Stand : Type 0 where
  pub desk : DeskView
  pub clock : Readings

-- what a stream's source and its sink told as it was handed out, and what they told at its end
pub record Passed : Type 0 where
  pub stream : Option (List ℕ)
  pub sent : Option (List ℕ)
  pub left : Option (List ℕ)
  pub after : Option (List ℕ)

-- This stream's connection was served to its end, by the desk's own entries, from what its source and its sink told to
-- what they tell then. The bytes that were taken of it were answered, and not one byte more was written.
abbrev pub ServesStream : CatalogueView → Passed → Stand → Stand → Type 0
ServesStream cat p old new =
    (end : ConnEnd)
    × ServesWhole cat (connection_at old.desk old.clock p.stream p.sent)
    (connection_at new.desk new.clock p.left p.after) end

-- after some calls of this listener, an accept of it handed out the stream
abbrev pub HandedBy : {L : Type 0} → (L → L → Type 0) → HandingBy L → L → Handing
HandedBy becomes hands listener = IsGiven (HandsOn becomes hands listener)

-- what a call shows that lets go of a stream: the one that was called, what the stream's source and its sink told as it
-- was let go, and the one after the call
abbrev pub LettingGo : Type 0 → Type 1
LettingGo S = S → Option (List ℕ) → Option (List ℕ) → S → Type 0

-- what holds of a stream that is served
abbrev pub Passing : Type 1
Passing = Passed → Type 0

-- it was handed out so, whatever its source and its sink told at its end
abbrev pub HandedOut : Handing → Passing
HandedOut hands p = hands p.stream p.sent

-- from these streams to those, one call handed it out, and the next one let it go as it was at its end
abbrev pub Passes : {S : Type 0} → HandingBy S → LettingGo S → S → S → Passing
Passes {S} hands lets_go old new p = (mid : S) × hands old p.stream p.sent mid × lets_go mid p.left p.after new

-- it was handed out so, and let go so as it was at its end
abbrev pub HandedAndClosed : Handing → Handing → Passing
HandedAndClosed hands closes p = hands p.stream p.sent × closes p.left p.after

-- one stream was served, of which this holds
abbrev pub ServesOne : Passing → CatalogueView → Stand → Stand → Type 0
ServesOne passes cat old new = (p : Passed) × passes p × ServesStream cat p old new

-- All rows were swept once, at the clock's next reading.
pub record SweepsOnce (old new : Stand) : Type 0 where
  pub moment : ℕ
  pub reading : IsReading old.clock moment new.clock
  pub swept : Swept
  pub entries : AddsStepsBy (Sweeps old.desk.layout.rows moment swept) old.desk new.desk

-- nothing was done
pub record Rests (old new : Stand) : Type 0 where
  pub same : new.desk ≡ old.desk
  pub unread : new.clock ≡ old.clock

-- what a turn does, from one stand to the next
abbrev pub OneTurn : Type 1
OneTurn = Stand → Stand → Type 0

-- one connection of the catalogue, by a stream of which this holds, or by one handed out so; one sweep
abbrev pub ConnectionBy : Passing → CatalogueView → OneTurn
ConnectionBy passes cat = ServesOne passes cat

abbrev pub Connection : Handing → CatalogueView → OneTurn
Connection hands cat = ConnectionBy (HandedOut hands) cat

abbrev pub Sweep : OneTurn
Sweep = SweepsOnce

-- each turn leads from one stand to the next of these, and the last to the end
abbrev pub Leads : OneTurn → Stand → List Stand → Stand → Type 0
Leads Does old [] new = new ≡ old
Leads Does old (next ∷ later) new = Does old next × Leads Does next later new

-- turns one after the other, from stand to stand, and how many
pub record Chain (Does : OneTurn) (n : ℕ) (old new : Stand) : Type 0 where
  pub stands : List Stand
  pub count : length stands ≡ n
  pub leads : Leads Does old stands new

-- a serving member's turn: one connection, by a stream of which this holds, or nothing, where it has then ended
abbrev pub ServesTurn : Passing → CatalogueView → Stand → Stand → Bool → Type 0
ServesTurn passes cat old new true = Rests old new
ServesTurn passes cat old new false = ServesOne passes cat old new

-- a stream more was handed out, but where the member has ended
abbrev pub Counts : Bool → ℕ → ℕ → Type 0
Counts true old new = new ≡ old
Counts false old new = new ≡ old + 1

-- a sweeping member's turn: one sweep, or nothing, where it has then ended
abbrev pub SweepsTurn : Stand → Stand → Bool → Type 0
SweepsTurn old new true = Rests old new
SweepsTurn old new false = SweepsOnce old new

-- of its own the desk has these looks more, and nothing else
pub record LooksOn (old new : DeskView) : Type 0 where
  pub looks : List Step
  pub alone : AllLooks looks
  pub number : new.number ≡ old.number
  pub mine : own new.seen old.number ≡ own old.seen old.number ++ map (entry old.number) looks

-- what the devices of members show: the readings of a clock to come, how many streams were handed out, and by which
-- calls, how streams are let go, and how a ticker ticks
pub record Means (S T C : Type 0) : Type 1 where
  pub told : C → Readings
  pub handed : S → ℕ
  pub hands : HandingBy S
  pub lets_go : LettingGo S
  pub ticked : TickingBy T

module _ {S T C W : Type 0} where
  -- a serving member's books have its catalogue
  abbrev pub FitsBooks : Post S T C W → BooksView → Type 0
  FitsBooks (Serving w) books = HasCatalogue books w.common.cat.now
  FitsBooks (Sweeping w) books = Unit {0}
  FitsBooks (Watching w) books = Unit {0}

  abbrev pub HasEnded : Post S T C W → Type 0
  HasEnded (Serving w) = w.ended ≡ true
  HasEnded (Sweeping w) = w.ended ≡ true
  HasEnded (Watching w) = w.ended ≡ true

  -- a member that watches has no clock
  abbrev pub clock_of : Post S T C W → Option C
  clock_of (Serving w) = Some w.clock
  clock_of (Sweeping w) = Some w.clock
  clock_of (Watching w) = None

  -- how many streams a member was handed out, and in how many parts of a ledger they are counted
  abbrev pub handed_of : Post S T C W → (S → ℕ) → ℕ
  handed_of (Serving w) handed = handed w.streams
  handed_of (Sweeping w) handed = 0
  handed_of (Watching w) handed = 0

  abbrev pub part_of : Post S T C W → ℕ
  part_of (Serving w) = 1
  part_of (Sweeping w) = 0
  part_of (Watching w) = 0

  -- what a member's clock tells
  abbrev pub readings_of : (C → Readings) → Post S T C W → Readings
  readings_of told (Serving w) = told w.clock
  readings_of told (Sweeping w) = told w.clock
  readings_of told (Watching w) = None

  -- a member's desk, with what its clock tells
  abbrev pub stand_of : (C → Readings) → Post S T C W → DeskView → Stand
  stand_of told w d = record { desk = d; clock = readings_of told w }

  -- A member stays at its post, a serving one with its catalogue, and serves the stream that it is handed out in this
  -- turn, which it lets go as it was when its connection had ended. A sweeping one asks its ticker once for a tick,
  -- after its seconds, and sweeps where it ticks, and ends where it doesn't. A watching one looks, and does nothing
  -- else.
  abbrev pub DoesTurn : Means S T C → Post S T C W → DeskView → Post S T C W → DeskView → Type 0
  DoesTurn m (Serving w) old (Serving v) new =
      (v.common.cat.now ≡ w.common.cat.now) × Counts v.ended (m.handed w.streams) (m.handed v.streams)
      × ServesTurn (Passes m.hands m.lets_go w.streams v.streams) w.common.cat.now
      (record { desk = old; clock = m.told w.clock }) (record { desk = new; clock = m.told v.clock }) v.ended
  DoesTurn m (Sweeping w) old (Sweeping v) new =
      (v.seconds ≡ w.seconds) × m.ticked w.ticker w.seconds (not v.ended) v.ticker
      × SweepsTurn (record { desk = old; clock = m.told w.clock })
      (record { desk = new; clock = m.told v.clock }) v.ended
  DoesTurn m (Watching w) old (Watching v) new = AddsStepsBy AllLooks old new
  DoesTurn m w old v new = ⊥

  -- All turns of a member up to its end are a chain. A serving one's are as many connections of its catalogue as it
  -- was handed out streams, and these were handed out so. A sweeping one's are as many sweeps as its ticker ticked,
  -- until it didn't. A watching one's are looks.
  abbrev pub HasChain : Means S T C → Handing → Post S T C W → DeskView → Post S T C W → DeskView → Type 0
  HasChain m hands (Serving w) old (Serving v) new =
      (v.common.cat.now ≡ w.common.cat.now) × (served : ℕ) × (m.handed v.streams ≡ m.handed w.streams + served)
      × Chain (Connection hands w.common.cat.now) served (record { desk = old; clock = m.told w.clock })
      (record { desk = new; clock = m.told v.clock })
  HasChain m hands (Sweeping w) old (Sweeping v) new =
      (v.seconds ≡ w.seconds) × (sweeps : ℕ) × (before : T) × Ticks m.ticked w.seconds sweeps w.ticker before
      × m.ticked before w.seconds false v.ticker
      × Chain Sweep sweeps (record { desk = old; clock = m.told w.clock })
      (record { desk = new; clock = m.told v.clock })
  HasChain m hands (Watching w) old (Watching v) new = LooksOn old new
  HasChain m hands w old v new = ⊥

  -- The post of member i, from 0: as many as the words say serve the catalogue, the next one asks this ticker for a
  -- tick each time after the words' seconds, and all after it watch.
  abbrev pub IsPosted : CatalogueView → Numbers → T → ℕ → Post S T C W → Type 0
  IsPosted cat said ticker i (Serving w) = (i < said.workers) × (w.common.cat.now ≡ cat)
  IsPosted cat said ticker i (Sweeping w) = (i ≡ said.workers) × (w.seconds ≡ said.sweep) × (w.ticker ≡ ticker)
  IsPosted cat said ticker i (Watching w) = said.workers < i

  -- its clock is its own of these
  abbrev pub HasClock : (C → Readings) → List Readings → ℕ → Post S T C W → Type 0
  HasClock told clocks i (Serving w) = told w.clock ≡ clock_for clocks i
  HasClock told clocks i (Sweeping w) = told w.clock ≡ clock_for clocks i
  HasClock told clocks i (Watching w) = Unit {0}
