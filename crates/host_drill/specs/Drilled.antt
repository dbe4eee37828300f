-- What a drill leaves: its books, and the line that counts them.
use Rattle.std.specs.Prelude.{◌≡◌, ℕ, ◌+◌, ◌*◌, ◌<◌, List, [], ◌∷◌, Ok, length}
use Rattle.std.specs.List.{AllByRecursion}
use Rattle.rail_io.specs.Memory.{sink_taken}
use Rattle.session_loop.specs.declared.end.ConnEnd.TheVariants.{Done}
use Rattle.history_model.specs.declared.entry.Entry.{Entry}
use Rattle.history_model.specs.declared.entry.Step.TheVariants.{Met}
use Rattle.history_model.specs.Booking.{State}
use Rattle.history_model.specs.History.{own, state_of}
use Rattle.history_model.specs.Laws.{NoDouble}
use Rattle.claim_rule.specs.Rule.{BooksView, DeskView}
use Rattle.claim_rule.specs.Desks.{IsOf}
use Rattle.claim_rule.specs.Out.{IsIdle}
use Rattle.claim_rule.specs.Walls.{WallView, Finishes}
use Rattle.catalogue_contents.specs.Contents.{CatalogueView}
use Rattle.rail_catalogue.specs.Format.{catalogue_of}
use Rattle.host_words.specs.declared.drill.DrillWords.{DrillWords}
use Rattle.host_drill.specs.Generator.{catalogue_text}
use Rattle.host_drill.specs.Totals.{most_sold, sold_of, times}
use Rattle.host_drill.specs.Doubles.{doubled_of}
use Rattle.host_drill.specs.Meeting.{OfWorker, IsOneOf, AreAnswered, IsFirst}
use Rattle.host_drill.specs.declared.connection.Connection.{Connection}
use Rattle.host_drill.specs.declared.line.Totals.{Totals}
use Rattle.osdm_texts.specs.Answers.{Reply}
use Rattle.host_drill.specs.Connections.{IsConnection, layout_of}
use Rattle.host_drill.specs.Worked.{IsWorked, all_replies_with}

-- a connection that was served, of this worker
pub record IsDone (books : BooksView) (cat : CatalogueView) (said : DrillWords) (worker : ℕ)
    (c : Connection) : Type 0 where
  pub of : IsOf books c.desk
  pub idle : IsIdle c.desk
  pub number : c.desk.number ≡ worker + 1
  pub joined : c.desk.joined ≡ []
  pub connection : c.end ≡ Done → IsConnection cat said.seed said.size worker c.desk (sink_taken c.sink)

-- how often the line stands in what the connection was answered
abbrev pub answer_count : List ℕ → Connection → ℕ
answer_count line c = times line (sink_taken c.sink)

-- of each worker its connection
abbrev pub connection_of : CatalogueView → DrillWords → OfWorker
connection_of cat said = IsConnection cat said.seed said.size

-- the catalogue is that of the drill's text
abbrev pub IsCatalogue : CatalogueView → DrillWords → Type 0
IsCatalogue cat said = catalogue_of (catalogue_text said.places) ≡ Ok cat

abbrev pub state_at : WallView → State
state_at wall = state_of wall.layout wall.history

-- one worker: its connection, and the replies to its requests
pub record IsWorker (cat : CatalogueView) (said : DrillWords) (history : List Entry) (worker : ℕ)
    (replies : List Reply) : Type 0 where
  pub answered : List ℕ
  pub one : IsOneOf (connection_of cat said) history worker answered
  pub worked : IsWorked cat said.seed said.size worker one.is.begins one.desk answered replies

-- so of each worker from the k-th on, in order
abbrev pub AreWorkers : CatalogueView → DrillWords → List Entry → ℕ → List (List Reply) → Type 0
AreWorkers cat said history k [] = Unit {0}
AreWorkers cat said history k (replies ∷ more) =
    IsWorker cat said history k replies × AreWorkers cat said history (k + 1) more

-- The finished books hold in one legal history the entries of each worker's connection and else only meetings of the
-- first desk, which parted the workers' desks and has joined all of them. And this is counted: the requests, the live
-- bookings of the books, the answers 409 and 503, and the pairs of live bookings that share a place on a leg. It comes
-- to what seed, requests and places say, whatever the threads did: each leg is sold to as many requests as ask for it,
-- or to all places; each other request is refused, and none is busy.
pub record IsDrilled (said : DrillWords) (wall : WallView) (totals : Totals) : Type 0 where
  pub cat : CatalogueView
  pub catalogue : IsCatalogue cat said
  pub layout : wall.layout ≡ layout_of cat
  pub desk : DeskView
  pub first_desk : IsFirst desk said.workers 0
  pub history : wall.history ≡ desk.seen
  pub books : Finishes wall.layout desk wall.words wall.history
  pub first : AllByRecursion (λ e. e.step ≡ Met) (own wall.history 0)
  pub no_others : (k : ℕ) → said.workers < k → own wall.history k ≡ []
  pub answered : AreAnswered (connection_of cat said) wall.history said.workers 0 totals.refused totals.busy
  pub replies : List (List Reply)
  pub number : length replies ≡ said.workers
  pub workers : AreWorkers cat said wall.history 0 replies
  pub requests : totals.requests ≡ said.workers * said.size
  pub sold : totals.sold ≡ sold_of (state_at wall) cat.rows
  pub refused : totals.refused ≡ all_replies_with 409 replies
  pub busy : totals.busy ≡ all_replies_with 503 replies
  pub no_double : NoDouble (state_at wall)
  pub double : totals.double ≡ doubled_of (state_at wall) cat.rows
  pub sum : totals.sold ≡ most_sold said.seed (said.workers * said.size) said.places
  pub all : totals.sold + totals.refused ≡ totals.requests
  pub busy_none : totals.busy ≡ 0
  pub double_none : totals.double ≡ 0
