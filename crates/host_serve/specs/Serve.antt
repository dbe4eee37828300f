-- What `serve` promises.
use Rattle.std.specs.Prelude.{◌≡◌, ◌<◌, ◌≤◌, ◌+◌, ℕ, true, false, List, [], Option, Some, None, IsSomeAnd, map}
use Rattle.rail_io.specs.Faults.{Rose}
use Rattle.std.specs.List.{AllByRecursion}
use mathlib.Core.List.{IsPrefix}
use Rattle.history_model.specs.Booking.{Layout}
use Rattle.history_model.specs.History.{own}
use Rattle.history_model.specs.declared.entry.Entry.{Entry}
use Rattle.claim_rule.specs.Openings.{KeptBooking, layout_with}
use Rattle.claim_rule.specs.Rule.{BooksView, DeskView, IsWhole}
use Rattle.claim_rule.specs.Desks.{IsOf}
use Rattle.claim_rule.specs.Out.{is_look}
use Rattle.claim_rule.specs.Walls.{WallView, Finishes}
use Rattle.cold_store.specs.Exports.{IsClosed}
use Rattle.cold_store.specs.Tidy.{IsTidyWall}
use Rattle.catalogue_contents.specs.Contents.{CatalogueView, legs_in}
use Rattle.rail_service.specs.Listeners.{Handing, HandingBy, ListenerView}
use Rattle.host_words.specs.Serve.{ServeView, serve_words}
use Rattle.host_words.specs.declared.serve.Serving.{Serving}
use Rattle.host_catalogue.specs.Files.{Files}
use Rattle.host_catalogue.specs.Opening.{Fails, HasBooks, IsRefusedFile, LacksBooks}
use Rattle.host_words.specs.Commands.{IsFor}
use Rattle.host_words.specs.declared.command.CommandName.TheVariants as command
use Rattle.worker_pool.specs.Crews.{OnlyMet, sum_below}
use Rattle.host_serve.specs.Turns.{Asks, Readings, Stand, OneTurn, Chain, Connection, HandedBy, Sweep, TickingBy}
use Rattle.host_serve.specs.Turns.{clock_for}
use Rattle.host_serve.specs.declared.devices.Devices.{Devices}
use Rattle.host_journal.specs.declared.end.BooksOutcome.{BooksOutcome}
use Rattle.host_journal.specs.declared.end.BooksOutcome.TheVariants as books
use Rattle.host_journal.specs.declared.end.ServeOutcome.{ServeOutcome}
use Rattle.host_journal.specs.declared.end.ServeOutcome.TheVariants as end

-- the command is `serve`
abbrev pub IsForServe : List (List ℕ) → Type 0
IsForServe words = IsFor command.Serve words

-- the words are those of `serve`, say this, and name no journal
pub record IsServe (words : List (List ℕ)) (said : ServeView) : Type 0 where
  pub command : IsForServe words
  pub is : serve_words words ≡ Some said
  pub alone : said.journal ≡ None

-- not the words of `serve`
abbrev pub IsNoServe : List (List ℕ) → Type 0
IsNoServe words = (said : ServeView) → IsServe words said → ⊥

-- the words are those of `serve`, and ask for the export of the books; or don't ask for it
abbrev pub IsExporting : List (List ℕ) → Type 0
IsExporting words = (said : ServeView) × IsServe words said × (said.export ≡ true)

abbrev pub IsPlain : List (List ℕ) → Type 0
IsPlain words = (said : ServeView) × IsServe words said × (said.export ≡ false)

-- The entries of desk n of the books in the history are those of so many turns that were made one after the other, at
-- the books' desk of that number and from this clock on. It had none before them, and what it had seen before the first
-- and after the last begins the history.
pub record HasWorked (Does : OneTurn) (books : BooksView) (history : List Entry) (n : ℕ) (clock : Readings)
    (count : ℕ) : Type 0 where
  pub began : Stand
  pub began_clock : began.clock ≡ clock
  pub began_of : IsOf books began.desk
  pub number : began.desk.number ≡ n
  pub none : own began.desk.seen n ≡ []
  pub began_front : IsPrefix began.desk.seen history
  pub ended : Stand
  pub ended_of : IsOf books ended.desk
  pub ended_number : ended.desk.number ≡ n
  pub ended_front : IsPrefix ended.desk.seen history
  pub turns : Chain Does count began ended
  pub entries : own history n ≡ own ended.desk.seen n

-- What the listener told and how often it had failed, before and after; what the clocks told; how many members watched;
-- and the wall. Of the ticker, whether it ticked so often, each time after that many seconds, and was then asked once
-- more.
pub record Left : Type 1 where
  pub faults_before : ℕ
  pub before : ListenerView
  pub clocks : List Readings
  pub asks : ℕ → ℕ → Type 0
  pub hands : Handing
  pub faults_after : ℕ
  pub after : ListenerView
  pub watchers : ℕ
  pub wall : Option WallView

-- so of a listener that was handed in and the one that was handed back, where nobody watched
abbrev pub left_by : {L : Type 0} → (L → ListenerView) → (L → ℕ) → (L → L → Type 0) → HandingBy L → List Readings
    → (ℕ → ℕ → Type 0) → L → L
    → Option WallView → Left
left_by told faults becomes hands clocks asks first last wall = record {
  faults_before = faults first;
  before = told first;
  clocks = clocks;
  asks = asks;
  hands = HandedBy becomes hands first;
  faults_after = faults last;
  after = told last;
  watchers = 0;
  wall = wall;
}

-- what a listener tells: how it stands, how often it has failed, what it may become, and what it hands out
pub record Hearing (L : Type 0) : Type 1 where
  pub told : L → ListenerView
  pub faults : L → ℕ
  pub becomes : L → L → Type 0
  pub hands : HandingBy L

abbrev pub heard : {L : Type 0} → (L → ListenerView) → (L → ℕ) → (L → L → Type 0) → HandingBy L → Hearing L
heard told faults becomes hands = record { told = told; faults = faults; becomes = becomes; hands = hands }

-- one where there is one
abbrev pub some_count : {X : Type 0} → Option X → ℕ
some_count None = 0
some_count (Some x) = 1

-- so of devices that were handed in, and of the listener and the wall that were handed back: one member watched where
-- somebody asks what is in the books
abbrev pub left_of : {L T C : Type 0} → Hearing L → (C → Readings) → TickingBy T → Devices L T C → L
    → Option WallView → Left
left_of hear told ticked devices last wall =
    record
    (left_by hear.told hear.faults hear.becomes hear.hands (map told devices.clocks.items) (Asks ticked devices.ticker)
    devices.listener last wall)
    { watchers = some_count devices.findings }

-- In the history the desks 1 to the number of workers served connections, all together as many as the listener has
-- handed out, and the desk after them swept, each by its own of the clocks. It made as many sweeps as the ticker
-- ticked, each time after the words' seconds, and the ticker was then asked once more.
pub record AllWorked (cat : CatalogueView) (books : BooksView) (said : Serving) (left : Left) (history : List Entry)
    : Type 0 where
  pub served : ℕ → ℕ
  pub serving : (i : ℕ) → i < said.workers
      → HasWorked (Connection left.hands cat) books history (i + 1) (clock_for left.clocks i) (served i)
  pub together : sum_below served said.workers ≡ left.after.handed
  pub sweeps : ℕ
  pub sweeping : HasWorked Sweep books history (said.workers + 1) (clock_for left.clocks said.workers) sweeps
  pub asked : left.asks said.sweep sweeps

-- The books were finished by their first desk, which had parted that many others and had joined each: this is the wall
-- that was left, and in its history is what that desk had seen.
pub record IsWallOf (books : BooksView) (others : ℕ) (wall : WallView) : Type 0 where
  pub layout : wall.layout ≡ books.layout
  pub desk : DeskView
  pub of : IsOf books desk
  pub parted : desk.parted ≡ others
  pub whole : IsWhole desk.number desk.parted desk.joined
  pub seen : wall.history ≡ desk.seen
  pub finished : Finishes books.layout desk wall.words wall.history

-- in the history this desk only looks
abbrev pub OnlyLooks : List Entry → ℕ → Type 0
OnlyLooks history n = AllByRecursion (λ e. is_look e.step ≡ true) (own history n)

-- The wall is that of the books at which the members served, and these have this layout. Its words are those of its
-- history, which is legal, and it is free for an export. In the history the first desk only met others, and the
-- members' entries are those of all their turns at these books: the connections and the sweeps. The desks of those who
-- watched, which are the next ones, only look. No desk beyond these has any entries.
pub record IsServedWall (cat : CatalogueView) (plan : Layout) (said : Serving) (left : Left)
    (wall : WallView) : Type 0 where
  pub books : BooksView
  pub layout : books.layout ≡ plan
  pub of : IsWallOf books (said.workers + 1 + left.watchers) wall
  pub closed : IsClosed wall
  pub tidy : IsTidyWall wall
  pub first : OnlyMet wall.history
  pub worked : AllWorked cat books said left wall.history
  pub watched : (n : ℕ) → said.workers + 1 < n → n ≤ said.workers + 1 + left.watchers → OnlyLooks wall.history n
  pub no_others : (n : ℕ) → said.workers + 1 + left.watchers < n → own wall.history n ≡ []

-- what was served: the books of the words' catalogue, with its places and rows, which opened with no booking or with
-- those of the words' export, over just as many connections as the listener has handed out
pub record HasWall (files : Files) (said : ServeView) (left : Left) : Type 0 where
  pub cat : CatalogueView
  pub kept : List KeptBooking
  pub books : HasBooks files said.catalogue said.from cat kept
  pub closed : IsSomeAnd left.wall (IsServedWall cat (layout_with (legs_in cat) cat.rows kept) said.numbers left)

-- There are books that the words ask for: the catalogue is there, and the export, if one is named.
pub record HasOpened (files : Files) (said : ServeView) : Type 0 where
  pub cat : CatalogueView
  pub kept : List KeptBooking
  pub books : HasBooks files said.catalogue said.from cat kept

-- The listener listens at the port, and has handed out as many streams as its limit, which is the words'. It hasn't
-- failed.
pub record IsSpent (said : Serving) (faults_before faults_after : ℕ) (view : ListenerView) : Type 0 where
  pub handed : view ≡ record { port = said.port; limit = said.connections; handed = said.connections }
  pub steady : faults_after ≡ faults_before

-- An accept failed: the listener listens at the port, with the words' limit, and has handed out fewer.
pub record HasFailed (said : Serving) (faults_before faults_after : ℕ) (view : ListenerView) : Type 0 where
  pub rose : Rose faults_before faults_after
  pub port : view.port ≡ said.port
  pub limit : view.limit ≡ said.connections
  pub fewer : view.handed < said.connections

-- A bind failed: the listener is as it was but for its limit, which is the words'.
pub record IsUnbound (said : Serving) (faults_before faults_after : ℕ) (before after : ListenerView) : Type 0 where
  pub rose : Rose faults_before faults_after
  pub only : after ≡ record before { limit = said.connections }

-- What the words ask for ended so. Where there are books, only a failed bind, and no memory before any stream was
-- handed out, hand back no wall.
abbrev pub Ends : Files → ServeView → Left → ServeOutcome → Type 0
Ends files said left end.Served =
    IsSpent said.numbers left.faults_before left.faults_after left.after × HasWall files said left
Ends files said left end.AcceptFailed =
    HasFailed said.numbers left.faults_before left.faults_after left.after × HasWall files said left
Ends files said left end.Unwritten =
    IsSpent said.numbers left.faults_before left.faults_after left.after × HasWall files said left
Ends files said left end.NoText =
    IsSpent said.numbers left.faults_before left.faults_after left.after × HasWall files said left
Ends files said left end.NotBound =
    HasOpened files said × IsUnbound said.numbers left.faults_before left.faults_after left.before left.after
    × (left.wall ≡ None)
Ends files said left (end.NotLoaded fault) =
    Fails files said.catalogue said.from fault × (left.after ≡ left.before) × (left.faults_after ≡ left.faults_before)
    × (left.wall ≡ None)
Ends files said left end.NoMemory =
    (left.wall ≡ None) × (left.after.handed ≡ 0) × (left.faults_after ≡ left.faults_before)
Ends files said left end.Refused = ⊥

-- books with this layout were served and closed so
abbrev pub BooksEnd : CatalogueView → Layout → Serving → Left → BooksOutcome → Type 0
BooksEnd cat plan said left books.Served =
    IsSpent said left.faults_before left.faults_after left.after × IsSomeAnd left.wall (IsServedWall cat plan said left)
BooksEnd cat plan said left books.AcceptFailed =
    HasFailed said left.faults_before left.faults_after left.after
    × IsSomeAnd left.wall (IsServedWall cat plan said left)
BooksEnd cat plan said left books.NoMemory =
    (left.wall ≡ None) × (left.after.handed ≡ 0) × (left.faults_after ≡ left.faults_before)

-- The command ran so. Words that are refused leave all as it was.
abbrev pub Runs : List (List ℕ) → Files → Left → ServeOutcome → Type 0
Runs words files left end.Refused =
    IsNoServe words × (left.after ≡ left.before) × (left.faults_after ≡ left.faults_before) × (left.wall ≡ None)
Runs words files left end.NoMemory =
    (left.wall ≡ None) × (left.after.handed ≡ 0) × (left.faults_after ≡ left.faults_before)
Runs words files left end.Served = (said : ServeView) × IsServe words said × Ends files said left end.Served
Runs words files left end.AcceptFailed = (said : ServeView) × IsServe words said × Ends files said left end.AcceptFailed
Runs words files left end.Unwritten = (said : ServeView) × IsServe words said × Ends files said left end.Unwritten
Runs words files left end.NoText = (said : ServeView) × IsServe words said × Ends files said left end.NoText
Runs words files left end.NotBound = (said : ServeView) × IsServe words said × Ends files said left end.NotBound
Runs words files left (end.NotLoaded fault) =
    (said : ServeView) × IsServe words said × Ends files said left (end.NotLoaded fault)

-- the words are those of `serve`, and the shelf, where it tells its files, has no books for them
pub record IsWithoutBooks (words : List (List ℕ)) (files : Files) : Type 0 where
  pub said : ServeView
  pub words_are : IsServe words said
  pub none : LacksBooks files said.catalogue said.from

-- the words are those of `serve`, and a text of one of their files was refused
pub record IsOfRefusedText (words : List (List ℕ)) (files : Files) : Type 0 where
  pub said : ServeView
  pub words_are : IsServe words said
  pub refused_text : IsRefusedFile files said.catalogue said.from

-- the words are those of `serve`, and the listener is as it was but for its limit, which is theirs
pub record IsOnlyLimited (words : List (List ℕ)) (before after : ListenerView) : Type 0 where
  pub said : ServeView
  pub words_are : IsServe words said
  pub only : after ≡ record before { limit = said.numbers.connections }
