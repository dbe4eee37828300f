-- What `serve` promises with a journal.
use Rattle.std.specs.Prelude.{◌≡◌, ◌⊎◌, ◌≤◌, ◌+◌, ℕ, Bool, true, false, List, Option, Some, None}
use Rattle.std.specs.Prelude.{IsSomeAnd, Ok, Err}
use Rattle.claim_rule.specs.Openings.{KeptBooking, layout_with}
use Rattle.claim_rule.specs.Walls.{WallView}
use Rattle.history_model.specs.Booking.{Layout}
use Rattle.catalogue_contents.specs.Contents.{CatalogueView, legs_in}
use Rattle.host_words.specs.Serve.{ServeView, serve_words}
use Rattle.host_words.specs.declared.serve.Serving.{Serving}
use Rattle.host_catalogue.specs.Files.{Files}
use Rattle.host_catalogue.specs.Loading.{Loads}
use Rattle.host_catalogue.specs.Ends.{note_of}
use Rattle.host_catalogue.specs.Noted.{IsNoted}
use Rattle.host_journal.specs.Ends.{end_of_kept, status_of_kept, status_of_serve}
use Rattle.host_serve.specs.Serve.{HasFailed, IsForServe, IsServedWall, IsSpent, IsUnbound, Left, Runs}
use Rattle.host_serve.specs.Telling.{IsSilent, IsTold, Noting, WritesExport}
use Rattle.host_journal.specs.declared.keeping.KeepFault.TheVariants as fault
use Rattle.host_journal.specs.declared.end.KeptOutcome.{KeptOutcome}
use Rattle.host_journal.specs.declared.end.KeptOutcome.TheVariants as kept
use Rattle.host_journal.specs.declared.end.ServeOutcome.{ServeOutcome}
use Rattle.host_journal.specs.declared.end.ServeOutcome.TheVariants as end
use Rattle.host_journal.specs.Left.{LeavesBookings, IsNotLeft, Sources}
use Rattle.host_journal.specs.Causes.{HasKeptCause, HasShelfCause}

-- the words are those of `serve`, say this, and name this journal
pub record IsKeptServe (words : List (List ℕ)) (said : ServeView) (name : List ℕ) : Type 0 where
  pub command : IsForServe words
  pub is : serve_words words ≡ Some said
  pub journal : said.journal ≡ Some name

-- so, whether they name a journal or not
pub record IsSaid (words : List (List ℕ)) (said : ServeView) : Type 0 where
  pub command : IsForServe words
  pub is : serve_words words ≡ Some said

abbrev pub IsNotSaid : List (List ℕ) → Type 0
IsNotSaid words = (said : ServeView) → IsSaid words said → ⊥

-- they name none
abbrev pub IsNoKeptServe : List (List ℕ) → Type 0
IsNoKeptServe words = (said : ServeView) (name : List ℕ) → IsKeptServe words said name → ⊥

-- books with this layout were listened for, and served and closed so
abbrev pub ListensTo : CatalogueView → Layout → Serving → Left → ServeOutcome → Type 0
ListensTo cat plan said left end.Served =
    IsSpent said left.faults_before left.faults_after left.after × IsSomeAnd left.wall (IsServedWall cat plan said left)
ListensTo cat plan said left end.AcceptFailed =
    HasFailed said left.faults_before left.faults_after left.after
    × IsSomeAnd left.wall (IsServedWall cat plan said left)
ListensTo cat plan said left end.NotBound =
    IsUnbound said left.faults_before left.faults_after left.before left.after × (left.wall ≡ None)
ListensTo cat plan said left end.NoMemory =
    (left.wall ≡ None) × (left.after.handed ≡ 0) × (left.faults_after ≡ left.faults_before)
ListensTo cat plan said left outcome = ⊥

-- nothing was listened for
pub record IsUnheard (left : Left) : Type 0 where
  pub same : left.after ≡ left.before
  pub steady : left.faults_after ≡ left.faults_before
  pub no_wall : left.wall ≡ None

-- the catalogue's books with these bookings were served so
pub record ServesLeft (cat : CatalogueView) (said : Serving) (s : Sources) (left : Left) (outcome : ServeOutcome)
    : Type 0 where
  pub kept : List KeptBooking
  pub leaves : LeavesBookings s cat kept
  pub listens : ListensTo cat (layout_with (legs_in cat) cat.rows kept) said left outcome

-- Serving the catalogue's books with a journal ended so. A journal is lost only in serving, and then all connections
-- have ended.
abbrev pub ServesBooks : CatalogueView → Serving → Sources → Left → KeptOutcome → Type 0
ServesBooks cat said s left (kept.Plain end.NoMemory) =
    (left.wall ≡ None) × (left.after.handed ≡ 0) × (left.faults_after ≡ left.faults_before)
ServesBooks cat said s left (kept.Plain (end.NotLoaded cause)) =
    IsNotLeft cat s (fault.NotLoaded cause) × IsUnheard left
ServesBooks cat said s left (kept.Plain outcome) = ServesLeft cat said s left outcome
ServesBooks cat said s left kept.Locked = IsUnheard left
ServesBooks cat said s left kept.Exists = IsNotLeft cat s fault.Exists × IsUnheard left
ServesBooks cat said s left kept.TooLarge = IsNotLeft cat s fault.TooLarge × IsUnheard left
ServesBooks cat said s left (kept.Refused refusal) = IsNotLeft cat s (fault.Refused refusal) × IsUnheard left
ServesBooks cat said s left kept.Failed = IsUnheard left
ServesBooks cat said s left kept.Lost =
    ServesLeft cat said s left end.Served ⊎ ServesLeft cat said s left end.AcceptFailed

-- what the books of these words may begin with
abbrev pub sources_of : Files → ServeView → Option (List ℕ) → Sources
sources_of files said told = record { files = files; from = said.from; told = told }

-- What the words ask for ended so, before its export: there is no catalogue, or its books were served so.
abbrev pub ServesKept : Files → ServeView → Option (List ℕ) → Left → KeptOutcome → Type 0
ServesKept files said told left (kept.Plain (end.NotLoaded cause)) =
    (Loads files said.catalogue (Err cause)
    ⊎ ((cat : CatalogueView) × Loads files said.catalogue (Ok cat)
    × IsNotLeft cat (sources_of files said told) (fault.NotLoaded cause)))
    × IsUnheard left
ServesKept files said told left outcome =
    (cat : CatalogueView) × Loads files said.catalogue (Ok cat)
    × ServesBooks cat said.numbers (sources_of files said told) left outcome

-- what was written of the export by the end, where it is asked for, and what that makes of the end
abbrev pub WritesKept : Bool → Option WallView → Noting → KeptOutcome → KeptOutcome → Type 0
WritesKept false wall n old new = IsSilent n × (new ≡ old)
WritesKept true wall n (kept.Plain old) new =
    (outcome : ServeOutcome) × WritesExport wall n old outcome × (new ≡ kept.Plain outcome)
WritesKept true wall n old new =
    (outcome : ServeOutcome) × WritesExport wall n end.AcceptFailed outcome × (new ≡ old)

-- a run of `serve`: its words, its files and how often the shelf failed and missed, what is left, and what was noted
pub record Scene : Type 1 where
  pub words : List (List ℕ)
  pub files : Files
  pub failed : ℕ
  pub fails : ℕ
  pub missed : ℕ
  pub misses : ℕ
  pub left : Left
  pub notes : Noting

-- it ended without a journal
pub record EndsAlone (s : Scene) (status : ℕ) : Type 0 where
  pub outcome : ServeOutcome
  pub is : status ≡ status_of_serve outcome
  pub runs : Runs s.words s.files s.left outcome
  pub told : IsTold s.words s.left.wall s.notes outcome
  pub later : told.count ≤ s.notes.fails
  pub cause : HasShelfCause outcome s.failed s.fails s.missed s.misses

-- it ended with the journal that the words name, which had told this; one further member watched than without it
pub record EndsKept (s : Scene) (told : Option (List ℕ)) (status : ℕ) : Type 0 where
  pub said : ServeView
  pub name : List ℕ
  pub words_are : IsKeptServe s.words said name
  pub served : KeptOutcome
  pub ends : ServesKept s.files said told (record s.left { watchers = 1 + s.left.watchers }) served
  pub outcome : KeptOutcome
  pub between : Option (List ℕ)
  pub count : ℕ
  pub export : WritesKept said.export s.left.wall
      (record { before = s.notes.before; failed = s.notes.failed; after = between; fails = count }) served outcome
  pub note : IsNoted between s.notes.after count s.notes.fails (note_of (end_of_kept outcome))
  pub is : status ≡ status_of_kept outcome
  pub cause : HasKeptCause served s.failed s.fails s.missed s.misses
