-- The words of all commands, and how the program ends.
use Rattle.std.specs.Prelude.{◌≡◌, ◌≤◌, ◌⊎◌, ℕ, List, Option, Some, None, IsSomeAnd}
use Rattle.rail_io.specs.Faults.{Rose}
use Rattle.rail_io.specs.Told.{with_end}
use Rattle.cold_store.specs.Exports.{text_on}
use Rattle.claim_rule.specs.Walls.{WallView}
use Rattle.host_words.specs.Commands.{IsNamed}
use Rattle.host_words.specs.Recover.{IsNoRecover}
use Rattle.host_words.specs.Serve.{ServeView}
use Rattle.host_words.specs.Settle.{IsNoSettle}
use Rattle.host_words.specs.Tiny.{IsNoTiny}
use Rattle.host_words.specs.declared.command.CommandName.{CommandName}
use Rattle.host_words.specs.declared.command.CommandName.TheVariants.{Drill, Serve}
use Rattle.host_catalogue.specs.Opening.{HasNoBooks}
use Rattle.host_catalogue.specs.Ends.{note_of, status_of}
use Rattle.host_replay.specs.Replay.{IsNoReplay}
use Rattle.host_replay.specs.Export.{IsNoExport}
use Rattle.host_drill.specs.Ends.{IsNoDrill, Leaves, end_of_drill}
use Rattle.host_drill.specs.declared.drill.Cause.{Cause}
use Rattle.host_journal.specs.Ends.{status_of_serve}
use Rattle.host_serve.specs.Kept.{EndsKept, IsNoKeptServe, Scene}
use Rattle.host_journal.specs.Causes.{HasShelfCause}
use Rattle.host_serve.specs.Serve.{IsExporting, IsNoServe, IsOfRefusedText, IsOnlyLimited, IsServe}
use Rattle.host_serve.specs.Serve.{IsWithoutBooks, Left, Runs}
use Rattle.host_serve.specs.Telling.{IsTold, Noting}
use Rattle.host_journal.specs.declared.end.ServeOutcome.{ServeOutcome}
use Rattle.plain_commands.specs.Devices.{Devices, FailsAt, HasFailed, IsUntouched, OfShelf, ShelfFailed, Stream, Takes}
use Rattle.plain_commands.specs.Devices.{after, before, files_of}
use Rattle.plain_commands.specs.Plain.{EndsPlainly}

-- they are those of no command
pub record IsNoCommand (words : List (List ℕ)) : Type 0 where
  pub tiny : IsNoTiny words
  pub replay : IsNoReplay words
  pub export : IsNoExport words
  pub settle : IsNoSettle words
  pub recover : IsNoRecover words
  pub drill : IsNoDrill words
  pub serve : IsNoServe words
  pub kept : IsNoKeptServe words

-- `drill` left this output so, and this wall, which is that of the finished books that its line counts.
pub record EndsDrill {F S K E : Type 0} (words : List (List ℕ)) (wall : Option WallView) (status : ℕ)
    (d : Devices F S K E) : Type 0 where
  pub cause : Cause
  pub is : status ≡ status_of (end_of_drill cause)
  pub note : Takes d.notes (note_of (end_of_drill cause))
  pub leaves : Leaves words (before d.output) (after d.output) wall cause
  pub refused : status ≡ 2 → IsNoDrill words × IsUntouched d
  pub output : FailsAt 4 status d.output
  pub unread : d.input.new ≡ d.input.old
  pub unfetched : d.shelf.new ≡ d.shelf.old

-- the notes, as `serve` sees them
abbrev pub noting : {D : Type 0} → Stream D → Noting
noting s = record { before = s.told s.old; failed = s.faults s.old; after = s.told s.new; fails = s.faults s.new }

-- What the status of `serve` says of the shelf and of the listener.
pub record ServesFrom {F S K E : Type 0} (words : List (List ℕ)) (left : Left) (status : ℕ)
    (d : Devices F S K E) : Type 0 where
  -- status 1 comes where the shelf has no books; where it tells that it has none, no other comes but for its failure
  -- and out of memory
  pub without : status ≡ 1 → IsWithoutBooks words (files_of d.shelf)
  pub no_books : (files : List ℕ → Option (List ℕ)) → files_of d.shelf ≡ Some files → (said : ServeView)
      → IsServe words said → HasNoBooks files said.catalogue said.from
      → (status ≡ 1) ⊎ ((status ≡ 3) × ShelfFailed d.shelf) ⊎ (status ≡ 5)
  pub missed : status ≡ 1 → Rose (d.shelf.misses d.shelf.old) (d.shelf.misses d.shelf.new)
      ⊎ IsOfRefusedText words (files_of d.shelf)
  -- the listener or the shelf failed at status 3, and neither did at any other
  pub read_cause : status ≡ 3 → Rose left.faults_before left.faults_after ⊎ ShelfFailed d.shelf
  pub shelf_steady : (status ≡ 3 → ⊥) → d.shelf.faults d.shelf.new ≡ d.shelf.faults d.shelf.old
  pub steady : (status ≡ 3 → ⊥) → left.faults_after ≡ left.faults_before
  pub never_falls : left.faults_before ≤ left.faults_after
  -- a wall is missing at status 3 only where the shelf or the bind failed, and never at 0
  pub wall : status ≡ 0 → left.wall ≡ None → ⊥
  pub no_wall : status ≡ 3 → left.wall ≡ None → ShelfFailed d.shelf ⊎ IsOnlyLimited words left.before left.after
  pub same : d.shelf.told d.shelf.new ≡ d.shelf.told d.shelf.old

-- `serve` ran so, from what the listener told to what it tells. The notes took the export of the wall that is left, if
-- it was asked for, and then the note of the end.
pub record EndsServe {F S K E : Type 0} (words : List (List ℕ)) (left : Left) (status : ℕ)
    (d : Devices F S K E) : Type 0 where
  pub outcome : ServeOutcome
  pub is : status ≡ status_of_serve outcome
  pub ran : Runs words (files_of d.shelf) left outcome
  pub told : IsTold words left.wall (noting d.notes) outcome
  pub exported : status ≡ 0 → IsExporting words
      → IsSomeAnd left.wall (λ w. after d.notes ≡ with_end (before d.notes) (text_on w))
  pub write_cause : status ≡ 4 → IsExporting words × HasFailed d.notes
  pub cause : OfShelf d.shelf (HasShelfCause outcome)
  pub from : ServesFrom words left status d
  pub refused : status ≡ 2 → IsNoServe words × IsUntouched d × (left.wall ≡ None)
  pub refused_words : IsNoServe words → (status ≡ 2) ⊎ (status ≡ 5)
  pub unread : d.input.new ≡ d.input.old
  pub unwritten : d.output.new ≡ d.output.old

-- a run of `serve`, as what it left and its devices show it
abbrev pub scene : {F S K E : Type 0} → List (List ℕ) → Left → Devices F S K E → Scene
scene words left d =
    record {
      words = words;
      files = files_of d.shelf;
      failed = d.shelf.faults d.shelf.old;
      fails = d.shelf.faults d.shelf.new;
      missed = d.shelf.misses d.shelf.old;
      misses = d.shelf.misses d.shelf.new;
      left = left;
      notes = noting d.notes;
    }

-- `serve` ran so with the journal that its words name, which had told this.
pub record EndsKeeping {F S K E : Type 0} (words : List (List ℕ)) (left : Left) (journal : Option (List ℕ)) (status : ℕ)
    (d : Devices F S K E) : Type 0 where
  pub kept : EndsKept (scene words left d) journal status
  pub never_falls : left.faults_before ≤ left.faults_after
  pub same : d.shelf.told d.shelf.new ≡ d.shelf.told d.shelf.old
  pub unread : d.input.new ≡ d.input.old
  pub unwritten : d.output.new ≡ d.output.old

-- `serve` ran so: without a journal, or with one.
abbrev pub EndsServing : {F S K E : Type 0} → List (List ℕ) → Left → Option (List ℕ) → ℕ → Devices F S K E → Type 0
EndsServing words left journal status d = EndsServe words left status d ⊎ EndsKeeping words left journal status d

-- How the command of this name ended, where the journal had told this. None but `serve` and `drill` leaves a wall.
abbrev pub Ends : {F S K E : Type 0} → Option CommandName → List (List ℕ) → Left → Option (List ℕ) → ℕ
    → Devices F S K E → Type 0
Ends (Some Drill) words left journal status d = EndsDrill words left.wall status d
Ends (Some Serve) words left journal status d = EndsServing words left journal status d
Ends name words left journal status d = EndsPlainly name words status d × (left.wall ≡ None)

-- so by the words, of which the first names the command
abbrev pub Ran : {F S K E : Type 0} → List (List ℕ) → Left → Option (List ℕ) → ℕ → Devices F S K E → Type 0
Ran words left journal status d =
    (name : Option CommandName) × IsNamed name words × Ends name words left journal status d
