-- What the top call for plain commands does: one record for each command, and one for words that are refused.
use Rattle.std.specs.Prelude.{◌≡◌, ◌⊎◌, ◌++◌, ℕ, List, Option, Some, None}
use Rattle.rail_io.specs.Faults.{Rose}
use Rattle.session_loop.specs.declared.end.ConnEnd.{ConnEnd}
use Rattle.host_words.specs.Commands.{IsNamed}
use Rattle.host_words.specs.Recover.{IsNoRecover}
use Rattle.host_words.specs.Replay.{ReplayView}
use Rattle.host_words.specs.Settle.{IsNoSettle}
use Rattle.host_words.specs.Tiny.{IsNoTiny}
use Rattle.host_words.specs.declared.command.CommandName.{CommandName}
use Rattle.host_words.specs.declared.command.CommandName.TheVariants.{Tiny, Replay, Export, Settle, Recover}
use Rattle.host_words.specs.declared.command.CommandName.TheVariants.{Drill, Serve}
use Rattle.host_catalogue.specs.Files.{Files}
use Rattle.host_catalogue.specs.Journals.{HasNoRecovery}
use Rattle.host_catalogue.specs.Opening.{HasNoBooks}
use Rattle.host_catalogue.specs.Ends.{end_of, note_of, status_of}
use Rattle.host_catalogue.specs.declared.ending.CommandEnd.TheVariants.{WordsRefused}
use Rattle.host_tiny.specs.Host.{IsTinyRun, ServesAll, IsCutOrRefused, IsReadFault, IsWriteFault}
use Rattle.host_replay.specs.Input.{HasShelfCause, IsAsked, IsOfRefusedText, IsUntouched as IsUnserved, IsWithoutBooks}
use Rattle.host_replay.specs.Input.{end_of_replay, status_of_replay}
use Rattle.host_replay.specs.Replay.{IsNoReplay, Replays, RepliesAll, RepliesCut, RepliesPart, RepliesTaken}
use Rattle.host_replay.specs.Export.{EndsCut, Exports, ExportsAll, IsNoExport}
use Rattle.host_replay.specs.declared.end.ReplayEnd.{ReplayEnd}
use Rattle.host_replay.specs.Settle.{HasNoneToSettle, IsOfRefusedFile, IsOfWords, IsTableFor, Settles}
use Rattle.host_replay.specs.Settle.{HasSettleCause, end_of_settle, status_of_settle}
use Rattle.host_replay.specs.declared.settle_end.SettleEnd.{SettleEnd}
use Rattle.host_replay.specs.Recover.{HasEndCause, HasNoneToRecover, IsExportFrom, IsOfNames, IsOfRefusedSource}
use Rattle.host_replay.specs.Recover.{Recovers, end_of_recover, status_of_recover}
use Rattle.host_replay.specs.declared.recover_end.RecoverEnd.{RecoverEnd}
use Rattle.plain_commands.specs.Devices.{Devices, FailsAt, HasFailed, IsSteady, IsUntouched, OfShelf, Shelf, ShelfFailed}
use Rattle.plain_commands.specs.Devices.{Takes, Writes}
use Rattle.plain_commands.specs.Devices.{after, before, files_of, streams_of}

-- The words are refused, and nothing is touched but the notes.
pub record EndsRefused {F S K E : Type 0} (status : ℕ) (d : Devices F S K E) : Type 0 where
  pub is : status ≡ 2
  pub untouched : IsUntouched d
  pub note : Takes d.notes (note_of WordsRefused)

-- What the status says of the shelf. `Lacks` is that it has no books for the command, where it tells its files;
-- `HasNone`, that these files have none; `Refuses`, that one of their texts is refused.
pub record Fetches {F : Type 0} (Lacks Refuses : Files → Type 0) (HasNone : (List ℕ → Option (List ℕ)) → Type 0)
    (status : ℕ) (shelf : Shelf F) : Type 0 where
  -- status 1 comes where there are no books, and where there are none, it comes but for a failure and out of memory
  pub without : status ≡ 1 → Lacks (files_of shelf)
  pub no_books : (files : List ℕ → Option (List ℕ)) → files_of shelf ≡ Some files → HasNone files
      → (status ≡ 1) ⊎ (status ≡ 3) ⊎ (status ≡ 5)
  -- it comes where the shelf missed a file in this call, or a text was refused
  pub missed : status ≡ 1 → Rose (shelf.misses shelf.old) (shelf.misses shelf.new) ⊎ Refuses (files_of shelf)
  -- at every status but 3 the shelf didn't fail, and it tells the same files as before
  pub steady : (status ≡ 3 → ⊥) → shelf.faults shelf.new ≡ shelf.faults shelf.old
  pub same : shelf.told shelf.new ≡ shelf.told shelf.old

-- of the catalogue and the export that the words of `replay` or `export` name
abbrev pub FetchesFor : {F : Type 0} → CommandName → List (List ℕ) → ℕ → Shelf F → Type 0
FetchesFor name words status shelf =
    Fetches (IsWithoutBooks name words) (IsOfRefusedText name words)
    (λ files. (said : ReplayView) × IsAsked name words said × HasNoBooks files said.catalogue said.from) status shelf

-- and of those that the words of `settle` name
abbrev pub FetchesTable : {F : Type 0} → List (List ℕ) → ℕ → Shelf F → Type 0
FetchesTable words status shelf =
    Fetches (HasNoneToSettle words) (IsOfRefusedFile words)
    (λ files. IsOfWords words (λ catalogue export. HasNoBooks files catalogue (Some export))) status shelf

-- and of those that the words of `recover` name
abbrev pub FetchesJournal : {F : Type 0} → List (List ℕ) → ℕ → Shelf F → Type 0
FetchesJournal words status shelf =
    Fetches (HasNoneToRecover words) (IsOfRefusedSource words)
    (λ files. IsOfNames words (λ catalogue journal. HasNoRecovery files catalogue journal)) status shelf

-- `tiny` ran so. Where the input and the output tell their bytes, those written are the host's answers to those to
-- come.
pub record EndsTiny {F S K E : Type 0} (words : List (List ℕ)) (status : ℕ) (d : Devices F S K E) : Type 0 where
  pub end : ConnEnd
  pub is : status ≡ status_of (end_of end)
  pub note : Takes d.notes (note_of (end_of end))
  pub ran : IsTinyRun words (before d.input) (after d.input) (before d.output) (after d.output) end
  pub served : Writes (status ≡ 0) d (ServesAll words)
  pub cut : Writes (status ≡ 6) d (IsCutOrRefused words)
  pub read_fault : Writes (status ≡ 3) d (λ stream written. IsReadFault words stream (after d.input) written)
  pub write_fault : Writes (status ≡ 4) d (λ stream written. IsWriteFault words stream (after d.input) written)
  pub input : FailsAt 3 status d.input
  pub output : FailsAt 4 status d.output
  pub unfetched : d.shelf.new ≡ d.shelf.old

-- `replay` ran so. The bytes written are likewise the defined answers to those to come, by the books of the words'
-- files.
pub record EndsReplay {F S K E : Type 0} (words : List (List ℕ)) (status : ℕ) (d : Devices F S K E) : Type 0 where
  pub end : ReplayEnd
  pub is : status ≡ status_of_replay end
  pub note : Takes d.notes (note_of (end_of_replay end))
  pub ran : Replays words (files_of d.shelf) (streams_of d) end
  pub served : Writes (status ≡ 0) d (RepliesAll words (files_of d.shelf))
  pub cut : Writes (status ≡ 6) d (RepliesCut words (files_of d.shelf))
  pub read_fault : (stream front : List ℕ) → before d.input ≡ Some stream → before d.output ≡ Some front → status ≡ 3
      → IsUnserved (streams_of d)
      ⊎ ((written : List ℕ) × (after d.output ≡ Some (front ++ written))
      × RepliesTaken words (files_of d.shelf) stream (after d.input) written)
  pub write_fault : Writes (status ≡ 4) d
      (λ stream written. RepliesPart words (files_of d.shelf) stream (after d.input) written)
  -- the input or the shelf failed at status 3
  pub read_cause : status ≡ 3 → HasFailed d.input ⊎ ShelfFailed d.shelf
  pub read_steady : (status ≡ 3 → ⊥) → IsSteady d.input
  pub output : FailsAt 4 status d.output
  pub cause : OfShelf d.shelf (HasShelfCause end)
  pub shelf : FetchesFor Replay words status d.shelf

-- `export` ran so. The bytes written are the export that the requests to come leave: all of it at status 0, a front of
-- it at 4, and nothing at every other status.
pub record EndsExport {F S K E : Type 0} (words : List (List ℕ)) (status : ℕ) (d : Devices F S K E) : Type 0 where
  pub end : ReplayEnd
  pub is : status ≡ status_of_replay end
  pub note : Takes d.notes (note_of (end_of_replay end))
  pub ran : Exports words (files_of d.shelf) (streams_of d) end
  pub exported : Writes (status ≡ 0) d (ExportsAll words (files_of d.shelf))
  pub write_fault : (stream start : List ℕ) → before d.input ≡ Some stream → before d.output ≡ Some start → status ≡ 4
      → (front back : List ℕ) × (after d.output ≡ Some (start ++ front))
      × ExportsAll words (files_of d.shelf) stream (front ++ back)
  pub cut : (stream : List ℕ) → before d.input ≡ Some stream → status ≡ 6
      → (answers : List ℕ) × EndsCut words (files_of d.shelf) stream answers
  pub nothing_written : (status ≡ 0 → ⊥) → (status ≡ 4 → ⊥) → d.output.new ≡ d.output.old
  -- the input or the shelf failed at status 3; at 5 the input may have failed after an answer for which there was no
  -- memory
  pub read_cause : status ≡ 3 → HasFailed d.input ⊎ ShelfFailed d.shelf
  pub read_steady : (status ≡ 3 → ⊥) → (status ≡ 5 → ⊥) → IsSteady d.input
  pub output : FailsAt 4 status d.output
  pub cause : OfShelf d.shelf (HasShelfCause end)
  pub shelf : FetchesFor Export words status d.shelf

-- `settle` ran so. It reads no input, and the bytes written are the settlement table of the words' files: all of it at
-- status 0, a front of it at 4, and nothing at every other status.
pub record EndsSettle {F S K E : Type 0} (words : List (List ℕ)) (status : ℕ) (d : Devices F S K E) : Type 0 where
  pub end : SettleEnd
  pub is : status ≡ status_of_settle end
  pub note : Takes d.notes (note_of (end_of_settle end))
  pub ran : Settles words (files_of d.shelf) (before d.output) (after d.output) end
  pub settled : (start : List ℕ) → before d.output ≡ Some start → status ≡ 0
      → (text : List ℕ) × (after d.output ≡ Some (start ++ text)) × IsTableFor words (files_of d.shelf) text
  pub write_fault : (start : List ℕ) → before d.output ≡ Some start → status ≡ 4
      → (front back : List ℕ) × (after d.output ≡ Some (start ++ front))
      × IsTableFor words (files_of d.shelf) (front ++ back)
  pub nothing_written : (status ≡ 0 → ⊥) → (status ≡ 4 → ⊥) → d.output.new ≡ d.output.old
  pub unread : d.input.new ≡ d.input.old
  pub read_cause : status ≡ 3 → ShelfFailed d.shelf
  pub output : FailsAt 4 status d.output
  pub cause : OfShelf d.shelf (HasSettleCause end)
  pub shelf : FetchesTable words status d.shelf

-- `recover` ran so. It reads no input, and the bytes written are the export of the words' journal: all of it at
-- status 0, a front of it at 4, and nothing at every other status.
pub record EndsRecover {F S K E : Type 0} (words : List (List ℕ)) (status : ℕ) (d : Devices F S K E) : Type 0 where
  pub end : RecoverEnd
  pub is : status ≡ status_of_recover end
  pub note : Takes d.notes (note_of (end_of_recover end))
  pub ran : Recovers words (files_of d.shelf) (before d.output) (after d.output) end
  pub recovered : (start : List ℕ) → before d.output ≡ Some start → status ≡ 0
      → (text : List ℕ) × (after d.output ≡ Some (start ++ text)) × IsExportFrom words (files_of d.shelf) text
  pub write_fault : (start : List ℕ) → before d.output ≡ Some start → status ≡ 4
      → (front back : List ℕ) × (after d.output ≡ Some (start ++ front))
      × IsExportFrom words (files_of d.shelf) (front ++ back)
  pub nothing_written : (status ≡ 0 → ⊥) → (status ≡ 4 → ⊥) → d.output.new ≡ d.output.old
  pub unread : d.input.new ≡ d.input.old
  pub read_cause : status ≡ 3 → ShelfFailed d.shelf
  pub output : FailsAt 4 status d.output
  pub cause : OfShelf d.shelf (HasEndCause end)
  pub shelf : FetchesJournal words status d.shelf

-- How the plain command of this name ended: its words are refused, or it ran. Words of no plain command are refused.
abbrev pub EndsPlainly : {F S K E : Type 0} → Option CommandName → List (List ℕ) → ℕ → Devices F S K E → Type 0
EndsPlainly (Some Tiny) words status d = (IsNoTiny words × EndsRefused status d) ⊎ EndsTiny words status d
EndsPlainly (Some Replay) words status d = (IsNoReplay words × EndsRefused status d) ⊎ EndsReplay words status d
EndsPlainly (Some Export) words status d = (IsNoExport words × EndsRefused status d) ⊎ EndsExport words status d
EndsPlainly (Some Settle) words status d = (IsNoSettle words × EndsRefused status d) ⊎ EndsSettle words status d
EndsPlainly (Some Recover) words status d = (IsNoRecover words × EndsRefused status d) ⊎ EndsRecover words status d
EndsPlainly (Some Drill) words status d = EndsRefused status d
EndsPlainly (Some Serve) words status d = EndsRefused status d
EndsPlainly None words status d = EndsRefused status d

-- so by the words, of which the first names the command
abbrev pub RanPlainly : {F S K E : Type 0} → List (List ℕ) → ℕ → Devices F S K E → Type 0
RanPlainly words status d = (name : Option CommandName) × IsNamed name words × EndsPlainly name words status d
