-- What the system's answers mean where a journal is opened.
use Rattle.std.specs.Prelude.{Bool, true, false, ◌≡◌, ◌+◌, ℕ, List, [], length, take, Option, None, Some, Result, Ok, Err, Vec, if◌then◌else◌, leb}
use Rattle.std.specs.IoError.{error_kind}
use Rattle.std.specs.declared.alloc.Global.{Global}
use Rattle.std.specs.declared.fs.File.{File}
use Rattle.std.specs.declared.fs.TryLockError.{TryLockError}
use Rattle.std.specs.declared.fs.TryLockError.TheVariants.{WouldBlock, Error as Broken}
use Rattle.std.specs.declared.io.Error.{Error}
use Rattle.std.specs.declared.io.ErrorKind.{ErrorKind}
use Rattle.std.specs.declared.io.ErrorKind.TheVariants.{NotFound, OutOfMemory}
use Rattle.rail_io.specs.declared.journal.JournalOpened.{JournalOpened}
use Rattle.rail_io.specs.declared.journal.JournalOpened.TheVariants as opened
use Rattle.host_io.specs.declared.journal.FileJournal.{FileJournal}

abbrev pub file_journal_faults : {J : Type 0} → FileJournal J → ℕ
file_journal_faults j = j.faults

-- a journal that can't be opened or read, by the kind of error
abbrev pub refused_by : ErrorKind → JournalOpened
refused_by OutOfMemory = opened.NoMemory
refused_by _ = opened.Failed

-- the bytes of the journal, of which one more was read than there is room for
abbrev pub opened_by : ℕ → Result (Option (Vec ℕ Global)) Error → JournalOpened
opened_by room (Ok None) = opened.Missing
opened_by room (Ok (Some text)) = if leb (length text.items) room then opened.Text text else opened.TooLarge
opened_by room (Err e) = refused_by (error_kind e)

-- What a read gives of a text: all of it, or one byte more than there is room for.
abbrev pub ReadsText : List ℕ → ℕ → Option (Vec ℕ Global) → Type 0
ReadsText text room None = text ≡ []
ReadsText text room (Some read) = read.items ≡ take (room + 1) text

-- a file that was to be opened, which may be missing
abbrev pub is_missing : ErrorKind → Bool
is_missing NotFound = true
is_missing _ = false

abbrev pub present_by : Result File Error → Result (Option File) Error
present_by (Ok file) = Ok (Some file)
present_by (Err e) = if is_missing (error_kind e) then Ok None else Err e

-- a file that was to be locked, which another process may have locked
abbrev pub locked_by : Result (Unit {0}) TryLockError → Result Bool Error
locked_by (Ok done) = Ok true
locked_by (Err WouldBlock) = Ok false
locked_by (Err (Broken e)) = Err e
