-- The ends of `serve`.
use Rattle.std.specs.Prelude.{ℕ, Bool, true}
use Rattle.host_catalogue.specs.Ends.{status_of}
use Rattle.host_catalogue.specs.declared.ending.CommandEnd.{CommandEnd}
use Rattle.host_catalogue.specs.declared.ending.CommandEnd.TheVariants as ended
use Rattle.host_journal.specs.declared.end.BooksOutcome.{BooksOutcome}
use Rattle.host_journal.specs.declared.end.BooksOutcome.TheVariants as books
use Rattle.host_catalogue.specs.declared.file.File.TheVariants.{Journal}
use Rattle.host_catalogue.specs.declared.file.LoadFault.TheVariants.{TooLarge}
use Rattle.host_journal.specs.declared.end.KeptOutcome.{KeptOutcome}
use Rattle.host_journal.specs.declared.end.KeptOutcome.TheVariants as kept
use Rattle.host_journal.specs.declared.keeping.KeepFault.{KeepFault}
use Rattle.host_journal.specs.declared.keeping.KeepFault.TheVariants as fault
use Rattle.host_journal.specs.declared.end.ServeOutcome.{ServeOutcome}
use Rattle.host_journal.specs.declared.end.ServeOutcome.TheVariants as end

-- how serving ended, where books were served so
abbrev pub outcome_of_books : BooksOutcome → ServeOutcome
outcome_of_books books.NoMemory = end.NoMemory
outcome_of_books books.AcceptFailed = end.AcceptFailed
outcome_of_books books.Served = end.Served

-- the command's end
abbrev pub end_of_serve : ServeOutcome → CommandEnd
end_of_serve end.Refused = ended.WordsRefused
end_of_serve end.NoMemory = ended.NoMemory
end_of_serve (end.NotLoaded fault) = ended.NotLoaded fault
end_of_serve end.NotBound = ended.ReadFault
end_of_serve end.AcceptFailed = ended.ReadFault
end_of_serve end.NoText = ended.NoMemory
end_of_serve end.Unwritten = ended.WriteFault
end_of_serve end.Served = ended.Done

-- its status
abbrev pub status_of_serve : ServeOutcome → ℕ
status_of_serve outcome = status_of (end_of_serve outcome)

-- so with a journal or without one
abbrev pub end_of_kept : KeptOutcome → CommandEnd
end_of_kept (kept.Plain outcome) = end_of_serve outcome
end_of_kept kept.Locked = ended.JournalLocked
end_of_kept kept.Exists = ended.JournalExists
end_of_kept kept.TooLarge = ended.NotLoaded (TooLarge Journal)
end_of_kept (kept.Refused refusal) = ended.JournalRefused refusal
end_of_kept kept.Failed = ended.JournalFailed
end_of_kept kept.Lost = ended.JournalLost

abbrev pub status_of_kept : KeptOutcome → ℕ
status_of_kept outcome = status_of (end_of_kept outcome)

-- how serving with a journal ended, where books were served so, and the journal is lost or not
abbrev pub lost_or : Bool → ServeOutcome → KeptOutcome
lost_or true end.Served = kept.Lost
lost_or true end.AcceptFailed = kept.Lost
lost_or _ outcome = kept.Plain outcome

-- how it ends where books of a journal weren't opened
abbrev pub outcome_of_fault : KeepFault → KeptOutcome
outcome_of_fault fault.Locked = kept.Locked
outcome_of_fault fault.Exists = kept.Exists
outcome_of_fault fault.TooLarge = kept.TooLarge
outcome_of_fault (fault.Refused refusal) = kept.Refused refusal
outcome_of_fault (fault.NotLoaded cause) = kept.Plain (end.NotLoaded cause)
outcome_of_fault fault.Failed = kept.Failed
outcome_of_fault fault.NoMemory = kept.Plain end.NoMemory
