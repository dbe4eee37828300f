-- How a command ends: one table of statuses and notes, for all commands.
use Rattle.std.specs.Prelude.{ℕ, List, [], codes}
use Rattle.session_loop.specs.declared.end.ConnEnd.{ConnEnd}
use Rattle.session_loop.specs.declared.end.ConnEnd.TheVariants as conn
use Rattle.host_catalogue.specs.Notes.{load_note, refusal_note}
use Rattle.host_catalogue.specs.declared.file.LoadFault.{LoadFault}
use Rattle.host_catalogue.specs.declared.file.LoadFault.TheVariants as load
use Rattle.host_catalogue.specs.declared.journal.JournalRefusal.{JournalRefusal}
use Rattle.host_catalogue.specs.declared.journal.JournalRefusal.TheVariants as refusal
use Rattle.host_catalogue.specs.declared.ending.CommandEnd.{CommandEnd}
use Rattle.host_catalogue.specs.declared.ending.CommandEnd.TheVariants.{Done, NotLoaded, WordsRefused, ReadFault}
use Rattle.host_catalogue.specs.declared.ending.CommandEnd.TheVariants.{WriteFault, NoMemory, InputCut, InputRefused}
use Rattle.host_catalogue.specs.declared.ending.CommandEnd.TheVariants.{JournalLocked, JournalRefused, JournalFailed}
use Rattle.host_catalogue.specs.declared.ending.CommandEnd.TheVariants.{JournalExists, JournalLost}

-- the status without books
abbrev pub status_of_fault : LoadFault → ℕ
status_of_fault (load.Missing file) = 1
status_of_fault (load.TooLarge file) = 1
status_of_fault (load.Refused fault) = 1
status_of_fault (load.RefusedExport fault) = 1
status_of_fault load.Failed = 3
status_of_fault load.NoMemory = 5

-- the status where a journal's text is refused
abbrev pub status_of_refusal : JournalRefusal → ℕ
status_of_refusal (refusal.NoJournal fault) = 1
status_of_refusal refusal.OtherCatalogue = 1
status_of_refusal (refusal.Export fault) = 1
status_of_refusal refusal.NoMemory = 5

abbrev pub status_of : CommandEnd → ℕ
status_of Done = 0
status_of (NotLoaded fault) = status_of_fault fault
status_of JournalLocked = 1
status_of JournalExists = 1
status_of (JournalRefused e) = status_of_refusal e
status_of WordsRefused = 2
status_of ReadFault = 3
status_of JournalFailed = 3
status_of WriteFault = 4
status_of JournalLost = 4
status_of NoMemory = 5
status_of InputCut = 6
status_of InputRefused = 6

abbrev pub note_of : CommandEnd → List ℕ
note_of Done = []
note_of (NotLoaded fault) = load_note fault
note_of JournalLocked = codes "rail_host: journal locked\n"
note_of JournalExists = codes "rail_host: journal exists\n"
note_of (JournalRefused e) = refusal_note e
note_of WordsRefused = codes "rail_host: words refused\n"
note_of ReadFault = codes "rail_host: read fault\n"
note_of JournalFailed = codes "rail_host: journal failed\n"
note_of WriteFault = codes "rail_host: write fault\n"
note_of JournalLost = codes "rail_host: journal lost\n"
note_of NoMemory = codes "rail_host: no memory\n"
note_of InputCut = codes "rail_host: input cut\n"
note_of InputRefused = codes "rail_host: input refused\n"

-- how a command ends that serves one connection
abbrev pub end_of : ConnEnd → CommandEnd
end_of conn.Done = Done
end_of conn.Cut = InputCut
end_of (conn.Refused fault) = InputRefused
end_of conn.ReadFault = ReadFault
end_of conn.WriteFault = WriteFault
end_of conn.NoMemory = NoMemory

-- its status
abbrev pub status_of_end : ConnEnd → ℕ
status_of_end end = status_of (end_of end)
