-- The notes on a file that is refused, or of which there is no text.
use Rattle.std.specs.Prelude.{ℕ, List, [], ◌++◌, codes, decimal, string_bytes}
use Rattle.rail_catalogue.specs.declared.fault.CatalogueFault.{CatalogueFault}
use Rattle.rail_catalogue.specs.declared.fault.CatalogueFault.TheVariants as fault
use Rattle.cold_store.specs.declared.fault.ImportFault.{ImportFault}
use Rattle.cold_store.specs.declared.fault.ImportFault.TheVariants as import
use Rattle.journal_text.specs.declared.fault.JournalFault.{JournalFault}
use Rattle.journal_text.specs.declared.fault.JournalFault.TheVariants as journal
use Rattle.host_catalogue.specs.declared.file.File.TheVariants as file
use Rattle.host_catalogue.specs.declared.journal.JournalRefusal.{JournalRefusal}
use Rattle.host_catalogue.specs.declared.journal.JournalRefusal.TheVariants as refusal
use Rattle.host_catalogue.specs.declared.note.NotePlace.{NotePlace}
use Rattle.host_catalogue.specs.declared.note.NotePlace.TheVariants as place
use Rattle.host_catalogue.specs.declared.file.LoadFault.{LoadFault}
use Rattle.host_catalogue.specs.declared.file.LoadFault.TheVariants.{Missing, TooLarge, Refused, RefusedExport}
use Rattle.host_catalogue.specs.declared.file.LoadFault.TheVariants.{Failed, NoMemory}

-- where a fault is
abbrev pub place_text : NotePlace → List ℕ
place_text (place.Path path) = path.now
place_text (place.Cut cut) = decimal cut
place_text (place.Line line cut) = (decimal line ++ codes " of cut ") ++ decimal cut

-- a fault's number, and the path of a member at fault
abbrev pub fault_note : CatalogueFault → List ℕ
fault_note fault.NotJson = codes "rail_host: catalogue fault 1\n"
fault_note (fault.Field path) = codes "rail_host: catalogue fault 2 at " ++ (string_bytes path ++ codes "\n")
fault_note (fault.Run e) = codes "rail_host: catalogue fault 3\n"
fault_note (fault.Place e) = codes "rail_host: catalogue fault 4\n"
fault_note (fault.Tariff e) = codes "rail_host: catalogue fault 5\n"
fault_note (fault.UnknownStation code) = codes "rail_host: catalogue fault 6\n"
fault_note fault.DoubleKey = codes "rail_host: catalogue fault 7\n"
fault_note fault.NoMemory = codes "rail_host: no memory\n"

-- a fault's number
abbrev pub export_note : ImportFault → List ℕ
export_note (import.NotAnExport line) = codes "rail_host: export fault 1\n"
export_note import.Sizes = codes "rail_host: export fault 2\n"
export_note (import.RowWrong row) = codes "rail_host: export fault 3\n"
export_note (import.Overlap place) = codes "rail_host: export fault 4\n"
export_note (import.OwnSuccessor row) = codes "rail_host: export fault 5\n"
export_note import.NoMemory = codes "rail_host: no memory\n"

-- a fault's number, and the cut and the line at fault
abbrev pub journal_note : JournalFault → List ℕ
journal_note journal.NotAJournal = codes "rail_host: journal fault 1\n"
journal_note (journal.WrongLine cut line) =
    codes "rail_host: journal fault 2 at line " ++ (((decimal line ++ codes " of cut ") ++ decimal cut) ++ codes "\n")
journal_note (journal.BrokenCut cut) = codes "rail_host: journal fault 3 at cut " ++ (decimal cut ++ codes "\n")
journal_note journal.NoMemory = codes "rail_host: no memory\n"

abbrev pub refusal_note : JournalRefusal → List ℕ
refusal_note (refusal.NoJournal fault) = journal_note fault
refusal_note refusal.OtherCatalogue = codes "rail_host: journal fault 4\n"
refusal_note (refusal.Export fault) = export_note fault
refusal_note refusal.NoMemory = codes "rail_host: no memory\n"

abbrev pub load_note : LoadFault → List ℕ
load_note (Missing file.Catalogue) = codes "rail_host: catalogue missing\n"
load_note (Missing file.Export) = codes "rail_host: export missing\n"
load_note (Missing file.Journal) = codes "rail_host: journal missing\n"
load_note (TooLarge file.Catalogue) = codes "rail_host: catalogue too large\n"
load_note (TooLarge file.Export) = codes "rail_host: export too large\n"
load_note (TooLarge file.Journal) = codes "rail_host: journal too large\n"
load_note (Refused e) = fault_note e
load_note (RefusedExport e) = export_note e
load_note Failed = codes "rail_host: read fault\n"
load_note NoMemory = codes "rail_host: no memory\n"
