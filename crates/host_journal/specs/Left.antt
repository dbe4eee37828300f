-- What a journal leaves, and why it leaves nothing.
use Rattle.std.specs.Prelude.{◌≡◌, ◌⊎◌, ◌<◌, ℕ, List, [], Option, None, IfSome}
use Rattle.std.specs.Prelude.{length, map}
use Rattle.claim_rule.specs.Openings.{KeptBooking}
use Rattle.catalogue_contents.specs.Contents.{CatalogueView, legs_in}
use Rattle.line_text.specs.Lines.{SaidBooking}
use Rattle.cold_store.specs.Right.{kept_of}
use Rattle.journal_text.specs.Folds.{FoldView}
use Rattle.row_cuts.specs.Exports.{AreLinesOf}
use Rattle.host_catalogue.specs.Prints.{print_in}
use Rattle.host_catalogue.specs.Files.{Files, most_of}
use Rattle.host_catalogue.specs.Journals.{IsFoldFor, IsNotFolded}
use Rattle.host_catalogue.specs.Opening.{BeginsWith, IsExportFor, IsNotOpened, IsOpened}
use Rattle.host_catalogue.specs.declared.file.File.TheVariants.{Journal}
use Rattle.host_journal.specs.Logs.{head_of}
use Rattle.host_journal.specs.declared.opened.Opened.{Opened}
use Rattle.host_journal.specs.declared.log.Head.{Head}
use Rattle.host_journal.specs.declared.log.Lines.{Lines}
use Rattle.host_journal.specs.declared.keeping.KeepFault.{KeepFault}
use Rattle.host_journal.specs.declared.keeping.KeepFault.TheVariants as fault

-- what the books of `serve` may begin with: the shelf's files, the name of an export, where the words have one, and
-- what the journal told
pub record Sources : Type 0 where
  pub files : Files
  pub from : Option (List ℕ)
  pub told : Option (List ℕ)

-- there is no journal, where that is told
abbrev pub IsWithoutJournal : Sources → Type 0
IsWithoutJournal s = IfSome s.told (λ text. text ≡ [])

-- The bookings that books of the catalogue begin with. Where there is no journal they are those of the export, or none
-- where none is named. Where there is one, no export is named, and they are those of the export that it folds to.
abbrev pub LeavesBookings : Sources → CatalogueView → List KeptBooking → Type 0
LeavesBookings s cat kept =
    (IsWithoutJournal s × BeginsWith s.files cat s.from kept)
    ⊎ ((s.from ≡ None) × (text : List ℕ) × IfSome s.told (λ all. all ≡ text) × (view : FoldView)
    × IsFoldFor cat text view × IsExportFor cat view.export kept)

-- just the lines of these bookings, as an export has them
abbrev pub AreLinesFor : List KeptBooking → Lines → Type 0
AreLinesFor kept lines =
    (said : List SaidBooking) × (kept ≡ map kept_of said) × AreLinesOf said lines.text.items lines.count

-- books and their first desk have opened with just these, and these are their lines
abbrev pub LeavesOpened : Sources → CatalogueView → Opened → Lines → Type 0
LeavesOpened s cat opened lines =
    (kept : List KeptBooking) × LeavesBookings s cat kept × IsOpened cat kept opened.books opened.first
    × AreLinesFor kept lines

-- so of a text, which books and their first desk open with
abbrev pub LeavesIn : CatalogueView → List ℕ → Opened → Lines → Type 0
LeavesIn cat text opened lines =
    (view : FoldView) × IsFoldFor cat text view × (kept : List KeptBooking) × IsExportFor cat view.export kept
    × IsOpened cat kept opened.books opened.first × AreLinesFor kept lines

-- the head of a journal of the catalogue: its print, and how many places and rows it has
abbrev pub IsHeadFor : CatalogueView → Head → Type 0
IsHeadFor cat head =
    head_of head ≡ record { places = length (legs_in cat); rows = cat.rows; print = print_in cat }

-- no export is named
abbrev pub NamesNone : Option (List ℕ) → Type 0
NamesNone from = from ≡ None

-- why a journal's text gives no books, where this export is named
abbrev pub IsShutOut : CatalogueView → Option (List ℕ) → List ℕ → KeepFault → Type 0
IsShutOut cat from text fault.Exists = NamesNone from → ⊥
IsShutOut cat from text (fault.Refused refusal) = NamesNone from × IsNotFolded cat text refusal
IsShutOut cat from text fault.NoMemory = NamesNone from
IsShutOut cat from text _ = ⊥

-- why no books were opened
abbrev pub IsNotLeft : CatalogueView → Sources → KeepFault → Type 0
IsNotLeft cat s fault.TooLarge = IfSome s.told (λ text. most_of Journal < length text)
IsNotLeft cat s fault.Exists = NamesNone s.from → ⊥
IsNotLeft cat s (fault.Refused refusal) =
    NamesNone s.from × (text : List ℕ) × IfSome s.told (λ all. all ≡ text) × IsNotFolded cat text refusal
IsNotLeft cat s (fault.NotLoaded cause) = IsWithoutJournal s × IsNotOpened s.files cat s.from cause
IsNotLeft cat s _ = Unit {0}
