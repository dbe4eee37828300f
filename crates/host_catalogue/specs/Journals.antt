-- The books that a journal leaves, and the export that is recovered from it.
use Rattle.std.specs.Prelude.{◌≡◌, ◌⊎◌, ⊤, ℕ, List, Option, None, IfSome, Ok, Err, Some}
use Rattle.catalogue_contents.specs.Contents.{CatalogueView}
use Rattle.claim_rule.specs.Openings.{KeptBooking}
use Rattle.cold_store.specs.declared.fault.ImportFault.{ImportFault}
use Rattle.cold_store.specs.declared.fault.ImportFault.TheVariants as import
use Rattle.journal_text.specs.Faults.{IsJournalFault}
use Rattle.journal_text.specs.Folds.{FoldView, IsFold}
use Rattle.journal_text.specs.declared.fault.JournalFault.{JournalFault}
use Rattle.journal_text.specs.declared.fault.JournalFault.TheVariants as journal
use Rattle.host_catalogue.specs.Prints.{print_in}
use Rattle.host_catalogue.specs.Files.{Files, HasCause, IsFileFault, IsText, IsTextOf, IsTooLarge}
use Rattle.host_catalogue.specs.Loading.{HasNone, IsRefusedText, LacksCatalogue, Loads}
use Rattle.host_catalogue.specs.Opening.{IsExportFor, IsRefusal}
use Rattle.host_catalogue.specs.declared.file.File.TheVariants.{Journal}
use Rattle.host_catalogue.specs.declared.journal.JournalRefusal.{JournalRefusal}
use Rattle.host_catalogue.specs.declared.journal.JournalRefusal.TheVariants as refusal
use Rattle.host_catalogue.specs.declared.journal.RecoverFault.{RecoverFault}
use Rattle.host_catalogue.specs.declared.journal.RecoverFault.TheVariants.{NotLoaded, Refused}

-- a text that is refused, or no memory for its fold or its books
abbrev pub refusal_of_text : JournalFault → JournalRefusal
refusal_of_text journal.NoMemory = refusal.NoMemory
refusal_of_text fault = refusal.NoJournal fault

abbrev pub refusal_of_export : ImportFault → JournalRefusal
refusal_of_export import.NoMemory = refusal.NoMemory
refusal_of_export fault = refusal.Export fault

-- the text is a journal of the catalogue, with this fold
pub record IsFoldFor (cat : CatalogueView) (text : List ℕ) (view : FoldView) : Type 0 where
  pub fold : IsFold text view
  pub print : view.print ≡ print_in cat

-- the text is a journal of another catalogue
pub record IsOfOther (cat : CatalogueView) (text : List ℕ) : Type 0 where
  pub view : FoldView
  pub fold : IsFold text view
  pub print : view.print ≡ print_in cat → ⊥

-- the text is a journal of the catalogue, and books of it don't open with its export
pub record IsShut (cat : CatalogueView) (text : List ℕ) (fault : ImportFault) : Type 0 where
  pub view : FoldView
  pub fold : IsFoldFor cat text view
  pub export : IsRefusal cat view.export fault

-- why a text is no journal
abbrev pub IsTextRefusal : List ℕ → JournalFault → Type 0
IsTextRefusal text journal.NoMemory = ⊥
IsTextRefusal text fault = IsJournalFault text fault

-- why the text is refused
abbrev pub IsJournalRefusal : CatalogueView → List ℕ → JournalRefusal → Type 0
IsJournalRefusal cat text (refusal.NoJournal fault) = IsTextRefusal text fault
IsJournalRefusal cat text refusal.OtherCatalogue = IsOfOther cat text
IsJournalRefusal cat text (refusal.Export fault) = IsShut cat text fault
IsJournalRefusal cat text refusal.NoMemory = ⊥

-- why the text gives no books
abbrev pub IsNotFolded : CatalogueView → List ℕ → JournalRefusal → Type 0
IsNotFolded cat text refusal.NoMemory = ⊤
IsNotFolded cat text e = IsJournalRefusal cat text e

-- The text is the export that the journal of one name folds to, with which books of the catalogue of the other name
-- open.
pub record IsRecovered (told : Files) (name journal text : List ℕ) : Type 0 where
  pub cat : CatalogueView
  pub loads : Loads told name (Ok cat)
  pub source : List ℕ
  pub given : IsTextOf Journal told journal source
  pub view : FoldView
  pub fold : IsFoldFor cat source view
  pub kept : List KeptBooking
  pub opens : IsExportFor cat view.export kept
  pub is : text ≡ view.export

-- the journal's text is refused
pub record IsRefusedJournal (told : Files) (name journal : List ℕ) (P : CatalogueView → List ℕ → Type 0) : Type 0 where
  pub cat : CatalogueView
  pub loads : Loads told name (Ok cat)
  pub source : List ℕ
  pub given : IsTextOf Journal told journal source
  pub refused : P cat source

-- Why no export is recovered: for the catalogue, for the journal's file, or for its text.
abbrev pub IsNotRecovered : Files → List ℕ → List ℕ → RecoverFault → Type 0
IsNotRecovered told name journal (NotLoaded fault) =
    Loads told name (Err fault)
    ⊎ ((cat : CatalogueView) × Loads told name (Ok cat) × IsFileFault Journal told journal fault)
IsNotRecovered told name journal (Refused e) =
    IsRefusedJournal told name journal (λ cat source. IsNotFolded cat source e)

-- Where the shelf gave no text, its counts show why; and where it didn't fail, its count of faults is as it was.
abbrev pub HasRecoverCause : RecoverFault → ℕ → ℕ → ℕ → ℕ → Type 0
HasRecoverCause (NotLoaded fault) failed fails missed misses = HasCause fault failed fails missed misses
HasRecoverCause (Refused e) failed fails missed misses = fails ≡ failed

-- the journal with the name isn't there, is too large, or is refused
abbrev pub LacksJournal : Files → CatalogueView → List ℕ → Type 0
LacksJournal told cat journal = IfSome told (λ files.
    (files journal ≡ None) ⊎ IsTooLarge Journal files journal
    ⊎ ((source : List ℕ) × IsText Journal files journal source
    × (e : JournalRefusal) × IsJournalRefusal cat source e))

-- a shelf has nothing to recover from, where it tells its files: no catalogue, or no journal of it
abbrev pub LacksRecovery : Files → List ℕ → List ℕ → Type 0
LacksRecovery told name journal =
    LacksCatalogue told name ⊎ ((cat : CatalogueView) × Loads told name (Ok cat) × LacksJournal told cat journal)

-- the text is no journal with whose export books of the catalogue open
abbrev pub IsNoJournal : CatalogueView → List ℕ → Type 0
IsNoJournal cat source =
    (view : FoldView) (kept : List KeptBooking) → IsFoldFor cat source view → IsExportFor cat view.export kept → ⊥

abbrev pub HasNoJournal : (List ℕ → Option (List ℕ)) → CatalogueView → List ℕ → Type 0
HasNoJournal files cat journal =
    (files journal ≡ None) ⊎ IsTooLarge Journal files journal
    ⊎ ((source : List ℕ) × IsText Journal files journal source × IsNoJournal cat source)

-- so of files
abbrev pub HasNoRecovery : (List ℕ → Option (List ℕ)) → List ℕ → List ℕ → Type 0
HasNoRecovery files name journal =
    HasNone files name ⊎ ((cat : CatalogueView) × Loads (Some files) name (Ok cat) × HasNoJournal files cat journal)

-- a text of the catalogue's file was refused, or one of the journal's
abbrev pub IsRefusedSource : Files → List ℕ → List ℕ → Type 0
IsRefusedSource told name journal =
    IsRefusedText told name
    ⊎ IsRefusedJournal told name journal (λ cat source. (e : JournalRefusal) × IsJournalRefusal cat source e)
