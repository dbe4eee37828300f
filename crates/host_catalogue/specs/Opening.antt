-- The books that a command begins with: those of its catalogue, with no booking or with those of an export.
use Rattle.std.specs.Prelude.{◌≡◌, ◌⊎◌, ℕ, List, [], map, Option, Some, None, IfSome, Ok, Err, option_map}
use Rattle.catalogue_contents.specs.Contents.{CatalogueView, legs_in}
use Rattle.booking_rows.specs.SealedRows.{FitWords}
use Rattle.claim_rule.specs.Openings.{KeptBooking, MayOpen, layout_with}
use Rattle.claim_rule.specs.Out.{IsTidy}
use Rattle.claim_rule.specs.Rule.{BooksView, DeskView}
use Rattle.claim_rule.specs.Desks.{IsNew, IsOf}
use Rattle.cold_store.specs.Imports.{IsImportFault, IsRightText}
use Rattle.line_text.specs.Lines.{SaidBooking}
use Rattle.cold_store.specs.Right.{kept_of}
use Rattle.cold_store.specs.Tidy.{AreSucceeded}
use Rattle.cold_store.specs.declared.fault.ImportFault.{ImportFault}
use Rattle.cold_store.specs.declared.fault.ImportFault.TheVariants as fault
use Rattle.host_catalogue.specs.Files.{Files, IsFileFault, IsText, IsTextOf, IsTooLarge}
use Rattle.host_catalogue.specs.Loading.{HasNone, IsRefusedText, LacksCatalogue, Loads}
use Rattle.host_catalogue.specs.declared.file.File.TheVariants.{Export}
use Rattle.host_catalogue.specs.declared.file.LoadFault.{LoadFault}
use Rattle.host_catalogue.specs.declared.file.LoadFault.TheVariants.{RefusedExport, NoMemory}
use Rattle.std.specs.Borrow.{Bor}
use Rattle.history_model.specs.Booking.{Layout}

-- the text is an export for books of the catalogue, and these are its bookings
abbrev pub IsExportFor : CatalogueView → List ℕ → List KeptBooking → Type 0
IsExportFor cat text kept =
    (said : List SaidBooking) × IsRightText (legs_in cat) cat.rows text said × (kept ≡ map kept_of said)

-- what new books of the catalogue have
abbrev pub new_layout : CatalogueView → Layout
new_layout cat = record { legs = legs_in cat; rows = cat.rows; opening = [] }

-- the name of the export, where a command has one
abbrev pub export_name : Option (Bor (List ℕ)) → Option (List ℕ)
export_name from = option_map (λ name. name.now) from

-- what books of the catalogue open with: no booking, or those of the export with the name
abbrev pub BeginsWith : Files → CatalogueView → Option (List ℕ) → List KeptBooking → Type 0
BeginsWith told cat None kept = kept ≡ []
BeginsWith told cat (Some name) kept = (text : List ℕ) × IsTextOf Export told name text × IsExportFor cat text kept

-- Books of the catalogue that open with these bookings, and their first desk, which has seen nothing. Each exchange
-- among the bookings has its new booking.
pub record IsOpened (cat : CatalogueView) (kept : List KeptBooking) (books : BooksView) (desk : DeskView) : Type 0 where
  pub layout : books.layout ≡ layout_with (legs_in cat) cat.rows kept
  pub own : IsOf books desk
  pub new : IsNew desk 0 []
  pub tidy : IsTidy desk
  pub fit : FitWords books.layout
  pub may : MayOpen (legs_in cat) cat.rows kept
  pub succeeded : AreSucceeded books.layout.opening

-- so by the bookings of the export that the text is
abbrev pub IsOpenedFrom : CatalogueView → List ℕ → BooksView → DeskView → Type 0
IsOpenedFrom cat text books desk = (kept : List KeptBooking) × IsExportFor cat text kept × IsOpened cat kept books desk

-- why a text is no export for books of the catalogue
abbrev pub IsRefusal : CatalogueView → List ℕ → ImportFault → Type 0
IsRefusal cat text fault.NoMemory = ⊥
IsRefusal cat text fault = IsImportFault (legs_in cat) cat.rows text fault

-- why the text gives no books
abbrev pub IsNotImported : CatalogueView → List ℕ → LoadFault → Type 0
IsNotImported cat text (RefusedExport fault) = IsRefusal cat text fault
IsNotImported cat text fault = fault ≡ NoMemory

-- why the books of the catalogue weren't opened
abbrev pub IsNotOpened : Files → CatalogueView → Option (List ℕ) → LoadFault → Type 0
IsNotOpened told cat (Some name) (RefusedExport fault) =
    (text : List ℕ) × IsTextOf Export told name text × IsRefusal cat text fault
IsNotOpened told cat (Some name) fault = IsFileFault Export told name fault
IsNotOpened told cat None fault = fault ≡ NoMemory

-- Why a command has no books: for its catalogue, or for the export that they are to open with.
abbrev pub Fails : Files → List ℕ → Option (List ℕ) → LoadFault → Type 0
Fails told name from fault =
    Loads told name (Err fault) ⊎ ((cat : CatalogueView) × Loads told name (Ok cat) × IsNotOpened told cat from fault)

-- the catalogue of the file with the name, and what its books open with
abbrev pub HasBooks : Files → List ℕ → Option (List ℕ) → CatalogueView → List KeptBooking → Type 0
HasBooks told name from cat kept = Loads told name (Ok cat) × BeginsWith told cat from kept

-- the export with the name isn't there, is too large, or is refused
abbrev pub LacksExport : Files → CatalogueView → Option (List ℕ) → Type 0
LacksExport told cat None = ⊥
LacksExport told cat (Some name) = IfSome told (λ files.
    (files name ≡ None) ⊎ IsTooLarge Export files name
    ⊎ ((text : List ℕ) × IsText Export files name text × (fault : ImportFault) × IsRefusal cat text fault))

-- a shelf has no books for a command, where it tells its files: no catalogue, or not the export that they are to open
-- with
abbrev pub LacksBooks : Files → List ℕ → Option (List ℕ) → Type 0
LacksBooks told name from =
    LacksCatalogue told name ⊎ ((cat : CatalogueView) × Loads told name (Ok cat) × LacksExport told cat from)

-- the text is no export for books of the catalogue
abbrev pub IsNoExport : CatalogueView → List ℕ → Type 0
IsNoExport cat text = (kept : List KeptBooking) → IsExportFor cat text kept → ⊥

abbrev pub HasNoExport : (List ℕ → Option (List ℕ)) → CatalogueView → Option (List ℕ) → Type 0
HasNoExport files cat None = ⊥
HasNoExport files cat (Some name) =
    (files name ≡ None) ⊎ IsTooLarge Export files name
    ⊎ ((text : List ℕ) × IsText Export files name text × IsNoExport cat text)

-- so of files
abbrev pub HasNoBooks : (List ℕ → Option (List ℕ)) → List ℕ → Option (List ℕ) → Type 0
HasNoBooks files name from =
    HasNone files name ⊎ ((cat : CatalogueView) × Loads (Some files) name (Ok cat) × HasNoExport files cat from)

abbrev pub IsRefusedExport : Files → CatalogueView → Option (List ℕ) → Type 0
IsRefusedExport told cat None = ⊥
IsRefusedExport told cat (Some name) =
    (text : List ℕ) × IsTextOf Export told name text × (fault : ImportFault) × IsRefusal cat text fault

-- a text of the catalogue's file was refused, or one of the export's
abbrev pub IsRefusedFile : Files → List ℕ → Option (List ℕ) → Type 0
IsRefusedFile told name from =
    IsRefusedText told name ⊎ ((cat : CatalogueView) × Loads told name (Ok cat) × IsRefusedExport told cat from)
