-- The catalogue of a command's file.
use Rattle.std.specs.Prelude.{◌≡◌, ◌⊎◌, ⊤, ℕ, List, Option, None, IfSome, IsSomeAnd, Result, Ok, Err}
use Rattle.catalogue_contents.specs.Contents.{CatalogueView}
use Rattle.rail_catalogue.specs.Faults.{Fault, fault_of}
use Rattle.rail_catalogue.specs.Format.{catalogue_of}
use Rattle.rail_catalogue.specs.declared.fault.CatalogueFault.{CatalogueFault}
use Rattle.rail_catalogue.specs.declared.fault.CatalogueFault.TheVariants as catalogue
use Rattle.cold_store.specs.declared.fault.ImportFault.{ImportFault}
use Rattle.cold_store.specs.declared.fault.ImportFault.TheVariants as import
use Rattle.host_catalogue.specs.Files.{Files, IsFileFault, IsText, IsTextOf, IsTooLarge}
use Rattle.host_catalogue.specs.declared.file.File.TheVariants.{Catalogue}
use Rattle.host_catalogue.specs.declared.file.LoadFault.{LoadFault}
use Rattle.host_catalogue.specs.declared.file.LoadFault.TheVariants.{Refused, RefusedExport, NoMemory}

-- a text that is refused, or no memory to read it
abbrev pub fault_of_catalogue : CatalogueFault → LoadFault
fault_of_catalogue catalogue.NoMemory = NoMemory
fault_of_catalogue fault = Refused fault

abbrev pub fault_of_import : ImportFault → LoadFault
fault_of_import import.NoMemory = NoMemory
fault_of_import fault = RefusedExport fault

-- The catalogue of a text, or why it is none.
abbrev pub Reads : List ℕ → Result CatalogueView LoadFault → Type 0
Reads text (Ok cat) = catalogue_of text ≡ Ok cat
Reads text (Err (Refused fault)) = IsSomeAnd (fault_of fault) (λ f. catalogue_of text ≡ Err f)
Reads text (Err NoMemory) = ⊤
Reads text (Err other) = ⊥

-- The catalogue of the file with the name, or why there is none: by the files and by the text.
abbrev pub Loads : Files → List ℕ → Result CatalogueView LoadFault → Type 0
Loads told name (Ok cat) = (text : List ℕ) × IsTextOf Catalogue told name text × Reads text (Ok cat)
Loads told name (Err (Refused fault)) =
    (text : List ℕ) × IsTextOf Catalogue told name text × Reads text (Err (Refused fault))
Loads told name (Err fault) = IsFileFault Catalogue told name fault

-- the text is no catalogue
abbrev pub IsNoCatalogue : List ℕ → Type 0
IsNoCatalogue text = (fault : Fault) × (catalogue_of text ≡ Err fault)

-- there is no catalogue of the name: no file, one that is too large, or a text that is none
abbrev pub HasNone : (List ℕ → Option (List ℕ)) → List ℕ → Type 0
HasNone files name =
    (files name ≡ None) ⊎ IsTooLarge Catalogue files name
    ⊎ ((text : List ℕ) × IsText Catalogue files name text × IsNoCatalogue text)

-- so of a shelf, where it tells its files
abbrev pub LacksCatalogue : Files → List ℕ → Type 0
LacksCatalogue told name = IfSome told (λ files. HasNone files name)

-- a text of the file was refused
pub record IsRefusedText (told : Files) (name : List ℕ) : Type 0 where
  pub text : List ℕ
  pub is : IsTextOf Catalogue told name text
  pub none : IsNoCatalogue text
