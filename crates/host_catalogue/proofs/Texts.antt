-- What was read of the text that a shelf gave.
use Rattle.std.proofs.Common.{ℕ, List}
use Rattle.std.specs.Prelude.{Result, Ok, Err}
use Rattle.catalogue_contents.specs.Contents.{CatalogueView}
use Rattle.host_catalogue.specs.Files.{Files, IsTextOf}
use Rattle.host_catalogue.specs.Loading.{Loads, Reads}
use Rattle.host_catalogue.specs.declared.file.File.TheVariants.{Catalogue}
use Rattle.host_catalogue.specs.declared.file.LoadFault.{LoadFault}
use Rattle.host_catalogue.specs.declared.file.LoadFault.TheVariants.{Missing, TooLarge, Refused, RefusedExport, Failed, NoMemory}

pub loads_text : (told : Files) (name text : List ℕ) (r : Result CatalogueView LoadFault) → IsTextOf Catalogue told name text → Reads text r → Loads told name r
loads_text told name text (Ok cat) given read = (text, given, read)
loads_text told name text (Err (Refused e)) given read = (text, given, read)
loads_text told name text (Err NoMemory) given read = tt
loads_text told name text (Err (Missing f)) given read = absurd read
loads_text told name text (Err (TooLarge f)) given read = absurd read
loads_text told name text (Err (RefusedExport e)) given read = absurd read
loads_text told name text (Err Failed) given read = absurd read
