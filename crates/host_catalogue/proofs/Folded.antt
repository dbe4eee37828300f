-- Why no books open with the export of a journal.
use Rattle.std.proofs.Common.{ℕ, List}
use Rattle.catalogue_contents.specs.Contents.{CatalogueView, legs_in}
use Rattle.cold_store.specs.Imports.{IsImportFault}
use Rattle.cold_store.specs.declared.fault.ImportFault.{ImportFault}
use Rattle.cold_store.specs.declared.fault.ImportFault.TheVariants as fault
use Rattle.journal_text.specs.Folds.{FoldView}
use Rattle.host_catalogue.specs.Journals.{IsFoldFor, IsNotFolded, refusal_of_export}

-- its export is refused for its fault, unless there was no memory
pub not_opened : (cat : CatalogueView) (text : List ℕ) (view : FoldView) → IsFoldFor cat text view → (e : ImportFault)
    → IsImportFault (legs_in cat) cat.rows view.export e → IsNotFolded cat text (refusal_of_export e)
not_opened cat text view fold fault.NoMemory is = tt
not_opened cat text view fold (fault.NotAnExport line) is = record { view = view; fold = fold; export = is }
not_opened cat text view fold fault.Sizes is = record { view = view; fold = fold; export = is }
not_opened cat text view fold (fault.RowWrong row) is = record { view = view; fold = fold; export = is }
not_opened cat text view fold (fault.Overlap place) is = record { view = view; fold = fold; export = is }
not_opened cat text view fold (fault.OwnSuccessor row) is = record { view = view; fold = fold; export = is }
