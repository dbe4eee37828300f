use Rattle.std.proofs.Common.{ℕ, List, subst, sym}
use Rattle.journal_text.specs.Rooms.{fold_view}
use Rattle.cold_store.specs.Imports.{IsImportFault}
use Rattle.catalogue_contents.specs.Contents.{legs_in}
use Rattle.host_catalogue.specs.Journals.{IsNotFolded}
use Rattle.host_catalogue.specs.declared.journal.JournalRefusal.{JournalRefusal}
use Rattle.host_catalogue.proofs.Folded.{not_opened}
use Rattle.host_catalogue.proofs.Opened.{err_is}
use Rattle.host_catalogue.proofs.journal.fold_books.Goals as goal

pub returns-in_err-books-clause-err : goal.returns-in_err-books-clause-err
returns-in_err-books-clause-err c =
    let cat = c.args.catalogue.now in
    let text = c.args.text.now in
    let cause = c.in_err-books.field-0.0 in
    let is = subst (λ (export : List ℕ). IsImportFault (legs_in cat) cat.rows export cause) c.as_slice.ensures.value c.in_err-books.ensures.err in
    err_is c.from_residual-in_err-books.result
    (λ e same. subst (λ (r : JournalRefusal). IsNotFolded cat text r) (sym same)
    (not_opened cat text (fold_view c.in_ok-folded.folded) c.in_ok-folded.ensures.ok cause is))
    c.from_residual-in_err-books.ensures.1
