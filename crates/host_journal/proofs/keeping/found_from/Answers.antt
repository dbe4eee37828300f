use Rattle.std.proofs.Common.{List, ℕ, subst, sym}
use Rattle.line_text.specs.Lines.{IsExportOf, SaidBooking}
use Rattle.row_cuts.specs.Exports.{AreLinesOf}
use Rattle.host_catalogue.specs.Opening.{BeginsWith, export_name}
use Rattle.host_journal.proofs.Left.{lines_for}
use Rattle.host_journal.proofs.keeping.found_from.Goals as goal

pub returns-clause-ok : goal.returns-clause-ok
returns-clause-ok g c =
    let cat = c.args.cat.now in
    let told = g.F.Shelf.told c.args.shelf.now in
    let text = c.in_ok-text.text.items in
    let lines = c.in_ok-lines_in.field-0 in
    let books = c.in_ok-text.ensures.books in
    let found = subst (λ (t : List ℕ). (places rows : ℕ) (said : List SaidBooking) → IsExportOf t places rows said → AreLinesOf said lines.text.items lines.count)
    c.as_slice.ensures.value c.in_ok-lines_in.ensures in (
      books.0,
      subst (λ o. BeginsWith told cat (export_name o) books.0) (sym c.in-Some.is) (text, c.in_ok-text.ensures.text, books.1),
      books.2,
      lines_for cat text books.0 lines books.1 found,
    )
