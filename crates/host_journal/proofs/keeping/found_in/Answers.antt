use Rattle.std.proofs.Common.{List, ℕ, ap, subst}
use Rattle.line_text.specs.Lines.{IsExportOf, SaidBooking}
use Rattle.journal_text.specs.Rooms.{fold_view}
use Rattle.row_cuts.specs.Exports.{AreLinesOf}
use Rattle.host_catalogue.specs.Opening.{export_name}
use Rattle.host_journal.proofs.Left.{lines_for}
use Rattle.host_journal.proofs.keeping.found_in.Goals as goal

pub returns-clause-ok : goal.returns-clause-ok
returns-clause-ok c =
    let cat = c.args.cat.now in
    let export = c.in_ok-folded.folded.export.items in
    let lines = c.in_ok-lines_in.field-0 in
    let books = c.in_ok-folded.ensures.books in
    let found = subst (λ (t : List ℕ). (places rows : ℕ) (said : List SaidBooking) → IsExportOf t places rows said → AreLinesOf said lines.text.items lines.count)
    c.as_slice.ensures.value c.in_ok-lines_in.ensures in (
      ap export_name c.in_default.is,
      (fold_view c.in_ok-folded.folded, c.in_ok-folded.ensures.fold, books.0, books.1, books.2, lines_for cat export books.0 lines books.1 found),
    )
