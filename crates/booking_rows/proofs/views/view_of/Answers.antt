use Rattle.std.proofs.Common.{◌≡◌, option_map, sym, ap, ◌∙◌, subst}
use Rattle.history_model.specs.declared.phase.Phase.{Phase}
use Rattle.history_model.specs.Phase.{is_sealed}
use Rattle.booking_rows.specs.Ends.{shown_end}
use Rattle.booking_rows.specs.SealedRows.{IsEndOf}
use Rattle.booking_rows.specs.Views.{RowSeen, RowWords, saw_end, word_looks}
use Rattle.booking_rows.proofs.ViewLemmas.{seen_as_read, succeeds}
use Rattle.booking_rows.proofs.views.view_of.Goals as goal

pub returns-clause-seen : goal.returns-clause-seen
returns-clause-seen c =
    let is = c.words.view_is in
    let phase = ap (λ (w : RowWords). w.phase) is in
    let e = c.end_of.ensures in
    let end = subst (IsEndOf c.words.inside.phase) (sym c.as_slice-2.ensures.value) (subst (λ (w : RowWords). IsEndOf w.phase w.end) (sym is) c.requires.fit.end) in record {
      sealed = ap is_sealed phase ∙ c.requires.read.sealed;
      ended = e.there;
      amount = e.said;
      successor = succeeds c.words.inside.phase (option_map shown_end c.end_of.result) c.as_slice-2.result.now end e.there e.looks;
      items = c.items_of.ensures.each;
    }

pub returns-clause-entries : goal.returns-clause-entries
returns-clause-entries c = λ row.
    let is = c.words.view_is in
    let ws = c.args.words in
    let v : RowSeen = record {
      phase = c.words.inside.phase;
      retailer = c.retailer_of.result.0;
      limit = c.moment_of.result;
      total = c.words.inside.total;
      items = c.items_of.result.items;
      ended = option_map shown_end c.end_of.result;
    } in
    let phase : v.phase ≡ ws.phase = ap (λ (w : RowWords). w.phase) is in
    let end = c.end_of.ensures.looks row ∙ ap (word_looks row 5) (c.as_slice-2.ensures.value ∙ ap (λ (w : RowWords). w.end) is) in
    seen_as_read row v ws phase (c.retailer_of.ensures.number ∙ ap (λ (w : RowWords). w.retailer) is) (c.moment_of.ensures.moment ∙ ap (λ (w : RowWords). w.limit) is) (ap (λ (w : RowWords). w.total) is)
    (c.items_of.ensures.words ∙ (c.as_slice.ensures.value ∙ ap (λ (w : RowWords). w.items) is)) c.requires.fit.count (subst (λ (p : Phase). saw_end row p v.ended ≡ word_looks row 5 ws.end) phase end)
