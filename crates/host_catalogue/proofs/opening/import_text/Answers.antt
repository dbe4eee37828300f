use Rattle.std.proofs.Common.{◌≡◌, ◌≤◌, ◌∙◌, ℕ, List, subst}
use Rattle.std.proofs.lemmas.List.{length-map}
use Rattle.std.specs.Prelude.{All, IfErr, IfOk}
use Rattle.claim_rule.specs.Rule.{most_place_legs}
use Rattle.booking_rows.specs.SealedRows.{FitWords}
use Rattle.history_model.specs.Booking.{most_rows}
use Rattle.cold_store.specs.Imports.{IsImportFault, OpensAs}
use Rattle.catalogue_contents.specs.Contents.{legs_in, place_legs}
use Rattle.host_catalogue.specs.Opening.{new_layout}
use Rattle.host_catalogue.proofs.Opened.{imported}
use Rattle.host_catalogue.proofs.opening.import_text.Goals as goal

pub returns-clause-ok : goal.returns-clause-ok
returns-clause-ok c =
    let cat = c.args.catalogue.now in
    let is = c.import_books.ensures in
    let text = c.args.text.now in
    let legs_are : c.as_slice.result.now ≡ legs_in cat = c.as_slice.ensures.value ∙ c.in_ok-legs.ensures.legs in
    let rows_are : c.rows.result ≡ cat.rows = c.rows.ensures.rows in
    let layout = subst (λ (legs : List ℕ). IfOk c.import_books.result (λ t. OpensAs legs c.rows.result text t.0.layout)) legs_are is.layout in
    let layout = subst (λ (rows : ℕ). IfOk c.import_books.result (λ t. OpensAs (legs_in cat) rows text t.0.layout)) rows_are layout in
    let fit : FitWords (new_layout cat) = record {
      places = rw (length-map cat.places (place_legs cat.runs)) c.legs.ensures.most;
      legs = subst (λ (l : List ℕ). All (λ n. n ≤ most_place_legs) l) c.in_ok-legs.ensures.legs (λ k d below. (c.in_ok-legs.ensures.within k d below).1);
    } in
    imported cat text c.import_books.result (subst (λ (rows : ℕ). rows ≤ most_rows) rows_are c.rows.ensures.most) fit layout is.own is.desk is.tidy

pub returns-clause-err : goal.returns-clause-err
returns-clause-err c =
    let cat = c.args.catalogue.now in
    let text = c.args.text.now in
    let legs_are : c.as_slice.result.now ≡ legs_in cat = c.as_slice.ensures.value ∙ c.in_ok-legs.ensures.legs in
    let rows_are : c.rows.result ≡ cat.rows = c.rows.ensures.rows in
    let is = subst (λ (legs : List ℕ). IfErr c.import_books.result (IsImportFault legs c.rows.result text)) legs_are c.import_books.ensures.err in
    subst (λ (rows : ℕ). IfErr c.import_books.result (IsImportFault (legs_in cat) rows text)) rows_are is
