-- What the books of a catalogue are, opened with no booking or with those of an export.
use Rattle.std.proofs.Common.{◌≡◌, ◌≤◌, ℕ, List, [], map, refl, sym, subst}
use Rattle.std.specs.Prelude.{Result, Ok, Err, IfErr, IfOk, IsErrAnd}
use Rattle.history_model.specs.Booking.{Layout, most_rows}
use Rattle.history_model.specs.Laws.{IsOpening}
use Rattle.catalogue_contents.specs.Contents.{CatalogueView, legs_in}
use Rattle.booking_rows.specs.SealedRows.{FitWords}
use Rattle.claim_rule.specs.Openings.{KeptBooking, layout_with}
use Rattle.claim_rule.specs.Out.{IsTidy}
use Rattle.claim_rule.specs.Rule.{BooksView, DeskView}
use Rattle.claim_rule.specs.Desks.{IsNew, IsOf}
use Rattle.cold_store.specs.Imports.{IsImportFault, OpensAs}
use Rattle.cold_store.specs.declared.fault.ImportFault.{ImportFault}
use Rattle.cold_store.specs.declared.fault.ImportFault.TheVariants as fault
use Rattle.cold_store.specs.Right.{kept_of}
use Rattle.cold_store.specs.Tidy.{AreSucceeded}
use Rattle.cold_store.proofs.Begun.{may_open, succeeded}
use Rattle.host_catalogue.specs.Loading.{fault_of_import}
use Rattle.host_catalogue.specs.Opening.{IsExportFor, IsNotImported, IsOpened, IsOpenedFrom}

-- books open with an opening state
opens : (books : BooksView) (desk : DeskView) (g : Layout) → IsOf books desk → books.layout ≡ g → IsOpening g g.opening
opens books desk g own is =
    let first : IsOpening desk.layout desk.layout.opening = own.legal.0 in
    subst (λ (l : Layout). IsOpening l l.opening) is (subst (λ (l : Layout). IsOpening l l.opening) own.layout first)

module _ (cat : CatalogueView) (books : BooksView) (desk : DeskView) (own : IsOf books desk) (new : IsNew desk 0 []) (tidy : IsTidy desk) where
  pub opened_new : FitWords books.layout → books.layout ≡ record { legs = legs_in cat; rows = cat.rows; opening = [] } → IsOpened cat [] books desk
  opened_new fit is = record {
    layout = is;
    own = own;
    new = new;
    tidy = tidy;
    fit = fit;
    may = record { rising = tt; ends = tt; opening = opens books desk (layout_with (legs_in cat) cat.rows []) own is };
    succeeded = subst (λ (g : Layout). AreSucceeded g.opening) (sym is) tt;
  }

  pub opened_as : (text : List ℕ) → cat.rows ≤ most_rows → FitWords (record { legs = legs_in cat; rows = cat.rows; opening = [] })
      → OpensAs (legs_in cat) cat.rows text books.layout → (kept : List KeptBooking) × IsExportFor cat text kept × IsOpened cat kept books desk
  opened_as text few fit (said, sound, is) =
      let kept = map kept_of said in
      let opening = opens books desk (layout_with (legs_in cat) cat.rows kept) own is in (
        kept,
        (said, sound, refl),
        record {
          layout = is;
          own = own;
          new = new;
          tidy = tidy;
          fit = subst FitWords (sym is) (record { places = fit.places; legs = fit.legs });
          may = may_open (legs_in cat) cat.rows text said sound few opening;
          succeeded = subst (λ (g : Layout). AreSucceeded g.opening) (sym is) (succeeded (legs_in cat) cat.rows text said sound few opening);
        },
      )

pub imported : (cat : CatalogueView) (text : List ℕ) (r : Result (BooksView × DeskView) ImportFault) → cat.rows ≤ most_rows
    → FitWords (record { legs = legs_in cat; rows = cat.rows; opening = [] }) → IfOk r (λ t. OpensAs (legs_in cat) cat.rows text t.0.layout)
    → IfOk r (λ t. IsOf t.0 t.1) → IfOk r (λ t. IsNew t.1 0 []) → IfOk r (λ t. IsTidy t.1) → IfOk r (λ t. IsOpenedFrom cat text t.0 t.1)
imported cat text (Ok t) few fit layout own new tidy = opened_as cat t.0 t.1 own new tidy text few fit layout
imported cat text (Err e) few fit layout own new tidy = tt

-- a text that isn't imported is refused for its fault, unless there was no memory
pub not_imported : (cat : CatalogueView) (text : List ℕ) (fault : ImportFault) → IsImportFault (legs_in cat) cat.rows text fault
    → IsNotImported cat text (fault_of_import fault)
not_imported cat text fault.NoMemory is = refl
not_imported cat text (fault.NotAnExport line) is = is
not_imported cat text fault.Sizes is = is
not_imported cat text (fault.RowWrong row) is = is
not_imported cat text (fault.Overlap place) is = is
not_imported cat text (fault.OwnSuccessor row) is = is

-- what follows from what is so of an error is so of it
pub err_is : {T E : Type 0} {P Q : E → Type 0} (r : Result T E) → ((e : E) → P e → Q e) → IsErrAnd r P → IfErr r Q
err_is (Ok value) follows is = tt
err_is (Err e) follows is = follows e is
