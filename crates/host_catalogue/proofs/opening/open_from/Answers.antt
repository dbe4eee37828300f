use Rattle.std.proofs.Common.{[], refl, subst, sym}
use Rattle.std.specs.Prelude.{option_map}
use Rattle.host_catalogue.specs.Opening.{BeginsWith}
use Rattle.host_catalogue.proofs.Opened.{opened_new}
use Rattle.host_catalogue.proofs.opening.open_from.Goals as goal

pub returns-in_default-clause-ok : goal.returns-in_default-clause-ok
returns-in_default-clause-ok g c =
    let is = c.in_ok-open_books.ensures in
    let opened = c.in_ok-open_books.field-0 in (
      [],
      subst (λ o. BeginsWith (g.F.Shelf.told c.args.shelf.now) c.args.catalogue.now (option_map (λ name. name.now) o) []) (sym c.in_default.is) refl,
      opened_new c.args.catalogue.now opened.0 opened.1 is.own is.desk is.tidy is.fit is.layout,
    )
