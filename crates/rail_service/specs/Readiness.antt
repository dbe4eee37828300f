-- What a service may begin with.
use Rattle.std.specs.Prelude.{◌≡◌}
use Rattle.catalogue_contents.specs.Contents.{CatalogueView, legs_in}
use Rattle.claim_rule.specs.Rule.{BooksView, DeskView}
use Rattle.claim_rule.specs.Desks.{IsOf}
use Rattle.claim_rule.specs.Out.{IsIdle}
use Rattle.rail_service.specs.Paths.{Rows, all_rows}

-- the books have the catalogue's places and rows, the desk is of these books with nothing out, and the router has the
-- paths
pub record IsReady (cat : CatalogueView) (books : BooksView) (rows : Rows) (desk : DeskView) : Type 0 where
  pub own : IsOf books desk
  pub idle : IsIdle desk
  pub legs : books.layout.legs ≡ legs_in cat
  pub count : books.layout.rows ≡ cat.rows
  pub paths : rows ≡ all_rows
