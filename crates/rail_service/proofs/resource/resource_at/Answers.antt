use Rattle.std.proofs.Common.{List, ℕ, sym, ap, ◌∙◌}
use Rattle.matchit.specs.Seek.{first}
use Rattle.rail_service.specs.Paths.{Rows}
use Rattle.rail_service.proofs.Naming.{names_none, names}
use Rattle.rail_service.proofs.resource.resource_at.Goals as goal

pub returns-in_default-from_utf8 : goal.returns-in_default-from_utf8
returns-in_default-from_utf8 c = record { found = sym (names_none c.args.path.now c.in_default-from_utf8.ensures.cases.0) }

pub returns-in-Ok-at : goal.returns-in-Ok-at
returns-in-Ok-at c =
    let text = c.in-Ok.ensures.cases in
    record {
      found = sym (names c.args.path.now _ text.1
          (ap (λ (rows : Rows). first rows c.args.path.now) (sym c.requires.rows) ∙ (ap (λ (t : List ℕ). first c.args.router.now t) (sym text.0) ∙ c.in-Ok-at.ensures.found)));
    }
