-- The path of a drill's requests.
use Rattle.std.proofs.Common.{◌≡◌, ◌-◌, ℕ, true, List, [], ◌∷◌, Option, Some, refl, ap, codes}
use lib.Utf8.{encode}
use Rattle.std.specs.Str.{is_utf8, chars}
use Rattle.std.proofs.lemmas.Str.{IsUtf8-from_is_utf8}
use Rattle.matchit.specs.Rows.{RowsOf, param_token, catch_all_token}
use Rattle.matchit.specs.Seek.{first, seek, param_step, step, own, or_else}
use Rattle.matchit.specs.Router.{RouteOf}
use Rattle.matchit.proofs.OnLiterals.{matchit_on_literals}
use Rattle.rail_service.specs.declared.resource.Resource.{Resource}
use Rattle.rail_service.specs.declared.resource.Resource.TheVariants.{Reservations}
use Rattle.rail_service.specs.Paths.{all_rows, resource_at}
use Rattle.rail_service.proofs.Naming.{names}

-- the rows that go on with these bytes, with the bytes gone
abbrev along : {K : Type 0} → RowsOf K → List ℕ → RowsOf K
along rows [] = rows
along rows (b ∷ path) = along (step b rows) path

-- a path that is a row's, byte for byte, is found there
found_along : {K : Type 0} (path : List ℕ) (rows : RowsOf K) (k : K) → own (along rows path) ≡ Some k → first rows path ≡ Some k
unfolding seek
found_along [] rows k is = is
found_along {K} (b ∷ path) rows k is =
    let other = param_step (step param_token rows) (b ∷ path) in
    ap (λ (o : Option K). or_else o (or_else (seek (other.0 - 1) other.1 path) (own (step catch_all_token rows)))) (found_along path (step b rows) k is)

abbrev its_route : RouteOf Resource
its_route = record { pattern = codes "/reservations"; text = codes "/reservations"; names = []; value = Reservations }

own_row : own (along all_rows (codes "/reservations")) ≡ Some its_route
unfolding all_rows matchit_on_literals
own_row = refl

is_text : is_utf8 (codes "/reservations") ≡ true
unfolding is_utf8 chars encode
is_text = refl

pub path_resource : resource_at (codes "/reservations") ≡ Some Reservations
path_resource =
    names (codes "/reservations") (Some its_route) (IsUtf8-from_is_utf8 (codes "/reservations") is_text)
    (found_along (codes "/reservations") all_rows its_route own_row)
