-- The paths that are served, and what a path names.
use Rattle.std.specs.Prelude.{◌≢◌, ◌<◌, ℕ, zero, suc, ◌+◌, ◌==◌, not, List, [], ◌∷◌, length, drop, take_while, fold}
use Rattle.std.specs.Prelude.{Option, None, option_map, Result, Ok, Err, if◌then◌else◌, codes}
use Rattle.std.specs.List.{AllByRecursion}
use Rattle.std.specs.Str.{IsUtf8, is_utf8}
use Rattle.matchit.specs.Rows.{RowsOf}
use Rattle.matchit.specs.Order.{placed}
use Rattle.matchit.specs.Seek.{first}
use Rattle.matchit.specs.Route.{Scan, parse_route}
use Rattle.matchit.specs.Router.{RouteOf, route_from}
use Rattle.matchit.specs.declared.error.InsertError.{InsertError}
use Rattle.rail_service.specs.declared.resource.Resource.{Resource}
use Rattle.rail_service.specs.declared.resource.Resource.TheVariants.{Offers, Bookings, Reservations, Booking}
use Rattle.rail_service.specs.declared.resource.Resource.TheVariants.{Fulfillments, RefundOffers, RefundOffer}
use Rattle.rail_service.specs.declared.resource.Resource.TheVariants.{ExchangeOffers, ExchangeOperations, Places}
use Rattle.rail_service.specs.declared.resource.Resource.TheVariants.{Sweeps}

-- the paths that are served, in order
abbrev pub paths : List (List ℕ × Resource)
paths =
    (codes "/offers", Offers)
    ∷ (codes "/bookings", Bookings)
    ∷ (codes "/reservations", Reservations)
    ∷ (codes "/bookings/{id}", Booking)
    ∷ (codes "/bookings/{id}/fulfillments", Fulfillments)
    ∷ (codes "/bookings/{id}/refund-offers", RefundOffers)
    ∷ (codes "/bookings/{id}/refund-offers/{offer}", RefundOffer)
    ∷ (codes "/exchange-offers", ExchangeOffers)
    ∷ (codes "/bookings/{id}/exchange-operations", ExchangeOperations)
    ∷ (codes "/runs/{run}/places/{from}/{to}", Places)
    ∷ (codes "/sweeps", Sweeps)
    ∷ []

-- what a router holds
abbrev pub Rows : Type 0
Rows = RowsOf (RouteOf Resource)

-- the rows with one path more, where it reads as one
abbrev pub with_read : Result Scan InsertError → Resource → Rows → Rows
with_read (Ok s) resource rows = placed (s.pattern, route_from s resource) rows
with_read (Err e) resource rows = rows

abbrev pub with_path : Rows → List ℕ × Resource → Rows
with_path rows path = with_read (parse_route path.0) path.1 rows

-- the rows of all the paths, inserted in their order
unfoldable pub all_rows : Rows
all_rows = fold with_path [] paths

-- what the router's search finds at a path; one that is no UTF-8 has none
abbrev pub resource_at : List ℕ → Option Resource
resource_at path = if is_utf8 path then option_map (λ (r : RouteOf Resource). r.value) (first all_rows path) else None

-- a byte that may stand in a parameter: any but a slash
abbrev pub IsPartByte : ℕ → Type 0
IsPartByte b = (b < 256) × (b ≢ 47)

-- what may stand for a parameter of a path: a text of one byte or more, without a slash
pub record IsParameter (text : List ℕ) : Type 0 where
  pub some : 0 < length text
  pub is_text : IsUtf8 text
  pub bytes : AllByRecursion IsPartByte text

-- up to the first slash, and after it
abbrev pub before_slash : List ℕ → List ℕ
before_slash path = take_while (λ b. not (b == 47)) path

abbrev pub after_slash : List ℕ → List ℕ
after_slash path = drop (length (before_slash path) + 1) path

-- what stands in the path after that many slashes, up to the next one
abbrev pub part : ℕ → List ℕ → List ℕ
part zero path = before_slash path
part (suc n) path = part n (after_slash path)
