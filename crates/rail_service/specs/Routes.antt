-- The route of a method and a path.
use Rattle.std.specs.Prelude.{◌≡◌, ◌⊎◌, ℕ, List, Some, None, Result, Ok, Err, codes}
use Rattle.osdm_parts.specs.declared.problem.Problem.{Problem}
use Rattle.osdm_parts.specs.declared.problem.Problem.TheVariants.{NoRoute, NoMethod}
use Rattle.osdm_json.specs.declared.route.Route.{Route}
use Rattle.osdm_json.specs.declared.route.Route.TheVariants as route
use Rattle.rail_service.specs.declared.resource.Resource.{Resource}
use Rattle.rail_service.specs.declared.resource.Resource.TheVariants.{Offers, Bookings, Reservations, Booking}
use Rattle.rail_service.specs.declared.resource.Resource.TheVariants.{Fulfillments, RefundOffers, RefundOffer}
use Rattle.rail_service.specs.declared.resource.Resource.TheVariants.{ExchangeOffers, ExchangeOperations, Places}
use Rattle.rail_service.specs.declared.resource.Resource.TheVariants.{Sweeps}
use Rattle.rail_service.specs.Paths.{resource_at, part}

-- The route that the method has at this resource, with the parameters of the path.
abbrev pub RoutesTo : Resource → List ℕ → List ℕ → Route → Type 0
RoutesTo Offers method path r = (method ≡ codes "POST") × (r ≡ route.Offers)
RoutesTo Bookings method path r = (method ≡ codes "POST") × (r ≡ route.Book)
RoutesTo Reservations method path r = (method ≡ codes "POST") × (r ≡ route.Reserve)
RoutesTo Booking method path r =
    ((id : _) × (method ≡ codes "GET") × (r ≡ route.Show id) × (id.now ≡ part 2 path))
    ⊎ ((id : _) × (method ≡ codes "DELETE") × (r ≡ route.Release id) × (id.now ≡ part 2 path))
RoutesTo Fulfillments method path r =
    ((id : _) × (method ≡ codes "POST") × (r ≡ route.Confirm id) × (id.now ≡ part 2 path))
    ⊎ ((id : _) × (method ≡ codes "PATCH") × (r ≡ route.Fulfil id) × (id.now ≡ part 2 path))
RoutesTo RefundOffers method path r =
    (id : _) × (method ≡ codes "POST") × (r ≡ route.QuoteRefund id) × (id.now ≡ part 2 path)
RoutesTo RefundOffer method path r =
    (id : _) × (offer : _) × (method ≡ codes "PATCH") × (r ≡ route.AcceptRefund id offer) × (id.now ≡ part 2 path)
    × (offer.now ≡ part 4 path)
RoutesTo ExchangeOffers method path r = (method ≡ codes "POST") × (r ≡ route.QuoteExchange)
RoutesTo ExchangeOperations method path r =
    (id : _) × (method ≡ codes "POST") × (r ≡ route.AcceptExchange id) × (id.now ≡ part 2 path)
RoutesTo Places method path r =
    (run : _) × (from : _) × (to : _) × (method ≡ codes "GET") × (r ≡ route.Places run from to)
    × (run.now ≡ part 2 path) × (from.now ≡ part 4 path) × (to.now ≡ part 5 path)
RoutesTo Sweeps method path r = (method ≡ codes "POST") × (r ≡ route.Sweep)

-- the route that a path has for the method
abbrev pub HasRoute : List ℕ → List ℕ → Route → Type 0
HasRoute method path r = (resource : Resource) × (resource_at path ≡ Some resource) × RoutesTo resource method path r

-- A known path without such a method.
abbrev pub HasNoMethod : List ℕ → List ℕ → Type 0
HasNoMethod method path =
    (resource : Resource) × (resource_at path ≡ Some resource) × ((r : Route) → RoutesTo resource method path r → ⊥)

-- the route of a request, or why it is refused without one
abbrev pub FindsRoute : List ℕ → List ℕ → Result Route Problem → Type 0
FindsRoute method path (Ok r) = HasRoute method path r
FindsRoute method path (Err p) =
    ((p ≡ NoRoute) × (resource_at path ≡ None)) ⊎ ((p ≡ NoMethod) × HasNoMethod method path)
