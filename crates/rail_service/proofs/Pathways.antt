-- What each path of the table names, whatever its parameters are.
use Rattle.std.proofs.Common.{◌≡◌, ℕ, true, false, List, [], ◌∷◌, ◌++◌, Some, refl, ap, ◌∙◌, codes}
use Rattle.std.specs.Str.{IsUtf8, is_utf8, chars}
use Rattle.std.proofs.lemmas.Str.{IsUtf8-append, IsUtf8-from_is_utf8}
use lib.Utf8.{encode}
use Rattle.matchit.specs.Rows.{param_token}
use Rattle.matchit.specs.Seek.{first, step, own, cuts, longest_suffix, with_suffix}
use Rattle.matchit.specs.Router.{RouteOf}
use Rattle.matchit.proofs.OnLiterals.{matchit_on_literals}
use Rattle.rail_service.specs.declared.resource.Resource.{Resource}
use Rattle.rail_service.specs.declared.resource.Resource.TheVariants.{Offers, Bookings, Reservations, Booking}
use Rattle.rail_service.specs.declared.resource.Resource.TheVariants.{Fulfillments, RefundOffers, RefundOffer}
use Rattle.rail_service.specs.declared.resource.Resource.TheVariants.{ExchangeOffers, ExchangeOperations, Places, Sweeps}
use Rattle.rail_service.specs.Paths.{Rows, all_rows, resource_at, IsParameter}
use Rattle.rail_service.proofs.Naming.{names}
use Rattle.rail_service.proofs.Walking.{along, behind_param, one_slash, found_behind, found_whole, found_between, found_last}

-- the search finds a route of this resource
abbrev Finds : Rows → List ℕ → Resource → Type 0
Finds rows path r = (route : RouteOf Resource) × (first rows path ≡ Some route) × (route.value ≡ r)

-- the route that ends here is one of this resource
abbrev HasOwnRoute : Rows → Resource → Type 0
HasOwnRoute rows r = (route : RouteOf Resource) × (own rows ≡ Some route) × (route.value ≡ r)

named : (path : List ℕ) (r : Resource) → IsUtf8 path → Finds all_rows path r → resource_at path ≡ Some r
named path r text found = names path (Some found.0) text found.1 ∙ ap Some found.2

moved : (a b : Rows) (path : List ℕ) (r : Resource) → a ≡ b → Finds b path r → Finds a path r
moved a b path r is found = (found.0, ap (λ (rows : Rows). first rows path) is ∙ found.1, found.2)

-- bytes that no parameter interrupts
behind : (front rest : List ℕ) (rows : Rows) (r : Resource)
    → Finds (along rows front) rest r → Finds rows (front ++ rest) r
behind front rest rows r found = (found.0, found_behind front rest rows found.0 found.1, found.2)

whole : (path : List ℕ) (rows : Rows) (r : Resource) → HasOwnRoute (along rows path) r → Finds rows path r
whole path rows r ends = (ends.0, found_whole path rows ends.0 ends.1, ends.2)

-- a parameter, and what is behind it
between : (rows : Rows) (text tail : List ℕ) (r : Resource) → IsParameter text
    → ((seg : List ℕ) → cuts seg one_slash ≡ true → longest_suffix seg rows ≡ one_slash)
    → Finds (with_suffix one_slash rows) (47 ∷ tail) r → Finds (behind_param rows) (text ++ 47 ∷ tail) r
between rows text tail r is longest found = (found.0, found_between rows text tail found.0 is longest found.1, found.2)

last : (rows : Rows) (text : List ℕ) (r : Resource) → IsParameter text
    → ((seg : List ℕ) → cuts seg one_slash ≡ false → longest_suffix seg rows ≡ [])
    → HasOwnRoute rows r → Finds (behind_param rows) text r
last rows text r is longest ends = (ends.0, found_last rows text ends.0 is longest ends.1, ends.2)

-- bytes and then a parameter: the last of the path, or with a slash behind it
by_last : (front text : List ℕ) (rows on : Rows) (r : Resource) → along rows front ≡ behind_param on → IsParameter text
    → ((seg : List ℕ) → cuts seg one_slash ≡ false → longest_suffix seg on ≡ [])
    → HasOwnRoute on r → Finds rows (front ++ text) r
by_last front text rows on r leads is longest ends =
    behind front text rows r (moved (along rows front) (behind_param on) text r leads (last on text r is longest ends))

by_between : (front text tail : List ℕ) (rows on : Rows) (r : Resource)
    → along rows front ≡ behind_param on → IsParameter text
    → ((seg : List ℕ) → cuts seg one_slash ≡ true → longest_suffix seg on ≡ one_slash)
    → Finds (with_suffix one_slash on) (47 ∷ tail) r → Finds rows (front ++ (text ++ 47 ∷ tail)) r
by_between front text tail rows on r leads is longest found =
    behind front (text ++ 47 ∷ tail) rows r
    (moved (along rows front) (behind_param on) (text ++ 47 ∷ tail) r leads (between on text tail r is longest found))

-- the bytes of the table are text
text : (front : List ℕ) → is_utf8 front ≡ true → IsUtf8 front
text front is = IsUtf8-from_is_utf8 front is

-- a path without parameters
plainly : (path : List ℕ) (r : Resource)
    → is_utf8 path ≡ true → HasOwnRoute (along all_rows path) r → resource_at path ≡ Some r
plainly path r is ends = named path r (text path is) (whole path all_rows r ends)

pub Offers-named : resource_at (codes "/offers") ≡ Some Offers
unfolding all_rows matchit_on_literals is_utf8 chars encode
Offers-named = plainly (codes "/offers") Offers refl (_, refl, refl)

pub Bookings-named : resource_at (codes "/bookings") ≡ Some Bookings
unfolding all_rows matchit_on_literals is_utf8 chars encode
Bookings-named = plainly (codes "/bookings") Bookings refl (_, refl, refl)

pub Reservations-named : resource_at (codes "/reservations") ≡ Some Reservations
unfolding all_rows matchit_on_literals is_utf8 chars encode
Reservations-named = plainly (codes "/reservations") Reservations refl (_, refl, refl)

pub ExchangeOffers-named : resource_at (codes "/exchange-offers") ≡ Some ExchangeOffers
unfolding all_rows matchit_on_literals is_utf8 chars encode
ExchangeOffers-named = plainly (codes "/exchange-offers") ExchangeOffers refl (_, refl, refl)

pub Sweeps-named : resource_at (codes "/sweeps") ≡ Some Sweeps
unfolding all_rows matchit_on_literals is_utf8 chars encode
Sweeps-named = plainly (codes "/sweeps") Sweeps refl (_, refl, refl)

-- the rows behind a booking's id
abbrev of_booking : Rows
of_booking = step param_token (along all_rows (codes "/bookings/"))

of_booking-leads : along all_rows (codes "/bookings/") ≡ behind_param of_booking
unfolding all_rows matchit_on_literals
of_booking-leads = refl

of_booking-ends : (seg : List ℕ) → cuts seg one_slash ≡ false → longest_suffix seg of_booking ≡ []
unfolding all_rows matchit_on_literals
of_booking-ends seg e = rw e refl

of_booking-goes_on : (seg : List ℕ) → cuts seg one_slash ≡ true → longest_suffix seg of_booking ≡ one_slash
unfolding all_rows matchit_on_literals
of_booking-goes_on seg e = rw e refl

pub Booking-named : (id : List ℕ) → IsParameter id → resource_at (codes "/bookings/" ++ id) ≡ Some Booking
unfolding all_rows matchit_on_literals is_utf8 chars encode
Booking-named id is =
    named (codes "/bookings/" ++ id) Booking
    (IsUtf8-append (codes "/bookings/") id (text (codes "/bookings/") refl) is.is_text)
    (by_last (codes "/bookings/") id all_rows of_booking Booking of_booking-leads is of_booking-ends (_, refl, refl))

-- a booking's id with bytes behind it
behind_id : (id tail : List ℕ) (r : Resource) → IsParameter id → IsUtf8 (47 ∷ tail)
    → Finds (with_suffix one_slash of_booking) (47 ∷ tail) r
    → resource_at (codes "/bookings/" ++ (id ++ 47 ∷ tail)) ≡ Some r
unfolding is_utf8 chars encode
behind_id id tail r is tail_text found =
    named (codes "/bookings/" ++ (id ++ 47 ∷ tail)) r
    (IsUtf8-append (codes "/bookings/") (id ++ 47 ∷ tail) (text (codes "/bookings/") refl)
    (IsUtf8-append id (47 ∷ tail) is.is_text tail_text))
    (by_between (codes "/bookings/") id tail all_rows of_booking r of_booking-leads is of_booking-goes_on found)

pub Fulfillments-named : (id : List ℕ) → IsParameter id
    → resource_at (codes "/bookings/" ++ (id ++ codes "/fulfillments")) ≡ Some Fulfillments
unfolding all_rows matchit_on_literals is_utf8 chars encode
Fulfillments-named id is =
    behind_id id (codes "fulfillments") Fulfillments is (text (codes "/fulfillments") refl)
    (whole (codes "/fulfillments") (with_suffix one_slash of_booking) Fulfillments (_, refl, refl))

pub RefundOffers-named : (id : List ℕ) → IsParameter id
    → resource_at (codes "/bookings/" ++ (id ++ codes "/refund-offers")) ≡ Some RefundOffers
unfolding all_rows matchit_on_literals is_utf8 chars encode
RefundOffers-named id is =
    behind_id id (codes "refund-offers") RefundOffers is (text (codes "/refund-offers") refl)
    (whole (codes "/refund-offers") (with_suffix one_slash of_booking) RefundOffers (_, refl, refl))

pub ExchangeOperations-named : (id : List ℕ) → IsParameter id
    → resource_at (codes "/bookings/" ++ (id ++ codes "/exchange-operations")) ≡ Some ExchangeOperations
unfolding all_rows matchit_on_literals is_utf8 chars encode
ExchangeOperations-named id is =
    behind_id id (codes "exchange-operations") ExchangeOperations is (text (codes "/exchange-operations") refl)
    (whole (codes "/exchange-operations") (with_suffix one_slash of_booking) ExchangeOperations (_, refl, refl))

-- the rows behind a refund offer's id
abbrev of_offer : Rows
of_offer = step param_token (along (with_suffix one_slash of_booking) (codes "/refund-offers/"))

of_offer-leads : along (with_suffix one_slash of_booking) (codes "/refund-offers/") ≡ behind_param of_offer
unfolding all_rows matchit_on_literals
of_offer-leads = refl

of_offer-ends : (seg : List ℕ) → cuts seg one_slash ≡ false → longest_suffix seg of_offer ≡ []
unfolding all_rows matchit_on_literals
of_offer-ends seg e = refl

pub RefundOffer-named : (id offer : List ℕ) → IsParameter id → IsParameter offer
    → resource_at (codes "/bookings/" ++ (id ++ (codes "/refund-offers/" ++ offer))) ≡ Some RefundOffer
unfolding all_rows matchit_on_literals is_utf8 chars encode
RefundOffer-named id offer is is_offer =
    behind_id id (codes "refund-offers/" ++ offer) RefundOffer is
    (IsUtf8-append (codes "/refund-offers/") offer (text (codes "/refund-offers/") refl) is_offer.is_text)
    (by_last (codes "/refund-offers/") offer (with_suffix one_slash of_booking) of_offer RefundOffer
    of_offer-leads is_offer of_offer-ends (_, refl, refl))

-- the rows behind a run, behind a stop, and behind a second stop
abbrev of_run : Rows
of_run = step param_token (along all_rows (codes "/runs/"))

of_run-leads : along all_rows (codes "/runs/") ≡ behind_param of_run
unfolding all_rows matchit_on_literals
of_run-leads = refl

of_run-goes_on : (seg : List ℕ) → cuts seg one_slash ≡ true → longest_suffix seg of_run ≡ one_slash
unfolding all_rows matchit_on_literals
of_run-goes_on seg e = rw e refl

abbrev of_from : Rows
of_from = step param_token (along (with_suffix one_slash of_run) (codes "/places/"))

of_from-leads : along (with_suffix one_slash of_run) (codes "/places/") ≡ behind_param of_from
unfolding all_rows matchit_on_literals
of_from-leads = refl

of_from-goes_on : (seg : List ℕ) → cuts seg one_slash ≡ true → longest_suffix seg of_from ≡ one_slash
unfolding all_rows matchit_on_literals
of_from-goes_on seg e = rw e refl

abbrev of_to : Rows
of_to = step param_token (along (with_suffix one_slash of_from) (codes "/"))

of_to-leads : along (with_suffix one_slash of_from) (codes "/") ≡ behind_param of_to
unfolding all_rows matchit_on_literals
of_to-leads = refl

of_to-ends : (seg : List ℕ) → cuts seg one_slash ≡ false → longest_suffix seg of_to ≡ []
unfolding all_rows matchit_on_literals
of_to-ends seg e = refl

places_found : (run from to : List ℕ) → IsParameter run → IsParameter from → IsParameter to
    → Finds all_rows (codes "/runs/" ++ (run ++ (codes "/places/" ++ (from ++ (codes "/" ++ to))))) Places
unfolding all_rows matchit_on_literals
places_found run from to is_run is_from is_to =
    by_between (codes "/runs/") run (codes "places/" ++ (from ++ (codes "/" ++ to))) all_rows of_run Places
    of_run-leads is_run of_run-goes_on
    (by_between (codes "/places/") from to (with_suffix one_slash of_run) of_from Places
    of_from-leads is_from of_from-goes_on
    (by_last (codes "/") to (with_suffix one_slash of_from) of_to Places of_to-leads is_to of_to-ends (_, refl, refl)))

pub Places-named : (run from to : List ℕ) → IsParameter run → IsParameter from → IsParameter to
    → resource_at (codes "/runs/" ++ (run ++ (codes "/places/" ++ (from ++ (codes "/" ++ to))))) ≡ Some Places
unfolding is_utf8 chars encode
Places-named run from to is_run is_from is_to =
    let of_to = IsUtf8-append (codes "/") to (text (codes "/") refl) is_to.is_text in
    let of_from = IsUtf8-append from (codes "/" ++ to) is_from.is_text of_to in
    let of_places =
    IsUtf8-append (codes "/places/") (from ++ (codes "/" ++ to)) (text (codes "/places/") refl) of_from in
    let of_run = IsUtf8-append run (codes "/places/" ++ (from ++ (codes "/" ++ to))) is_run.is_text of_places in
    named (codes "/runs/" ++ (run ++ (codes "/places/" ++ (from ++ (codes "/" ++ to))))) Places
    (IsUtf8-append (codes "/runs/") (run ++ (codes "/places/" ++ (from ++ (codes "/" ++ to))))
    (text (codes "/runs/") refl) of_run)
    (places_found run from to is_run is_from is_to)
