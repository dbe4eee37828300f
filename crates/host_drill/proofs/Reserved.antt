-- What the request for a leg asks of a catalogue that fits, and is answered.
use Rattle.std.proofs.Common.{◌≡◌, ◌∙◌, ◌⊎◌, ℕ, ◌+◌, ◌<◌, Bool, false, List, [], ◌∷◌, length, Option, Some, None, Result, Ok, Err, inl, inr, refl, sym, ap, subst, arith, codes, if◌then◌else◌, option_and_then, slice_get}
use Rattle.std.proofs.lemmas.Bool.{lt-ltb}
use Rattle.rail_ids.specs.declared.RetailerNo.{RetailerNo}
use Rattle.rail_ids.specs.declared.StationNo.{StationNo}
use Rattle.rail_ids.specs.declared.RunNo.{RunNo}
use Rattle.leg_masks.specs.Interval.{Interval}
use Rattle.place_map.specs.declared.coach.Class.TheVariants.{Second}
use Rattle.train_runs.specs.declared.segment.Segment.{Segment}
use Rattle.train_runs.specs.Stations.{station_with}
use Rattle.train_runs.specs.Stops.{RunView}
use Rattle.train_runs.specs.Runs.{span_of}
use Rattle.host_drill.specs.Parts.{on_leg}
use Rattle.claim_rule.specs.Rule.{DeskView}
use Rattle.catalogue_contents.specs.Contents.{CatalogueView}
use Rattle.osdm_parts.specs.declared.problem.Problem.{Problem}
use Rattle.osdm_parts.specs.declared.problem.Problem.TheVariants.{NoMemory}
use Rattle.osdm_parts.specs.declared.field.FieldName.TheVariants.{Run, From, To}
use Rattle.osdm_texts.specs.Answers.{Reply, problem}
use Rattle.osdm_json.specs.declared.route.Route.{Route}
use Rattle.osdm_json.specs.declared.route.Route.TheVariants as route
use Rattle.osdm_json.specs.declared.command.Command.{Command}
use Rattle.osdm_json.specs.declared.command.Command.TheVariants as command
use Rattle.osdm_json.specs.declared.fault.BodyFault.{BodyFault}
use Rattle.osdm_json.specs.declared.fault.BodyFault.TheVariants.{Field}
use Rattle.osdm_json.specs.Asked.{Asked, reserve}
use Rattle.osdm_json.specs.Members.{need, known, after, in_object}
use Rattle.osdm_json.specs.OrderBodies.{reserve_of, segment_of}
use Rattle.osdm_json.specs.Commands.{asked_by, asked_in, Asks}
use Rattle.service_rules.specs.Answering.{Answers}
use Rattle.rail_service.specs.declared.resource.Resource.{Resource}
use Rattle.rail_service.specs.declared.resource.Resource.TheVariants.{Reservations}
use Rattle.rail_service.specs.Paths.{resource_at}
use Rattle.rail_service.specs.Routes.{RoutesTo, HasRoute, FindsRoute}
use Rattle.rail_service.specs.Serving.{admitted, first_after, retailer_of, AsksAt, AsksAdmitted, AnswersAsked, AnswersRequest}
use Rattle.host_drill.specs.Fits.{FitsDrill, HasLeg, drill_retailer, station_code}
use Rattle.host_drill.specs.Worked.{ReservesLeg, leg_segment}
use Rattle.host_drill.proofs.DrillBody.{body_bytes, body_data, body_is}
use Rattle.host_drill.proofs.DrillPath.{path_resource}
use Rattle.host_drill.proofs.Spelling.{request_for}

-- ---- what the body asks

some_run : (runs : List RunView) (n : ℕ) (step : RunView → Option Interval) (span : Interval) → option_and_then step (slice_get runs n) ≡ Some span → 0 < length runs
some_run [] n step span is = absurd cc
some_run (r ∷ runs) n step span is = omega arith

abbrev the_run : RunNo
the_run = record { 0 = 0 }

abbrev on_span : Option Interval → Result Segment BodyFault
on_span None = Err (Field To)
on_span (Some span) = Ok (record { run = the_run; span = span })

abbrev to_end : CatalogueView → StationNo → Option StationNo → Result Segment BodyFault
to_end cat start end = known To end (λ e. on_span (span_of cat.runs the_run start e))

abbrev from_start : CatalogueView → ℕ → Option StationNo → Result Segment BodyFault
from_start cat leg start = known From start (λ s. to_end cat s (station_with (station_code (leg + 1)) cat.runs.stations))

abbrev then_reserve : Result Segment BodyFault → Result Asked BodyFault
then_reserve segment = after segment (λ s. Ok (reserve s Second 1 0 false))

abbrev on_run : CatalogueView → ℕ → Option RunNo → Result Asked BodyFault
on_run cat leg run = need Run run (λ r. then_reserve (segment_of cat r (station_code leg) (station_code (leg + 1))))

asks_leg : (cat : CatalogueView) (leg : ℕ) → HasLeg cat.runs leg → reserve_of cat (body_data leg) ≡ Ok (reserve (leg_segment leg) Second 1 0 false)
asks_leg cat leg has =
    let some = some_run cat.runs.runs 0 _ (on_leg leg) has.span in
    ap (λ (b : Bool). on_run cat leg (if b then Some the_run else None)) (lt-ltb 0 (length cat.runs.runs) some)
    ∙ ap (λ (o : Option StationNo). then_reserve (from_start cat leg o)) has.from
    ∙ ap (λ (o : Option StationNo). then_reserve (to_end cat has.start o)) has.to
    ∙ ap (λ (o : Option Interval). then_reserve (on_span o)) has.span

asks_body : (cat : CatalogueView) (leg : ℕ) → leg < 8 → HasLeg cat.runs leg
    → asked_by cat route.Reserve (body_bytes leg) ≡ Ok (reserve (leg_segment leg) Second 1 0 false)
asks_body cat leg less has =
    ap (λ d. in_object d (asked_in cat route.Reserve)) (body_is leg less) ∙ asks_leg cat leg has

-- ---- the retailer

-- no key was known yet on the connection, or it was the drill's
abbrev pub IsFirstKnown : Option RetailerNo → Type 0
IsFirstKnown first = (first ≡ None) ⊎ (first ≡ Some (record { 0 = drill_retailer }))

abbrev the_retailer : RetailerNo
the_retailer = record { 0 = drill_retailer }

is_admitted : (cat : CatalogueView) (leg : ℕ) (first : Option RetailerNo) → retailer_of cat (request_for leg) ≡ Some the_retailer → IsFirstKnown first
    → admitted first (retailer_of cat (request_for leg)) ≡ Ok the_retailer
is_admitted cat leg first is (inl none) = ap (admitted first) is ∙ ap (λ (f : Option RetailerNo). admitted f (Some the_retailer)) none
is_admitted cat leg first is (inr same) = ap (admitted first) is ∙ ap (λ (f : Option RetailerNo). admitted f (Some the_retailer)) same

pub first_known : (cat : CatalogueView) (places leg : ℕ) (first : Option RetailerNo) → FitsDrill cat places → IsFirstKnown first
    → IsFirstKnown (first_after first (retailer_of cat (request_for leg)))
first_known cat places leg first fits (inl none) = inr (ap (λ (f : Option RetailerNo). first_after f (retailer_of cat (request_for leg))) none ∙ fits.retailer)
first_known cat places leg first fits (inr same) = inr (ap (λ (f : Option RetailerNo). first_after f (retailer_of cat (request_for leg))) same)

-- ---- the route

same_resource : (found : Resource) → resource_at (codes "/reservations") ≡ Some found → found ≡ Reservations
same_resource found at = let both : Some found ≡ Some Reservations = sym at ∙ path_resource in cc

route_is : (r : Route) → HasRoute (codes "POST") (codes "/reservations") r → r ≡ route.Reserve
route_is r (resource, at, routes) =
    (subst (λ (s : Resource). RoutesTo s (codes "POST") (codes "/reservations") r) (same_resource resource at) routes).1

no_fault : (p : Problem) → FindsRoute (codes "POST") (codes "/reservations") (Err p) → ⊥
no_fault p (inl (is, none)) = let e : Some Reservations ≡ None = sym path_resource ∙ none in absurd cc
no_fault p (inr (is, (resource, at, none))) =
    none route.Reserve (subst (λ (s : Resource). RoutesTo s (codes "POST") (codes "/reservations") route.Reserve) (sym (same_resource resource at)) (refl, refl))

-- ---- the command

asked_is : (leg : ℕ) (asked : Result Asked BodyFault) (c : Command) → asked ≡ Ok (reserve (leg_segment leg) Second 1 0 false) → Asks asked c
    → c ≡ command.Reserve (leg_segment leg) Second 1 0 false
asked_is leg asked (command.Offers trip adults children class wanted) is asks = absurd cc
asked_is leg asked (command.Book offer together) is asks = let e = asks.1 in absurd cc
asked_is leg asked (command.Reserve segment class count wanted together) is asks = cc
asked_is leg asked (command.Show row) is asks = let e = asks.1 in absurd cc
asked_is leg asked (command.Release row) is asks = let e = asks.1 in absurd cc
asked_is leg asked (command.Confirm row) is asks = let e = asks.1 in absurd cc
asked_is leg asked (command.Fulfil row) is asks = let e = asks.1 in absurd cc
asked_is leg asked (command.QuoteRefund row) is asks = let e = asks.1 in absurd cc
asked_is leg asked (command.AcceptRefund row code) is asks = let e = asks.2 in absurd cc
asked_is leg asked (command.QuoteExchange row offer) is asks = let e = asks.2 in absurd cc
asked_is leg asked (command.AcceptExchange row code) is asks = let e = asks.2 in absurd cc
asked_is leg asked (command.Places segment) is asks = absurd cc
asked_is leg asked command.Sweep is asks = absurd cc

-- what a request for a leg may ask: the command, or there was no memory
abbrev AsksLeg : ℕ → Result (RetailerNo × Command) Problem → Type 0
AsksLeg leg (Ok a) = (a.0 ≡ the_retailer) × (a.1 ≡ command.Reserve (leg_segment leg) Second 1 0 false)
AsksLeg leg (Err p) = p ≡ NoMemory

reads_leg : (cat : CatalogueView) (leg : ℕ) (asked : Result (RetailerNo × Command) Problem)
    → asked_by cat route.Reserve (body_bytes leg) ≡ Ok (reserve (leg_segment leg) Second 1 0 false)
    → AsksAt cat the_retailer (body_bytes leg) (Ok route.Reserve) asked → AsksLeg leg asked
reads_leg cat leg (Ok a) is asks = (asks.0, asked_is leg (asked_by cat route.Reserve (body_bytes leg)) a.1 is asks.1.0)
reads_leg cat leg (Err p) is (inl (fault, other, problem')) = let e : Ok (reserve (leg_segment leg) Second 1 0 false) ≡ Err fault = sym is ∙ other in absurd cc
reads_leg cat leg (Err p) is (inr (none, body)) = none

asks_found : (cat : CatalogueView) (leg : ℕ) (found : Result Route Problem) (asked : Result (RetailerNo × Command) Problem)
    → asked_by cat route.Reserve (body_bytes leg) ≡ Ok (reserve (leg_segment leg) Second 1 0 false)
    → FindsRoute (codes "POST") (codes "/reservations") found → AsksAt cat the_retailer (body_bytes leg) found asked → AsksLeg leg asked
asks_found cat leg (Err p) asked is finds asks = absurd (no_fault p finds)
asks_found cat leg (Ok r) asked is finds asks =
    reads_leg cat leg asked is (subst (λ (s : Route). AsksAt cat the_retailer (body_bytes leg) (Ok s) asked) (route_is r finds) asks)

answers_asked : (cat : CatalogueView) (leg : ℕ) (asked : Result (RetailerNo × Command) Problem) (old new : DeskView) (reply : Reply) → AsksLeg leg asked
    → AnswersAsked cat 0 asked old new reply → ReservesLeg cat leg old new reply
answers_asked cat leg (Ok a) old new reply asks answers =
    inl (subst (λ (c : Command). Answers cat drill_retailer 0 c old new reply) asks.1
    (subst (λ (r : RetailerNo). Answers cat r.0 0 a.1 old new reply) asks.0 answers.0))
answers_asked cat leg (Err p) old new reply asks answers = inr (answers.0, answers.1 ∙ ap problem asks)

-- the request for a leg is carried out at moment 0, or there was no memory to read its body
pub reserves_leg : (cat : CatalogueView) (places leg : ℕ) (first : Option RetailerNo) (now : ℕ) (old new : DeskView) (reply : Reply) → FitsDrill cat places
    → leg < 8 → IsFirstKnown first → now ≡ 0 → AnswersRequest cat first (request_for leg) now old new reply → ReservesLeg cat leg old new reply
reserves_leg cat places leg first now old new reply fits less one_key at_0 (asked, asks, answers) =
    let body = asks_body cat leg less (fits.each leg less) in
    let admitted' = is_admitted cat leg first fits.retailer one_key in
    let all = subst (λ (r : Result RetailerNo Problem). AsksAdmitted cat (request_for leg) r asked) admitted' asks in
    answers_asked cat leg asked old new reply (asks_found cat leg all.0 asked body all.1 all.2)
    (subst (λ (n : ℕ). AnswersAsked cat n asked old new reply) at_0 answers)
