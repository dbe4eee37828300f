-- A desk that is alone serves as a host of one thread.
use Rattle.std.proofs.Common.{◌≡◌, inl, inr, ℕ, List, [], Option, Result, Ok, Err, sym, ap, subst}
use Rattle.rail_ids.specs.declared.RetailerNo.{RetailerNo}
use Rattle.http_wire.specs.declared.request.WireFault.{WireFault}
use Rattle.http_wire.specs.Requests.{RequestText, Rest}
use Rattle.session_loop.specs.declared.end.ConnEnd.{ConnEnd}
use Rattle.session_loop.specs.Session.{IsAnswered, IsCutShort, IsEnd}
use Rattle.session_loop.proofs.Views.{end_seen, answered_seen, cut_seen}
use Rattle.claim_rule.specs.Rule.{DeskView}
use Rattle.catalogue_contents.specs.Contents.{CatalogueView}
use Rattle.osdm_parts.specs.declared.problem.Problem.{Problem}
use Rattle.osdm_texts.specs.Answers.{Reply}
use Rattle.osdm_json.specs.declared.command.Command.{Command}
use Rattle.osdm_json.specs.declared.route.Route.{Route}
use Rattle.osdm_json.specs.Readable.{IsReadable}
use Rattle.lone_desk.proofs.Following.{shape_follows}
use Rattle.service_rules.specs.Performing.{DoesNothing}
use Rattle.plain_host.specs.PlainOf.{plain_in, plain_of}
use Rattle.plain_host.specs.Settled.{IsSettled}
use Rattle.plain_host.specs.Plainly.{IsLone}
use Rattle.plain_host.proofs.AllLaws.{command_plain}
use Rattle.plain_host.proofs.Staying.{stays_by, still_lone}
use Rattle.rail_service.specs.declared.service.Service.{Service}
use Rattle.rail_service.specs.Responding.{view_of}
use Rattle.rail_service.specs.Serving.{AsksFor, AsksAdmitted, AsksAt, admitted, retailer_of, AnswersAsked}
use Rattle.rail_service.specs.Connections.{ServiceView, IsAnswer, answers_of, refusals_of, IsServed, HasServed}
use Rattle.rail_service.proofs.Connecting.{served_there}
use Rattle.rail_service.specs.OneThread.{plain_view, AnswersPlain, IsPlainAnswer, plain_answers_of, plain_refusals_of, IsOneThread}

-- a command that was asked for can be read
readable_at : (cat : CatalogueView) (retailer : RetailerNo) (body : List ℕ) (found : Result Route Problem) (a : RetailerNo × Command)
    → AsksAt cat retailer body found (Ok a) → IsReadable cat a.1
readable_at cat retailer body (Err p) a asks = absurd (let no : Ok a ≡ Err p = asks in cc)
readable_at cat retailer body (Ok r) a asks = asks.1.1

readable_if : (cat : CatalogueView) (request : RequestText) (who : Result RetailerNo Problem) (a : RetailerNo × Command)
    → AsksAdmitted cat request who (Ok a) → IsReadable cat a.1
readable_if cat request (Err p) a asks = absurd (let no : Ok a ≡ Err p = asks in cc)
readable_if cat request (Ok retailer) a (found, route, asks) = readable_at cat retailer request.body found a asks

-- nothing was done
nothing_done : (cat : CatalogueView) (old new : DeskView) → IsLone cat old → DoesNothing old new → (plain_of new ≡ plain_of old) × IsLone cat new
nothing_done cat old new lone did =
    let f = shape_follows old new [] lone.alone did in (
      ap plain_in f.state,
      still_lone cat old new lone (stays_by old new [] lone.alone did) (subst IsSettled (sym f.state) lone.settled),
    )

asked_plainly : (cat : CatalogueView) (first : Option RetailerNo) (request : RequestText) (now : ℕ) (asked : Result (RetailerNo × Command) Problem)
    (old new : DeskView) (reply : Reply) → IsLone cat old → AsksFor cat first request asked → AnswersAsked cat now asked old new reply
    → AnswersPlain cat now asked (plain_of old) reply (plain_of new) × IsLone cat new
asked_plainly cat first request now (Ok a) old new reply lone asks did =
    command_plain cat a.0.0 now a.1 (readable_if cat request (admitted first (retailer_of cat request)) a asks) old new reply lone did.0
asked_plainly cat first request now (Err p) old new reply lone asks (did, told) =
    let none = nothing_done cat old new lone did in ((told, none.0), none.1)

-- one request's answer
answered_plainly : (cat : CatalogueView) (before : ServiceView) (request : RequestText) (written : List ℕ) (after : ServiceView) → IsLone cat before.desk
    → IsAnswer cat before request written after → IsLone cat after.desk × IsPlainAnswer cat (plain_view before) request written (plain_view after)
answered_plainly cat before request written after lone is =
    let did = asked_plainly cat before.first request is.moment is.is.0 before.desk after.desk is.reply lone is.is.1 is.is.2 in (
      did.1,
      record {
        moment = is.moment;
        reading = is.reading;
        reply = is.reply;
        asked = is.is.0;
        asks = is.is.1;
        is = did.0;
        bytes = is.bytes;
        first = is.first;
      },
    )

module _ (cat : CatalogueView) (before after : ServiceView) (taken : List ℕ) (told : Option (List ℕ)) (written : List ℕ) (end : ConnEnd) where
  ended_plainly : IsLone cat before.desk → IsEnd (answers_of cat) (refusals_of cat) before after taken told written end
      → IsEnd (plain_answers_of cat) (plain_refusals_of cat) (plain_view before) (plain_view after) taken told written end
  ended_plainly lone is = end_seen (answers_of cat) (refusals_of cat) (plain_answers_of cat) (plain_refusals_of cat) plain_view (λ s. IsLone cat s.desk)
      (λ (b : ServiceView) (request : RequestText) (text : List ℕ) (a : ServiceView) (l : IsLone cat b.desk) (answered : IsAnswer cat b request text a). answered_plainly cat b request text a l answered)
      (λ (s : ServiceView) (fault : WireFault) (text : List ℕ) (l : IsLone cat s.desk) (is : _). is)
      before after taken told written end lone is

  served_plainly : IsLone cat before.desk → HasServed cat before after taken told written end
      → IsOneThread cat (plain_view before) (plain_view after) taken told written end
  served_plainly lone (inl (none, untouched)) = inl (none, untouched.no_read, untouched.no_write)
  served_plainly lone (inr served) = inr (ended_plainly lone served.answered)

-- what the service held at its end is left at the desk and the clock
pub plainly_there : {C : Type 0} (clock_told : C → Option (ℕ → ℕ)) (cat : CatalogueView) (before : ServiceView) (service : Service C) (desk : DeskView) (clock : C) (taken : List ℕ) (left : Option (List ℕ)) (written : List ℕ) (end : ConnEnd)
    → desk ≡ service.desk.now → clock ≡ service.clock.now → IsLone cat before.desk → IsServed cat before (view_of clock_told service) taken left written end
    → IsOneThread cat (plain_view before) (record { plain = plain_of desk; first = service.first; clock = clock_told clock }) taken left written end
plainly_there {C} clock_told cat before service desk clock taken left written end same_desk same_clock lone is =
    served_plainly cat before (record { desk = desk; first = service.first; clock = clock_told clock }) taken left written end lone
    (inr (served_there clock_told cat before service desk clock taken left written end same_desk same_clock is))

-- the same of what was answered, and of what was cut short
pub stream_plainly : (cat : CatalogueView) (before after : ServiceView) (stream : List ℕ) (rest : Rest) (written : List ℕ) → IsLone cat before.desk
    → IsAnswered (answers_of cat) (refusals_of cat) before after stream rest written
    → IsAnswered (plain_answers_of cat) (plain_refusals_of cat) (plain_view before) (plain_view after) stream rest written
stream_plainly cat before after stream rest written lone is =
    answered_seen (answers_of cat) (refusals_of cat) (plain_answers_of cat) (plain_refusals_of cat) plain_view (λ s. IsLone cat s.desk)
    (λ (b : ServiceView) (request : RequestText) (text : List ℕ) (a : ServiceView) (l : IsLone cat b.desk) (answered : IsAnswer cat b request text a). answered_plainly cat b request text a l answered)
    (λ (s : ServiceView) (fault : WireFault) (text : List ℕ) (l : IsLone cat s.desk) (is' : _). is')
    before after stream rest written lone is

pub cut_plainly : (cat : CatalogueView) (before after : ServiceView) (stream written : List ℕ) → IsLone cat before.desk
    → IsCutShort (answers_of cat) (refusals_of cat) before after stream written
    → IsCutShort (plain_answers_of cat) (plain_refusals_of cat) (plain_view before) (plain_view after) stream written
cut_plainly cat before after stream written lone is =
    cut_seen (answers_of cat) (refusals_of cat) (plain_answers_of cat) (plain_refusals_of cat) plain_view (λ s. IsLone cat s.desk)
    (λ (b : ServiceView) (request : RequestText) (text : List ℕ) (a : ServiceView) (l : IsLone cat b.desk) (answered : IsAnswer cat b request text a). answered_plainly cat b request text a l answered)
    (λ (s : ServiceView) (fault : WireFault) (text : List ℕ) (l : IsLone cat s.desk) (is' : _). is')
    before after stream written lone is
