-- The defined reply to a request.
use Rattle.std.specs.Prelude.{◌≡◌, ◌⊎◌, ℕ, ◌==◌, not, Bool, true, false, List, Option, Some, None, option_and_then}
use Rattle.std.specs.Prelude.{Result, Ok, Err, if◌then◌else◌}
use Rattle.http_wire.specs.Requests.{RequestText}
use Rattle.rail_ids.specs.declared.RetailerNo.{RetailerNo}
use Rattle.catalogue_contents.specs.Retailers.{retailer_with}
use Rattle.catalogue_contents.specs.Contents.{CatalogueView}
use Rattle.claim_rule.specs.Rule.{DeskView}
use Rattle.osdm_parts.specs.declared.problem.Problem.{Problem}
use Rattle.osdm_parts.specs.declared.problem.Problem.TheVariants.{NoRetailer, OtherRetailer, NoMemory}
use Rattle.osdm_texts.specs.Answers.{Reply, problem}
use Rattle.osdm_json.specs.declared.route.Route.{Route}
use Rattle.osdm_json.specs.declared.command.Command.{Command}
use Rattle.osdm_json.specs.declared.fault.BodyFault.{BodyFault}
use Rattle.osdm_json.specs.Readable.{IsReadable}
use Rattle.osdm_json.specs.Commands.{asked_by, has_body, Asks}
use Rattle.osdm_json.specs.Faults.{problem_of}
use Rattle.service_rules.specs.Performing.{DoesNothing}
use Rattle.service_rules.specs.Answering.{Answers, BooksAllOrNone}
use Rattle.rail_service.specs.Routes.{FindsRoute}

-- the retailer of the request's key, if the catalogue has it
abbrev pub retailer_of : CatalogueView → RequestText → Option RetailerNo
retailer_of cat request = option_and_then (λ key. retailer_with key cat.retailers) request.key

-- the retailer of a connection's first known key, after one request more
abbrev pub first_after : Option RetailerNo → Option RetailerNo → Option RetailerNo
first_after None retailer = retailer
first_after (Some first) retailer = Some first

-- another retailer than that of the connection's first known key
abbrev pub is_other : Option RetailerNo → RetailerNo → Bool
is_other None retailer = false
is_other (Some first) retailer = not (first.0 == retailer.0)

-- whether the retailer of a key may ask on this connection
abbrev pub admitted : Option RetailerNo → Option RetailerNo → Result RetailerNo Problem
admitted first None = Err NoRetailer
admitted first (Some retailer) = if is_other first retailer then Err OtherRetailer else Ok retailer

-- the command that a route asks with this body, or what is wrong with it; or there is no memory to read a body
abbrev pub ReadsAs : CatalogueView → Route → List ℕ → Result Command Problem → Type 0
ReadsAs cat r body (Ok command) = Asks (asked_by cat r body) command × IsReadable cat command
ReadsAs cat r body (Err p) =
    ((fault : BodyFault) × (asked_by cat r body ≡ Err fault) × (p ≡ problem_of fault))
    ⊎ ((p ≡ NoMemory) × (has_body r ≡ true))

-- what a known retailer asks for at a route, with this body
abbrev pub AsksAt : CatalogueView → RetailerNo → List ℕ → Result Route Problem → Result (RetailerNo × Command) Problem
    → Type 0
AsksAt cat retailer body (Err p) asked = asked ≡ Err p
AsksAt cat retailer body (Ok r) (Ok a) = (a.0 ≡ retailer) × ReadsAs cat r body (Ok a.1)
AsksAt cat retailer body (Ok r) (Err p) = ReadsAs cat r body (Err p)

abbrev pub AsksAdmitted : CatalogueView → RequestText → Result RetailerNo Problem
    → Result (RetailerNo × Command) Problem → Type 0
AsksAdmitted cat request (Err p) asked = asked ≡ Err p
AsksAdmitted cat request (Ok retailer) asked =
    (found : Result Route Problem) × FindsRoute request.method request.path found
    × AsksAt cat retailer request.body found asked

-- this is the request's route, or why it has none
abbrev pub HasFound : RequestText → Result Route Problem → Type 0
HasFound request found = FindsRoute request.method request.path found

-- what a request asks for at its route, where its retailer may ask, or why it asks for none
abbrev pub AsksOn : CatalogueView → RequestText → Result Route Problem → Result Command Problem → Type 0
AsksOn cat request (Ok r) asked = ReadsAs cat r request.body asked
AsksOn cat request (Err p) asked = asked ≡ Err p

-- the same, whichever route it has
abbrev pub AsksSomewhere : CatalogueView → RequestText → Result Command Problem → Type 0
AsksSomewhere cat request asked =
    (found : Result Route Problem) × HasFound request found × AsksOn cat request found asked

-- What a request asks for, on a connection with this first retailer so far: a retailer's command, or why it asks for
-- none, by its key, by its route and last by its body.
abbrev pub AsksFor : CatalogueView → Option RetailerNo → RequestText → Result (RetailerNo × Command) Problem → Type 0
AsksFor cat first request asked = AsksAdmitted cat request (admitted first (retailer_of cat request)) asked

-- what was asked is carried out, and a booking has all its places or none; or the request is refused, with no step of
-- the desk
abbrev pub AnswersAsked : CatalogueView → ℕ → Result (RetailerNo × Command) Problem → DeskView → DeskView → Reply
    → Type 0
AnswersAsked cat now (Ok a) old new reply =
    Answers cat a.0.0 now a.1 old new reply × BooksAllOrNone cat now a.1 old new reply
AnswersAsked cat now (Err p) old new reply = DoesNothing old new × (reply ≡ problem p)

-- the reply to a request at this moment, by the desk's own entries from `old` to `new`
abbrev pub AnswersRequest : CatalogueView → Option RetailerNo → RequestText → ℕ → DeskView → DeskView → Reply → Type 0
AnswersRequest cat first request now old new reply =
    (asked : Result (RetailerNo × Command) Problem) × AsksFor cat first request asked
    × AnswersAsked cat now asked old new reply
