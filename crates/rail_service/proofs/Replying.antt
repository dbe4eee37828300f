-- One request's answer.
use Rattle.std.proofs.Common.{◌≡◌, ℕ, ◌+◌, List, Option, Some, None}
use Rattle.std.specs.Prelude.{IfSome, IsSomeAnd}
use Rattle.history_model.specs.History.{IsLegal}
use Rattle.claim_rule.specs.Out.{IsIdle}
use Rattle.http_wire.specs.Requests.{RequestText}
use Rattle.catalogue_contents.specs.Contents.{CatalogueView}
use Rattle.osdm_texts.specs.Answers.{Reply}
use Rattle.rail_service.specs.Bytes.{reply_bytes}
use Rattle.rail_service.specs.Serving.{retailer_of, first_after, AnswersRequest}
use Rattle.rail_service.specs.Connections.{ServiceView, IsReading, IsAnswer}
use Rattle.claim_rule.specs.Out.{MakesEmpty}
use Rattle.rail_service.proofs.Sparing.{request_makes}

pub reading_of : (before after : Option (ℕ → ℕ)) (moment : ℕ) → IfSome before (λ readings. moment ≡ readings 0)
    → IfSome before (λ readings. IsSomeAnd after (λ later. (i : ℕ) → later i ≡ readings (i + 1))) → IsReading before moment after
reading_of None after moment first rest = tt
reading_of (Some readings) after moment first rest = (first, rest)

pub answer_by : (cat : CatalogueView) (before : ServiceView) (request : RequestText) (written : List ℕ) (after : ServiceView) (moment : ℕ) (reply : Reply)
    → IsLegal before.desk.layout before.desk.seen → IsReading before.clock moment after.clock
    → AnswersRequest cat before.first request moment before.desk after.desk reply → written ≡ reply_bytes cat request.last reply
    → after.first ≡ first_after before.first (retailer_of cat request) → IsIdle after.desk → MakesEmpty after.desk
    → IsAnswer cat before request written after
answer_by cat before request written after moment reply legal reading is bytes first idle none =
    let own = request_makes cat before.first request moment before.desk after.desk reply legal is in
    record {
      moment = moment;
      reading = reading;
      reply = reply;
      is = is;
      bytes = bytes;
      first = first;
      steps = own.0;
      shape = own.1;
      spares = own.2;
      idle = idle;
      no_item = none;
    }
