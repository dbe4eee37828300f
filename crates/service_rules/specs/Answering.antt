-- The defined reply to a command, and that a booking has all its places or none.
use Rattle.std.specs.Prelude.{◌≡◌, ℕ, Result, Ok, Err}
use Rattle.offer_codes.specs.Offers.{offer_view}
use Rattle.catalogue_contents.specs.Contents.{CatalogueView}
use Rattle.claim_rule.specs.Rule.{DeskView}
use Rattle.claim_rule.specs.Out.{MakesEmpty}
use Rattle.osdm_parts.specs.declared.problem.Problem.{Problem}
use Rattle.osdm_texts.specs.Answers.{Reply, problem}
use Rattle.osdm_json.specs.declared.command.Command.{Command}
use Rattle.reservation_service.specs.Reserving.{reserved, HasAllOrNone}
use Rattle.service_rules.specs.Ordered as order
use Rattle.service_rules.specs.Checks.{ordered}
use Rattle.service_rules.specs.Performing.{DoesNothing, Performs}

-- refused by its codes and ids, or performed
abbrev pub AnswersBy : CatalogueView → ℕ → ℕ → Result order.Ordered Problem → DeskView → DeskView → Reply → Type 0
AnswersBy cat retailer now (Err p) old new reply = DoesNothing old new × (reply ≡ problem p)
AnswersBy cat retailer now (Ok o) old new reply = Performs cat retailer now o old new reply

-- the reply to a retailer's command at this moment, by the desk's own entries from `old` to `new`
abbrev pub Answers : CatalogueView → ℕ → ℕ → Command → DeskView → DeskView → Reply → Type 0
Answers cat retailer now c old new reply = AnswersBy cat retailer now (ordered cat now c) old new reply

abbrev pub BooksBy : CatalogueView → ℕ → Result order.Ordered Problem → DeskView → DeskView → Reply → Type 0
BooksBy cat now (Err p) old new reply = MakesEmpty new
BooksBy cat now (Ok (order.book code together)) old new reply = HasAllOrNone cat (offer_view code) old new reply
BooksBy cat now (Ok (order.reserve r)) old new reply =
    HasAllOrNone cat (reserved r.segment r.class r.count r.traits now) old new reply
BooksBy cat now (Ok (order.accept_exchange code)) old new reply = HasAllOrNone cat (offer_view code.offer) old new reply
BooksBy cat now (Ok o) old new reply = Unit {0}

-- a booking that was made has all its places; after any other answer to such a command, and where a command is refused
-- by its codes and ids, the desk's row in the making has no item
abbrev pub BooksAllOrNone : CatalogueView → ℕ → Command → DeskView → DeskView → Reply → Type 0
BooksAllOrNone cat now c old new reply = BooksBy cat now (ordered cat now c) old new reply
