use Rattle.std.proofs.Common.{rules, ◌≡◌, ◌∙◌, inr, List, length, refl, sym, ap, subst, to_z, of_z, w64}
use Rattle.leg_masks.specs.Interval.{PlacedSpan as Item}
use Rattle.history_model.specs.declared.phase.Phase.TheVariants as phase
use Rattle.offer_codes.specs.Exchanges.{ExchangeView}
use Rattle.exchange_core.proofs.Kept.{ready_on}
use Rattle.osdm_parts.specs.declared.problem.Problem.{Problem}
use Rattle.osdm_parts.specs.declared.problem.Problem.TheVariants.{NoMemory}
use Rattle.osdm_texts.specs.Answers.{exchanged, problem, refused, reply_told}
use Rattle.osdm_texts.proofs.Telling.{of_problem}
use Rattle.osdm_texts.specs.Seen.{made_view}
use Rattle.trade_service.specs.Exchanges.{lost_problem}
use Rattle.trade_service.proofs.Ids.{exchanged_ids}
use Rattle.trade_service.proofs.Settling.{gave_settles, notes_settles}
use Rattle.trade_service.proofs.Exchanging.{made, lost, shown_by}
use Rattle.trade_service.proofs.exchanges.decide.Goals as goal

pub returns-in_default-clause-answer : goal.returns-in_default-clause-answer
returns-in_default-clause-answer c = (problem NoMemory, inr (c.abandon.ensures.entries, refl), of_problem c.args.shop.now.cat.now NoMemory)

pub exchanged_answer-requires : goal.exchanged_answer-requires
exchanged_answer-requires c =
    let view = c.new_view-view.ensures.view ∙ ap (λ (l : List Item). made_view phase.Confirmed c.args.detail l) c.items.ensures.items in
    record {
      ids = exchanged_ids c.args.shop.now.books.now c.args.desk.now c.args.hold c.args.ready c.row.result c.args.code.now.row c.new_view-view.result c.args.detail c.args.hold.items c.requires.out.own c.requires.out.held c.requires.ready
          c.row.ensures (sym (ap (λ (x : ExchangeView). x.row) c.requires.same)) view;
    }

pub returns-in_default-clause-settled : goal.returns-in_default-clause-settled
returns-in_default-clause-settled c = gave_settles c.args.hold.row c.args.hold.items c.args.desk.now c.abandon.new.desk c.abandon.ensures.entries

pub accept_exchange-requires-clause-ready : goal.accept_exchange-requires-clause-ready
accept_exchange-requires-clause-ready c = ready_on c.args.desk.now c.note_detail.new.desk _ c.args.ready c.note_detail.ensures.entries c.requires.ready

pub returns-in-Done-clause-answer : goal.returns-in-Done-clause-answer
returns-in-Done-clause-answer c =
    let h = c.args.hold in
    let amount : to_z w64 (of_z w64 c.args.code.now.difference) ≡ c.args.code.now.difference = search rules in
    let view = c.new_view-view.ensures.view ∙ ap (λ (l : List Item). made_view phase.Confirmed c.args.detail l) c.items.ensures.items in (
      exchanged h.row (made_view phase.Confirmed c.args.detail h.items) c.args.ready.code.difference c.args.ready.code.row,
      made c.args.ready h c.note_detail.new.hold c.args.detail _ _ c.args.desk.now c.note_detail.new.desk c.accept_exchange.new.desk c.note_detail.ensures.same c.note_detail.ensures.entries c.in-Done.ensures.entries c.in-Done.ensures.items,
      shown_by c.args.shop.now.cat.now c.row.result h.row c.new_view-view.result (made_view phase.Confirmed c.args.detail h.items) _ c.args.ready.code.difference _ c.args.ready.code.row _
          c.row.ensures view (amount ∙ sym (ap (λ (x : ExchangeView). x.difference) c.requires.same)) (sym (ap (λ (x : ExchangeView). x.row) c.requires.same)) c.in-Some.ensures.told,
    )

pub returns-in-Done-clause-settled : goal.returns-in-Done-clause-settled
returns-in-Done-clause-settled c =
    λ was. c.accept_exchange.ensures.settled (notes_settles c.args.hold.row.row (length c.args.hold.items) c.args.detail c.args.desk.now c.note_detail.new.desk c.note_detail.ensures.entries was)

pub returns-in-WrongState-clause-settled : goal.returns-in-WrongState-clause-settled
returns-in-WrongState-clause-settled c =
    λ was. gave_settles c.in-WrongState.hold.row c.in-WrongState.hold.items c.accept_exchange.new.desk c.abandon-in-WrongState.new.desk c.abandon-in-WrongState.ensures.entries
    (c.accept_exchange.ensures.settled (notes_settles c.args.hold.row.row (length c.args.hold.items) c.args.detail c.args.desk.now c.note_detail.new.desk c.note_detail.ensures.entries was))

pub returns-in-WrongState-clause-answer : goal.returns-in-WrongState-clause-answer
returns-in-WrongState-clause-answer c = (
  problem (lost_problem c.in-WrongState.shown),
  lost c.args.ready c.args.hold c.note_detail.new.hold c.in-WrongState.hold c.args.detail c.in-WrongState.shown c.args.desk.now c.note_detail.new.desk c.accept_exchange.new.desk c.abandon-in-WrongState.new.desk
      c.note_detail.ensures.same c.in-WrongState.ensures.lost.0 c.note_detail.ensures.entries c.in-WrongState.ensures.entries c.abandon-in-WrongState.ensures.entries,
  subst (λ (p : Problem). refused p ≡ reply_told c.args.shop.now.cat.now (problem (lost_problem c.in-WrongState.shown))) (sym c.lost_problem.ensures.problem) (of_problem c.args.shop.now.cat.now (lost_problem c.in-WrongState.shown)),
)

pub accept_exchange-requires-clause-none : goal.accept_exchange-requires-clause-none
accept_exchange-requires-clause-none c = c.note_detail.ensures.endings.none c.requires.none

-- nothing is out

pub returns-in_default-clause-home : goal.returns-in_default-clause-home
returns-in_default-clause-home c = let gave = c.abandon.ensures in record { own = gave.own; idle = (gave.none, gave.endings.none c.requires.none) }

pub returns-in-Done-clause-home : goal.returns-in-Done-clause-home
returns-in-Done-clause-home c = let did = c.accept_exchange.ensures in record { own = did.own; idle = (c.in-Done.ensures.holds_none, did.none) }

pub returns-in-WrongState-clause-home : goal.returns-in-WrongState-clause-home
returns-in-WrongState-clause-home c = let gave = c.abandon-in-WrongState.ensures in record { own = gave.own; idle = (gave.none, gave.endings.none c.accept_exchange.ensures.none) }
