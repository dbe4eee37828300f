use Rattle.std.proofs.Common.{rules, ◌≡◌, ◌<◌, ◌≤◌, ℤ, refl, sym, ap, ◌∙◌, subst, to_z, of_z, w64}
use Rattle.history_model.specs.declared.booking.End.{End}
use Rattle.history_model.specs.declared.phase.Phase.TheVariants as phase
use Rattle.history_model.specs.declared.phase.EndKind.{EndKind}
use Rattle.history_model.specs.declared.phase.EndKind.TheVariants as kind
use Rattle.booking_rows.specs.Ends.{IsEndedAs}
use Rattle.history_model.specs.Booking.{successor_rows, successor_word}
use Rattle.history_model.specs.WholeEnds.{end_at}
use Rattle.rail_ids.specs.declared.RowNo.{RowNo}
use Rattle.rail_ids.specs.Spelling.{last_generation}
use Rattle.booking_rows.proofs.ViewLemmas.{generation_of_hold}
use Rattle.claim_rule.specs.Calls.{AddsStepsBy}
use Rattle.claim_rule.specs.Desks.{CanTurn}
use Rattle.claim_rule.specs.Endings.{EndingView}
use Rattle.offer_codes.specs.Exchanges.{exchange_view}
use Rattle.confirm_core.proofs.Finishing.{few_items}
use Rattle.exchange_core.specs.Ready.{ReadyView, IsReadyFor}
use Rattle.exchange_core.specs.Accepting.{AcceptsExchange, IsExchanged, exchange_end, exchange_steps}
use Rattle.exchange_core.specs.declared.accepting.Exchanged.TheVariants as exchanged
use Rattle.exchange_core.proofs.Ending.{may_seal}
use Rattle.exchange_core.proofs.Exchanging.{may_turn, kind_is, end_is, carried, settled_done, settled_lost, exchange_bound}
use Rattle.exchange_core.proofs.accepting.accept_exchange.Goals as goal

pub turn-requires-clause-turn : goal.turn-requires-clause-turn
turn-requires-clause-turn c =
    let i = c.ready.inside in
    let r : ReadyView = record { code = exchange_view i.code; retailer = i.retailer.0; moment = i.moment } in
    let amount : to_z w64 (of_z w64 i.code.difference) ≡ i.code.difference = search rules in
    let years : i.moment ≤ 4102444799 = search rules in
    subst (λ (x : ℤ). CanTurn c.args.books.now.layout c.args.desk.now.seen c.args.desk.now.number i.code.row c.phase_named-from.result (phase.Ending kind.Exchange) (end_at i.moment x (successor_word c.row.result.row c.row.result.generation))) (sym amount)
    (may_turn c.args.books.now.layout c.args.desk.now r c.args.hold c.phase_named-from.result c.row.result c.phase_named-from.ensures.phase c.row.ensures c.requires.own.layout years (subst (IsReadyFor c.args.desk.now) (sym c.ready.view_is) c.requires.ready) c.requires.hold)

pub turn-requires-clause-generation : goal.turn-requires-clause-generation
turn-requires-clause-generation c =
    subst (λ (r : RowNo). r.generation ≤ last_generation) (sym c.row.ensures) (generation_of_hold c.args.books.now c.args.desk.now c.args.hold c.requires.own c.requires.hold)

pub seal-new-requires-clause-hold : goal.seal-new-requires-clause-hold
seal-new-requires-clause-hold c = c.turn.ensures.holds.hold c.args.hold c.requires.hold

pub seal-new-requires-clause-phase : goal.seal-new-requires-clause-phase
seal-new-requires-clause-phase c =
    let l = c.in-Ending.ensures.leaves in
    may_seal c.turn.new.desk c.in-Ending.ending c.args.hold l.2 (c.turn.ensures.holds.hold c.args.hold c.requires.hold) (kind_is c.in-Ending.ending.kind l.0)
    (ap (λ (e : EndingView). e.end.successor) l.1 ∙ ap (λ (r : RowNo). successor_word r.row r.generation) c.row.ensures)

pub finish_end-requires-clause-ending : goal.finish_end-requires-clause-ending
finish_end-requires-clause-ending c = c.seal-new.ensures.endings.ending c.in-Ending.ending c.in-Ending.ensures.leaves.2

pub returns-in-Lost-clause-lost : goal.returns-in-Lost-clause-lost
returns-in-Lost-clause-lost c = (refl, c.turn.ensures.holds.hold c.args.hold c.requires.hold)

pub returns-in-Lost-clause-noted : goal.returns-in-Lost-clause-noted
returns-in-Lost-clause-noted c = c.turn.ensures.holds.ready c.args.hold c.requires.hold c.requires.noted

pub returns-in-Lost-clause-none : goal.returns-in-Lost-clause-none
returns-in-Lost-clause-none c = c.in-Lost.ensures.leaves.none c.requires.none

pub returns-in-Lost-clause-settled : goal.returns-in-Lost-clause-settled
returns-in-Lost-clause-settled c = settled_lost c.args.desk.now c.turn.new.desk c.ready.inside.code.row c.phase_named-from.result c.in-Lost.shown c.in-Lost.ensures.entries

pub returns-in-Ending-clause-entries : goal.returns-in-Ending-clause-entries
returns-in-Ending-clause-entries c =
    let i = c.ready.inside in
    let e = c.in-Ending.ending in
    let l = c.in-Ending.ensures.leaves in
    let r : ReadyView = record { code = exchange_view i.code; retailer = i.retailer.0; moment = i.moment } in
    let amount : to_z w64 (of_z w64 i.code.difference) ≡ i.code.difference = search rules in
    subst (λ (y : ReadyView). AddsStepsBy (AcceptsExchange y c.args.hold.row (exchanged.Done c.seal-new.result (to_z w64 (of_z w64 i.code.difference)))) c.args.desk.now c.finish_end.new.desk) c.ready.view_is (
      exchange_steps r c.args.hold.row e.items,
      (c.seal-new.ensures.row, amount, (e.items, few_items c.turn.new.desk e c.in-Ending.ensures.own.legal l.2 (ap (λ (y : EndingView). y.read) l.1) (ap (λ (y : EndingView). y.given) l.1), refl)),
      carried c.args.desk.now c.turn.new.desk c.seal-new.new.desk c.finish_end.new.desk r c.phase_named-from.result (to_z w64 (of_z w64 i.code.difference)) c.row.result c.args.hold.row e
          c.phase_named-from.ensures.phase amount c.row.ensures l.0 l.1 c.in-Ending.ensures.entries c.seal-new.ensures.entries c.finish_end.ensures.entries,
    )

pub returns-in-Ending-clause-ended : goal.returns-in-Ending-clause-ended
returns-in-Ending-clause-ended c =
    let i = c.ready.inside in
    let e = c.in-Ending.ending in
    let l = c.in-Ending.ensures.leaves in
    let r : ReadyView = record { code = exchange_view i.code; retailer = i.retailer.0; moment = i.moment } in
    let amount : to_z w64 (of_z w64 i.code.difference) ≡ i.code.difference = search rules in
    let row : e.row ≡ r.code.row = ap (λ (y : EndingView). y.row) l.1 in
    let end : e.end ≡ exchange_end r c.args.hold.row = ap (λ (y : EndingView). y.end) l.1 ∙ end_is r (to_z w64 (of_z w64 i.code.difference)) c.row.result c.args.hold.row amount c.row.ensures in
    subst (λ (y : ReadyView). IsExchanged c.finish_end.new.desk y.code.row (exchange_end y c.args.hold.row)) c.ready.view_is
    (subst (λ (y : RowNo × EndKind × End). IsEndedAs c.finish_end.new.desk y.0 y.1 y.2) (λ j. (row j, kind_is c.in-Ending.ending.kind l.0 j, end j)) c.finish_end.ensures.ended)

pub returns-in-Ending-clause-holds_none : goal.returns-in-Ending-clause-holds_none
returns-in-Ending-clause-holds_none c = c.finish_end.ensures.holds.none c.seal-new.ensures.none

pub returns-in-Ending-clause-settled : goal.returns-in-Ending-clause-settled
returns-in-Ending-clause-settled c =
    let low : c.row.result.row < successor_rows = search rules in
    settled_done c.args.desk.now c.finish_end.new.desk c.args.ready c.args.hold.row c.seal-new.result (to_z w64 (of_z w64 c.ready.inside.code.difference)) (subst (λ (r : RowNo). r.row < successor_rows) c.row.ensures low) (returns-in-Ending-clause-entries c)

pub returns-in-Ending-clause-bound : goal.returns-in-Ending-clause-bound
returns-in-Ending-clause-bound c =
    exchange_bound c.args.desk.now c.finish_end.new.desk c.args.ready c.args.hold.row c.seal-new.result (to_z w64 (of_z w64 c.ready.inside.code.difference)) (returns-in-Ending-clause-entries c)
