use Rattle.std.proofs.Common.{◌∷◌, [], refl, sym, ap, ◌∙◌}
use Rattle.claim_rule.specs.declared.ending.StepTurned.TheVariants as answer
use Rattle.claim_rule.proofs.Out.{holds_then}
use Rattle.claim_rule.proofs.Shapes.{step_shape}
use Rattle.booking_rows.specs.Aims.{aimed, end_of, turn_of}
use Rattle.history_model.specs.declared.phase.Phase.TheVariants as phase
use Rattle.claim_rule.specs.Endings.{EndingView, items_read}
use Rattle.booking_rows.proofs.Ended.{ending_present}
use Rattle.booking_rows.proofs.TurnLemmas.{turn_in_range, turned_as, turn_holds, turn_endings, lost_entries, lost_holds, lost_endings, turned_ending, ending_shape, items_bound}
use Rattle.booking_rows.proofs.turns.turn.Goals as goal

pub end-end-requires : goal.end-end-requires
end-end-requires c =
    let within = turn_in_range c.args.books.now c.args.desk.now c.args.row c.args.from c.args.to c.requires.own c.requires.turn in
    record { least = within.0; amount = within.1; generation = c.requires.generation }

pub with_items-requires-clause-ending : goal.with_items-requires-clause-ending
with_items-requires-clause-ending c =
    let a = c.args in
    let mid = c.step_turn.new.desk in
    let e = c.in-Ending.ending in
    turned_ending a.row a.from a.to e a.desk.now mid c.requires.none
    (turned_as a.books.now a.row a.from c.phase.result c.end-end.result a.to a.desk.now mid (answer.Ending e) c.requires.own c.requires.turn c.phase.ensures.phase c.end-end.ensures.end c.in-Ending.ensures.turned)

pub step_turn-requires-clause-none : goal.step_turn-requires-clause-none
step_turn-requires-clause-none c = λ kind is. c.requires.none kind (sym c.phase.ensures.phase ∙ is)

pub returns-in-Won-clause-entries : goal.returns-in-Won-clause-entries
returns-in-Won-clause-entries c =
    let a = c.args in
    let new = c.step_turn.new.desk in
    let t = turned_as a.books.now a.row a.from c.phase.result c.end-end.result a.to a.desk.now new answer.Won c.requires.own c.requires.turn c.phase.ensures.phase c.end-end.ensures.end c.in-Won.ensures.turned in
    (turn_of a.row.row a.from a.to ∷ [], refl, step_shape (turn_of a.row.row a.from a.to) a.desk.now new t.0.0)

pub returns-in-Won-clause-turned : goal.returns-in-Won-clause-turned
returns-in-Won-clause-turned c =
    let a = c.args in
    let t = turned_as a.books.now a.row a.from c.phase.result c.end-end.result a.to a.desk.now c.step_turn.new.desk answer.Won c.requires.own c.requires.turn c.phase.ensures.phase c.end-end.ensures.end c.in-Won.ensures.turned in
    t.0.1

pub returns-in-Won-clause-leaves : goal.returns-in-Won-clause-leaves
returns-in-Won-clause-leaves c =
    let a = c.args in
    let new = c.step_turn.new.desk in
    let e = end_of a.to in
    let t = turned_as a.books.now a.row a.from c.phase.result c.end-end.result a.to a.desk.now new answer.Won c.requires.own c.requires.turn c.phase.ensures.phase c.end-end.ensures.end c.in-Won.ensures.turned in
    (t.1, turn_endings a.row.row a.from (aimed a.to) e a.desk.now new t.1 t.0.0)

pub returns-in-Won-clause-holds : goal.returns-in-Won-clause-holds
returns-in-Won-clause-holds c =
    let a = c.args in
    let new = c.step_turn.new.desk in
    let e = end_of a.to in
    let t = turned_as a.books.now a.row a.from c.phase.result c.end-end.result a.to a.desk.now new answer.Won c.requires.own c.requires.turn c.phase.ensures.phase c.end-end.ensures.end c.in-Won.ensures.turned in
    turn_holds a.books.now a.desk.now new a.row a.from (aimed a.to) e c.requires.own c.requires.turn t.0

pub returns-in-Missed-clause-entries : goal.returns-in-Missed-clause-entries
returns-in-Missed-clause-entries c =
    let a = c.args in
    let m = c.in-Missed.ensures.turned in
    lost_entries a.row c.in-Missed.shown a.from c.phase_shown.result a.to a.desk.now c.step_turn.new.desk c.phase_shown.ensures m

pub returns-in-Missed-clause-leaves : goal.returns-in-Missed-clause-leaves
returns-in-Missed-clause-leaves c = lost_endings c.args.row.row _ _ c.args.desk.now c.step_turn.new.desk c.in-Missed.ensures.turned.1

pub returns-in-Missed-clause-holds : goal.returns-in-Missed-clause-holds
returns-in-Missed-clause-holds c = lost_holds c.args.row.row _ _ c.args.desk.now c.step_turn.new.desk c.in-Missed.ensures.turned.1

pub returns-in-Ending-clause-entries : goal.returns-in-Ending-clause-entries
returns-in-Ending-clause-entries c =
    let a = c.args in
    let mid = c.step_turn.new.desk in
    let w = c.with_items in
    let e = c.in-Ending.ending in
    let t = turned_as a.books.now a.row a.from c.phase.result c.end-end.result a.to a.desk.now mid (answer.Ending e) c.requires.own c.requires.turn c.phase.ensures.phase c.end-end.ensures.end c.in-Ending.ensures.turned in
    (turn_of a.row.row a.from a.to ∷ items_read a.row.row w.result.items, refl, ending_shape a.row a.from a.to e w.result a.desk.now mid w.new.desk t w.ensures.entries)

pub returns-in-Ending-clause-turned : goal.returns-in-Ending-clause-turned
returns-in-Ending-clause-turned c =
    let a = c.args in
    let w = c.with_items in
    let e = c.in-Ending.ending in
    let t = turned_as a.books.now a.row a.from c.phase.result c.end-end.result a.to a.desk.now c.step_turn.new.desk (answer.Ending e) c.requires.own c.requires.turn c.phase.ensures.phase c.end-end.ensures.end c.in-Ending.ensures.turned in
    ending_present w.new.desk a.row (aimed a.to) w.result (ap (λ (y : EndingView). y.row) w.ensures.read ∙ ap (λ (y : EndingView). y.row) t.3) (t.2 ∙ sym (ap (λ (y : EndingView). phase.Ending y.kind) w.ensures.read)) w.ensures.ending.of

pub returns-in-Ending-clause-holds : goal.returns-in-Ending-clause-holds
returns-in-Ending-clause-holds c =
    let a = c.args in
    let mid = c.step_turn.new.desk in
    let e = c.in-Ending.ending in
    let n = end_of a.to in
    let t = turned_as a.books.now a.row a.from c.phase.result c.end-end.result a.to a.desk.now mid (answer.Ending e) c.requires.own c.requires.turn c.phase.ensures.phase c.end-end.ensures.end c.in-Ending.ensures.turned in
    holds_then a.desk.now mid c.with_items.new.desk (turn_holds a.books.now a.desk.now mid a.row a.from (aimed a.to) n c.requires.own c.requires.turn t.0) c.with_items.ensures.holds

pub returns-in-Ending-clause-bound : goal.returns-in-Ending-clause-bound
returns-in-Ending-clause-bound c =
    let a = c.args in
    let mid = c.step_turn.new.desk in
    let w = c.with_items in
    let e = c.in-Ending.ending in
    let t = turned_as a.books.now a.row a.from c.phase.result c.end-end.result a.to a.desk.now mid (answer.Ending e) c.requires.own c.requires.turn c.phase.ensures.phase c.end-end.ensures.end c.in-Ending.ensures.turned in
    items_bound a.desk.now w.new.desk (turn_of a.row.row a.from a.to) a.row.row w.result.items (ending_shape a.row a.from a.to e w.result a.desk.now mid w.new.desk t w.ensures.entries) w.ensures.few
