use Rattle.std.proofs.Common.{ap}
use Rattle.claim_rule.specs.Endings.{EndingView}
use Rattle.booking_rows.proofs.TurnLemmas.{items_only, items_holds}
use Rattle.booking_rows.proofs.turns.with_items.Goals as goal

pub returns-clause-ending : goal.returns-clause-ending
returns-clause-ending c =
    let s = c.step_items in
    let e = c.args.ending in
    items_only c.args.desk.now s.new.desk e.row.row s.new.ending.items e s.new.ending s.ensures.seen (ap (λ (v : EndingView). v.row) s.ensures.read) c.requires.ending s.ensures.ending

pub returns-clause-holds : goal.returns-clause-holds
returns-clause-holds c =
    let s = c.step_items in
    items_holds c.args.desk.now s.new.desk c.args.ending.row.row s.new.ending.items s.ensures.seen s.ensures.kept
