use Rattle.std.proofs.Common.{◌-◌, ◌≤◌, subst, arith, get_or}
use Rattle.std.proofs.lemmas.List.{get_or_default}
use Rattle.trip_builder.specs.declared.ranks.Arrival.{Arrival}
use Rattle.trip_builder.proofs.Ranking.{ascends_more}
use Rattle.trip_builder.proofs.ranks.ascends.Goals as goal

pub loop-n-preserved : goal.loop-n-preserved
loop-n-preserved c =
    let zero : Arrival = record { run = record { 0 = 0 }; stop = 0; arrive = 0 } in
    ascends_more c.args.order.now c.loop-n.n c.loop-n.auto.n c.loop-n-test.true
    (λ none. subst (λ (x : Arrival). x.arrive ≤ (get_or c.args.order.now c.loop-n.n none).arrive) (get_or_default c.args.order.now (c.loop-n.n - 1) zero none (let inside = c.loop-n-test.true in omega (arith, inside)))
    (subst (λ (x : Arrival). (get_or c.args.order.now (c.loop-n.n - 1) zero).arrive ≤ x.arrive) (get_or_default c.args.order.now c.loop-n.n zero none c.loop-n-test.true) c.if-order-n.false)) c.loop-n.invariant
