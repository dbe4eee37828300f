use Rattle.std.proofs.Common.{List, subst, ◌∙◌, ap}
use Rattle.trip_builder.specs.declared.board.Useful.{Useful}
use Rattle.trip_builder.specs.declared.ranks.FirstTwo.{FirstTwo}
use Rattle.trip_builder.specs.Bounds.{IsPosted}
use Rattle.trip_builder.specs.Boards.{rest_in}
use Rattle.trip_builder.proofs.Collecting.{head_there, board_there, past_found, rest_found}
use Rattle.trip_builder.proofs.boards.Boards.precede_rest.Goals as goal

pub returns-then-from-head-clause-rest : goal.returns-then-from-head-clause-rest
returns-then-from-head-clause-rest c =
    let i = c.self.inside in
    let h = c.in-Some.head.now in
    let of = c.in-Some.ensures in
    let is = head_there i.heads.items c.as_slice-2.result.now i.useful.items i.rests.items i.numbers.items c.as_slice.result.now c.args.station.0 h c.self.invariant c.as_slice.ensures.value c.as_slice-2.ensures.value of in
    λ yes depart rank none posted low.
    past_found i.useful.items i.rests.items h c.args.from c.args.two is c.if-from-head.true depart rank
    (subst (λ (b : List Useful). IsPosted b depart rank)
    (board_there i.heads.items c.as_slice-2.result.now i.useful.items i.numbers.items c.as_slice.result.now c.args.self.now c.args.station.0 h none c.self.view_is c.as_slice.ensures.value c.as_slice-2.ensures.value of) posted) low

pub returns-clause-rest : goal.returns-clause-rest
returns-clause-rest c =
    let i = c.self.inside in
    let h = c.in-Some.head.now in
    let of = c.in-Some.ensures in
    let is = head_there i.heads.items c.as_slice-2.result.now i.useful.items i.rests.items i.numbers.items c.as_slice.result.now c.args.station.0 h c.self.invariant c.as_slice.ensures.value c.as_slice-2.ensures.value of in
    λ yes depart rank none posted low.
    rest_found i.useful.items i.rests.items h c.args.from c.args.two c.rest_at.result is
    (c.rest_at.ensures ∙ (ap (λ (l : List FirstTwo). rest_in l h c.at.result) c.as_slice-3.ensures.value ∙ ap (λ m. rest_in i.rests.items h m) c.at.ensures)) (c.precede_all.ensures yes) depart rank
    (subst (λ (b : List Useful). IsPosted b depart rank)
    (board_there i.heads.items c.as_slice-2.result.now i.useful.items i.numbers.items c.as_slice.result.now c.args.self.now c.args.station.0 h none c.self.view_is c.as_slice.ensures.value c.as_slice-2.ensures.value of) posted) low
