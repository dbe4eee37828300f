use Rattle.std.proofs.Common.{◌∙◌, inr, List, refl, sym, ap, subst, arith}
use Rattle.trip_builder.specs.declared.board.Useful.{Useful}
use Rattle.trip_builder.specs.Bounds.{IsPosted}
use Rattle.trip_builder.specs.Boards.{board_of}
use Rattle.trip_builder.proofs.Collecting.{board_there}
use Rattle.trip_builder.proofs.Resting.{nothing}
use Rattle.trip_builder.proofs.boards.Boards.firsts.Goals as goal

pub returns-in_default-clause-known : goal.returns-in_default-clause-known
returns-in_default-clause-known c = λ none inside depart rank posted low high.
    (let has = posted.earlier posted.place nothing (omega arith) refl in (has.0, (omega arith, inr (omega arith))))

pub returns-clause-known : goal.returns-clause-known
returns-clause-known c =
    let i = c.self.inside in
    let h = c.in-Some.head.now in
    λ none inside depart rank posted low high.
    c.firsts_within.ensures depart rank
    (subst (λ (b : List Useful). IsPosted b depart rank)
    (board_there i.heads.items c.as_slice-2.result.now i.useful.items i.numbers.items c.as_slice.result.now c.args.self.now c.args.station.0 h none c.self.view_is c.as_slice.ensures.value c.as_slice-2.ensures.value c.in-Some.ensures
    ∙ ap (λ (l : List Useful). board_of l h) (sym c.as_slice-all.ensures.value)) posted) low high
