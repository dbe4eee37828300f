use Rattle.std.proofs.Common.{◌≡◌, ◌∙◌, ◌-◌, length, arith, ap, subst, get_or}
use Rattle.trip_builder.specs.Boards.{IsTold, part_at}
use Rattle.trip_builder.proofs.Resting.{nothing, rest_back, told_back}
use Rattle.trip_builder.proofs.hints.note_all.Goals as goal

pub loop-back-init : goal.loop-back-init
loop-back-init c = record {
  rest_is = λ j rank none low inside has. absurd (omega (arith, low, inside));
  told = λ j rank none low inside has. absurd (omega (arith, low, inside));
}

pub loop-back-preserved : goal.loop-back-preserved
loop-back-preserved c =
    let board = c.args.useful.now in
    let parts = c.args.parts in
    let back = c.loop-back.back in
    let place = length board - 1 - back in
    let some = c.loop-back-test.true in
    let at : c.at-part.result ≡ part_at parts (get_or board place nothing).moment = c.at-part.ensures ∙ ap (λ m. part_at parts m) c.from.ensures in
    let rest = rest_back board back place c.loop-back.rest c.join-rest.result some (omega arith) c.join-rest.ensures.left c.join-rest.ensures.right c.loop-back.invariant.rest_is in
    record {
      rest_is = rest;
      told = told_back board parts c.loop-back.rests c.put.new.rests back place c.join-rest.result some (omega arith) c.put.auto.rests c.put.ensures.kept
          (λ rank has. subst (λ m. IsTold c.put.new.rests m rank) at (c.put.ensures.told rank has)) rest c.loop-back.invariant.told;
    }

pub returns : goal.returns
returns c = λ j rank none inside has. (let ended = c.loop-back-test.false in c.loop-back.invariant.told j rank none (omega (arith, ended)) inside has)
