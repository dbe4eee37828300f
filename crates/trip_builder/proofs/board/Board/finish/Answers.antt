use Rattle.std.proofs.Common.{◌≡◌, ◌∙◌, ◌-◌, ◌<◌, List, length, arith, sym, subst, get_or, set}
use Rattle.std.proofs.lemmas.List.{get_or-set_same}
use Rattle.trip_builder.specs.declared.board.Useful.{Useful}
use Rattle.trip_builder.specs.Bounds.{IsNoted}
use Rattle.trip_builder.proofs.Posting.{IsHalf, half_noted, told_set, told_rises, half_on, half_posted}
use Rattle.trip_builder.proofs.board.Board.finish.Goals as goal

pub loop-back-init : goal.loop-back-init
loop-back-init c =
    let items = c.self.inside.useful.items in
    let ok = c.self.inside.useful.ok in
    let is = c.len-count.ensures in
    let size : length items ≡ c.len-count.result = omega (arith, ok, is) in
    record {
      size = size;
      next_is = c.index-later.ensures;
      rises = c.self.invariant;
      half = λ depart rank noted. subst (λ n. IsHalf (n - 1) items depart rank) size (half_noted items depart rank (subst (λ (l : List Useful). IsNoted l depart rank) (sym c.self.view_is) noted));
    }

pub loop-back-preserved : goal.loop-back-preserved
loop-back-preserved c =
    let old = c.loop-back.self-inside.useful.items in
    let next = c.len-count.result - c.loop-back.back in
    let was = c.loop-back.invariant in
    let size = was.size in
    let test = c.loop-back-test.true in
    let low = c.loop-back.auto.back in
    let some : 0 < next = omega (arith, test) in
    let inside : next < c.len-count.result = omega (arith, test, low) in
    let told = told_set next old c.index-here.result.now c.loop-back.later c.told-later.result some (omega (arith, inside, size)) c.index-here.ensures was.next_is
    c.told-later.ensures.moment c.told-later.ensures.block c.told-later.ensures.so_far c.told-later.ensures.own c.told-later.ensures.told in
    let new = set old (next - 1) c.told-later.result in
    record {
      size = told.size ∙ was.size;
      next_is = subst (λ n. c.told-later.result ≡ get_or new n c.told-later.result) (omega arith) (sym (get_or-set_same old (next - 1) c.told-later.result c.told-later.result (omega (arith, inside, size))));
      rises = told_rises next old new told was.rises;
      half = λ depart arrival noted. subst (λ n. IsHalf n new depart arrival) (omega arith) (half_on next old new depart arrival some (omega (arith, inside, size)) was.rises told (was.half depart arrival noted));
    }

pub returns : goal.returns
returns c =
    let ended = c.loop-back-test.false in
    λ depart arrival noted. half_posted c.loop-back.self-inside.useful.items (c.len-count.result - c.loop-back.back) depart arrival (omega (arith, ended)) (c.loop-back.invariant.half depart arrival noted)
