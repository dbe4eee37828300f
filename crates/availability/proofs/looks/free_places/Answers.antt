use Rattle.std.proofs.Common.{◌≡◌, ◌∙◌, ◌+◌, Bool, ℕ, take, sym, ap, subst, arith, cond, add-zero}
use Rattle.claim_rule.specs.Calls.{AddsStepsBy}
use Rattle.claim_rule.proofs.Out.{holds_same, endings_same, holds_then, endings_then}
use Rattle.availability.specs.Looks.{CountsFree}
use Rattle.availability.proofs.Looking.{counted_none, counted_next, counted_tidy}
use Rattle.availability.proofs.looks.free_places.Goals as goal
use Rattle.availability.proofs.looks.free_places.Goals.{then-look_free, else-look_free}

pub loop-place-init : goal.loop-place-init
loop-place-init c =
    let desk = c.args.desk.now in
    record {
      own = c.requires.own;
      holds = holds_same desk;
      endings = endings_same desk;
      few = omega arith;
      looked = counted_none desk c.args.span c.requires.own.legal;
    }

pub loop-place-preserved : goal.loop-place-preserved
loop-place-preserved c =
    let i = c.loop-place.invariant in
    let old = c.args.desk.now in
    let mid = c.loop-place.desk in
    let look = c.look_free in
    let new = look.new.desk in
    let counts : c.if-look_free.free ≡ c.loop-place.free + cond look.result 1 0 =
    elim c.if-look_free.branch [
      | then-look_free w ↦ w.free-is ∙ ap (λ (b : Bool). c.loop-place.free + cond b 1 0) (sym w.if-look_free.true)
      | else-look_free w ↦ w.free-is ∙ (sym (add-zero c.loop-place.free) ∙ ap (λ (b : Bool). c.loop-place.free + cond b 1 0) (sym w.if-look_free.false))
    ] in
    record {
      own = look.ensures.own;
      holds = holds_then old mid new i.holds look.ensures.holds;
      endings = endings_then old mid new i.endings look.ensures.endings;
      few = elim c.if-look_free.branch [ then-look_free w ↦ omega arith | else-look_free w ↦ omega arith ];
      looked = subst (λ (n : ℕ). AddsStepsBy (CountsFree (take (c.loop-place.place-index + 1) c.args.places.now) c.args.span n) old new) (sym counts)
          (counted_next old mid new c.args.places.now c.loop-place.place-index _ c.args.span c.loop-place.free look.result c.loop-place-test.true i.looked look.ensures.entries);
    }

pub returns-clause-tidy : goal.returns-clause-tidy
returns-clause-tidy c =
    let i = c.loop-place.invariant in
    counted_tidy c.args.books.now c.args.desk.now c.loop-place.desk _ c.args.span c.loop-place.free i.own i.looked i.holds i.endings
