use Rattle.std.proofs.Common.{◌≡◌, ℕ, ◌+◌, ◌-◌, ◌*◌, arith, subst}
use Rattle.claim_rule.specs.Calls.{AddsStepsBy}
use Rattle.claim_rule.proofs.Out.{holds_same, endings_same, holds_then, endings_then}
use Rattle.availability.specs.Looks.{CountsFree, row_from}
use Rattle.availability.proofs.Looking.{counted_none}
use Rattle.availability.proofs.Rows.{counted_then}
use Rattle.availability.proofs.looks.free_fours.Goals as goal

pub loop-four-init : goal.loop-four-init
loop-four-init c =
    let desk = c.args.desk.now in
    let from = c.args.from in
    let none : 0 ≡ 4 * (from - from) = omega arith in
    record {
      own = c.requires.own;
      holds = holds_same desk;
      endings = endings_same desk;
      begun = omega arith;
      few = omega arith;
      looked = subst (λ (n : ℕ). AddsStepsBy (CountsFree (row_from (4 * from) n) c.args.parts.now 0) desk desk) none (counted_none desk c.args.parts.now c.requires.own.legal);
    }

pub loop-four-preserved : goal.loop-four-preserved
loop-four-preserved c =
    let i = c.loop-four.invariant in
    let from = c.args.from in
    let four = c.loop-four.four in
    let free = c.loop-four.free in
    let parts = c.args.parts.now in
    let old = c.args.desk.now in
    let mid = c.loop-four.desk in
    let look = c.look_at_four-free in
    let new = look.new.desk in
    let few = look.ensures.few in
    let so_far = i.few in
    let begun = i.begun in
    let here : 4 * four ≡ 4 * from + 4 * (four - from) = omega (arith, begun) in
    let more : 4 * (four - from) + 4 ≡ 4 * (four + 1 - from) = omega (arith, begun) in
    let next = subst (λ (k : ℕ). AddsStepsBy (CountsFree (row_from k 4) parts look.result) mid new) here look.ensures.entries in
    record {
      own = look.ensures.own;
      holds = holds_then old mid new i.holds look.ensures.holds;
      endings = endings_then old mid new i.endings look.ensures.endings;
      begun = omega (arith, begun);
      few = omega (arith, few, so_far, begun);
      looked = subst (λ (n : ℕ). AddsStepsBy (CountsFree (row_from (4 * from) n) parts (free + look.result)) old new) more
          (counted_then old mid new (4 * from) (4 * (four - from)) 4 parts free look.result i.looked next);
    }
