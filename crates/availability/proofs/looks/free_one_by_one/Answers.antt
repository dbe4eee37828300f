use Rattle.std.proofs.Common.{arith}
use Rattle.claim_rule.proofs.Out.{holds_same, endings_same, holds_then, endings_then}
use Rattle.availability.proofs.Looking.{counted_none}
use Rattle.availability.proofs.Rows.{counted_then}
use Rattle.availability.proofs.looks.free_one_by_one.Goals as goal

pub loop-n-init : goal.loop-n-init
loop-n-init c =
    let desk = c.args.desk.now in
    record {
      own = c.requires.own;
      holds = holds_same desk;
      endings = endings_same desk;
      few = omega arith;
      looked = counted_none desk c.args.parts.now c.requires.own.legal;
    }

pub loop-n-preserved : goal.loop-n-preserved
loop-n-preserved c =
    let i = c.loop-n.invariant in
    let n = c.loop-n.n in
    let old = c.args.desk.now in
    let mid = c.loop-n.desk in
    let look = c.look_at_one-free in
    let new = look.new.desk in
    let few = look.ensures.few in
    let so_far = i.few in
    record {
      own = look.ensures.own;
      holds = holds_then old mid new i.holds look.ensures.holds;
      endings = endings_then old mid new i.endings look.ensures.endings;
      few = omega (arith, few, so_far);
      looked =
          (counted_then old mid new c.args.first n 1 c.args.parts.now c.loop-n.free look.result i.looked look.ensures.entries);
    }
