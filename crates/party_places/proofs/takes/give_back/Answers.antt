use Rattle.std.proofs.Common.{◌≡◌, ℕ, suc, ◌+◌, ◌-◌, ◌<◌, length, ap, subst, arith}
use Rattle.claim_rule.proofs.Out.{endings_same, endings_then}
use Rattle.hold_core.proofs.Blocks.{noted_but_last}
use Rattle.party_places.proofs.Taking.{Gave, gave_none, gave_more}
use Rattle.party_places.proofs.takes.give_back.Goals as goal

pub loop-init : goal.loop-init
loop-init c = record {
  own = c.requires.own;
  hold = c.requires.hold;
  noted = λ on. on;
  endings = endings_same c.args.desk.now;
  more = length c.args.hold.now.items - c.args.left;
  counts = (let few = c.requires.left in omega (arith, few));
  gave = gave_none c.args.desk.now c.args.hold.now c.args.left c.requires.left c.requires.own.legal;
}

-- one is left at least, and then one less
one_less : (more counter total : ℕ) → more + counter ≡ total → counter < total → more ≡ suc (more - 1)
one_less more counter total counts some = omega (arith, counts, some)

still_counts : (more counter total : ℕ) → more + counter ≡ total → counter < total → more - 1 + (counter + 1) ≡ total
still_counts more counter total counts some = omega (arith, counts, some)

pub loop-preserved : goal.loop-preserved
loop-preserved c =
    let x = c.loop in
    let i = x.invariant in
    let u = c.undo_last in
    let one = u.ensures.last in
    let total : ℕ = length c.args.hold.now.items in
    let some : x.counter < total = subst (λ (n : ℕ). x.counter < n) (ap length c.items-end.ensures.items) c.loop-test.true in
    record {
      own = u.ensures.own;
      hold = u.ensures.hold;
      noted = λ on. u.ensures.noted (noted_but_last x.desk x.hold u.new.hold one.0 one.1 (i.noted on));
      endings = endings_then c.args.desk.now x.desk u.new.desk i.endings u.ensures.endings;
      more = i.more - 1;
      counts = still_counts i.more x.counter total i.counts some;
      gave = gave_more c.args.desk.now x.desk u.new.desk c.args.hold.now x.hold u.new.hold c.args.left (total - c.args.left) (i.more - 1) one.0
          (subst (Gave c.args.desk.now x.desk c.args.hold.now x.hold c.args.left (total - c.args.left)) (one_less i.more x.counter total i.counts some) i.gave) one.1 u.ensures.entries;
    }
