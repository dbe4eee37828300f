use Rattle.std.proofs.Common.{◌≡◌, [], ◌∷◌, ℕ, suc, ◌+◌, ◌≤◌, Some, length, ap, refl, sym, ◌∙◌, subst, arith, add-zero}
use Rattle.rail_ids.specs.declared.RowNo.{RowNo}
use Rattle.claim_rule.specs.Rule.{DeskView}
use Rattle.claim_rule.specs.Desks.{AddsSteps}
use Rattle.history_model.specs.declared.entry.Step.TheVariants.{Give}
use Rattle.claim_rule.proofs.Shapes.{shape_kept, adds_length}
use Rattle.claim_rule.proofs.Out.{endings_same, endings_then}
use Rattle.hold_core.specs.Places.{gives_back}
use Rattle.hold_core.proofs.Giving.{GaveSome, gave_none, gave_more, gave_all, one_less, same_row, gives_length, none_left}
use Rattle.hold_core.proofs.abandons.abandon.Goals as goal

pub loop-init : goal.loop-init
loop-init c = record {
  own = c.requires.own;
  hold = c.requires.hold;
  row = refl;
  left = add-zero (length c.args.hold.items);
  seen = gave_none c.args.desk.now c.args.hold.row.row (length c.args.hold.items) c.requires.own.legal;
  endings = endings_same c.args.desk.now;
}

some_left : (n k total : ℕ) → n + k ≡ total → k + 1 ≤ total → 1 ≤ n
some_left n k total e l = omega arith

pub undo_last-requires-clause-some : goal.undo_last-requires-clause-some
undo_last-requires-clause-some c =
    some_left (length c.loop.hold.items) c.loop.counter (length c.args.hold.items) c.loop.invariant.left (subst (λ (n : ℕ). c.loop.counter + 1 ≤ n) (ap length c.items-end.ensures.items) (let l = c.loop-test.true in omega arith))

count_down : (n m k total : ℕ) → n + k ≡ total → n ≡ suc m → m + (k + 1) ≡ total
count_down n m k total e f = omega arith

pub loop-preserved : goal.loop-preserved
loop-preserved c =
    let i = c.loop.invariant in
    let u = c.undo_last in
    let one = u.ensures.last in
    let less = one_less c.loop.hold u.new.hold one.0 one.1 in
    record {
      own = u.ensures.own;
      hold = u.ensures.hold;
      row = same_row c.loop.hold u.new.hold one.0 one.1 ∙ i.row;
      left = count_down (length c.loop.hold.items) (length u.new.hold.items) c.loop.counter (length c.args.hold.items) i.left less;
      seen = gave_more c.args.desk.now c.loop.desk u.new.desk c.args.hold.row.row (length c.args.hold.items) (length u.new.hold.items)
          (subst (GaveSome c.args.desk.now c.loop.desk c.args.hold.row.row (length c.args.hold.items)) less i.seen)
          (subst (λ (r : ℕ). AddsSteps c.loop.desk u.new.desk (Give r (length u.new.hold.items) ∷ [])) (ap (λ (k : RowNo). k.row) i.row) u.ensures.entries);
      endings = endings_then c.args.desk.now c.loop.desk u.new.desk i.endings u.ensures.endings;
    }

pub returns-clause-entries : goal.returns-clause-entries
returns-clause-entries c =
    let i = c.loop.invariant in
    let h = c.args.hold in
    let total : length c.items-end.result.now ≡ length h.items = ap length c.items-end.ensures.items in
    let none : c.loop.hold.items ≡ [] = none_left c.loop.hold.items (length h.items) c.loop.counter i.left (subst (λ (n : ℕ). n ≤ c.loop.counter) total c.loop-test.false) in
    let gave = gave_all c.args.desk.now c.loop.desk h.row.row (length h.items) (subst (GaveSome c.args.desk.now c.loop.desk h.row.row (length h.items)) (ap length none) i.seen) in
    subst (λ (d : DeskView). AddsSteps c.args.desk.now d (gives_back h.row.row (length h.items))) (sym c.keep_row.ensures.kept) (shape_kept c.args.desk.now c.loop.desk (gives_back h.row.row (length h.items)) (Some c.loop.hold.row) gave)

pub returns-clause-endings : goal.returns-clause-endings
returns-clause-endings c = endings_then c.args.desk.now c.loop.desk c.keep_row.new.desk c.loop.invariant.endings c.keep_row.ensures.endings

few : (n m k : ℕ) → n ≡ m → m ≤ 48 → k ≡ n → k ≤ 48
few n m k e l f = omega arith

pub returns-clause-bound : goal.returns-clause-bound
returns-clause-bound c =
    let h = c.args.hold in
    adds_length c.args.desk.now c.keep_row.new.desk (gives_back h.row.row (length h.items)) 48 (returns-clause-entries c)
    (few (length h.items) (length c.items-end.result.now) (length (gives_back h.row.row (length h.items))) (sym (ap length c.items-end.ensures.items)) c.items-end.ensures.few (gives_length h.row.row (length h.items)))

pub returns-clause-own : goal.returns-clause-own
returns-clause-own c = c.keep_row.ensures.own c.args.books.now c.loop.invariant.own
