use Rattle.std.proofs.Common.{◌≡◌, ℕ, ◌+◌, ◌<◌, ◌≤◌, sym, subst, arith}
use Rattle.claim_rule.proofs.Out.{holds_same, holds_then}
use Rattle.expiry_sweeper.proofs.Counting.{SweptTo, swept_none, swept_more, small_counts, swept_all, swept_expired, swept_bound, swept_tidy}
use Rattle.expiry_sweeper.proofs.Completing.{leaves_none}
use Rattle.expiry_sweeper.proofs.sweeps.sweep.Goals as goal

pub loop-row-init : goal.loop-row-init
loop-row-init c = record {
  own = c.requires.own;
  none = c.requires.none;
  holds = holds_same c.args.desk.now;
  swept = swept_none c.args.desk.now c.args.now c.requires.own.legal;
}

below : (n row end : ℕ) → n ≤ row → row < end → end ≤ 262144 → n + 1 < 4294967296
below n row end a b c = omega arith

pub counted-swept-requires : goal.counted-swept-requires
counted-swept-requires c =
    let l = c.loop-row in
    let s = small_counts c.args.desk.now l.desk c.args.now l.row l.swept l.invariant.swept in
    let e = c.rows-row-end in
    record { room = (below l.swept.expired l.row e.result s.0 c.loop-row-test.true e.ensures.most, below l.swept.lost l.row e.result s.1 c.loop-row-test.true e.ensures.most, below l.swept.waiting l.row e.result s.2 c.loop-row-test.true e.ensures.most) }

pub loop-row-preserved : goal.loop-row-preserved
loop-row-preserved c =
    let l = c.loop-row in
    let s = c.sweep_row-came in
    record {
      own = s.ensures.own;
      none = s.ensures.none;
      holds = holds_then c.args.desk.now l.desk s.new.desk l.invariant.holds s.ensures.holds;
      swept = subst (SweptTo c.args.desk.now s.new.desk c.args.now (l.row + 1)) (sym c.counted-swept.ensures.counted) (swept_more c.args.desk.now l.desk s.new.desk c.args.now l.row l.swept s.result l.invariant.swept s.ensures.entries);
    }

at_end : (row end rows : ℕ) → row ≤ end → end ≤ row → end ≡ rows → row ≡ rows
at_end row end rows a b c = omega arith

pub returns-clause-entries : goal.returns-clause-entries
returns-clause-entries c =
    let l = c.loop-row in
    let whole = at_end l.row c.rows-row-end.result c.args.books.now.layout.rows l.auto.row-end c.loop-row-test.false c.rows-row-end.ensures.count in
    swept_all c.args.desk.now l.desk c.args.now l.row c.args.books.now.layout.rows l.swept whole l.invariant.swept

pub returns-clause-complete : goal.returns-clause-complete
returns-clause-complete c =
    let l = c.loop-row in
    let whole = at_end l.row c.rows-row-end.result c.args.books.now.layout.rows l.auto.row-end c.loop-row-test.false c.rows-row-end.ensures.count in
    leaves_none c.args.books.now c.args.desk.now l.desk c.args.now l.swept c.requires.own (swept_all c.args.desk.now l.desk c.args.now l.row c.args.books.now.layout.rows l.swept whole l.invariant.swept)

pub returns-clause-expired : goal.returns-clause-expired
returns-clause-expired c =
    let l = c.loop-row in
    let whole = at_end l.row c.rows-row-end.result c.args.books.now.layout.rows l.auto.row-end c.loop-row-test.false c.rows-row-end.ensures.count in
    swept_expired c.args.desk.now l.desk c.args.now l.row c.args.books.now.layout.rows l.swept whole l.invariant.swept

pub returns-clause-tidy : goal.returns-clause-tidy
returns-clause-tidy c =
    let l = c.loop-row in
    swept_tidy c.args.books.now c.args.desk.now l.desk c.args.now l.row l.swept l.invariant.own l.invariant.swept l.invariant.holds l.invariant.none

pub returns-clause-bound : goal.returns-clause-bound
returns-clause-bound c =
    let l = c.loop-row in
    let whole = at_end l.row c.rows-row-end.result c.args.books.now.layout.rows l.auto.row-end c.loop-row-test.false c.rows-row-end.ensures.count in
    swept_bound c.args.desk.now l.desk c.args.now l.row c.args.books.now.layout.rows l.swept whole l.invariant.swept
