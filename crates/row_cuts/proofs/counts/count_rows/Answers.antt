use Rattle.std.proofs.Common.{◌≡◌, ℕ, ◌+◌, ◌<◌, ◌≤◌, sym, subst, arith}
use Rattle.claim_rule.proofs.Out.{endings_same, endings_then, holds_same, holds_then}
use Rattle.row_cuts.proofs.Counting.{CountedTo, counted_all, counted_looks, counted_more, counted_none, counted_tidy, few_more, small_counts}
use Rattle.row_cuts.proofs.counts.count_rows.Goals as goal

pub loop-row-init : goal.loop-row-init
loop-row-init c = record {
  own = c.requires.own;
  holds = holds_same c.args.desk.now;
  endings = endings_same c.args.desk.now;
  counted = counted_none c.args.desk.now c.requires.own.legal;
}

below : (row end most : ℕ) → row < end → end ≤ most → row ≤ most
below row end most a b = omega arith

pub counted-count-requires : goal.counted-count-requires
counted-count-requires c =
    let l = c.loop-row in
    record { few = few_more l.count l.row 262144 (small_counts c.args.desk.now l.desk l.row l.count l.invariant.counted) (below l.row c.rows-row-end.result 262144 c.loop-row-test.true c.rows-row-end.ensures.most) }

pub loop-row-preserved : goal.loop-row-preserved
loop-row-preserved c =
    let l = c.loop-row in
    let s = c.look_standing-phase in
    record {
      own = s.ensures.own;
      holds = holds_then c.args.desk.now l.desk s.new.desk l.invariant.holds s.ensures.holds;
      endings = endings_then c.args.desk.now l.desk s.new.desk l.invariant.endings s.ensures.endings;
      counted = subst (CountedTo c.args.desk.now s.new.desk (l.row + 1)) (sym c.counted-count.ensures) (counted_more c.args.desk.now l.desk s.new.desk l.row s.result.1 s.result.0 l.count l.invariant.counted s.ensures.shows);
    }

at_end : (row end rows : ℕ) → row ≤ end → end ≤ row → end ≡ rows → row ≡ rows
at_end row end rows a b c = omega arith

pub returns-clause-counts : goal.returns-clause-counts
returns-clause-counts c =
    let l = c.loop-row in
    let whole = at_end l.row c.rows-row-end.result c.args.books.now.layout.rows l.auto.row-end c.loop-row-test.false c.rows-row-end.ensures.count in
    counted_all c.args.desk.now l.desk l.row c.args.books.now.layout.rows l.count whole l.invariant.counted

pub returns-clause-looks : goal.returns-clause-looks
returns-clause-looks c = counted_looks c.args.desk.now c.loop-row.desk c.loop-row.row c.loop-row.count c.loop-row.invariant.counted

pub returns-clause-tidy : goal.returns-clause-tidy
returns-clause-tidy c =
    let l = c.loop-row in
    counted_tidy c.args.books.now c.args.desk.now l.desk l.row l.count l.invariant.own l.invariant.counted l.invariant.holds l.invariant.endings
