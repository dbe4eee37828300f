use Rattle.std.proofs.Common.{◌≡◌, ℕ, ◌+◌, ◌<◌, ◌≤◌, length, sym, subst, arith}
use Rattle.claim_rule.proofs.Out.{endings_same, endings_then, holds_same, holds_then}
use Rattle.row_cuts.proofs.Selling.{SoldTo, few_more, small_counts, sold_all, sold_looks, sold_more, sold_none, sold_tidy}
use Rattle.row_cuts.proofs.sold.count_sold.Goals as goal

pub loop-number-init : goal.loop-number-init
loop-number-init c = record {
  own = c.requires.own;
  holds = holds_same c.args.desk.now;
  endings = endings_same c.args.desk.now;
  sold = sold_none c.args.desk.now c.args.places.now c.requires.own.legal;
}

pub returns-clause-looks : goal.returns-clause-looks
returns-clause-looks c = sold_looks c.args.desk.now c.loop-number.desk c.args.places.now c.loop-number.number c.loop-number.count c.loop-number.invariant.sold

pub returns-clause-tidy : goal.returns-clause-tidy
returns-clause-tidy c =
    let l = c.loop-number in
    sold_tidy c.args.books.now c.args.desk.now l.desk c.args.places.now l.number l.count l.invariant.own l.invariant.sold l.invariant.holds l.invariant.endings

pub loop-number-preserved : goal.loop-number-preserved
loop-number-preserved c =
    let l = c.loop-number in
    let s = c.look_sold-is_sold in
    record {
      own = s.ensures.own;
      holds = holds_then c.args.desk.now l.desk s.new.desk l.invariant.holds s.ensures.holds;
      endings = endings_then c.args.desk.now l.desk s.new.desk l.invariant.endings s.ensures.endings;
      sold = subst (SoldTo c.args.desk.now s.new.desk c.args.places.now (l.number + 1)) (sym c.counted-count.ensures) (sold_more c.args.desk.now l.desk s.new.desk c.args.places.now l.number _ l.count s.result c.loop-number-test.true l.invariant.sold s.ensures.shows);
    }
