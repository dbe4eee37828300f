use Rattle.std.proofs.Common.{ℕ, ◌+◌, ◌%◌, ◌<◌, ◌^◌, ◌==◌, ap, arith, min}
use Rattle.claim_rule.proofs.Out.{endings_same, endings_then, holds_same, holds_then}
use Rattle.std.proofs.lemmas.Nat.Bits.{shr_and_one}
use Rattle.row_cuts.proofs.Writing.{looks_of, looks_then}
use Rattle.row_cuts.proofs.Marking.{few_one, few_set, few_sum_block, none_yet, set_then, unmarked}
use Rattle.row_cuts.proofs.lines.push_block.Goals as goal

pub returns-then-marks-eq0-clause-lines : goal.returns-then-marks-eq0-clause-lines
returns-then-marks-eq0-clause-lines c =
    unmarked c.args.marks c.args.start (min (c.args.start + 64) c.args.books.now.layout.rows) c.args.text.now.items c.args.desk.now c.if-marks-eq0.true c.requires.own.legal

pub loop-row-init : goal.loop-row-init
loop-row-init c = record {
  own = c.requires.own;
  holds = holds_same c.args.desk.now;
  endings = endings_same c.args.desk.now;
  low = omega arith;
  lines = none_yet c.args.marks c.args.start c.args.text.now.items c.args.desk.now c.requires.own.legal;
}

pub returns-in_err-count-clause-looks : goal.returns-in_err-count-clause-looks
returns-in_err-count-clause-looks c =
    let l = c.loop-row in
    looks_then c.args.desk.now l.desk c.push_if_marked.new.desk (looks_of _ _ _ _ c.args.desk.now l.desk l.invariant.lines) c.push_if_marked.ensures.looks

pub returns-in_err-count-clause-holds : goal.returns-in_err-count-clause-holds
returns-in_err-count-clause-holds c = holds_then c.args.desk.now c.loop-row.desk c.push_if_marked.new.desk c.loop-row.invariant.holds c.push_if_marked.ensures.holds

pub returns-in_err-count-clause-endings : goal.returns-in_err-count-clause-endings
returns-in_err-count-clause-endings c = endings_then c.args.desk.now c.loop-row.desk c.push_if_marked.new.desk c.loop-row.invariant.endings c.push_if_marked.ensures.endings

pub overflow_add-count : goal.overflow_add-count
overflow_add-count c =
    let l = c.loop-row in
    let before = few_set c.args.marks c.args.start l.row _ _ l.count c.args.desk.now l.desk l.invariant.low l.invariant.lines in
    let one = few_one _ l.row _ _ c.in_ok-count.field-0 l.desk c.push_if_marked.new.desk c.in_ok-count.ensures.lines in
    let most = c.rows.ensures.most in
    let below = c.loop-row-test.true in
    let end = c.end_of_block-row-end.ensures in
    let sum : l.count + c.in_ok-count.field-0 < 2 ^ 64 = few_sum_block c.args.start l.count c.in_ok-count.field-0 l.row c.end_of_block-row-end.result c.rows.result before one below end most in
    search

pub loop-row-preserved : goal.loop-row-preserved
loop-row-preserved c =
    let l = c.loop-row in
    record {
      own = c.push_if_marked.ensures.own;
      holds = holds_then c.args.desk.now l.desk c.push_if_marked.new.desk l.invariant.holds c.push_if_marked.ensures.holds;
      endings = endings_then c.args.desk.now l.desk c.push_if_marked.new.desk l.invariant.endings c.push_if_marked.ensures.endings;
      low = (let low = l.invariant.low in omega arith);
      lines = set_then c.args.marks c.args.start l.row _ c.args.text.now.items l.text.items c.push_if_marked.new.text.items l.count c.in_ok-count.field-0 c.args.desk.now l.desk c.push_if_marked.new.desk
          l.invariant.low (ap (λ (n : ℕ). n == 1) (shr_and_one c.args.marks (l.row % 64))) l.invariant.lines c.in_ok-count.ensures.lines;
    }

pub returns-clause-looks : goal.returns-clause-looks
returns-clause-looks c = looks_of _ _ _ _ c.args.desk.now c.loop-row.desk c.loop-row.invariant.lines
