use Rattle.std.proofs.Common.{◌+◌, ◌<◌, ◌^◌}
use Rattle.claim_rule.proofs.Out.{endings_then, holds_then}
use Rattle.row_cuts.proofs.Writing.{all_few, all_more, few_sum, lines_few, looks_of, looks_then, looks_tidy}
use Rattle.row_cuts.proofs.lines.push_all_lines.Goals as goal

pub returns-in_err-count-clause-looks : goal.returns-in_err-count-clause-looks
returns-in_err-count-clause-looks c =
    let l = c.loop-row in
    looks_then c.args.desk.now l.desk c.push_row.new.desk (looks_of _ _ _ _ c.args.desk.now l.desk l.invariant.lines) c.push_row.ensures.looks

pub returns-in_err-count-clause-holds : goal.returns-in_err-count-clause-holds
returns-in_err-count-clause-holds c = holds_then c.args.desk.now c.loop-row.desk c.push_row.new.desk c.loop-row.invariant.holds c.push_row.ensures.holds

pub returns-in_err-count-clause-endings : goal.returns-in_err-count-clause-endings
returns-in_err-count-clause-endings c = endings_then c.args.desk.now c.loop-row.desk c.push_row.new.desk c.loop-row.invariant.endings c.push_row.ensures.endings

pub returns-in_err-count-clause-tidy : goal.returns-in_err-count-clause-tidy
returns-in_err-count-clause-tidy c =
    let l = c.loop-row in
    looks_tidy c.args.books.now c.args.desk.now c.push_row.new.desk c.push_row.ensures.own
    (looks_then c.args.desk.now l.desk c.push_row.new.desk (looks_of _ _ _ _ c.args.desk.now l.desk l.invariant.lines) c.push_row.ensures.looks)
    (holds_then c.args.desk.now l.desk c.push_row.new.desk l.invariant.holds c.push_row.ensures.holds)
    (endings_then c.args.desk.now l.desk c.push_row.new.desk l.invariant.endings c.push_row.ensures.endings)

pub overflow_add-count : goal.overflow_add-count
overflow_add-count c =
    let l = c.loop-row in
    let before = all_few l.row _ _ l.count c.args.desk.now l.desk l.invariant.lines in
    let one = lines_few _ _ _ c.in_ok-count.field-0 l.desk c.push_row.new.desk c.in_ok-count.ensures.lines in
    let most = c.rows-row-end.ensures.most in
    let below = c.loop-row-test.true in
    let sum : l.count + c.in_ok-count.field-0 < 2 ^ 64 = few_sum l.count c.in_ok-count.field-0 l.row c.rows-row-end.result before one below most in
    search

pub loop-row-preserved : goal.loop-row-preserved
loop-row-preserved c =
    let l = c.loop-row in
    record {
      own = c.push_row.ensures.own;
      holds = holds_then c.args.desk.now l.desk c.push_row.new.desk l.invariant.holds c.push_row.ensures.holds;
      endings = endings_then c.args.desk.now l.desk c.push_row.new.desk l.invariant.endings c.push_row.ensures.endings;
      lines = all_more l.row c.args.text.now.items l.text.items c.push_row.new.text.items l.count c.in_ok-count.field-0 c.args.desk.now l.desk c.push_row.new.desk l.invariant.lines c.in_ok-count.ensures.lines;
    }

pub returns-clause-looks : goal.returns-clause-looks
returns-clause-looks c = looks_of _ _ _ _ c.args.desk.now c.loop-row.desk c.loop-row.invariant.lines

pub returns-clause-tidy : goal.returns-clause-tidy
returns-clause-tidy c =
    let l = c.loop-row in
    looks_tidy c.args.books.now c.args.desk.now l.desk l.invariant.own (looks_of _ _ _ _ c.args.desk.now l.desk l.invariant.lines) l.invariant.holds l.invariant.endings
