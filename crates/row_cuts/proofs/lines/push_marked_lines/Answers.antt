use Rattle.std.proofs.Common.{◌≡◌, ◌+◌, ◌*◌, ◌≤◌, ◌<◌, ◌^◌, arith, min, refl}
use Rattle.claim_rule.proofs.Out.{endings_same, endings_then, holds_same, holds_then}
use Rattle.row_cuts.specs.Lines.{mark_blocks}
use Rattle.row_cuts.proofs.Writing.{looks_then, looks_tidy}
use Rattle.row_cuts.proofs.Marking.{all_marked, blocks_look, blocks_none, few_of_blocks, few_sum_groups, group_then}
use Rattle.row_cuts.proofs.lines.push_marked_lines.Goals as goal

pub loop-group-init : goal.loop-group-init
loop-group-init c = record {
  own = c.requires.own;
  holds = holds_same c.args.desk.now;
  endings = endings_same c.args.desk.now;
  lines = blocks_none c.args.books.now.layout.rows _ c.args.text.now.items c.args.desk.now c.requires.own.legal;
}

pub returns-in_err-count-clause-looks : goal.returns-in_err-count-clause-looks
returns-in_err-count-clause-looks c =
    let l = c.loop-group in
    looks_then c.args.desk.now l.desk c.push_group.new.desk (blocks_look _ _ _ _ _ c.args.desk.now l.desk l.invariant.lines) c.push_group.ensures.looks

pub returns-in_err-count-clause-holds : goal.returns-in_err-count-clause-holds
returns-in_err-count-clause-holds c = holds_then c.args.desk.now c.loop-group.desk c.push_group.new.desk c.loop-group.invariant.holds c.push_group.ensures.holds

pub returns-in_err-count-clause-endings : goal.returns-in_err-count-clause-endings
returns-in_err-count-clause-endings c = endings_then c.args.desk.now c.loop-group.desk c.push_group.new.desk c.loop-group.invariant.endings c.push_group.ensures.endings

pub returns-in_err-count-clause-tidy : goal.returns-in_err-count-clause-tidy
returns-in_err-count-clause-tidy c =
    let l = c.loop-group in
    looks_tidy c.args.books.now c.args.desk.now c.push_group.new.desk c.push_group.ensures.own
    (looks_then c.args.desk.now l.desk c.push_group.new.desk (blocks_look _ _ _ _ _ c.args.desk.now l.desk l.invariant.lines) c.push_group.ensures.looks)
    (holds_then c.args.desk.now l.desk c.push_group.new.desk l.invariant.holds c.push_group.ensures.holds)
    (endings_then c.args.desk.now l.desk c.push_group.new.desk l.invariant.endings c.push_group.ensures.endings)

pub overflow_add-count : goal.overflow_add-count
overflow_add-count c =
    let l = c.loop-group in
    let rows = c.args.books.now.layout.rows in
    let before = few_of_blocks rows 0 (min (64 * l.group) (mark_blocks rows)) _ _ l.count c.args.desk.now l.desk l.invariant.lines in
    let more = few_of_blocks rows (64 * l.group) _ _ _ c.in_ok-count.field-0 l.desk c.push_group.new.desk c.in_ok-count.ensures.lines in
    let most : rows ≤ 262144 = omega arith in
    let sum : l.count + c.in_ok-count.field-0 < 2 ^ 64 = few_sum_groups l.count c.in_ok-count.field-0 l.group (mark_blocks rows) rows before more refl most in
    search

pub loop-group-preserved : goal.loop-group-preserved
loop-group-preserved c =
    let l = c.loop-group in
    let rows = c.args.books.now.layout.rows in
    let start : 64 * l.group ≤ mark_blocks rows = omega arith in
    record {
      own = c.push_group.ensures.own;
      holds = holds_then c.args.desk.now l.desk c.push_group.new.desk l.invariant.holds c.push_group.ensures.holds;
      endings = endings_then c.args.desk.now l.desk c.push_group.new.desk l.invariant.endings c.push_group.ensures.endings;
      lines = group_then rows (mark_blocks rows) l.group c.args.text.now.items l.text.items c.push_group.new.text.items l.count c.in_ok-count.field-0 c.args.desk.now l.desk c.push_group.new.desk
          start l.invariant.lines c.in_ok-count.ensures.lines;
    }

pub returns-clause-looks : goal.returns-clause-looks
returns-clause-looks c = blocks_look _ _ _ _ _ c.args.desk.now c.loop-group.desk c.loop-group.invariant.lines

pub returns-clause-tidy : goal.returns-clause-tidy
returns-clause-tidy c =
    let l = c.loop-group in
    looks_tidy c.args.books.now c.args.desk.now l.desk l.invariant.own (blocks_look _ _ _ _ _ c.args.desk.now l.desk l.invariant.lines) l.invariant.holds l.invariant.endings

pub returns-clause-lines : goal.returns-clause-lines
returns-clause-lines c =
    let l = c.loop-group in
    let rows = c.args.books.now.layout.rows in
    let whole : min (64 * l.group) (mark_blocks rows) ≡ mark_blocks rows = omega arith in
    all_marked rows _ c.args.text.now.items l.text.items l.count c.args.desk.now l.desk whole l.invariant.lines
