use Rattle.std.proofs.Common.{◌+◌, ◌-◌, ◌<◌, ◌^◌, arith}
use Rattle.claim_rule.proofs.Out.{endings_same, endings_then, holds_same, holds_then}
use Rattle.row_cuts.proofs.Writing.{looks_then}
use Rattle.row_cuts.proofs.Marking.{block_then, blocks_look, blocks_none, few_of_block, few_of_blocks, few_sum_blocks}
use Rattle.row_cuts.proofs.lines.push_group.Goals as goal

pub returns-then-marked-eq0-clause-lines : goal.returns-then-marked-eq0-clause-lines
returns-then-marked-eq0-clause-lines c = blocks_none c.args.books.now.layout.rows _ c.args.text.now.items c.args.desk.now c.requires.own.legal

pub loop-block-init : goal.loop-block-init
loop-block-init c = record {
  own = c.requires.own;
  holds = holds_same c.args.desk.now;
  endings = endings_same c.args.desk.now;
  low = omega arith;
  lines = blocks_none c.args.books.now.layout.rows _ c.args.text.now.items c.args.desk.now c.requires.own.legal;
}

pub returns-in_err-count-clause-looks : goal.returns-in_err-count-clause-looks
returns-in_err-count-clause-looks c =
    let l = c.loop-block in
    looks_then c.args.desk.now l.desk c.push_block_if_marked.new.desk (blocks_look _ _ _ _ _ c.args.desk.now l.desk l.invariant.lines) c.push_block_if_marked.ensures.looks

pub returns-in_err-count-clause-holds : goal.returns-in_err-count-clause-holds
returns-in_err-count-clause-holds c = holds_then c.args.desk.now c.loop-block.desk c.push_block_if_marked.new.desk c.loop-block.invariant.holds c.push_block_if_marked.ensures.holds

pub returns-in_err-count-clause-endings : goal.returns-in_err-count-clause-endings
returns-in_err-count-clause-endings c = endings_then c.args.desk.now c.loop-block.desk c.push_block_if_marked.new.desk c.loop-block.invariant.endings c.push_block_if_marked.ensures.endings

pub overflow_add-count : goal.overflow_add-count
overflow_add-count c =
    let l = c.loop-block in
    let rows = c.args.books.now.layout.rows in
    let before = few_of_blocks rows c.args.start (l.block - c.args.start) _ _ l.count c.args.desk.now l.desk l.invariant.lines in
    let one = few_of_block rows l.block _ _ c.in_ok-count.field-0 l.desk c.push_block_if_marked.new.desk c.in_ok-count.ensures.lines in
    let sum : l.count + c.in_ok-count.field-0 < 2 ^ 64 =
    few_sum_blocks c.args.start l.count c.in_ok-count.field-0 l.block c.end_of_block-block-end.result c.block_count.result rows before one c.loop-block-test.true c.end_of_block-block-end.ensures
    c.block_count.ensures.count c.block_count.ensures.most in
    search

pub loop-block-preserved : goal.loop-block-preserved
loop-block-preserved c =
    let l = c.loop-block in
    record {
      own = c.push_block_if_marked.ensures.own;
      holds = holds_then c.args.desk.now l.desk c.push_block_if_marked.new.desk l.invariant.holds c.push_block_if_marked.ensures.holds;
      endings = endings_then c.args.desk.now l.desk c.push_block_if_marked.new.desk l.invariant.endings c.push_block_if_marked.ensures.endings;
      low = (let low = l.invariant.low in omega arith);
      lines = block_then c.args.books.now.layout.rows c.args.start l.block c.args.text.now.items l.text.items c.push_block_if_marked.new.text.items l.count c.in_ok-count.field-0 c.args.desk.now l.desk c.push_block_if_marked.new.desk
          l.invariant.low l.invariant.lines c.in_ok-count.ensures.lines;
    }

pub returns-clause-looks : goal.returns-clause-looks
returns-clause-looks c = blocks_look _ _ _ _ _ c.args.desk.now c.loop-block.desk c.loop-block.invariant.lines
