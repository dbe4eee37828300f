use Rattle.row_cuts.proofs.Marking.{block_result, blocks_none}
use Rattle.row_cuts.proofs.lines.push_block_if_marked.Goals as goal

pub returns-then-not-is_marked-clause-lines : goal.returns-then-not-is_marked-clause-lines
returns-then-not-is_marked-clause-lines c = blocks_none c.args.books.now.layout.rows _ c.args.text.now.items c.args.desk.now c.requires.own.legal

pub returns-clause-lines : goal.returns-clause-lines
returns-clause-lines c =
    block_result c.args.books.now.layout.rows c.args.block c.take_marks-marks.result c.args.text.now.items c.push_block.new.text.items c.push_block.result c.args.desk.now c.push_block.new.desk c.push_block.ensures.lines
