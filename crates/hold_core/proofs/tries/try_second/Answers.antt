use Rattle.claim_rule.proofs.Out.{endings_then}
use Rattle.hold_core.proofs.Blocks.{second_won, second_refused, second_contended, noted_but_last}
use Rattle.hold_core.proofs.tries.try_second.Goals as goal

pub returns-in-Won-clause-tried : goal.returns-in-Won-clause-tried
returns-in-Won-clause-tried c = second_won c.args.desk.now c.try_piece.new.desk c.args.hold.now c.try_piece.new.hold c.args.place.0 c.args.piece c.in-Won.ensures.tried

pub returns-in-Refused-clause-tried : goal.returns-in-Refused-clause-tried
returns-in-Refused-clause-tried c =
    let u = c.undo_last in
    let one = u.ensures.last in
    second_refused c.args.desk.now c.try_piece.new.desk u.new.desk c.args.hold.now c.try_piece.new.hold u.new.hold c.args.place.0 c.args.piece one.0 c.in-Refused.ensures.tried one.1 u.ensures.entries

pub returns-in-Refused-clause-noted : goal.returns-in-Refused-clause-noted
returns-in-Refused-clause-noted c on =
    let u = c.undo_last in
    let one = u.ensures.last in
    u.ensures.noted (noted_but_last c.try_piece.new.desk c.try_piece.new.hold u.new.hold one.0 one.1 (c.in-Refused.ensures.noted on))

pub returns-in-Refused-clause-endings : goal.returns-in-Refused-clause-endings
returns-in-Refused-clause-endings c = endings_then c.args.desk.now c.try_piece.new.desk c.undo_last.new.desk c.in-Refused.ensures.endings c.undo_last.ensures.endings

pub returns-in-Contended-clause-tried : goal.returns-in-Contended-clause-tried
returns-in-Contended-clause-tried c =
    let u = c.undo_last-in-Contended in
    let one = u.ensures.last in
    second_contended c.args.desk.now c.try_piece.new.desk u.new.desk c.args.hold.now c.try_piece.new.hold u.new.hold c.args.place.0 c.args.piece one.0 c.in-Contended.ensures.tried one.1 u.ensures.entries

pub returns-in-Contended-clause-noted : goal.returns-in-Contended-clause-noted
returns-in-Contended-clause-noted c on =
    let u = c.undo_last-in-Contended in
    let one = u.ensures.last in
    u.ensures.noted (noted_but_last c.try_piece.new.desk c.try_piece.new.hold u.new.hold one.0 one.1 (c.in-Contended.ensures.noted on))

pub returns-in-Contended-clause-endings : goal.returns-in-Contended-clause-endings
returns-in-Contended-clause-endings c = endings_then c.args.desk.now c.try_piece.new.desk c.undo_last-in-Contended.new.desk c.in-Contended.ensures.endings c.undo_last-in-Contended.ensures.endings
