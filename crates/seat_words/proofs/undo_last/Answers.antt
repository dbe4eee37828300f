use Rattle.seat_words.proofs.Trying.{undone_hold, undone_noted, undone_but_last, undone_endings}
use Rattle.seat_words.proofs.undo_last.Goals as goal

pub returns-clause-hold : goal.returns-clause-hold
returns-clause-hold c = let s = c.step_undo in let e = s.ensures in
    undone_hold c.args.desk.now s.new.desk c.args.hold.now s.new.hold e.last.0 _ e.last.1 e.given c.requires.hold e.hold

pub returns-clause-noted : goal.returns-clause-noted
returns-clause-noted c on = let s = c.step_undo in let e = s.ensures in
    undone_but_last c.args.desk.now s.new.desk c.args.hold.now s.new.hold e.last.0 _ e.last.1 e.given c.requires.hold on

pub returns-clause-still : goal.returns-clause-still
returns-clause-still c items on = let s = c.step_undo in let e = s.ensures in
    undone_noted c.args.desk.now s.new.desk c.args.hold.now s.new.hold e.last.0 _ e.last.1 e.given c.requires.hold items on

pub returns-clause-endings : goal.returns-clause-endings
returns-clause-endings c = undone_endings c.args.desk.now c.step_undo.new.desk c.args.hold.now _ c.step_undo.ensures.given c.requires.hold
