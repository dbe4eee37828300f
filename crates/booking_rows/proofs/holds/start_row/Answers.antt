use Rattle.booking_rows.specs.Starts.{first_of}
use Rattle.booking_rows.proofs.StartLemmas.{read_holds, read_endings, started_holding, started_endings}
use Rattle.booking_rows.proofs.holds.start_row.Goals as goal

pub returns-in-Won-clause-some : goal.returns-in-Won-clause-some
returns-in-Won-clause-some c = let e = c.in-Won.ensures.started in
    (e.0, started_holding (first_of c.args.row) c.args.desk.now c.step_start.new.desk _ c.requires.alone c.requires.none e.0 e.1 e.2, e.2)

pub returns-in-Won-clause-endings : goal.returns-in-Won-clause-endings
returns-in-Won-clause-endings c = started_endings c.args.row 0 c.args.desk.now c.step_start.new.desk c.in-Won.ensures.started.0

pub returns-in-Missed-clause-none : goal.returns-in-Missed-clause-none
returns-in-Missed-clause-none c = let e = c.in-Missed.ensures.started in
    (_, e.1, e.0, (read_holds c.args.row 0 _ c.args.desk.now c.step_start.new.desk e.0).none c.requires.none)

pub returns-in-Missed-clause-endings : goal.returns-in-Missed-clause-endings
returns-in-Missed-clause-endings c = read_endings c.args.row 0 _ c.args.desk.now c.step_start.new.desk c.in-Missed.ensures.started.0
