use Rattle.std.proofs.Common.{Option, Some, None, IfNone, inr}
use Rattle.claim_rule.proofs.Out.{endings_then}
use Rattle.booking_rows.proofs.StartLemmas.{read_holds, read_endings, started_endings, restarted, missed_again, not_tried}
use Rattle.booking_rows.proofs.holds.restart_row.Goals as goal

if_none : {A P : Type 0} (o : Option A) → P → IfNone o P
if_none None p = p
if_none (Some a) p = tt

pub returns-in_err-next_generation-clause-none : goal.returns-in_err-next_generation-clause-none
returns-in_err-next_generation-clause-none c =
    let read = c.step_read-shown in
    if_none c.from_residual.result (not_tried c.args.row read.result c.args.desk.now read.new.desk c.requires.none c.in_err-next_generation.ensures.none read.ensures.look)

pub returns-in_err-next_generation-clause-endings : goal.returns-in_err-next_generation-clause-endings
returns-in_err-next_generation-clause-endings c = let read = c.step_read-shown in read_endings c.args.row 0 read.result c.args.desk.now read.new.desk read.ensures.look

pub step_start-requires-clause-none : goal.step_start-requires-clause-none
step_start-requires-clause-none c = let read = c.step_read-shown in (read_holds c.args.row 0 read.result c.args.desk.now read.new.desk read.ensures.look).none c.requires.none

pub step_start-requires-clause-expected : goal.step_start-requires-clause-expected
step_start-requires-clause-expected c = let e = c.in_ok-next_generation.ensures.expected in inr (e.0, e.1, e.2, e.3)

pub returns-in-Won-clause-some : goal.returns-in-Won-clause-some
returns-in-Won-clause-some c =
    let read = c.step_read-shown in
    let e = c.in-Won.ensures.started in
    restarted c.args.row _ read.result c.args.desk.now read.new.desk c.step_start.new.desk _ c.requires.alone c.requires.none read.ensures.look c.in_ok-next_generation.ensures.some e.0 e.1 e.2

pub returns-in-Won-clause-endings : goal.returns-in-Won-clause-endings
returns-in-Won-clause-endings c =
    let read = c.step_read-shown in
    endings_then c.args.desk.now read.new.desk c.step_start.new.desk (read_endings c.args.row 0 read.result c.args.desk.now read.new.desk read.ensures.look)
    (started_endings c.args.row _ read.new.desk c.step_start.new.desk c.in-Won.ensures.started.0)

pub returns-in-Missed-clause-none : goal.returns-in-Missed-clause-none
returns-in-Missed-clause-none c =
    let read = c.step_read-shown in
    let e = c.in-Missed.ensures.started in
    missed_again c.args.row read.result _ c.args.desk.now read.new.desk c.step_start.new.desk c.requires.none c.in_ok-next_generation.ensures.some.0 read.ensures.look e.0 e.1

pub returns-in-Missed-clause-endings : goal.returns-in-Missed-clause-endings
returns-in-Missed-clause-endings c =
    let read = c.step_read-shown in
    endings_then c.args.desk.now read.new.desk c.step_start.new.desk (read_endings c.args.row 0 read.result c.args.desk.now read.new.desk read.ensures.look)
    (read_endings c.args.row 0 _ read.new.desk c.step_start.new.desk c.in-Missed.ensures.started.0)
