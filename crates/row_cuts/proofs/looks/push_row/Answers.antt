use Rattle.std.proofs.Common.{Some, None, ◌∙◌}
use Rattle.claim_rule.proofs.Out.{endings_then, holds_then}
use Rattle.row_cuts.specs.Looks.{kept_seen, kept_unmade}
use Rattle.row_cuts.proofs.Looking.{first_endings, first_holds, free_looks, free_said, generation_said, phase_said, sealed_left, sealed_looks, unmade_looks}
use Rattle.row_cuts.proofs.Writing.{looks_at, no_line, row_result}
use Rattle.row_cuts.proofs.looks.push_row.Goals as goal

pub returns-in_default : goal.returns-in_default
returns-in_default c =
    let w = c.step_read-word in
    let free = free_looks c.args.row w.result c.args.desk.now w.new.desk w.ensures.look
    (free_said c.args.row w.result c.args.desk.now w.new.desk w.ensures.look c.in_default.ensures.none) in
    record {
      own = w.ensures.own;
      lines = no_line c.args.row c.args.text.now.items c.args.desk.now w.new.desk free;
      looks = looks_at c.args.row None c.args.desk.now w.new.desk free;
      holds = first_holds c.args.row w.result c.args.desk.now w.new.desk w.ensures.look;
      endings = first_endings c.args.row w.result c.args.desk.now w.new.desk w.ensures.look;
    }

pub returns-in-Free : goal.returns-in-Free
returns-in-Free c =
    let w = c.step_read-word in
    let free = free_looks c.args.row w.result c.args.desk.now w.new.desk w.ensures.look
    (phase_said c.in-Some.phase c.in-Some.generation w.result c.in-Some.ensures.found ∙ c.in-Free.is) in
    record {
      own = w.ensures.own;
      lines = no_line c.args.row c.args.text.now.items c.args.desk.now w.new.desk free;
      looks = looks_at c.args.row None c.args.desk.now w.new.desk free;
      holds = first_holds c.args.row w.result c.args.desk.now w.new.desk w.ensures.look;
      endings = first_endings c.args.row w.result c.args.desk.now w.new.desk w.ensures.look;
    }

pub returns-in-Making : goal.returns-in-Making
returns-in-Making c =
    let w = c.step_read-word in
    let g = c.in-Some.generation in
    let looks = unmade_looks c.args.row w.result g c.args.desk.now w.new.desk w.ensures.look
    (phase_said c.in-Some.phase g w.result c.in-Some.ensures.found ∙ c.in-Making.is)
    (generation_said c.in-Some.phase g w.result c.in-Some.ensures.found) in
    record {
      own = w.ensures.own;
      lines = row_result c.args.row (kept_unmade c.args.row g) c.args.text.now.items _ c.push_unmade.result c.args.desk.now w.new.desk looks c.push_unmade.ensures.line c.push_unmade.ensures.count;
      looks = looks_at c.args.row (kept_unmade c.args.row g) c.args.desk.now w.new.desk looks;
      holds = first_holds c.args.row w.result c.args.desk.now w.new.desk w.ensures.look;
      endings = first_endings c.args.row w.result c.args.desk.now w.new.desk w.ensures.look;
    }

pub returns-in-Some-look_row : goal.returns-in-Some-look_row
returns-in-Some-look_row c =
    let w = c.step_read-word in
    let g = c.in-Some.generation in
    let e = c.in-Some-look_row.ensures in
    let seen = c.in-Some-look_row.view in
    let looks = sealed_looks c.args.row w.result g c.in-Some.phase (Some seen) c.args.desk.now w.new.desk c.look_row.new.desk w.ensures.look
    (phase_said c.in-Some.phase g w.result c.in-Some.ensures.found) (generation_said c.in-Some.phase g w.result c.in-Some.ensures.found)
    (sealed_left c.in-Some.phase c.in_default-phase.not-Free c.in_default-phase-2.not-Making) e.entries in
    record {
      own = e.own;
      lines = row_result c.args.row (Some (kept_seen c.args.row g seen)) c.args.text.now.items _ c.push_seen.result c.args.desk.now c.look_row.new.desk looks c.push_seen.ensures.line c.push_seen.ensures.count;
      looks = looks_at c.args.row (Some (kept_seen c.args.row g seen)) c.args.desk.now c.look_row.new.desk looks;
      holds = holds_then c.args.desk.now w.new.desk c.look_row.new.desk (first_holds c.args.row w.result c.args.desk.now w.new.desk w.ensures.look) e.holds;
      endings = endings_then c.args.desk.now w.new.desk c.look_row.new.desk (first_endings c.args.row w.result c.args.desk.now w.new.desk w.ensures.look) e.endings;
    }

pub returns-in-None : goal.returns-in-None
returns-in-None c =
    let w = c.step_read-word in
    let g = c.in-Some.generation in
    let e = c.in-None.ensures in
    let looks = sealed_looks c.args.row w.result g c.in-Some.phase None c.args.desk.now w.new.desk c.look_row.new.desk w.ensures.look
    (phase_said c.in-Some.phase g w.result c.in-Some.ensures.found) (generation_said c.in-Some.phase g w.result c.in-Some.ensures.found)
    (sealed_left c.in-Some.phase c.in_default-phase.not-Free c.in_default-phase-2.not-Making) e.entries in
    record {
      own = e.own;
      lines = no_line c.args.row c.args.text.now.items c.args.desk.now c.look_row.new.desk looks;
      looks = looks_at c.args.row None c.args.desk.now c.look_row.new.desk looks;
      holds = holds_then c.args.desk.now w.new.desk c.look_row.new.desk (first_holds c.args.row w.result c.args.desk.now w.new.desk w.ensures.look) e.holds;
      endings = endings_then c.args.desk.now w.new.desk c.look_row.new.desk (first_endings c.args.row w.result c.args.desk.now w.new.desk w.ensures.look) e.endings;
    }
