use Rattle.std.proofs.Common.{◌∙◌}
use Rattle.row_cuts.proofs.Counting.{shown_free, shown_used}
use Rattle.row_cuts.proofs.Looking.{first_endings, first_holds, free_said, generation_said, phase_said}
use Rattle.row_cuts.proofs.counts.look_standing.Goals as goal

pub returns-in_default : goal.returns-in_default
returns-in_default c =
    let w = c.step_read-word in record {
      own = w.ensures.own;
      shows = shown_free c.args.row w.result c.args.desk.now w.new.desk w.ensures.look
          (free_said c.args.row w.result c.args.desk.now w.new.desk w.ensures.look c.in_default.ensures.none);
      holds = first_holds c.args.row w.result c.args.desk.now w.new.desk w.ensures.look;
      endings = first_endings c.args.row w.result c.args.desk.now w.new.desk w.ensures.look;
    }

pub returns-in-Free : goal.returns-in-Free
returns-in-Free c =
    let w = c.step_read-word in record {
      own = w.ensures.own;
      shows = shown_free c.args.row w.result c.args.desk.now w.new.desk w.ensures.look
          (phase_said c.in-Some.phase c.in-Some.generation w.result c.in-Some.ensures.found ∙ c.in-Free.is);
      holds = first_holds c.args.row w.result c.args.desk.now w.new.desk w.ensures.look;
      endings = first_endings c.args.row w.result c.args.desk.now w.new.desk w.ensures.look;
    }

pub returns : goal.returns
returns c =
    let w = c.step_read-word in record {
      own = w.ensures.own;
      shows = shown_used c.args.row w.result c.in-Some.generation c.in-Some.phase c.args.desk.now w.new.desk w.ensures.look
          (phase_said c.in-Some.phase c.in-Some.generation w.result c.in-Some.ensures.found)
          (generation_said c.in-Some.phase c.in-Some.generation w.result c.in-Some.ensures.found)
          c.in_default-phase.not-Free;
      holds = first_holds c.args.row w.result c.args.desk.now w.new.desk w.ensures.look;
      endings = first_endings c.args.row w.result c.args.desk.now w.new.desk w.ensures.look;
    }
