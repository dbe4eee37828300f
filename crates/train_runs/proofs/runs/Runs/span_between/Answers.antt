use Rattle.std.proofs.Common.{sym}
use Rattle.train_runs.proofs.Stopping.{span_after}
use Rattle.train_runs.proofs.runs.Runs.span_between.Goals as goal

pub returns : goal.returns
returns c =
    record {
      value = span_after c.args.self.now c.args.run c.args.from c.args.to c.in_ok-run.field-0.now c.stops-stops.result.now c.in_ok-first.first c.in_ok-last.last c.new.result
          (sym c.in_ok-run.ensures.value) c.stops-stops.ensures.value c.in_ok-run.ensures.sound.many (sym c.in_ok-first.ensures) (sym c.in_ok-last.ensures) c.new.ensures.valid c.new.ensures.value;
    }
