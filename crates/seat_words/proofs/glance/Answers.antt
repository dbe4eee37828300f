use Rattle.claim_rule.proofs.Shapes.{step_shape}
use Rattle.history_model.specs.declared.entry.Step.TheVariants.{Look}
use Rattle.seat_words.proofs.Trying.{looked_holds, looked_endings}
use Rattle.seat_words.proofs.glance.Goals as goal

pub returns : goal.returns
returns c =
    let s = c.step_look in
    let old = c.args.desk.now in record {
      own = s.ensures.own;
      entries = step_shape (Look c.args.place.0 c.args.half s.result) old s.new.desk s.ensures.look;
      holds = looked_holds c.args.place.0 c.args.half s.result old s.new.desk s.ensures.look;
      endings = looked_endings c.args.place.0 c.args.half s.result old s.new.desk s.ensures.look;
    }
