use Rattle.std.proofs.Common.{sym, refl}
use Rattle.history_model.specs.declared.entry.Step.TheVariants.{SawRow}
use Rattle.claim_rule.proofs.Shapes.{step_shape}
use Rattle.booking_rows.proofs.ViewLemmas.{first_shape, sealed_since, shown_still}
use Rattle.confirm_core.proofs.Seeing.{read_holds, read_endings}
use Rattle.confirm_core.proofs.looks.look_phase.Goals as goal

pub returns : goal.returns
returns c =
    let s = c.step_read in
    let old = c.args.desk.now in
    let row = c.args.row in
    let ph = c.phase_shown.result in record {
      own = s.ensures.own;
      entries = (_, (s.result, sym c.phase_shown.ensures, refl), step_shape (SawRow row.row 0 s.result) old s.new.desk s.ensures.look);
      word = λ is. first_shape row s.result ph old s.new.desk s.ensures.look c.phase_shown.ensures is;
      sealed = λ is. sealed_since row s.result ph old s.new.desk s.ensures.look c.phase_shown.ensures is;
      present = λ some. shown_still row s.result ph old s.new.desk s.ensures.look some c.phase_shown.ensures;
      holds = read_holds row.row 0 s.result old s.new.desk s.ensures.look;
      endings = read_endings row.row 0 s.result old s.new.desk s.ensures.look;
    }
