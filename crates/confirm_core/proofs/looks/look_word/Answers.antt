use Rattle.std.proofs.Common.{[], ◌∷◌}
use Rattle.history_model.specs.declared.entry.Step.TheVariants.{SawRow}
use Rattle.claim_rule.proofs.Shapes.{step_shape}
use Rattle.booking_rows.proofs.ViewLemmas.{since_on}
use Rattle.confirm_core.proofs.Seeing.{word_seen, read_holds, read_endings}
use Rattle.confirm_core.proofs.looks.look_word.Goals as goal

pub returns : goal.returns
returns c =
    let s = c.step_read in
    let old = c.args.desk.now in
    let row = c.args.row in
    let w = c.args.word in
    let did = step_shape (SawRow row.row w s.result) old s.new.desk s.ensures.look in record {
      own = s.ensures.own;
      entries = did;
      word = word_seen row w s.result old s.new.desk s.ensures.look c.requires.word c.requires.sealed;
      sealed = λ phase on. since_on old s.new.desk (SawRow row.row w s.result ∷ []) row phase did on;
      holds = read_holds row.row w s.result old s.new.desk s.ensures.look;
      endings = read_endings row.row w s.result old s.new.desk s.ensures.look;
    }
