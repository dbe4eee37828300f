use Rattle.claim_rule.proofs.Out.{sealed_none}
use Rattle.booking_rows.specs.Notes.{sealed_phase}
use Rattle.booking_rows.proofs.NoteLemmas.{may_seal, seals_items, seal_endings}
use Rattle.std.proofs.Common.{subst, sym}
use Rattle.history_model.specs.declared.phase.Phase.{Phase}
use Rattle.history_model.specs.declared.entry.Step.TheVariants.{Seal}
use Rattle.claim_rule.specs.Desks.{Stepped, MayStep}
use Rattle.claim_rule.proofs.Shapes.{step_shape}
use Rattle.booking_rows.proofs.notes.seal.Goals as goal

pub step_seal-requires-clause-ready : goal.step_seal-requires-clause-ready
step_seal-requires-clause-ready c =
    let a = c.args in
    let lay = a.books.now.layout in
    subst (λ (ph : Phase). MayStep lay a.desk.now (Seal a.hold.row.row ph)) (sym c.phase.ensures.phase)
    (may_seal a.books.now a.desk.now a.hold (sealed_phase a.sealed) c.requires.own c.requires.hold c.requires.ready c.requires.phase)

pub returns : goal.returns
returns c =
    let a = c.args in
    let s = c.step_seal in
    let ph = sealed_phase a.sealed in
    let did = subst (λ (ph : Phase). Stepped (Seal a.hold.row.row ph) a.desk.now s.new.desk) c.phase.ensures.phase s.ensures.sealed in record {
      own = s.ensures.own;
      entries = step_shape (Seal a.hold.row.row ph) a.desk.now s.new.desk did;
      row = s.ensures.row;
      items = seals_items ph a.desk.now s.new.desk a.hold did c.requires.hold;
      none = sealed_none ph a.desk.now s.new.desk a.hold c.requires.hold did;
      endings = seal_endings ph a.desk.now s.new.desk a.hold did c.requires.hold;
    }
