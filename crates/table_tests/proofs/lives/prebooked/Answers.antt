use Rattle.std.proofs.Common.{◌∙◌, arith, rules}
use Rattle.std.proofs.lemmas.Grind.{common_steps}
use Rattle.claim_rule.proofs.Out.{endings_then}
use Rattle.table_tests.proofs.LifeSealing.{may_prebook}
use Rattle.table_tests.proofs.lives.prebooked.Goals as goal

pub seal-requires-clause-ready : goal.seal-requires-clause-ready
seal-requires-clause-ready g c = c.note_detail.ensures.ready (c.add_places-added.ensures.noted (search rules)) (grind (arith, common_steps)) (omega arith)

pub seal-requires-clause-phase : goal.seal-requires-clause-phase
seal-requires-clause-phase g c = may_prebook c.note_detail.new.desk c.note_detail.new.hold c.note_detail.ensures.hold

pub returns-clause-endings : goal.returns-clause-endings
returns-clause-endings g c =
    endings_then c.args.desk.now c.start_hold.new.desk c.seal.new.desk c.start_hold.ensures.endings
    (endings_then c.start_hold.new.desk c.add_places-added.new.desk c.seal.new.desk c.add_places-added.ensures.endings
    (endings_then c.add_places-added.new.desk c.note_detail.new.desk c.seal.new.desk c.note_detail.ensures.endings c.seal.ensures.endings))

pub returns-clause-number : goal.returns-clause-number
returns-clause-number g c =
    c.seal.ensures.entries.same.2 ∙ (c.note_detail.ensures.entries.same.2 ∙ (c.add_places-added.ensures.entries.1.2.same.2 ∙ c.start_hold.ensures.entries.2.same.2))
