use Rattle.std.proofs.Common.{ℕ, ap, sym, ◌∙◌, length, subst, [], ◌∷◌, refl}
use Rattle.history_model.specs.declared.entry.Step.TheVariants.{Note}
use Rattle.claim_rule.specs.Holds.{HoldView}
use Rattle.claim_rule.specs.Out.{IsToBeSealed}
use Rattle.claim_rule.specs.Desks.{AddsSteps, Stepped}
use Rattle.booking_rows.proofs.NoteLemmas.{four_notes, sealable, detail_hold, detail_endings}
use Rattle.booking_rows.proofs.notes.note_detail.Goals as goal

pub returns-clause-entries : goal.returns-clause-entries
returns-clause-entries c =
    let row : HoldView → ℕ = λ h. h.row.row in
    let one = c.step_note.ensures in
    let two = c.step_note-2.ensures in
    let three = c.step_note-3.ensures in
    let four = c.step_note-4.ensures in
    let s1 = ap row one.hold.1 in
    let s2 = ap row two.hold.1 ∙ s1 in
    let s3 = ap row three.hold.1 ∙ s2 in
    let h = c.args.hold.now in
    let d = c.args.detail in
    subst (λ (x : ℕ × ℕ × ℕ). AddsSteps c.args.desk.now c.step_note-4.new.desk (Note h.row.row 1 x.0 ∷ Note h.row.row 2 x.1 ∷ Note h.row.row 3 d.total ∷ Note h.row.row 4 x.2 ∷ [])) (λ i. (c.number_word.ensures.value i, c.seconds.ensures.value i, ap length c.items.ensures.items i))
    (four_notes c.args.desk.now c.step_note.new.desk c.step_note-2.new.desk c.step_note-3.new.desk c.step_note-4.new.desk h.row.row c.step_note.new.hold.row.row c.step_note-2.new.hold.row.row c.step_note-3.new.hold.row.row c.number_word.result c.seconds.result d.total (length c.items.result.now)
    s1 s2 s3 one.noted two.noted three.noted four.noted)

pub returns-clause-same : goal.returns-clause-same
returns-clause-same c = c.step_note-4.ensures.hold.1 ∙ (c.step_note-3.ensures.hold.1 ∙ (c.step_note-2.ensures.hold.1 ∙ c.step_note.ensures.hold.1))

pub returns-clause-hold : goal.returns-clause-hold
returns-clause-hold c =
    let d = c.args.detail in
    let h = c.args.hold.now in
    detail_hold h.row.row d.retailer.0 d.limit d.total (length h.items) c.args.desk.now c.step_note-4.new.desk h c.step_note-4.new.hold refl (returns-clause-entries c) (returns-clause-same c) c.requires.hold c.step_note-4.ensures.hold.0

pub returns-clause-endings : goal.returns-clause-endings
returns-clause-endings c =
    let d = c.args.detail in
    let h = c.args.hold.now in
    detail_endings d.retailer.0 d.limit d.total (length h.items) c.args.desk.now c.step_note-4.new.desk h (returns-clause-entries c) c.requires.hold

pub returns-clause-ready : goal.returns-clause-ready
returns-clause-ready c = λ noted some total.
    let row : HoldView → ℕ = λ h. h.row.row in
    let one = c.step_note.ensures in
    let two = c.step_note-2.ensures in
    let three = c.step_note-3.ensures in
    let four = c.step_note-4.ensures in
    let s1 = ap row one.hold.1 in
    let s2 = ap row two.hold.1 ∙ s1 in
    let s3 = ap row three.hold.1 ∙ s2 in
    let h = c.args.hold.now in
    let d = c.args.detail in
    let d1 = c.step_note.new.desk in
    let d2 = c.step_note-2.new.desk in
    let d3 = c.step_note-3.new.desk in
    let d4 = c.step_note-4.new.desk in
    subst (IsToBeSealed d4) (sym (returns-clause-same c))
    (sealable c.args.desk.now d1 d2 d3 d4 h c.number_word.result c.seconds.result d.total (length c.items.result.now) c.requires.own.legal c.requires.hold.of.0
    one.noted (subst (λ (x : ℕ). Stepped (Note x 2 c.seconds.result) d1 d2) s1 two.noted) (subst (λ (x : ℕ). Stepped (Note x 3 d.total) d2 d3) s2 three.noted) (subst (λ (x : ℕ). Stepped (Note x 4 (length c.items.result.now)) d3 d4) s3 four.noted)
    noted some c.number_word.ensures.most c.seconds.ensures.in_years total (ap length c.items.ensures.items))
