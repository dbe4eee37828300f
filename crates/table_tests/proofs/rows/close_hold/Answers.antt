use Rattle.std.proofs.Common.{◌≡◌, ◌≤◌, ℕ, ap, sym, subst, List, [], ◌∷◌, length, refl, inl, arith, ◌∙◌}
use Rattle.leg_masks.specs.Interval.{PlacedSpan as Item}
use Rattle.history_model.specs.declared.phase.Phase.TheVariants.{Prebooked}
use Rattle.history_model.specs.Allowed.{MaySealAs}
use Rattle.history_model.proofs.Owners.{on_row}
use Rattle.claim_rule.specs.Rule.{DeskView, state_seen}
use Rattle.claim_rule.specs.Holds.{HoldView}
use Rattle.claim_rule.specs.Out.{IsHolding, HasNoted, MaySealHold}
use Rattle.claim_rule.proofs.Out.{endings_then}
use Rattle.table_tests.proofs.rows.close_hold.Goals as goal

none_noted : (desk : DeskView) (hold : HoldView) → IsHolding desk hold → HasNoted desk hold.row.row []
none_noted desk hold is = on_row (state_seen desk) hold.row.row is.of.0.booking _ is.of.0.found refl

may_prebook : (desk : DeskView) (hold : HoldView) → IsHolding desk hold → MaySealHold desk hold Prebooked
may_prebook desk hold is = on_row (state_seen desk) hold.row.row is.of.0.booking (λ b. MaySealAs (state_seen desk) desk.number b Prebooked) is.of.0.found (inl refl)

one_item : (items : List Item) → length items ≡ 1 → (last : Item) × (items ≡ last ∷ [])
one_item [] e = absurd (omega (arith, e))
one_item (i ∷ []) e = (i, refl)
one_item (i ∷ j ∷ is) e = absurd (omega (arith, e))

pub seal-requires-clause-ready : goal.seal-requires-clause-ready
seal-requires-clause-ready c =
    let x = one_item c.args.hold.items c.requires.one in
    let noted = c.note_item.ensures.noted ([], x.0, x.1, none_noted c.args.desk.now c.args.hold c.requires.hold) in
    let some : 1 ≤ length c.note_item.new.hold.items = subst (λ (n : ℕ). 1 ≤ n) (sym (ap (λ (h : HoldView). length h.items) c.note_item.ensures.same ∙ c.requires.one)) (omega arith) in
    c.note_detail.ensures.ready noted some (omega arith)

pub seal-requires-clause-phase : goal.seal-requires-clause-phase
seal-requires-clause-phase c = may_prebook c.note_detail.new.desk c.note_detail.new.hold c.note_detail.ensures.hold

pub returns-clause-number : goal.returns-clause-number
returns-clause-number c =
    let x = one_item c.args.hold.items c.requires.one in
    c.seal.ensures.entries.same.2 ∙ (c.note_detail.ensures.entries.same.2 ∙ (c.note_item.ensures.entries [] x.0 x.1).same.2)

pub returns-clause-endings : goal.returns-clause-endings
returns-clause-endings c =
    endings_then c.args.desk.now c.note_detail.new.desk c.seal.new.desk
    (endings_then c.args.desk.now c.note_item.new.desk c.note_detail.new.desk c.note_item.ensures.endings c.note_detail.ensures.endings) c.seal.ensures.endings
