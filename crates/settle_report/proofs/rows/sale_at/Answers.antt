use Rattle.std.proofs.Common.{◌∙◌, arith, refl, sym, ap, rules, w64, FitsSigned, Some}
use Rattle.std.specs.Prelude.{ℤ}
use Rattle.std.proofs.lemmas.Bool.{iff_false}
use Rattle.std.proofs.lemmas.Int.{to_z-of_z}
use Rattle.history_model.specs.Phase.{is_sealed}
use Rattle.settle_report.specs.declared.account.Sale.{Sale}
use Rattle.settle_report.specs.Accounts.{state_on}
use Rattle.settle_report.proofs.RowFacts.{in_phase, nobodys, none_counts, sealed_in, somebodys, zero_from}
use Rattle.settle_report.proofs.rows.sale_at.Goals as goal

pub returns-then-not-is_sealed : goal.returns-then-not-is_sealed
returns-then-not-is_sealed c =
    sym (none_counts (state_on c.args.wall.now) c.args.row (ap is_sealed (sym c.requires.phase) ∙ (sym c.is_sealed.ensures ∙ c.if-not-is_sealed.true)))

pub returns-then-not-is_retailer : goal.returns-then-not-is_retailer
returns-then-not-is_retailer c =
    let s = state_on c.args.wall.now in
    let b = sealed_in s c.args.row c.args.phase c.requires.phase (sym c.is_sealed.ensures ∙ c.if-not-is_sealed.false) in
    sym (nobodys s c.args.row c.args.phase b.0 b.1
    (sym c.word_at-retailer.ensures ∙ zero_from c.word_at-retailer.result (iff_false c.is_retailer.ensures c.if-not-is_retailer.true)))

pub amount_at-requires-clause-phase : goal.amount_at-requires-clause-phase
amount_at-requires-clause-phase c =
    let s = state_on c.args.wall.now in
    let b = sealed_in s c.args.row c.args.phase c.requires.phase (sym c.is_sealed.ensures ∙ c.if-not-is_sealed.false) in
    in_phase s c.args.row c.args.phase b.0 b.1

pub returns : goal.returns
returns c =
    let s = state_on c.args.wall.now in
    let b = sealed_in s c.args.row c.args.phase c.requires.phase (sym c.is_sealed.ensures ∙ c.if-not-is_sealed.false) in
    let fits : FitsSigned w64 c.amount_at.result = search rules in
    let shown : ℤ → Sale = λ z. record { retailer = c.word_at-retailer.result; phase = c.args.phase; total = c.word_at.result; amount = z } in
    ap (λ (z : ℤ). Some (shown z)) (to_z-of_z w64 c.amount_at.result fits)
    ∙ somebodys s c.args.row c.args.phase b.0 (shown c.amount_at.result) b.1 (λ e. let above = c.is_retailer.ensures.0 c.if-not-is_retailer.false in let none = c.word_at-retailer.ensures ∙ e in omega (arith, above, none)) c.word_at-retailer.ensures
    refl c.word_at.ensures c.amount_at.ensures
