use Rattle.std.proofs.Common.{◌≡◌, ◌∙◌, ◌++◌, ap, sym}
use Rattle.history_model.specs.declared.phase.Phase.TheVariants.{Free, Making}
use Rattle.cold_store.proofs.SealedRows.{stub_row}
use Rattle.cold_store.proofs.export.push_row.Goals as goal

pub returns-in_ok-push_stub-in-Making-clause-line : goal.returns-in_ok-push_stub-in-Making-clause-line
returns-in_ok-push_stub-in-Making-clause-line c =
    let shown = c.shown_at-phase in
    c.in_ok-push_stub-in-Making.ensures
    ∙ ap (λ t. c.args.text.now.items ++ t)
    (stub_row c.args.wall.now c.args.row shown.result.0 shown.result.1 c.in-Making.is shown.ensures.phase (shown.ensures.generation (λ e. unlike (sym c.in-Making.is ∙ e))) c.if-generation-eq0.false)
  where
    unlike : Making ≡ Free → ⊥
    unlike e = cc
