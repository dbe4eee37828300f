use Rattle.std.proofs.Common.{◌≡◌, ◌∙◌, ℕ, List, [], ◌∷◌, codes, decimal, OnOk, subst}
use Rattle.settle_report.specs.Steps.{AddsLine}
use Rattle.settle_report.specs.Table.{line_of}
use Rattle.settle_report.proofs.table.write_forgotten.Goals as goal

pub returns : goal.returns
returns c =
    let number : c.as_bytes.result.now ≡ decimal c.args.count = c.as_bytes.ensures.value ∙ c.format.ensures.text in
    subst (λ (n : List ℕ). OnOk c.write_record.result (AddsLine (line_of (codes "forgotten" ∷ n ∷ codes "0" ∷ codes "0" ∷ codes "0" ∷ codes "0" ∷ [])) c.args.writer.now c.write_record.new.writer)) number c.write_record.ensures
