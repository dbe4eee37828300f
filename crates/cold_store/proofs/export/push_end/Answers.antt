use Rattle.std.proofs.Common.{rules, ◌≡◌, ◌∙◌, ◌++◌, w64, to_z, of_z, sym}
use mir.Val.{SFits}
use Rattle.std.proofs.lemmas.Int.{to_z-of_z}
use Rattle.std.proofs.lemmas.Result.{on_ok_weaker}
use Rattle.line_text.specs.Lines.{amount_field, number_field, said_successor, successor_field}
use Rattle.cold_store.proofs.SealedRows.{amount_is, end_text_is, ended_row, three_fields}
use Rattle.cold_store.proofs.export.push_end.Goals as goal

pub amount_of-requires : goal.amount_of-requires
amount_of-requires c =
    let b = ended_row c.args.wall.now c.args.row c.args.kind c.requires.closed c.requires.ended in
    (b.0.end.amount, b.1.range, c.word_at.ensures ∙ b.1.amount)

pub returns : goal.returns
returns c =
    let w = c.args.wall.now in
    let b = ended_row w c.args.row c.args.kind c.requires.closed c.requires.ended in
    let amount = amount_is w c.args.row c.args.kind b.0 c.amount_of.result b.1 c.amount_of.ensures.0 (sym c.word_at.ensures ∙ c.amount_of.ensures.1) in
    let fits : SFits w64 c.amount_of.result = search rules in
    let said : to_z w64 (of_z w64 c.amount_of.result) ≡ b.0.end.amount = to_z-of_z w64 c.amount_of.result fits ∙ amount in
    on_ok_weaker c.push_successor.result
    (λ r. three_fields c.args.text.now.items _ _ _ _ _ _ _ c.in_ok-push_amount.ensures c.in_ok-push_field.ensures r
    (end_text_is w c.args.row c.args.kind b.0 b.1
    ∙ (λ j. amount_field (sym said j) ++ (number_field (sym c.word_at-2.ensures j) ++ successor_field (said_successor (sym c.word_at-3.ensures j))))))
    c.push_successor.ensures
