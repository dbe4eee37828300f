use Rattle.std.proofs.Common.{◌≡◌, ◌++◌, length, vec_len, sym, ap, ◌∙◌}
use Rattle.journal_text.proofs.Fields.{three_fields}
use Rattle.journal_text.proofs.Splits.{back_is}
use Rattle.journal_text.specs.Texts.{SaidHead, head_text, sum_of}
use Rattle.journal_text.proofs.writer.push_head.Goals as goal

pub returns-clause-sum : goal.returns-clause-sum
returns-clause-sum c =
    let old = c.args.text.now in
    let said : SaidHead = record { places = c.args.places; rows = c.args.rows; print = c.args.print.now.digits } in
    let many : length old.items ≡ vec_len old = search in
    let all : c.push.new.self.items ≡ old.items ++ head_text said =
    rw (← c.from.ensures, ← c.from-2.ensures)
    (three_fields old.items _ _ _ _ _ _ c.args.print.now.digits c.from.result c.from-2.result c.in_ok-extend_from_slice.ensures.items
    c.in_ok-push_field.ensures c.in_ok-push_field-2.ensures c.in_ok-push_sum.ensures c.in_ok-push.ensures.items) in
    c.of.ensures
    ∙ ap sum_of (c.split_at.ensures.back
    ∙ back_is c.as_slice.result.now old.items (head_text said) c.len-start.result (many ∙ sym c.len-start.ensures) (c.as_slice.ensures.value ∙ all))
