use Rattle.journal_text.proofs.Fields.{two_fields}
use Rattle.journal_text.proofs.writer.push_first_line.Goals as goal

pub returns : goal.returns
returns c =
    two_fields c.args.text.now.items _ _ _ _ _ _ c.args.places c.args.rows
    c.in_ok-extend_from_slice.ensures.items c.in_ok-push_field.ensures c.in_ok-push_field-2.ensures c.in_ok-push.ensures.items
