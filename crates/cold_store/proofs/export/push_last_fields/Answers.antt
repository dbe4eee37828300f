use Rattle.std.proofs.Common.{◌++◌, ap, sym, ◌∙◌, append-nil}
use Rattle.cold_store.proofs.SealedRows.{no_end_text}
use Rattle.cold_store.proofs.export.push_last_fields.Goals as goal

pub returns-in_default : goal.returns-in_default
returns-in_default c =
    sym (append-nil c.args.text.now.items) ∙ ap (λ t. c.args.text.now.items ++ t) (sym (no_end_text c.args.wall.now c.args.row c.args.phase c.requires.closed c.requires.shown.0 c.requires.shown.1 c.in_default.not-Ended))
