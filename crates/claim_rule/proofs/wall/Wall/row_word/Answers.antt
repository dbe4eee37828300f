use Rattle.std.proofs.Common.{ℕ, ◌+◌, ◌*◌, ap, ◌∙◌, sym, slice_get}
use Rattle.std.specs.Mem.Slots.{slots_items}
use Rattle.claim_rule.specs.Walls.{WallView}
use Rattle.history_model.specs.Words.{row_number}
use Rattle.claim_rule.proofs.Finishing.{get_some}
use Rattle.claim_rule.proofs.wall.Wall.row_word.Goals as goal

pub returns-clause-word : goal.returns-clause-word
returns-clause-word c =
    sym (ap (λ (w : WallView). slice_get w.words (row_number w.layout c.args.row c.args.word)) c.self.view_is)
    ∙ (ap (λ (n : ℕ). slice_get (slots_items c.self.inside.closed.words) (2 * n + (64 * c.args.row + c.args.word))) (sym c.self.invariant.0)
    ∙ (ap (slice_get (slots_items c.self.inside.closed.words)) (sym c.number_of_row.ensures) ∙ get_some (slots_items c.self.inside.closed.words) c.number_of_row.result c.word.result c.word.ensures))
