use Rattle.std.proofs.Common.{◌∙◌, List, ℕ, ◌++◌, ap}
use Rattle.host_journal.proofs.keeping.lines_in.Goals as goal

pub returns : goal.returns
returns c places rows said is =
    let found = c.export_rows-count.ensures places rows said is in
    let text = c.in_ok-extend_from_slice.ensures.items ∙ ap (λ (l : List ℕ). l ++ c.export_rows-count.result.0.now) c.new-text.ensures.items in
    (text ∙ found.0, found.1)
