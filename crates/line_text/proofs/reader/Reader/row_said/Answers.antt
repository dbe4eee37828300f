use Rattle.std.proofs.Common.{refl}
use Rattle.line_text.proofs.Parts.{row_of, generation_of}
use Rattle.line_text.proofs.Steps.{all_read, part_fails, part_then}
use Rattle.line_text.proofs.reader.Reader.row_said.Goals as goal

pub returns-in_err-row : goal.returns-in_err-row
returns-in_err-row c = rw c.from_residual.ensures (part_fails row_of (λ p h. h) c.in_err-row.ensures)

pub returns-in_err-generation : goal.returns-in_err-generation
returns-in_err-generation c =
    rw c.from_residual-in_err-generation.ensures
    (part_then row_of (λ p h. h) c.in_ok-row.ensures (part_fails generation_of (λ p h. h.0) c.in_err-generation.ensures))

pub returns : goal.returns
returns c =
    let first = c.in_ok-row.ensures in let second = c.in_ok-generation.ensures in
    part_then row_of (λ p h. h) first
    (part_then generation_of (λ p h. h.0) second
    (all_read (((first.found.0, second.found.0), refl), refl) (λ s h i. record { row = h.0.1 i; generation = h.1 i })))
