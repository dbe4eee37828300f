use Rattle.std.proofs.Common.{refl}
use Rattle.line_text.proofs.Parts.{first_of, second_of}
use Rattle.line_text.proofs.Steps.{all_read, part_fails, part_then}
use Rattle.line_text.proofs.reader.Reader.fields.Goals as goal

pub returns-in_err-first : goal.returns-in_err-first
returns-in_err-first c = rw c.from_residual.ensures (part_fails first_of (λ p h. h) c.in_err-first.ensures)

pub returns-in_err-second : goal.returns-in_err-second
returns-in_err-second c =
    rw c.from_residual-in_err-second.ensures
    (part_then first_of (λ p h. h) c.in_ok-first.ensures (part_fails second_of (λ p h. h.0) c.in_err-second.ensures))

pub returns : goal.returns
returns c =
    let first = c.in_ok-first.ensures in let second = c.in_ok-second.ensures in
    part_then first_of (λ p h. h) first
    (part_then second_of (λ p h. h.0) second
    (all_read (((first.found.0, second.found.0), refl), refl) (λ p h i. (h.0.1 i, h.1 i))))
