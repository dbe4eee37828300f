use Rattle.std.proofs.Common.{refl}
use Rattle.line_text.proofs.Steps.{eat_fails, eat_then}
use Rattle.line_text.proofs.reader.Reader.part.Goals as goal

pub returns-then-not-eat : goal.returns-then-not-eat
returns-then-not-eat c = eat_fails c.if-not-eat.ensures (λ n rest. (_, refl))

pub returns : goal.returns
returns c = eat_then c.if-not-eat.ensures (λ n. refl) c.number.ensures
