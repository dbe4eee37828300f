use Rattle.std.proofs.Common.{sym, ◌∙◌}
use Rattle.std.proofs.lemmas.Bool.{false≢true}
use Rattle.journal_text.proofs.SumRead.{not_hex, sum_read}
use Rattle.journal_text.proofs.reader.Reader.sum.Goals as goal

pub returns-then-not-are_hex : goal.returns-then-not-are_hex
returns-then-not-are_hex c =
    let cases = c.in_ok-digits.ensures.cases in
    not_hex (c.eat.ensures.found c.if-not-eat.false) cases.0 cases.1 cases.2
    (λ hex. absurd (false≢true (sym c.if-not-are_hex.true ∙ c.are_hex.ensures.1 hex)))

pub returns : goal.returns
returns c =
    let cases = c.in_ok-digits.ensures.cases in
    sum_read (c.eat.ensures.found c.if-not-eat.false) cases.0 cases.1 cases.2
    (c.are_hex.ensures.0 c.if-not-are_hex.false)
