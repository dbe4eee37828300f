use Rattle.std.proofs.Common.{refl, arith}
use Rattle.journal_text.proofs.LineRead.{line_read, no_end, shorter}
use Rattle.journal_text.proofs.reader.Reader.line.Goals as goal

pub returns-in_err-end : goal.returns-in_err-end
returns-in_err-end c =
    rw c.from_residual-in_err-end.ensures
    (no_end c.if-not-eat.ensures c.in_ok-row.ensures c.if-not-eat-2.ensures (λ k h. c.in_err-end.ensures k (omega arith) h))

pub front-requires : goal.front-requires
front-requires c =
    let e = c.in_ok-end.ensures in
    shorter c.if-not-eat.ensures c.in_ok-row.ensures c.if-not-eat-2.ensures e.0.high (λ k h. e.0.before k (omega arith) h) e.1 c.split_at.ensures.back

pub returns : goal.returns
returns c =
    let e = c.in_ok-end.ensures in
    line_read c.if-not-eat.ensures c.in_ok-row.ensures c.if-not-eat-2.ensures e.0.high (λ k h. e.0.before k (omega arith) h) e.1 c.split_at.ensures.back
    _ refl c.front.ensures
