use Rattle.std.proofs.Common.{◌≡◌, ◌≤◌, List, [], length, drop, sym, ◌∙◌, ap, arith}
use Rattle.std.proofs.lemmas.List.{drop_all}
use Rattle.httparse.specs.declared.spans.HeaderSpan.{HeaderSpan}
use Rattle.http_wire.proofs.NoteLemmas.{notes_after, are_notes}
use Rattle.http_wire.proofs.served.notes_of.Goals as goal

pub returns-clause-notes : goal.returns-clause-notes
returns-clause-notes c =
    let head = c.args.head.now in
    let lines = c.args.lines.now in
    let notes = c.loop-line.notes in
    let past : length lines ≤ c.loop-line.line-index = omega arith in
    let none : drop c.loop-line.line-index lines ≡ [] = drop_all c.loop-line.line-index lines past in
    are_notes head notes lines (sym (ap (λ (ls : List HeaderSpan). notes_after head notes ls) none) ∙ c.loop-line.invariant.rest)
