use Rattle.std.proofs.Common.{ℕ, List, map, subst}
use Rattle.httparse.specs.Spans.{header_bytes, span_bytes}
use Rattle.http_wire.specs.HeadLines.{lengths_in, IsNumeral}
use Rattle.http_wire.proofs.ServedLemmas.{named_length}
use Rattle.http_wire.proofs.served.length_of.Goals as goal

pub returns-then-not-all_agree-clause-err : goal.returns-then-not-all_agree-clause-err
returns-then-not-all_agree-clause-err c n length' =
    let values = lengths_in (map (header_bytes c.args.head.now) c.args.lines.now) in
    let is : IsNumeral (span_bytes c.args.head.now c.args.first) c.in-Some.number =
    subst (λ (d : List ℕ). IsNumeral d c.in-Some.number) c.of.ensures c.in-Some.ensures.some in
    let yes = c.all_agree.ensures.1 (named_length c.args.head.now values (span_bytes c.args.head.now c.args.first) c.requires.first.0
    c.in-Some.number n c.requires.first.1 is length') in
    absurd cc
