use Rattle.std.proofs.Common.{◌≡◌, ◌∙◌, ◌++◌, ℕ, List, true, codes, decimal, subst}
use Rattle.session_loop.specs.Writes.{Writes}
use Rattle.host_catalogue.proofs.Written.{writes_two}
use Rattle.host_catalogue.proofs.noting.write_line.Goals as goal

pub returns-clause-writes : goal.returns-clause-writes
returns-clause-writes g c =
    let start = g.K.Sink.told c.args.sink.now in
    let mid = g.K.Sink.told c.write_both.new.sink in
    let text : c.as_bytes.result.now ≡ decimal c.args.line = c.as_bytes.ensures.value ∙ c.format.ensures.text in
    let first = subst (λ (digits : List ℕ). Writes start mid (digits ++ codes " of cut ") true) text c.if-not-write_both.ensures.writes in
    writes_two start mid (g.K.Sink.told c.write_number.new.sink) (decimal c.args.line ++ codes " of cut ") (decimal c.args.cut)
    c.write_number.result first c.write_number.ensures.writes
