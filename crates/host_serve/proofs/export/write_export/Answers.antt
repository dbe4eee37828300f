use Rattle.std.proofs.Common.{◌≡◌, ◌∙◌, ◌++◌, List, Option, [], ap, append-nil, inl, inr, refl, subst, sym, ℕ}
use Rattle.rail_io.specs.Told.{with_end}
use Rattle.claim_rule.specs.Walls.{WallView}
use Rattle.cold_store.specs.Exports.{text_on}
use Rattle.host_serve.specs.Telling.{IsWhole, Noting, WritesExport}
use Rattle.host_serve.proofs.export.write_export.Goals as goal

-- all of the text was written
pub returns-then-write_all : goal.returns-then-write_all
returns-then-write_all g c =
    let n : Noting = record {
      before = g.E.Sink.told c.args.export.now;
      failed = g.E.Sink.faults c.args.export.now;
      after = g.E.Sink.told c.write_all.new.sink;
      fails = g.E.Sink.faults c.write_all.new.sink;
    } in
    let writes = c.write_all.ensures.writes in
    let none : writes.left ≡ [] = writes.whole c.if-write_all.true in
    let all : writes.written ≡ text_on c.in-Some.wall =
    sym (append-nil writes.written) ∙ (ap (λ (l : List ℕ). writes.written ++ l) (sym none)
    ∙ (sym writes.is ∙ (c.as_slice.ensures.value ∙ c.in-Ok.ensures.ok))) in
    let whole : IsWhole (text_on c.in-Some.wall) n = record {
      told = subst (λ (l : List ℕ). n.after ≡ with_end n.before l) all writes.told;
      steady = c.write_all.ensures.steady c.if-write_all.true;
    } in
    subst (λ (o : Option WallView). WritesExport o n c.args.outcome c.args.outcome) (sym c.in-Some.is) (inr (inl (whole, refl)))
