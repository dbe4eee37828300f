use Rattle.std.proofs.Common.{List, ℕ, sym, subst}
use Rattle.host_catalogue.specs.Journals.{IsRecovered}
use Rattle.host_replay.proofs.Recovering.{broke, wrote}
use Rattle.host_replay.proofs.recover.recover.Goals as goal

pub returns-then-write_all-clause-ends : goal.returns-then-write_all-clause-ends
returns-then-write_all-clause-ends g c =
    let files = g.F.Shelf.told c.args.shelf.now in
    let recovered = subst (λ (t : List ℕ). IsRecovered files c.args.said.now.catalogue.now c.args.said.now.journal.now t)
    (sym c.as_slice.ensures.value) c.in-Ok.ensures.ok in
    wrote files c.args.said.now.catalogue.now c.args.said.now.journal.now
    (g.K.Sink.told c.args.output.now) (g.K.Sink.told c.write_all.new.sink)
    c.as_slice.result.now recovered c.if-write_all.ensures.writes

pub returns-clause-ends : goal.returns-clause-ends
returns-clause-ends g c =
    let files = g.F.Shelf.told c.args.shelf.now in
    let recovered = subst (λ (t : List ℕ). IsRecovered files c.args.said.now.catalogue.now c.args.said.now.journal.now t)
    (sym c.as_slice.ensures.value) c.in-Ok.ensures.ok in
    broke files c.args.said.now.catalogue.now c.args.said.now.journal.now
    (g.K.Sink.told c.args.output.now) (g.K.Sink.told c.write_all.new.sink)
    c.as_slice.result.now recovered c.if-write_all.ensures.writes
