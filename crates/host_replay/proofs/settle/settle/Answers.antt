use Rattle.std.proofs.Common.{List, ℕ, sym, subst}
use Rattle.host_replay.specs.Settle.{IsTableOf}
use Rattle.host_replay.proofs.Settling.{broke, wrote}
use Rattle.host_replay.proofs.settle.settle.Goals as goal

pub returns-then-write_all-clause-ends : goal.returns-then-write_all-clause-ends
returns-then-write_all-clause-ends g c =
    let ok = c.in-Ok.ensures.ok in
    let table = subst (λ (t : List ℕ). IsTableOf c.in-Ok.opened.1.layout t) (sym c.as_slice.ensures.value) c.in-Ok-table_of.ensures in
    wrote (g.F.Shelf.told c.args.shelf.now) c.args.said.now.catalogue.now c.args.said.now.export.now
    (g.K.Sink.told c.args.output.now) (g.K.Sink.told c.write_all.new.sink)
    c.in-Ok.opened.0 ok.0 c.in-Ok.opened.1 c.in-Ok.opened.2 ok.1 ok.2 c.as_slice.result.now table c.if-write_all.ensures.writes

pub returns-clause-ends : goal.returns-clause-ends
returns-clause-ends g c =
    let ok = c.in-Ok.ensures.ok in
    let table = subst (λ (t : List ℕ). IsTableOf c.in-Ok.opened.1.layout t) (sym c.as_slice.ensures.value) c.in-Ok-table_of.ensures in
    broke (g.F.Shelf.told c.args.shelf.now) c.args.said.now.catalogue.now c.args.said.now.export.now
    (g.K.Sink.told c.args.output.now) (g.K.Sink.told c.write_all.new.sink)
    c.in-Ok.opened.0 ok.0 c.in-Ok.opened.1 c.in-Ok.opened.2 ok.1 ok.2 c.as_slice.result.now table c.if-write_all.ensures.writes
