use Rattle.std.proofs.Common.{Bool, refl, subst, sym}
use Rattle.host_serve.specs.Kept.{WritesKept}
use Rattle.host_serve.specs.Telling.{Noting}
use Rattle.host_serve.proofs.kept.export_kept.Goals as goal

pub returns-then-exports : goal.returns-then-exports
returns-then-exports g c =
    let n : Noting = record {
      before = g.E.Sink.told c.args.notes.now;
      failed = g.E.Sink.faults c.args.notes.now;
      after = g.E.Sink.told c.write_kept.new.export;
      fails = g.E.Sink.faults c.write_kept.new.export;
    } in
    subst (λ (b : Bool). WritesKept b c.args.wall.now n c.args.outcome c.write_kept.result) (sym c.if-exports.true) c.write_kept.ensures

pub returns-else-exports : goal.returns-else-exports
returns-else-exports g c =
    let n : Noting = record {
      before = g.E.Sink.told c.args.notes.now;
      failed = g.E.Sink.faults c.args.notes.now;
      after = g.E.Sink.told c.args.notes.now;
      fails = g.E.Sink.faults c.args.notes.now;
    } in
    subst (λ (b : Bool). WritesKept b c.args.wall.now n c.args.outcome c.args.outcome) (sym c.if-exports.false) (record { same = refl; steady = refl }, refl)
