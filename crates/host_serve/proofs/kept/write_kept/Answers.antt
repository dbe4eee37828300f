use Rattle.std.proofs.Common.{true, refl, subst, sym}
use Rattle.host_serve.specs.Kept.{WritesKept}
use Rattle.host_journal.specs.declared.end.KeptOutcome.{KeptOutcome}
use Rattle.host_journal.specs.declared.end.KeptOutcome.TheVariants.{Plain}
use Rattle.host_serve.specs.Telling.{Noting}
use Rattle.host_serve.proofs.Alone.{stays_so}
use Rattle.host_serve.proofs.kept.write_kept.Goals as goal

pub returns-in-Plain : goal.returns-in-Plain
returns-in-Plain g c =
    let n : Noting = record {
      before = g.E.Sink.told c.args.export.now;
      failed = g.E.Sink.faults c.args.export.now;
      after = g.E.Sink.told c.write_export.new.export;
      fails = g.E.Sink.faults c.write_export.new.export;
    } in
    subst (λ (o : KeptOutcome). WritesKept true c.args.wall.now n o (Plain c.write_export.result)) (sym c.in-Plain.is)
    (c.write_export.result, c.write_export.ensures, refl)

pub returns-in_default : goal.returns-in_default
returns-in_default g c =
    let n : Noting = record {
      before = g.E.Sink.told c.args.export.now;
      failed = g.E.Sink.faults c.args.export.now;
      after = g.E.Sink.told c.write_export-same.new.export;
      fails = g.E.Sink.faults c.write_export-same.new.export;
    } in
    stays_so c.args.wall.now n c.args.outcome c.in_default.not-Plain c.write_export-same.result c.write_export-same.ensures
