use Rattle.std.proofs.Common.{◌∙◌, ap, subst}
use Rattle.host_catalogue.specs.Ends.{note_of, status_of}
use Rattle.host_catalogue.specs.Noted.{IsNoted}
use Rattle.host_catalogue.specs.declared.ending.CommandEnd.{CommandEnd}
use Rattle.host_serve.proofs.kept.end_run.Goals as goal

pub returns : goal.returns
returns g c =
    let did = c.export_kept-ended in (
      did.result,
      g.E.Sink.told did.new.notes,
      g.E.Sink.faults did.new.notes,
      did.ensures,
      subst (λ (e : CommandEnd). IsNoted (g.E.Sink.told did.new.notes) (g.E.Sink.told c.end_command.new.notes)
          (g.E.Sink.faults did.new.notes) (g.E.Sink.faults c.end_command.new.notes) (note_of e)) c.kept_end.ensures c.end_command.ensures.noted,
      c.end_command.ensures.status ∙ ap status_of c.kept_end.ensures,
      c.end_command.ensures.never_falls,
    )
