use Rattle.std.proofs.Common.{subst}
use Rattle.host_catalogue.specs.Ends.{note_of}
use Rattle.host_catalogue.specs.Noted.{IsNoted}
use Rattle.host_catalogue.specs.declared.ending.CommandEnd.{CommandEnd}
use Rattle.host_serve.proofs.kept.end_unread.Goals as goal

pub returns-clause-noted : goal.returns-clause-noted
returns-clause-noted g c =
    subst (λ (e : CommandEnd). IsNoted (g.E.Sink.told c.args.notes.now) (g.E.Sink.told c.end_command.new.notes)
    (g.E.Sink.faults c.args.notes.now) (g.E.Sink.faults c.end_command.new.notes) (note_of e)) c.command_end.ensures c.end_command.ensures.noted
