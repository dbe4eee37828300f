use Rattle.std.proofs.Common.{◌≡◌}
use Rattle.session_loop.specs.declared.end.ConnEnd.TheVariants.{ReadFault, WriteFault}
use Rattle.host_replay.proofs.Finishing.{first_desk}
use Rattle.host_replay.proofs.command.replay.Goals as goal

pub returns-clause-ends : goal.returns-clause-ends
returns-clause-ends g c =
    let ok = c.in-Ok.ensures.ok in
    let served = c.serve.ensures.serves in
    record {
      cat = c.in-Ok.opened.0;
      kept = ok.0;
      books = ok.1;
      desk = c.in-Ok.opened.2;
      first = first_desk c.in-Ok.opened.0 ok.0 c.in-Ok.opened.1 c.in-Ok.opened.2 ok.2;
      taken = served.0;
      written = served.1;
      takes = served.2;
      writes = served.3;
      ends = served.4;
    }

pub returns-clause-read_cause : goal.returns-clause-read_cause
returns-clause-read_cause g c is =
    let failed : c.serve.result ≡ ReadFault = cc in
    c.serve.ensures.read_cause failed

pub returns-clause-write_cause : goal.returns-clause-write_cause
returns-clause-write_cause g c is =
    let failed : c.serve.result ≡ WriteFault = cc in
    c.serve.ensures.write_cause failed
