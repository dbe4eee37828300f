use Rattle.std.proofs.Common.{map}
use Rattle.std.specs.Prelude.{codes}
use Rattle.httparse.specs.Spans.{header_bytes}
use Rattle.http_wire.specs.HeadLines.{values_named}
use Rattle.http_wire.proofs.NoteLemmas.{uncoded, fault_of}
use Rattle.http_wire.proofs.served.read_lines.Goals as goal

pub returns-then-notes-clause-err : goal.returns-then-notes-clause-err
returns-then-notes-clause-err c = c.notes_of-notes.ensures.notes.coded.0 c.if-notes.true

pub body_length-requires-clause-named : goal.body_length-requires-clause-named
body_length-requires-clause-named c = c.notes_of-notes.ensures.notes.lengths

pub returns-in-Ok-clause-ok : goal.returns-in-Ok-clause-ok
returns-in-Ok-clause-ok c =
    let head = c.args.head.now in
    let lines = map (header_bytes head) c.args.lines.now in
    let are = c.notes_of-notes.ensures.notes in
    record {
      uncoded = uncoded head lines c.notes_of-notes.result are c.if-notes.false;
      size = c.in-Ok.ensures.ok;
      fits = c.in-Ok.ensures.fits;
      key = c.first_of.ensures.value head (values_named (codes "retailer-key") lines) are.keys;
      key_within = c.first_of.ensures.within _ c.notes_of-notes.ensures.within.keys;
      close = are.closes;
    }

pub returns-in-Err-clause-err : goal.returns-in-Err-clause-err
returns-in-Err-clause-err c =
    let head = c.args.head.now in
    let lines = map (header_bytes head) c.args.lines.now in
    fault_of lines c.in-Err.fault (uncoded head lines c.notes_of-notes.result c.notes_of-notes.ensures.notes c.if-notes.false) c.in-Err.ensures.err
