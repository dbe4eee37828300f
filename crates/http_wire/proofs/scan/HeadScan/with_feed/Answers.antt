use Rattle.std.proofs.Common.{◌+◌, [], ◌∷◌, ◌++◌, Some, true, false, refl}
use Rattle.http_wire.specs.declared.scan.HeadScan.{HeadScan}
use Rattle.http_wire.proofs.ScanLemmas.{of_not, open_of, stands_open, open_line, open_blank, head_ends}
use Rattle.http_wire.proofs.scan.HeadScan.with_feed.Goals as goal

pub returns-then-not-self-clause-stands : goal.returns-then-not-self-clause-stands
returns-then-not-self-clause-stands c bytes s =
    let scan = c.args.self in
    let next : HeadScan = record {
      ended = scan.ended;
      lines = c.count_line.result;
      at = scan.at + 1;
      line_empty = true;
      carriage = false;
      begun = true;
    } in
    stands_open next (bytes ++ 10 ∷ []) c.requires.open
    (open_line scan next bytes (of_not scan.line_empty true c.if-not-self.true) c.requires.small c.count_line.ensures refl refl refl refl (open_of scan bytes c.requires.open s))

pub returns-then-not-self-2-clause-stands : goal.returns-then-not-self-2-clause-stands
returns-then-not-self-2-clause-stands c bytes s =
    let scan = c.args.self in
    let next : HeadScan = record {
      ended = scan.ended;
      lines = scan.lines;
      at = scan.at + 1;
      line_empty = scan.line_empty;
      carriage = false;
      begun = scan.begun;
    } in
    stands_open next (bytes ++ 10 ∷ []) c.requires.open
    (open_blank scan next bytes (of_not scan.line_empty false c.if-not-self.false) (of_not scan.begun true c.if-not-self-2.true) refl refl refl refl refl (open_of scan bytes c.requires.open s))

pub returns-clause-stands : goal.returns-clause-stands
returns-clause-stands c bytes s =
    let scan = c.args.self in
    let next : HeadScan = record {
      ended = Some (scan.at + 1);
      lines = scan.lines;
      at = scan.at + 1;
      line_empty = scan.line_empty;
      carriage = false;
      begun = scan.begun;
    } in
    head_ends scan next bytes (of_not scan.line_empty false c.if-not-self.false) (of_not scan.begun false c.if-not-self-2.false) refl refl refl refl refl refl (open_of scan bytes c.requires.open s)
