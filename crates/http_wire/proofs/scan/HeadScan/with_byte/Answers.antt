use Rattle.std.proofs.Common.{ℕ, ◌+◌, [], ◌∷◌, ◌++◌, refl, sym, subst}
use Rattle.std.specs.Prelude.{◌==◌}
use Rattle.http_wire.specs.declared.scan.HeadScan.{HeadScan}
use Rattle.http_wire.specs.Scan.{StandsFor}
use Rattle.http_wire.proofs.ScanLemmas.{not_feed, open_of, stands_open, open_byte}
use Rattle.http_wire.proofs.scan.HeadScan.with_byte.Goals as goal

pub returns-then-byte-eq10-clause-stands : goal.returns-then-byte-eq10-clause-stands
returns-then-byte-eq10-clause-stands c bytes s =
    subst (λ (b : ℕ). StandsFor c.with_feed.result (bytes ++ b ∷ [])) (sym c.if-byte-eq10.true)
    (c.with_feed.ensures.stands bytes s)

pub returns-clause-stands : goal.returns-clause-stands
returns-clause-stands c bytes s =
    let scan = c.args.self in
    let next : HeadScan = record {
      ended = scan.ended;
      lines = scan.lines;
      at = scan.at + 1;
      line_empty = c.still_empty.result;
      carriage = c.args.byte == 13;
      begun = scan.begun;
    } in
    stands_open next (bytes ++ c.args.byte ∷ []) c.requires.open
    (open_byte scan next bytes c.args.byte (not_feed c.args.byte c.if-byte-eq10.false) refl refl refl c.still_empty.ensures refl (open_of scan bytes c.requires.open s))
