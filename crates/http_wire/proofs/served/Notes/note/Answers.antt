use Rattle.std.proofs.Common.{◌≡◌, false, List, ℕ, length, sym, ◌∙◌, ap}
use Rattle.std.specs.Prelude.{codes}
use Rattle.httparse.specs.Spans.{span_bytes}
use Rattle.http_wire.specs.HeadLines.{same_name}
use Rattle.http_wire.specs.ServedLines.{line_closes}
use Rattle.http_wire.proofs.NameLemmas.{no_more, no_value, length_line, key_line, close_line}
use Rattle.http_wire.proofs.served.Notes.note.Goals as goal

pub returns-else-is_named-clause-notes : goal.returns-else-is_named-clause-notes
returns-else-is_named-clause-notes c =
    let notes = c.args.self.now in
    let line = c.args.line in
    let name = span_bytes c.args.head.now line.name in
    let other : same_name name (codes "content-length") ≡ false =
    ap (λ (l : List ℕ). same_name l (codes "content-length")) (sym c.of-name.ensures) ∙ sym c.is_named.ensures ∙ c.if-is_named.false in
    length_line c.args.head.now notes line notes.lengths (sym (ap length c.of-name.ensures) ∙ c.in-14.is)
    (no_value notes.lengths line.value (same_name name (codes "content-length")) other)

pub returns-else-is_named-2-clause-notes : goal.returns-else-is_named-2-clause-notes
returns-else-is_named-2-clause-notes c =
    let notes = c.args.self.now in
    let line = c.args.line in
    let name = span_bytes c.args.head.now line.name in
    let other : same_name name (codes "retailer-key") ≡ false =
    ap (λ (l : List ℕ). same_name l (codes "retailer-key")) (sym c.of-name.ensures) ∙ sym c.is_named-in-12.ensures ∙ c.if-is_named-2.false in
    key_line c.args.head.now notes line notes.keys (sym (ap length c.of-name.ensures) ∙ c.in-12.is)
    (no_value notes.keys line.value (same_name name (codes "retailer-key")) other)

pub returns-else-line_closes-clause-notes : goal.returns-else-line_closes-clause-notes
returns-else-line_closes-clause-notes c =
    let notes = c.args.self.now in
    let line = c.args.line in
    close_line c.args.head.now notes line notes.closes (sym (ap length c.of-name.ensures) ∙ c.in-10.is)
    (no_more notes.closes (line_closes c.args.head.now line) (sym c.line_closes.ensures ∙ c.if-line_closes.false))
