-- Names that are the same without regard to case.
use Rattle.std.proofs.Common.{◌≡◌, ℕ, Bool, true, false, ◌&&◌, ◌||◌, List, length, map, refl, sym, ◌∙◌, ap, arith}
use Rattle.std.specs.Prelude.{if◌then◌else◌, codes}
use Rattle.std.specs.Str.{bytes_eq}
use Rattle.std.specs.Char.{to_ascii_lowercase}
use Rattle.std.proofs.lemmas.Bool.{false_from_ne_true}
use Rattle.std.proofs.lemmas.List.{length-map}
use Rattle.std.proofs.lemmas.Slice.Eq.{bytes_eq-Decides}
use Rattle.httparse.specs.declared.spans.Span.{Span}
use Rattle.httparse.specs.declared.spans.HeaderSpan.{HeaderSpan}
use Rattle.httparse.specs.Spans.{span_bytes}
use Rattle.http_wire.specs.declared.head.Named.{Named}
use Rattle.http_wire.specs.declared.served.Notes.{Notes}
use Rattle.http_wire.specs.HeadLines.{same_name, says_close}
use Rattle.http_wire.specs.Named.{with_value}
use Rattle.http_wire.specs.Notes.{found_with, with_line}
use Rattle.http_wire.specs.ServedLines.{line_closes}

-- names of two lengths
pub other_length : (a b : List ℕ) → (length a ≡ length b → ⊥) → same_name a b ≡ false
other_length a b other =
    let x = map to_ascii_lowercase a in
    let y = map to_ascii_lowercase b in
    false_from_ne_true (bytes_eq x y)
    (λ yes. other (sym (length-map a to_ascii_lowercase) ∙ ap length ((bytes_eq-Decides x y).0 yes) ∙ length-map b to_ascii_lowercase))

-- ---- what a line says, by the length of its name

no_coding : (name : List ℕ) → (length name ≡ 17 → ⊥) → same_name name (codes "transfer-encoding") ≡ false
no_coding name other = other_length name (codes "transfer-encoding") other

no_length : (name : List ℕ) → (length name ≡ 14 → ⊥) → same_name name (codes "content-length") ≡ false
no_length name other = other_length name (codes "content-length") other

no_key : (name : List ℕ) → (length name ≡ 12 → ⊥) → same_name name (codes "retailer-key") ≡ false
no_key name other = other_length name (codes "retailer-key") other

no_connection : (name : List ℕ) → (length name ≡ 10 → ⊥) → same_name name (codes "connection") ≡ false
no_connection name other = other_length name (codes "connection") other

pub no_more : (b t : Bool) → t ≡ false → b ≡ (b || t)
no_more true t e = refl
no_more false t e = sym e

pub no_value : (found : Named) (value : Span) (t : Bool) → t ≡ false → found ≡ (if t then with_value found value else found)
no_value found value true e = absurd cc
no_value found value false e = refl

same_notes : (m n : Notes) → m.coded ≡ n.coded → m.lengths ≡ n.lengths → m.keys ≡ n.keys → m.closes ≡ n.closes → m ≡ n
same_notes m n a b c d =
    ap (λ (t : Bool). record { coded = t; lengths = m.lengths; keys = m.keys; closes = m.closes }) a
    ∙ ap (λ (t : Named). record { coded = n.coded; lengths = t; keys = m.keys; closes = m.closes }) b
    ∙ ap (λ (t : Named). record { coded = n.coded; lengths = n.lengths; keys = t; closes = m.closes }) c
    ∙ ap (λ (t : Bool). record { coded = n.coded; lengths = n.lengths; keys = n.keys; closes = t }) d

-- a line that may give a length
pub length_line : (head : List ℕ) (notes : Notes) (line : HeaderSpan) (lengths : Named) → length (span_bytes head line.name) ≡ 14
    → lengths ≡ found_with head (codes "content-length") notes.lengths line
    → record { coded = notes.coded; lengths = lengths; keys = notes.keys; closes = notes.closes } ≡ with_line head notes line
length_line head notes line lengths long is =
    let name = span_bytes head line.name in
    same_notes (record { coded = notes.coded; lengths = lengths; keys = notes.keys; closes = notes.closes }) (with_line head notes line)
    (no_more notes.coded (same_name name (codes "transfer-encoding")) (no_coding name (λ e. omega (arith, long, e)))) is
    (no_value notes.keys line.value (same_name name (codes "retailer-key")) (no_key name (λ e. omega (arith, long, e))))
    (no_more notes.closes (line_closes head line)
    (ap (λ (t : Bool). t && says_close (span_bytes head line.value)) (no_connection name (λ e. omega (arith, long, e)))))

-- one that may give a key
pub key_line : (head : List ℕ) (notes : Notes) (line : HeaderSpan) (keys : Named) → length (span_bytes head line.name) ≡ 12
    → keys ≡ found_with head (codes "retailer-key") notes.keys line
    → record { coded = notes.coded; lengths = notes.lengths; keys = keys; closes = notes.closes } ≡ with_line head notes line
key_line head notes line keys long is =
    let name = span_bytes head line.name in
    same_notes (record { coded = notes.coded; lengths = notes.lengths; keys = keys; closes = notes.closes }) (with_line head notes line)
    (no_more notes.coded (same_name name (codes "transfer-encoding")) (no_coding name (λ e. omega (arith, long, e))))
    (no_value notes.lengths line.value (same_name name (codes "content-length")) (no_length name (λ e. omega (arith, long, e)))) is
    (no_more notes.closes (line_closes head line)
    (ap (λ (t : Bool). t && says_close (span_bytes head line.value)) (no_connection name (λ e. omega (arith, long, e)))))

-- one that may say close
pub close_line : (head : List ℕ) (notes : Notes) (line : HeaderSpan) (closes : Bool) → length (span_bytes head line.name) ≡ 10
    → closes ≡ (notes.closes || line_closes head line)
    → record { coded = notes.coded; lengths = notes.lengths; keys = notes.keys; closes = closes } ≡ with_line head notes line
close_line head notes line closes long is =
    let name = span_bytes head line.name in
    same_notes (record { coded = notes.coded; lengths = notes.lengths; keys = notes.keys; closes = closes }) (with_line head notes line)
    (no_more notes.coded (same_name name (codes "transfer-encoding")) (no_coding name (λ e. omega (arith, long, e))))
    (no_value notes.lengths line.value (same_name name (codes "content-length")) (no_length name (λ e. omega (arith, long, e))))
    (no_value notes.keys line.value (same_name name (codes "retailer-key")) (no_key name (λ e. omega (arith, long, e)))) is
