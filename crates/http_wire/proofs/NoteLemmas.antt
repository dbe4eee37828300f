-- What all the lines of a head note.
use Rattle.std.proofs.Common.{◌≡◌, ℕ, ◌<◌, Bool, true, false, ◌||◌, cond, List, [], ◌∷◌, length, map, refl, sym, ◌∙◌, ap, subst, arith}
use Rattle.std.specs.Prelude.{filter, codes}
use Rattle.httparse.specs.declared.spans.HeaderSpan.{HeaderSpan}
use Rattle.httparse.specs.Spans.{span_bytes, header_bytes}
use Rattle.http_wire.specs.declared.head.Named.{Named}
use Rattle.http_wire.specs.declared.head.Named.TheVariants.{None}
use Rattle.http_wire.specs.declared.request.WireFault.{WireFault}
use Rattle.http_wire.specs.declared.request.WireFault.TheVariants.{BadHead, HeadTooLarge, BodyTooLarge, Coding, BadLength}
use Rattle.http_wire.specs.declared.served.Notes.{Notes}
use Rattle.http_wire.specs.HeadLines.{same_name, values_named, lengths_in, codings_in, closes_in}
use Rattle.http_wire.specs.Named.{IsNamed}
use Rattle.http_wire.specs.Notes.{with_line, AreNotesOf}
use Rattle.http_wire.specs.ServedLines.{line_closes, IsLengthFault, IsLinesFault}
use Rattle.http_wire.proofs.NamedLemmas.{found_after, found_values}
use Rattle.http_wire.proofs.ServedLemmas.{closes_after, closes_is}

-- ---- the notes, line by line

abbrev pub no_notes : Notes
no_notes = record { coded = false; lengths = None; keys = None; closes = false }

-- what is noted after these lines too
abbrev pub notes_after : List ℕ → Notes → List HeaderSpan → Notes
notes_after head notes [] = notes
notes_after head notes (line ∷ lines) = notes_after head (with_line head notes line) lines

or_false : (b : Bool) → (b || false) ≡ b
or_false true = refl
or_false false = refl

or_more : (a b c : Bool) → ((a || b) || c) ≡ (a || (b || c))
or_more true b c = refl
or_more false b c = refl

-- ---- values

lengths_after : (head : List ℕ) (notes : Notes) (lines : List HeaderSpan)
    → (notes_after head notes lines).lengths ≡ found_after head (codes "content-length") notes.lengths lines
lengths_after head notes [] = refl
lengths_after head notes (line ∷ lines) = lengths_after head (with_line head notes line) lines

keys_after : (head : List ℕ) (notes : Notes) (lines : List HeaderSpan)
    → (notes_after head notes lines).keys ≡ found_after head (codes "retailer-key") notes.keys lines
keys_after head notes [] = refl
keys_after head notes (line ∷ lines) = keys_after head (with_line head notes line) lines

lengths_noted : (head : List ℕ) (notes : Notes) (lines : List HeaderSpan) → notes ≡ notes_after head no_notes lines
    → IsNamed head notes.lengths (lengths_in (map (header_bytes head) lines))
lengths_noted head notes lines is =
    subst (λ (n : Named). IsNamed head n (lengths_in (map (header_bytes head) lines)))
    (sym (ap (λ (t : Notes). t.lengths) is ∙ lengths_after head no_notes lines))
    (found_values lines head (codes "content-length") None [] refl)

keys_noted : (head : List ℕ) (notes : Notes) (lines : List HeaderSpan) → notes ≡ notes_after head no_notes lines
    → IsNamed head notes.keys (values_named (codes "retailer-key") (map (header_bytes head) lines))
keys_noted head notes lines is =
    subst (λ (n : Named). IsNamed head n (values_named (codes "retailer-key") (map (header_bytes head) lines)))
    (sym (ap (λ (t : Notes). t.keys) is ∙ keys_after head no_notes lines))
    (found_values lines head (codes "retailer-key") None [] refl)

-- ---- close

closes_from : (head : List ℕ) (notes : Notes) (lines : List HeaderSpan)
    → (notes_after head notes lines).closes ≡ (notes.closes || closes_after head lines)
closes_from head notes [] = sym (or_false notes.closes)
closes_from head notes (line ∷ lines) =
    closes_from head (with_line head notes line) lines
    ∙ or_more notes.closes (line_closes head line) (closes_after head lines)

closes_noted : (head : List ℕ) (notes : Notes) (lines : List HeaderSpan) → notes ≡ notes_after head no_notes lines
    → notes.closes ≡ closes_in (map (header_bytes head) lines)
closes_noted head notes lines is =
    ap (λ (t : Notes). t.closes) is ∙ closes_from head no_notes lines ∙ closes_is head lines

-- ---- codings

abbrev has_any : List (List ℕ) → Bool
has_any [] = false
has_any (value ∷ values) = true

some_line : (t : Bool) (v : List ℕ × List ℕ) (rest : List (List ℕ × List ℕ))
    → (t || has_any (map (λ (l : List ℕ × List ℕ). l.1) rest)) ≡ has_any (map (λ (l : List ℕ × List ℕ). l.1) (cond t (v ∷ rest) rest))
some_line true v rest = refl
some_line false v rest = refl

coded_from : (head : List ℕ) (notes : Notes) (lines : List HeaderSpan)
    → (notes_after head notes lines).coded ≡ (notes.coded || has_any (codings_in (map (header_bytes head) lines)))
coded_from head notes [] = sym (or_false notes.coded)
coded_from head notes (line ∷ lines) =
    let t = same_name (span_bytes head line.name) (codes "transfer-encoding") in
    let rest = filter (λ (l : List ℕ × List ℕ). same_name l.0 (codes "transfer-encoding")) (map (header_bytes head) lines) in
    coded_from head (with_line head notes line) lines
    ∙ or_more notes.coded t (has_any (codings_in (map (header_bytes head) lines)))
    ∙ ap (λ (b : Bool). notes.coded || b) (some_line t (header_bytes head line) rest)

none_of : (values : List (List ℕ)) → has_any values ≡ false → values ≡ []
none_of [] e = refl
none_of (value ∷ values) e = absurd cc

one_of : (values : List (List ℕ)) → has_any values ≡ true → 0 < length values
one_of [] e = absurd cc
one_of (value ∷ values) e = omega arith

uncoded_noted : (head : List ℕ) (notes : Notes) (lines : List HeaderSpan) → notes ≡ notes_after head no_notes lines → notes.coded ≡ false
    → codings_in (map (header_bytes head) lines) ≡ []
uncoded_noted head notes lines is un =
    none_of (codings_in (map (header_bytes head) lines)) (sym (ap (λ (t : Notes). t.coded) is ∙ coded_from head no_notes lines) ∙ un)

coded_noted : (head : List ℕ) (notes : Notes) (lines : List HeaderSpan) → notes ≡ notes_after head no_notes lines → notes.coded ≡ true
    → 0 < length (codings_in (map (header_bytes head) lines))
coded_noted head notes lines is coded =
    one_of (codings_in (map (header_bytes head) lines)) (sym (ap (λ (t : Notes). t.coded) is ∙ coded_from head no_notes lines) ∙ coded)

some_true : (b : Bool) → (b ≡ false → ⊥) → b ≡ true
some_true true other = refl
some_true false other = absurd (other refl)

-- what was noted line by line is what the lines say
pub are_notes : (head : List ℕ) (notes : Notes) (lines : List HeaderSpan) → notes ≡ notes_after head no_notes lines
    → AreNotesOf head (map (header_bytes head) lines) notes
are_notes head notes lines is = record {
  coded = (
    coded_noted head notes lines is,
    λ some. some_true notes.coded (λ un. omega (arith, some, ap length (uncoded_noted head notes lines is un))),
  );
  lengths = lengths_noted head notes lines is;
  keys = keys_noted head notes lines is;
  closes = closes_noted head notes lines is;
}

no_value_of : (values : List (List ℕ)) → (0 < length values → ⊥) → values ≡ []
no_value_of [] none = refl
no_value_of (value ∷ values) none = absurd (none (omega arith))

-- where no coding is noted, no line gives one
pub uncoded : (head : List ℕ) (lines : List (List ℕ × List ℕ)) (notes : Notes) → AreNotesOf head lines notes → notes.coded ≡ false
    → codings_in lines ≡ []
uncoded head lines notes are un = no_value_of (codings_in lines) (λ some. let coded = are.coded.1 some in cc)

-- ---- faults

pub fault_of : (lines : List (List ℕ × List ℕ)) (w : WireFault) → codings_in lines ≡ [] → IsLengthFault lines w → IsLinesFault lines w
fault_of lines BadHead none f = f
fault_of lines HeadTooLarge none f = f
fault_of lines Coding none f = absurd f
fault_of lines BadLength none f = (none, f)
fault_of lines BodyTooLarge none f = (none, f)
