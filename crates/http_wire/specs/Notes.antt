-- What is noted of a head's lines, gone through once.
use Rattle.std.specs.Prelude.{◌≡◌, ℕ, ◌<◌, ◌↔◌, ◌||◌, List, length, if◌then◌else◌, IsTrue, codes}
use Rattle.httparse.specs.declared.spans.HeaderSpan.{HeaderSpan}
use Rattle.httparse.specs.Spans.{span_bytes}
use Rattle.http_wire.specs.declared.head.Named.{Named}
use Rattle.http_wire.specs.declared.served.Notes.{Notes}
use Rattle.http_wire.specs.Named.{with_value, IsNamed, IsNamedWithin}
use Rattle.http_wire.specs.HeadLines.{same_name, values_named, lengths_in, codings_in, closes_in}
use Rattle.http_wire.specs.ServedLines.{line_closes}

-- the values found, with that of this line where it has the name
abbrev pub found_with : List ℕ → List ℕ → Named → HeaderSpan → Named
found_with head name found line =
    if same_name (span_bytes head line.name) name then with_value found line.value else found

-- with what this line says
abbrev pub with_line : List ℕ → Notes → HeaderSpan → Notes
with_line head notes line = record {
  coded = notes.coded || same_name (span_bytes head line.name) (codes "transfer-encoding");
  lengths = found_with head (codes "content-length") notes.lengths line;
  keys = found_with head (codes "retailer-key") notes.keys line;
  closes = notes.closes || line_closes head line;
}

-- these are the notes of lines as pairs of name and value
pub record AreNotesOf (head : List ℕ) (lines : List (List ℕ × List ℕ)) (notes : Notes) : Type 0 where
  -- some line gives a coding
  pub coded : IsTrue notes.coded ↔ (0 < length (codings_in lines))
  pub lengths : IsNamed head notes.lengths (lengths_in lines)
  pub keys : IsNamed head notes.keys (values_named (codes "retailer-key") lines)
  pub closes : notes.closes ≡ closes_in lines

-- what was found lies in the first n bytes
pub record AreNotesWithin (n : ℕ) (notes : Notes) : Type 0 where
  pub lengths : IsNamedWithin n notes.lengths
  pub keys : IsNamedWithin n notes.keys
