-- What is found of the lines with a name.
use Rattle.std.specs.Prelude.{◌≡◌, ℕ, ◌<◌, List, [], ◌∷◌, length, ⊤}
use Rattle.httparse.specs.declared.spans.Span.{Span}
use Rattle.httparse.specs.Spans.{span_bytes, IsWithin}
use Rattle.http_wire.specs.declared.head.Named.{Named}
use Rattle.http_wire.specs.declared.head.Named.TheVariants.{None, First, Several}

abbrev pub with_value : Named → Span → Named
with_value None value = First value
with_value (First first) value = Several first
with_value (Several first) value = Several first

-- none, one or several of these values
abbrev pub IsNamed : List ℕ → Named → List (List ℕ) → Type 0
IsNamed head None values = values ≡ []
IsNamed head (First first) values = values ≡ span_bytes head first ∷ []
IsNamed head (Several first) values =
    (more : List (List ℕ)) × (0 < length more) × (values ≡ span_bytes head first ∷ more)

-- the first lies in the first n bytes
abbrev pub IsNamedWithin : ℕ → Named → Type 0
IsNamedWithin n None = ⊤
IsNamedWithin n (First first) = IsWithin n first
IsNamedWithin n (Several first) = IsWithin n first
