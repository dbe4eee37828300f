-- What is found of lines with a name, and where a head ends in its target.
use Rattle.std.proofs.Common.{◌≡◌, ℕ, ◌+◌, ◌-◌, ◌≤◌, Bool, true, false, cond, List, [], ◌∷◌, ◌++◌, length, map, take, drop, refl, sym, ◌∙◌, ap, subst, arith, append_assoc}
use Rattle.std.specs.Prelude.{filter, slice_range, if◌then◌else◌}
use Rattle.std.proofs.lemmas.List.{append-nil, length-append, length-take, take-take}
use Rattle.httparse.specs.declared.spans.Span.{Span}
use Rattle.httparse.specs.declared.spans.HeaderSpan.{HeaderSpan}
use Rattle.httparse.specs.Spans.{span_bytes, header_bytes}
use Rattle.http_wire.specs.declared.head.Named.{Named}
use Rattle.http_wire.specs.declared.head.Named.TheVariants.{None, First, Several}
use Rattle.http_wire.specs.Named.{with_value, IsNamed}
use Rattle.http_wire.specs.HeadLines.{same_name, values_named}

-- what is found, after these lines too
abbrev pub found_after : List ℕ → List ℕ → Named → List HeaderSpan → Named
found_after head name found [] = found
found_after head name found (line ∷ lines) =
    found_after head name (if same_name (span_bytes head line.name) name then with_value found line.value else found) lines

-- one value more
named_more : (head : List ℕ) (found : Named) (values : List (List ℕ)) (value : Span) → IsNamed head found values
    → IsNamed head (with_value found value) (values ++ span_bytes head value ∷ [])
named_more head None values value is = ap (λ (v : List (List ℕ)). v ++ span_bytes head value ∷ []) is
named_more head (First first) values value is =
    (span_bytes head value ∷ [], omega arith, ap (λ (v : List (List ℕ)). v ++ span_bytes head value ∷ []) is)
named_more head (Several first) values value is = (
  is.0 ++ span_bytes head value ∷ [],
  simp length-append (omega arith),
  ap (λ (v : List (List ℕ)). v ++ span_bytes head value ∷ []) is.2,
)

-- The lines that are still to come add their values.
pub found_values : (lines : List HeaderSpan) (head name : List ℕ) (found : Named) (values : List (List ℕ)) → IsNamed head found values
    → IsNamed head (found_after head name found lines) (values ++ values_named name (map (header_bytes head) lines))
found_values [] head name found values is = subst (IsNamed head found) (sym (append-nil values)) is
found_values (line ∷ lines) head name found values is =
    by_name (λ n v i. found_values lines head name n v i) (same_name (span_bytes head line.name) name) refl
  where
    by_name : ((n : Named) (v : List (List ℕ)) → IsNamed head n v
        → IsNamed head (found_after head name n lines) (v ++ values_named name (map (header_bytes head) lines)))
        → (t : Bool) → same_name (span_bytes head line.name) name ≡ t
        → IsNamed head (found_after head name (cond t (with_value found line.value) found) lines)
        (values ++ map (λ (l : List ℕ × List ℕ). l.1) (cond t (header_bytes head line ∷ filter (λ (l : List ℕ × List ℕ). same_name l.0 name) (map (header_bytes head) lines))
        (filter (λ (l : List ℕ × List ℕ). same_name l.0 name) (map (header_bytes head) lines))))
    by_name more true same =
        subst (IsNamed head (found_after head name (with_value found line.value) lines))
        (append_assoc values (span_bytes head line.value ∷ []) (values_named name (map (header_bytes head) lines)))
        (more (with_value found line.value) (values ++ span_bytes head line.value ∷ []) (named_more head found values line.value is))
    by_name more false same = more found values is

-- a part of a span's front
pub span_front : (head : List ℕ) (start end k : ℕ) → start ≤ end → end ≤ length head → k ≤ length (slice_range head start end)
    → slice_range head start (start + k) ≡ take k (slice_range head start end)
span_front head start end k ordered within fits =
    let few : k ≤ end - start = omega (arith, fits, length-take (end - start) (drop start head)) in
    ap (λ (n : ℕ). take n (drop start head)) (omega arith) ∙ sym (take-take k (end - start) (drop start head) few)

pub span_fits : (head : List ℕ) (start end k : ℕ) → start ≤ end → end ≤ length head → k ≤ length (slice_range head start end)
    → start + k ≤ end
span_fits head start end k ordered within fits =
    omega (arith, fits, length-take (end - start) (drop start head))
