-- A request's head of the grammar is a head by its lines.
use Rattle.std.proofs.Common.{◌≡◌, ◌≢◌, ℕ, ◌+◌, ◌≤◌, Bool, true, false, List, [], ◌∷◌, ◌++◌, length, map, refl, sym, ◌∙◌, ap, subst, arith, append_assoc}
use Rattle.std.specs.Prelude.{IsTrue}
use Rattle.std.specs.List.{flat_map, AllByRecursion}
use Rattle.std.proofs.lemmas.List.{append-nil, length-append, length-map}
use Rattle.std.proofs.lemmas.List.Elements.{All-head, All-tail}
use Rattle.std.specs.Prelude.{All}
use Rattle.httparse.specs.Grammar.{is_token_byte, is_uri_byte, is_value_byte, AllPass, LineEnd, crlf, lf, print_end, print_blank, print_version, Field, IsField, print_field, print_section, RequestHead, IsRequestHead, print_request, ReadsRequest}
use Rattle.httparse.proofs.PieceLemmas.{token_is_no_newline}
use Rattle.httparse.specs.Pieces.{is_newline}
use Rattle.httparse.proofs.GrammarLemmas.{cons-append, print_request-append}
use Rattle.http_wire.specs.Heads.{HasNoFeed, IsLine, print_line, print_lines, IsHead, HasLines}
use Rattle.http_wire.proofs.Scanning.{head_once, lines_front, front_is}

-- ---- bytes without a line feed

clean_append : (a b : List ℕ) → HasNoFeed a → HasNoFeed b → HasNoFeed (a ++ b)
clean_append [] b p q = q
clean_append (x ∷ a) b p q = (p.0, clean_append a b p.1 q)

clean_of : (test : ℕ → Bool) → ((b : ℕ) → test b ≡ true → b ≢ 10) → (bytes : List ℕ) → AllPass test bytes → HasNoFeed bytes
clean_of test none [] all = tt
clean_of test none (b ∷ bytes) all = (
  none b (All-head (λ x. IsTrue (test x)) b bytes all),
  clean_of test none bytes (All-tail (λ x. IsTrue (test x)) b bytes all),
)

token_clean : (b : ℕ) → is_token_byte b ≡ true → b ≢ 10
token_clean b t e = let f = subst (λ (x : ℕ). is_newline x ≡ false) e (token_is_no_newline b t) in absurd cc

uri_clean : (b : ℕ) → is_uri_byte b ≡ true → b ≢ 10
uri_clean b t e = let f = subst (λ (x : ℕ). is_uri_byte x ≡ true) e t in absurd cc

value_clean : (b : ℕ) → is_value_byte b ≡ true → b ≢ 10
value_clean b t e = let f = subst (λ (x : ℕ). is_value_byte x ≡ true) e t in absurd cc

version_clean : (minor : ℕ) → minor ≤ 1 → HasNoFeed (print_version minor)
version_clean minor small =
    let differ : (b : ℕ) → 11 ≤ b → b ≢ 10 = λ b high e. absurd (omega (arith, high, e)) in (
      differ 72 (omega arith),
      (
        differ 84 (omega arith),
        (
          differ 84 (omega arith),
          (
            differ 80 (omega arith),
            (differ 47 (omega arith), (differ 49 (omega arith), (differ 46 (omega arith), (differ (48 + minor) (omega arith), tt)))),
          ),
        ),
      ),
    )

-- a line of two bytes or more isn't empty
line_of : (line : List ℕ) → HasNoFeed line → 2 ≤ length line → IsLine line
line_of line clean long = record {
  one = clean;
  some = λ e. absurd (omega (arith, long, ap length e));
  more = λ e. absurd (omega (arith, long, ap length e));
}

-- the bytes of a line's end before the line feed
abbrev before_feed : LineEnd → List ℕ
before_feed crlf = 13 ∷ []
before_feed lf = []

end_is : (e : LineEnd) → print_end e ≡ before_feed e ++ 10 ∷ []
end_is crlf = refl
end_is lf = refl

end_clean : (e : LineEnd) → HasNoFeed (before_feed e)
end_clean crlf = (λ e. absurd (omega (arith, e)), tt)
end_clean lf = tt

-- ---- the lines of a head

abbrev field_line : Field → List ℕ
field_line f = f.name ++ 58 ∷ (f.raw ++ before_feed f.end)

abbrev first_line : RequestHead → List ℕ
first_line h = h.method ++ 32 ∷ (h.target ++ 32 ∷ (print_version h.minor ++ before_feed h.line_end))

regroup_field : (n r b : List ℕ) → (n ++ 58 ∷ r) ++ (b ++ 10 ∷ []) ≡ (n ++ 58 ∷ (r ++ b)) ++ 10 ∷ []
regroup_field n r b = simp (append_assoc, cons-append)

field_is : (f : Field) → print_field f ≡ print_line (field_line f)
field_is f =
    ap (λ (e : List ℕ). f.name ++ 58 ∷ f.raw ++ e) (end_is f.end) ∙ regroup_field f.name f.raw (before_feed f.end)

fields_are : (fields : List Field) → flat_map print_field fields ≡ flat_map print_line (map field_line fields)
fields_are [] = refl
fields_are (f ∷ fields) = ap (λ (l : List ℕ). l ++ flat_map print_field fields) (field_is f) ∙ ap (λ (l : List ℕ). print_line (field_line f) ++ l) (fields_are fields)

field_clean : (f : Field) → IsField f → IsLine (field_line f)
field_clean f is = line_of (field_line f)
    (clean_append f.name (58 ∷ (f.raw ++ before_feed f.end)) (clean_of is_token_byte token_clean f.name is.name.1)
    (λ e. absurd (omega (arith, e)), clean_append f.raw (before_feed f.end) (clean_of is_value_byte value_clean f.raw is.raw) (end_clean f.end)))
    (simp length-append (omega (arith, is.name.0)))

fields_clean : (fields : List Field) → All IsField fields → AllByRecursion IsLine (map field_line fields)
fields_clean [] each = tt
fields_clean (f ∷ fields) each =
    (field_clean f (All-head IsField f fields each), fields_clean fields (All-tail IsField f fields each))

first_clean : (h : RequestHead) → IsRequestHead h → IsLine (first_line h)
first_clean h is = line_of (first_line h)
    (clean_append h.method (32 ∷ (h.target ++ 32 ∷ (print_version h.minor ++ before_feed h.line_end)))
    (clean_of is_token_byte token_clean h.method is.method.1) (
      λ e. absurd (omega (arith, e)),
      clean_append h.target (32 ∷ (print_version h.minor ++ before_feed h.line_end))
          (clean_of is_uri_byte uri_clean h.target is.target.1) (
            λ e. absurd (omega (arith, e)),
            clean_append (print_version h.minor) (before_feed h.line_end)
                (version_clean h.minor is.minor) (end_clean h.line_end),
          ),
    ))
    (simp length-append (omega (arith, is.method.0)))

regroup_head : (B m t v b F L : List ℕ)
    → B ++ (m ++ 32 ∷ (t ++ 32 ∷ (v ++ ((b ++ 10 ∷ []) ++ ((F ++ L) ++ [])))))
    ≡ (B ++ (((m ++ 32 ∷ (t ++ 32 ∷ (v ++ b))) ++ 10 ∷ []) ++ F)) ++ L
regroup_head B m t v b F L = simp (append_assoc, cons-append, append-nil)

pub request_is_head : (h : RequestHead) → IsRequestHead h → IsHead (print_request h)
request_is_head h is = (
  h.blank,
  first_line h ∷ map field_line h.fields,
  h.last,
  omega arith,
  (first_clean h is, fields_clean h.fields is.fields),
  sym (append-nil (print_request h)) ∙ print_request-append h []
      ∙ ap (λ (e : List ℕ). print_blank h.blank ++ (h.method ++ 32 ∷ (h.target ++ 32 ∷ (print_version h.minor
      ++ (e ++ (print_section h.fields h.last ++ [])))))) (end_is h.line_end)
      ∙ regroup_head (print_blank h.blank) h.method h.target (print_version h.minor) (before_feed h.line_end)
      (flat_map print_field h.fields) (print_end h.last)
      ∙ ap (λ (f : List ℕ). (print_blank h.blank ++ (print_line (first_line h) ++ f)) ++ print_end h.last) (fields_are h.fields),
)

-- the fields of a head of at most 65 lines are few
pub few_fields : (h : RequestHead) → IsRequestHead h → (HasLines 66 (print_request h) → ⊥) → length h.fields ≤ 64
unfolding request_is_head
few_fields h is few =
    let lines = first_line h ∷ map field_line h.fields in
    let head = request_is_head h is in
    let other : 65 ≤ length h.fields → ⊥ = λ many.
    let f = lines_front 66 lines (omega (arith, many, length-map h.fields field_line)) head.4 in
    few (
      h.blank,
      f.0,
      flat_map print_line f.1 ++ print_end h.last,
      f.3,
      f.4,
      head.5 ∙ ap (λ (ls : List (List ℕ)). print_lines h.blank ls ++ print_end h.last) f.2 ∙ front_is h.blank f.0 f.1 (print_end h.last),
    ) in
    omega (arith, other)

-- more lines, whatever follows
pub lines_longer : (stream more : List ℕ) → HasLines 66 stream → HasLines 66 (stream ++ more)
lines_longer stream more (blank, lines, rest, count, each, is) =
    (blank, lines, rest ++ more, count, each, ap (λ (l : List ℕ). l ++ more) is ∙ append_assoc (print_lines blank lines) rest more)

-- The request's head that stands at the front of a head of at most 65 lines is all of it.
pub whole_head : (head : List ℕ) (h : RequestHead) (rest : List ℕ) → IsHead head → (HasLines 66 head → ⊥) → ReadsRequest head h rest
    → head ≡ print_request h
whole_head head h rest ends few reads =
    head_once head (print_request h) [] rest ends few (request_is_head h reads.0)
    (λ many. few (subst (HasLines 66) (sym reads.1) (lines_longer (print_request h) rest many)))
    (append-nil head ∙ reads.1)
