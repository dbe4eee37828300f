-- What the search for a head's end finds: the end of a head, and of no other.
use Rattle.std.proofs.Common.{◌≡◌, ◌≢◌, ℕ, zero, suc, ◌+◌, ◌<◌, ◌≤◌, Bool, true, false, not, ◌&&◌, List, [], ◌∷◌, ◌++◌, length, take, drop, get_or, refl, sym, ◌∙◌, ap, subst, arith, append_assoc}
use Rattle.std.specs.Prelude.{◌==◌}
use Rattle.std.specs.List.{flat_map, AllByRecursion}
use Rattle.std.proofs.lemmas.Grind.{common_steps}
use Rattle.std.proofs.lemmas.List.{take_at, append-nil, length-append}
use Rattle.std.proofs.lemmas.List.Concat.{flat_map-append}
use Rattle.std.proofs.lemmas.Bool.Decides.{Decides-eqb}
use Rattle.std.proofs.lemmas.Bool.{false_from_ne_true}
use Rattle.httparse.specs.Grammar.{LineEnd, crlf, lf, print_end, print_blank}
use Rattle.http_wire.specs.Heads.{HasNoFeed, IsLine, print_line, print_lines, IsHead, IsHeadOfLines, HasLines}
use Rattle.http_wire.proofs.Search.{HeadSearch, Nothing, Ended, Many, on, search_head}

-- the line in progress, by what the search knows of it
abbrev pub PartKind : Bool → Bool → List ℕ → Type 0
PartKind true false part = part ≡ []
PartKind true true part = part ≡ 13 ∷ []
PartKind false carriage part = (part ≢ []) × (part ≢ 13 ∷ [])

abbrev pub Begun : Bool → List (List ℕ) → Type 0
Begun true lines = 0 < length lines
Begun false lines = lines ≡ []

-- a line with a byte more has a byte, and two where it had one
push_some : (part : List ℕ) (b : ℕ) → part ++ b ∷ [] ≢ []
push_some part b e = absurd (grind (arith, common_steps, ap length e, length-append part (b ∷ [])))

long : (part : List ℕ) (b : ℕ) → part ≢ [] → part ++ b ∷ [] ≢ 13 ∷ []
long [] b some e = some refl
long (x ∷ part) b some e = push_some part b (ap (drop 1) e)

other : (b : ℕ) → (b == 13) ≡ false → b ∷ [] ≢ 13 ∷ []
other b t e = cc (t, (Decides-eqb b 13).1 (ap (λ (l : List ℕ). get_or l 0 0) e))

single : (b : ℕ) (t : Bool) → (b == 13) ≡ t → PartKind t t (b ∷ [])
single b true e = ap (λ (x : ℕ). x ∷ []) ((Decides-eqb b 13).0 e)
single b false e = (push_some [] b, other b e)

-- one more byte in the line
pub part_more : (empty carriage : Bool) (part : List ℕ) (b : ℕ) → PartKind empty carriage part
    → PartKind (empty && not carriage && (b == 13)) (b == 13) (part ++ b ∷ [])
part_more true false part b h =
    let at : PartKind (b == 13) (b == 13) (b ∷ []) = single b (b == 13) refl in
    subst (λ (p : List ℕ). PartKind (b == 13) (b == 13) (p ++ b ∷ [])) (sym h) at
part_more true true part b h =
    subst (λ (p : List ℕ). (p ++ b ∷ [] ≢ []) × (p ++ b ∷ [] ≢ 13 ∷ [])) (sym h)
    (push_some (13 ∷ []) b, long (13 ∷ []) b (λ e. cc))
part_more false carriage part b h = (push_some part b, long part b h.0)

-- ---- the bytes before, by the state of the search

pub record Stands (count : ℕ) (begun empty carriage : Bool) (pre : List ℕ) : Type 0 where
  pub blank : List LineEnd
  pub lines : List (List ℕ)
  pub part : List ℕ
  pub each : AllByRecursion IsLine lines
  pub begun_is : Begun begun lines
  pub count_is : length lines ≡ count
  pub one : HasNoFeed part
  pub kind : PartKind empty carriage part
  pub is : pre ≡ print_lines blank lines ++ part

pub at_start : Stands 0 false true false []
at_start = record { blank = []; lines = []; part = []; each = tt; begun_is = refl; count_is = refl; one = tt; kind = refl; is = refl }

pub all_push : {X : Type 0} (P : X → Type 0) (xs : List X) (x : X) → AllByRecursion P xs → P x → AllByRecursion P (xs ++ x ∷ [])
all_push P [] x h p = (p, tt)
all_push P (y ∷ xs) x h p = (h.0, all_push P xs x h.1 p)

-- an empty line's end
abbrev pub line_end_of : Bool → LineEnd
line_end_of true = crlf
line_end_of false = lf

pub print_line_end_of : (carriage : Bool) (part : List ℕ) → PartKind true carriage part
    → part ++ 10 ∷ [] ≡ print_end (line_end_of carriage)
print_line_end_of true part e = ap (λ (p : List ℕ). p ++ 10 ∷ []) e
print_line_end_of false part e = ap (λ (p : List ℕ). p ++ 10 ∷ []) e

pub empty_line : (blank : List LineEnd) (part : List ℕ) (e : LineEnd) → part ++ 10 ∷ [] ≡ print_end e
    → (print_lines blank [] ++ part) ++ 10 ∷ [] ≡ print_lines (blank ++ e ∷ []) [] ++ []
empty_line blank part e h = simp (append-nil, append_assoc, flat_map-append) (ap (λ (p : List ℕ). print_blank blank ++ p) h)

pub whole_line : (blank : List LineEnd) (lines : List (List ℕ)) (part : List ℕ)
    → (print_lines blank lines ++ part) ++ 10 ∷ [] ≡ print_lines blank (lines ++ part ∷ []) ++ []
whole_line blank lines part = simp (append-nil, append_assoc, flat_map-append)

-- the empty line that ends the head
head_here : (count : ℕ) (carriage : Bool) (pre : List ℕ) → Stands count true true carriage pre → IsHead (pre ++ 10 ∷ [])
head_here count carriage pre s = (
  s.blank,
  s.lines,
  line_end_of carriage,
  s.begun_is,
  s.each,
  ap (λ (p : List ℕ). p ++ 10 ∷ []) s.is
      ∙ append_assoc (print_lines s.blank s.lines) s.part (10 ∷ [])
      ∙ ap (λ (p : List ℕ). print_lines s.blank s.lines ++ p) (print_line_end_of carriage s.part s.kind),
)

-- an empty line before the first that isn't
blank_more : (count : ℕ) (carriage : Bool) (pre : List ℕ) → Stands count false true carriage pre → Stands count false true false (pre ++ 10 ∷ [])
blank_more count carriage pre s = record {
  blank = s.blank ++ line_end_of carriage ∷ [];
  lines = [];
  part = [];
  each = tt;
  begun_is = refl;
  count_is = sym (ap (λ (l : List (List ℕ)). length l) s.begun_is) ∙ s.count_is;
  one = tt;
  kind = refl;
  is = ap (λ (p : List ℕ). p ++ 10 ∷ []) (s.is ∙ ap (λ (ls : List (List ℕ)). print_lines s.blank ls ++ s.part) s.begun_is)
      ∙ empty_line s.blank s.part (line_end_of carriage) (print_line_end_of carriage s.part s.kind);
}

-- the end of a line that isn't empty
line_more : (count : ℕ) (begun carriage : Bool) (pre : List ℕ) → Stands count begun false carriage pre → Stands (count + 1) true true false (pre ++ 10 ∷ [])
line_more count begun carriage pre s = record {
  blank = s.blank;
  lines = s.lines ++ s.part ∷ [];
  part = [];
  each = all_push IsLine s.lines s.part s.each (record { one = s.one; some = s.kind.0; more = s.kind.1 });
  begun_is = omega (arith, length-append s.lines (s.part ∷ []));
  count_is = omega (arith, length-append s.lines (s.part ∷ []), s.count_is);
  one = tt;
  kind = refl;
  is = ap (λ (p : List ℕ). p ++ 10 ∷ []) s.is ∙ whole_line s.blank s.lines s.part;
}

byte_more : (count : ℕ) (begun empty carriage : Bool) (pre : List ℕ) (b : ℕ) → (b == 10) ≡ false → Stands count begun empty carriage pre
    → Stands count begun (empty && not carriage && (b == 13)) (b == 13) (pre ++ b ∷ [])
byte_more count begun empty carriage pre b other s = record {
  blank = s.blank;
  lines = s.lines;
  part = s.part ++ b ∷ [];
  each = s.each;
  begun_is = s.begun_is;
  count_is = s.count_is;
  one = all_push (λ x. x ≢ 10) s.part b s.one (λ e. cc (other, (Decides-eqb b 10).1 e));
  kind = part_more empty carriage s.part b s.kind;
  is = ap (λ (p : List ℕ). p ++ b ∷ []) s.is ∙ append_assoc (print_lines s.blank s.lines) s.part (b ∷ []);
}

-- ---- one byte of the search

search_other : (count : ℕ) (begun empty carriage : Bool) (b : ℕ) (text : List ℕ) → (b == 10) ≡ false
    → search_head count begun empty carriage (b ∷ text)
    ≡ on 1 (search_head count begun (empty && not carriage && (b == 13)) (b == 13) text)
search_other count true empty carriage b text other = rw other refl
search_other count false empty carriage b text other = rw other refl

search_line : (count : ℕ) (begun carriage : Bool) (text : List ℕ) → (count == 65) ≡ false
    → search_head count begun false carriage (10 ∷ text) ≡ on 1 (search_head (count + 1) true true false text)
search_line count true carriage text few = rw few refl
search_line count false carriage text few = rw few refl

search_many : (count : ℕ) (begun carriage : Bool) (text : List ℕ) → (count == 65) ≡ true
    → search_head count begun false carriage (10 ∷ text) ≡ Many
search_many count true carriage text many = rw many refl
search_many count false carriage text many = rw many refl

on_ended : (k : ℕ) (found : HeadSearch) (n : ℕ) → on k found ≡ Ended n → (m : ℕ) × (found ≡ Ended m) × (n ≡ k + m)
on_ended k Nothing n e = absurd cc
on_ended k (Ended m) n e = (m, refl, cc)
on_ended k Many n e = absurd cc

on_on : (m n : ℕ) (o : HeadSearch) → on m (on n o) ≡ on (m + n) o
on_on m n Nothing = refl
on_on m n (Ended k) = ap (λ (j : ℕ). Ended j) (omega arith)
on_on m n Many = refl

on_zero : (o : HeadSearch) → on 0 o ≡ o
on_zero Nothing = refl
on_zero (Ended k) = ap (λ (j : ℕ). Ended j) (omega arith)
on_zero Many = refl

-- ---- what is found from a state on

abbrev FoundFrom : List ℕ → Type 0
FoundFrom text = (pre : List ℕ) (count : ℕ) (begun empty carriage : Bool) (n : ℕ) → Stands count begun empty carriage pre
    → search_head count begun empty carriage text ≡ Ended n → IsHead (pre ++ take n text) × (n ≤ length text)

found_next : (b : ℕ) (text pre : List ℕ) (count : ℕ) (begun empty carriage : Bool) (n : ℕ) → FoundFrom text
    → Stands count begun empty carriage (pre ++ b ∷ []) → on 1 (search_head count begun empty carriage text) ≡ Ended n
    → IsHead (pre ++ take n (b ∷ text)) × (n ≤ length (b ∷ text))
found_next b text pre count begun empty carriage n rest s e =
    let later = on_ended 1 (search_head count begun empty carriage text) n e in
    let found = rest (pre ++ b ∷ []) count begun empty carriage later.0 s later.1 in
    let n_is : n ≡ suc later.0 = omega (arith, later.2) in (
      subst (λ (m : ℕ). IsHead (pre ++ take m (b ∷ text))) (sym n_is)
          (subst IsHead (append_assoc pre (b ∷ []) (take later.0 text)) found.0),
      omega (arith, later.2, found.1),
    )

found_feed : (text pre : List ℕ) (count : ℕ) (begun empty carriage : Bool) (n : ℕ) → FoundFrom text
    → Stands count begun empty carriage pre → search_head count begun empty carriage (10 ∷ text) ≡ Ended n
    → IsHead (pre ++ take n (10 ∷ text)) × (n ≤ length (10 ∷ text))
found_feed text pre count true true carriage n rest s e =
    let one : 1 ≡ n = cc in
    subst (λ (m : ℕ). IsHead (pre ++ take m (10 ∷ text)) × (m ≤ length (10 ∷ text))) one (head_here count carriage pre s, omega arith)
found_feed text pre count false true carriage n rest s e =
    found_next 10 text pre count false true false n rest (blank_more count carriage pre s) e
found_feed text pre count begun false carriage n rest s e = by_count (count == 65) refl
  where
    by_count : (t : Bool) → (count == 65) ≡ t → IsHead (pre ++ take n (10 ∷ text)) × (n ≤ length (10 ∷ text))
    by_count true is = let many = search_many count begun carriage text is in absurd cc
    by_count false is = found_next 10 text pre (count + 1) true true false n rest (line_more count begun carriage pre s)
        (sym (search_line count begun carriage text is) ∙ e)

-- What the search finds from a state on ends a head.
pub found_head : (text : List ℕ) → FoundFrom text
found_head [] pre count begun empty carriage n s e = absurd cc
found_head (b ∷ text) pre count begun empty carriage n s e = by_byte (found_head text) (b == 10) refl
  where
    by_byte : FoundFrom text → (t : Bool) → (b == 10) ≡ t → IsHead (pre ++ take n (b ∷ text)) × (n ≤ length (b ∷ text))
    by_byte later true is =
        let feed : b ≡ 10 = (Decides-eqb b 10).0 is in
        subst (λ (x : ℕ). IsHead (pre ++ take n (x ∷ text)) × (n ≤ length (x ∷ text))) (sym feed)
        (found_feed text pre count begun empty carriage n later s
        (subst (λ (x : ℕ). search_head count begun empty carriage (x ∷ text) ≡ Ended n) feed e))
    by_byte later false is =
        found_next b text pre count begun (empty && not carriage && (b == 13)) (b == 13) n later
        (byte_more count begun empty carriage pre b is s) (sym (search_other count begun empty carriage b text is) ∙ e)

-- ---- a head is found

-- up to the end of a line that isn't empty
past_line : (tail part rest : List ℕ) (count : ℕ) (begun empty carriage : Bool) → PartKind empty carriage part → HasNoFeed tail
    → part ++ tail ≢ [] → part ++ tail ≢ 13 ∷ []
    → (carried : Bool) × (search_head count begun empty carriage (tail ++ 10 ∷ rest)
    ≡ on (length tail) (search_head count begun false carried (10 ∷ rest)))
past_line [] part rest count begun true false kind one some more = absurd (some (append-nil part ∙ kind))
past_line [] part rest count begun true true kind one some more = absurd (more (append-nil part ∙ kind))
past_line [] part rest count begun false carriage kind one some more =
    (carriage, sym (on_zero (search_head count begun false carriage (10 ∷ rest))))
past_line (b ∷ tail) part rest count begun empty carriage kind one some more =
    let other : (b == 10) ≡ false = false_from_ne_true (b == 10) (λ e. one.0 ((Decides-eqb b 10).0 e)) in
    let same : (part ++ b ∷ []) ++ tail ≡ part ++ b ∷ tail = append_assoc part (b ∷ []) tail in
    let later = past_line tail (part ++ b ∷ []) rest count begun (empty && not carriage && (b == 13)) (b == 13)
    (part_more empty carriage part b kind) one.1 (λ e. some (sym same ∙ e)) (λ e. more (sym same ∙ e)) in (
      later.0,
      search_other count begun empty carriage b (tail ++ 10 ∷ rest) other
          ∙ ap (on 1) later.1
          ∙ on_on 1 (length tail) (search_head count begun false later.0 (10 ∷ rest))
          ∙ ap (λ (k : ℕ). on k (search_head count begun false later.0 (10 ∷ rest))) (omega arith),
    )

past_one : (line rest : List ℕ) (count : ℕ) (begun : Bool) → count < 65 → IsLine line
    → search_head count begun true false (print_line line ++ rest) ≡ on (length (print_line line)) (search_head (count + 1) true true false rest)
past_one line rest count begun few is =
    let step = past_line line [] rest count begun true false refl is.one is.some is.more in
    let other : (count == 65) ≡ false = false_from_ne_true (count == 65) (λ e. absurd (omega (arith, (Decides-eqb count 65).0 e, few))) in
    ap (search_head count begun true false) (append_assoc line (10 ∷ []) rest)
    ∙ step.1
    ∙ ap (on (length line)) (search_line count begun step.0 rest other)
    ∙ on_on (length line) 1 (search_head (count + 1) true true false rest)
    ∙ ap (λ (k : ℕ). on k (search_head (count + 1) true true false rest)) (sym (length-append line (10 ∷ [])))

past_many : (line rest : List ℕ) (count : ℕ) (begun : Bool) → count ≡ 65 → IsLine line
    → search_head count begun true false (print_line line ++ rest) ≡ Many
past_many line rest count begun full is =
    let step = past_line line [] rest count begun true false refl is.one is.some is.more in
    ap (search_head count begun true false) (append_assoc line (10 ∷ []) rest)
    ∙ step.1
    ∙ ap (on (length line)) (search_many count begun step.0 rest ((Decides-eqb count 65).1 full))

past_lines : (lines : List (List ℕ)) (rest : List ℕ) (count n : ℕ) → n ≡ count + length lines → n ≤ 65 → AllByRecursion IsLine lines
    → search_head count true true false (flat_map print_line lines ++ rest) ≡ on (length (flat_map print_line lines)) (search_head n true true false rest)
past_lines [] rest count n e few each =
    ap (λ (k : ℕ). search_head k true true false rest) (omega (arith, e)) ∙ sym (on_zero (search_head n true true false rest))
past_lines (line ∷ lines) rest count n e few each =
    ap (search_head count true true false) (append_assoc (print_line line) (flat_map print_line lines) rest)
    ∙ past_one line (flat_map print_line lines ++ rest) count true (omega (arith, e, few)) each.0
    ∙ ap (on (length (print_line line))) (past_lines lines rest (count + 1) n (omega (arith, e)) few each.1)
    ∙ on_on (length (print_line line)) (length (flat_map print_line lines)) (search_head n true true false rest)
    ∙ ap (λ (k : ℕ). on k (search_head n true true false rest)) (sym (length-append (print_line line) (flat_map print_line lines)))

some_lines : (lines : List (List ℕ)) (rest : List ℕ) → 0 < length lines → length lines ≤ 65 → AllByRecursion IsLine lines
    → search_head 0 false true false (flat_map print_line lines ++ rest)
    ≡ on (length (flat_map print_line lines)) (search_head (length lines) true true false rest)
some_lines [] rest some few each = absurd (omega (arith, some))
some_lines (line ∷ lines) rest some few each =
    let n = suc (length lines) in
    ap (search_head 0 false true false) (append_assoc (print_line line) (flat_map print_line lines) rest)
    ∙ past_one line (flat_map print_line lines ++ rest) 0 false (omega arith) each.0
    ∙ ap (on (length (print_line line))) (past_lines lines rest (0 + 1) n (omega arith) few each.1)
    ∙ on_on (length (print_line line)) (length (flat_map print_line lines)) (search_head n true true false rest)
    ∙ ap (λ (k : ℕ). on k (search_head n true true false rest)) (sym (length-append (print_line line) (flat_map print_line lines)))

-- the line after which there are too many
over_lines : (lines : List (List ℕ)) (rest : List ℕ) (count : ℕ) (begun : Bool) → count + length lines ≡ 66 → 0 < length lines → AllByRecursion IsLine lines
    → search_head count begun true false (flat_map print_line lines ++ rest) ≡ Many
over_lines [] rest count begun e some each = absurd (omega (arith, some))
over_lines (line ∷ []) rest count begun e some each =
    ap (search_head count begun true false) (append_assoc (print_line line) [] rest)
    ∙ past_many line ([] ++ rest) count begun (omega (arith, e)) each.0
over_lines (line ∷ next ∷ lines) rest count begun e some each =
    ap (search_head count begun true false) (append_assoc (print_line line) (flat_map print_line (next ∷ lines)) rest)
    ∙ past_one line (flat_map print_line (next ∷ lines) ++ rest) count begun (omega (arith, e)) each.0
    ∙ ap (on (length (print_line line))) (over_lines (next ∷ lines) rest (count + 1) true (omega (arith, e)) (omega arith) each.1)

pub past_blank : (blank : List LineEnd) (rest : List ℕ)
    → search_head 0 false true false (print_blank blank ++ rest) ≡ on (length (print_blank blank)) (search_head 0 false true false rest)
past_blank [] rest = sym (on_zero (search_head 0 false true false rest))
past_blank (crlf ∷ blank) rest =
    ap (λ (o : HeadSearch). on 1 (on 1 o)) (past_blank blank rest)
    ∙ ap (on 1) (on_on 1 (length (print_blank blank)) (search_head 0 false true false rest))
    ∙ on_on 1 (1 + length (print_blank blank)) (search_head 0 false true false rest)
    ∙ ap (λ (k : ℕ). on k (search_head 0 false true false rest)) (omega arith)
past_blank (lf ∷ blank) rest =
    ap (on 1) (past_blank blank rest)
    ∙ on_on 1 (length (print_blank blank)) (search_head 0 false true false rest)
    ∙ ap (λ (k : ℕ). on k (search_head 0 false true false rest)) (omega arith)

past_last : (count : ℕ) (last : LineEnd) (rest : List ℕ) → search_head count true true false (print_end last ++ rest) ≡ Ended (length (print_end last))
past_last count crlf rest = refl
past_last count lf rest = refl

three : (b f l rest : List ℕ) → ((b ++ f) ++ l) ++ rest ≡ b ++ (f ++ (l ++ rest))
three b f l rest = simp append_assoc

three_long : (b f l : List ℕ) → length ((b ++ f) ++ l) ≡ length b + (length f + length l)
three_long b f l = grind (arith, length-append (b ++ f) l, length-append b f)

-- 66 lines or more stop the search
pub many_found : (stream more : List ℕ) → HasLines 66 stream → search_head 0 false true false (stream ++ more) ≡ Many
many_found stream more (blank, lines, rest, count, each, is) =
    let b = print_blank blank in
    let f = flat_map print_line lines in
    ap (λ (s : List ℕ). search_head 0 false true false (s ++ more)) is
    ∙ ap (search_head 0 false true false) (three b f rest more)
    ∙ past_blank blank (f ++ (rest ++ more))
    ∙ ap (on (length b)) (over_lines lines (rest ++ more) 0 false (omega (arith, count)) (omega (arith, count)) each)

-- a part of the lines
pub lines_front : (n : ℕ) (lines : List (List ℕ)) → n ≤ length lines → AllByRecursion IsLine lines
    → (front back : List (List ℕ)) × (lines ≡ front ++ back) × (length front ≡ n) × AllByRecursion IsLine front
lines_front zero lines few each = ([], lines, refl, refl, tt)
lines_front (suc n) [] few each = absurd (omega (arith, few))
lines_front (suc n) (line ∷ lines) few each =
    let f = lines_front n lines (omega (arith, few)) each.1 in
    (line ∷ f.0, f.1, ap (λ (l : List (List ℕ)). line ∷ l) f.2, ap suc f.3, (each.0, f.4))

pub front_is : (blank : List LineEnd) (front back : List (List ℕ)) (l : List ℕ)
    → print_lines blank (front ++ back) ++ l ≡ print_lines blank front ++ (flat_map print_line back ++ l)
front_is blank front back l = simp (append_assoc, flat_map-append)

-- so many lines, where there are no fewer
pub has_lines : (n : ℕ) (blank : List LineEnd) (lines : List (List ℕ)) (rest : List ℕ) → n ≤ length lines → AllByRecursion IsLine lines
    → HasLines n (print_lines blank lines ++ rest)
has_lines n blank lines rest le each =
    let f = lines_front n lines le each in (
      blank,
      f.0,
      flat_map print_line f.1 ++ rest,
      f.3,
      f.4,
      ap (λ (ls : List (List ℕ)). print_lines blank ls ++ rest) f.2 ∙ front_is blank f.0 f.1 rest,
    )

-- The search finds the end of a head of at most 65 lines, whatever follows.
pub head_found_of : (head rest : List ℕ) (blank : List LineEnd) (lines : List (List ℕ)) (last : LineEnd) → 0 < length lines → length lines ≤ 65
    → AllByRecursion IsLine lines → head ≡ print_lines blank lines ++ print_end last
    → search_head 0 false true false (head ++ rest) ≡ Ended (length head)
head_found_of head rest blank lines last some count each is =
    let b = print_blank blank in
    let f = flat_map print_line lines in
    let l = print_end last in
    ap (λ (h : List ℕ). search_head 0 false true false (h ++ rest)) is
    ∙ ap (search_head 0 false true false) (three b f l rest)
    ∙ past_blank blank (f ++ (l ++ rest))
    ∙ ap (on (length b)) (some_lines lines (l ++ rest) some count each ∙ ap (on (length f)) (past_last (length lines) last rest))
    ∙ ap (λ (k : ℕ). Ended k) (sym (ap length is ∙ three_long b f l))

pub head_found : (head rest : List ℕ) → IsHead head → (HasLines 66 head → ⊥) → search_head 0 false true false (head ++ rest) ≡ Ended (length head)
head_found head rest (blank, lines, last, some, each, is) few =
    let other : 66 ≤ length lines → ⊥ = λ h. few (subst (HasLines 66) (sym is) (has_lines 66 blank lines (print_end last) h each)) in
    head_found_of head rest blank lines last some (omega (arith, other)) each is

-- a head of at most 65 lines has no 66
pub head_of_few : (head : List ℕ) (count : ℕ) → IsHeadOfLines (count + 1) head → count ≤ 64 → IsHead head × (HasLines 66 head → ⊥)
head_of_few head count (blank, lines, last, size, each, is) few =
    let some : 0 < length lines = omega (arith, size) in (
      (blank, lines, last, some, each, is),
      λ many.
          let found = head_found_of head [] blank lines last some (omega (arith, size, few)) each is in
          let other = many_found head [] many in
          absurd cc,
    )

nothing_in : (part : List ℕ) (count : ℕ) (begun empty carriage : Bool) → HasNoFeed part → search_head count begun empty carriage part ≡ Nothing
nothing_in [] count begun empty carriage one = refl
nothing_in (b ∷ part) count begun empty carriage one =
    let other : (b == 10) ≡ false = false_from_ne_true (b == 10) (λ e. one.0 ((Decides-eqb b 10).0 e)) in
    search_other count begun empty carriage b part other
    ∙ ap (on 1) (nothing_in part count begun (empty && not carriage && (b == 13)) (b == 13) one.1)

nothing_behind : (lines : List (List ℕ)) (part : List ℕ) → length lines ≤ 65 → AllByRecursion IsLine lines → HasNoFeed part
    → search_head 0 false true false (flat_map print_line lines ++ part) ≡ Nothing
nothing_behind [] part few each one = nothing_in part 0 false true false one
nothing_behind (line ∷ lines) part few each one =
    some_lines (line ∷ lines) part (omega arith) few each
    ∙ ap (on (length (flat_map print_line (line ∷ lines)))) (nothing_in part (length (line ∷ lines)) true true false one)

-- The search finds nothing in lines and a line in progress.
pub nothing_found : (blank : List LineEnd) (lines : List (List ℕ)) (part : List ℕ) → length lines ≤ 65 → AllByRecursion IsLine lines → HasNoFeed part
    → search_head 0 false true false (print_lines blank lines ++ part) ≡ Nothing
nothing_found blank lines part few each one =
    ap (search_head 0 false true false) (append_assoc (print_blank blank) (flat_map print_line lines) part)
    ∙ past_blank blank (flat_map print_line lines ++ part)
    ∙ ap (on (length (print_blank blank))) (nothing_behind lines part few each one)

-- a stream has one such head at its front
pub head_once : (a b x y : List ℕ) → IsHead a → (HasLines 66 a → ⊥) → IsHead b → (HasLines 66 b → ⊥) → a ++ x ≡ b ++ y → a ≡ b
head_once a b x y p p65 q q65 e =
    let same : Ended (length a) ≡ Ended (length b) =
    sym (head_found a x p p65) ∙ ap (search_head 0 false true false) e ∙ head_found b y q q65 in
    let long : length b ≡ length a = cc in
    sym (take_at a x (length a) refl) ∙ ap (take (length a)) e ∙ take_at b y (length a) long
