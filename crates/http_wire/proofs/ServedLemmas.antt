-- What the lines of a head say, line by line.
use Rattle.std.proofs.Common.{◌≡◌, ℕ, ◌<◌, Bool, true, false, ◌&&◌, ◌||◌, cond, List, [], ◌∷◌, length, map, refl, sym, ◌∙◌, ap, subst}
use Rattle.std.specs.Prelude.{filter, codes, All}
use Rattle.std.specs.List.{AllByRecursion, list_any}
use Rattle.std.proofs.lemmas.List.Elements.{All-cons, All-nil, All-head, All-tail}
use Rattle.httparse.specs.declared.spans.HeaderSpan.{HeaderSpan}
use Rattle.httparse.specs.Spans.{span_bytes, header_bytes}
use Rattle.httparse.specs.Grammar.{RequestHead}
use Rattle.http_wire.specs.declared.head.ServedLines.{ServedLines}
use Rattle.http_wire.specs.declared.request.WireFault.{WireFault}
use Rattle.http_wire.specs.declared.request.WireFault.TheVariants.{BadHead, HeadTooLarge, BodyTooLarge, Coding, BadLength}
use Rattle.http_wire.specs.HeadRead.{IsHeadFault}
use Rattle.http_wire.specs.HeadLines.{same_name, says_close, closes_in, lengths_in, codings_in, lines_of, IsHeadOf, IsServedHead, IsNumeral, IsLength}
use Rattle.http_wire.specs.ServedLines.{Agrees, line_closes, AreServedLines, IsLinesFault}
use Rattle.http_wire.proofs.Fronts.{numeral_once}

-- ---- close

-- some line says close
abbrev pub closes_after : List ℕ → List HeaderSpan → Bool
closes_after head [] = false
closes_after head (line ∷ lines) = line_closes head line || closes_after head lines

closes_line : (t c : Bool) (value : List ℕ) (rest : List (List ℕ)) → c ≡ says_close value
    → (t && c || list_any says_close rest) ≡ list_any says_close (cond t (value ∷ rest) rest)
closes_line true c value rest e = ap (λ (b : Bool). b || list_any says_close rest) e
closes_line false c value rest e = refl

values_line : (t : Bool) (v : List ℕ × List ℕ) (rest : List (List ℕ × List ℕ))
    → map (λ (l : List ℕ × List ℕ). l.1) (cond t (v ∷ rest) rest) ≡ cond t (v.1 ∷ map (λ (l : List ℕ × List ℕ). l.1) rest) (map (λ (l : List ℕ × List ℕ). l.1) rest)
values_line true v rest = refl
values_line false v rest = refl

pub closes_is : (head : List ℕ) (lines : List HeaderSpan) → closes_after head lines ≡ closes_in (map (header_bytes head) lines)
closes_is head [] = refl
closes_is head (line ∷ lines) =
    let t = same_name (span_bytes head line.name) (codes "connection") in
    let value = span_bytes head line.value in
    let rest = filter (λ (l : List ℕ × List ℕ). same_name l.0 (codes "connection")) (map (header_bytes head) lines) in
    ap (λ (b : Bool). line_closes head line || b) (closes_is head lines)
    ∙ closes_line t (says_close value) value (map (λ (l : List ℕ × List ℕ). l.1) rest) refl
    ∙ ap (list_any says_close) (sym (values_line t (header_bytes head line) rest))

-- ---- lengths

pub agree_from : (head : List ℕ) (number : ℕ) (lines : List HeaderSpan) → All (Agrees head number) lines
    → AllByRecursion (λ d. IsNumeral d number) (lengths_in (map (header_bytes head) lines))
agree_from head number [] all = tt
agree_from head number (line ∷ lines) all =
    by_name (same_name (span_bytes head line.name) (codes "content-length")) (All-head (Agrees head number) line lines all)
    (agree_from head number lines (All-tail (Agrees head number) line lines all))
  where
    by_name : (t : Bool) → (t ≡ true → IsNumeral (span_bytes head line.value) number)
        → AllByRecursion (λ d. IsNumeral d number) (lengths_in (map (header_bytes head) lines))
        → AllByRecursion (λ d. IsNumeral d number) (map (λ (l : List ℕ × List ℕ). l.1) (cond t
        (header_bytes head line ∷ filter (λ (l : List ℕ × List ℕ). same_name l.0 (codes "content-length")) (map (header_bytes head) lines))
        (filter (λ (l : List ℕ × List ℕ). same_name l.0 (codes "content-length")) (map (header_bytes head) lines))))
    by_name true here rest = (here refl, rest)
    by_name false here rest = rest

pub agree_all : (head : List ℕ) (number : ℕ) (lines : List HeaderSpan)
    → AllByRecursion (λ d. IsNumeral d number) (lengths_in (map (header_bytes head) lines)) → All (Agrees head number) lines
agree_all head number [] all = All-nil (Agrees head number)
agree_all head number (line ∷ lines) all =
    let both = by_name (same_name (span_bytes head line.name) (codes "content-length")) all in
    All-cons (Agrees head number) line lines both.0 (agree_all head number lines both.1)
  where
    by_name : (t : Bool)
        → AllByRecursion (λ d. IsNumeral d number) (map (λ (l : List ℕ × List ℕ). l.1) (cond t
        (header_bytes head line ∷ filter (λ (l : List ℕ × List ℕ). same_name l.0 (codes "content-length")) (map (header_bytes head) lines))
        (filter (λ (l : List ℕ × List ℕ). same_name l.0 (codes "content-length")) (map (header_bytes head) lines))))
        → (t ≡ true → IsNumeral (span_bytes head line.value) number)
        × AllByRecursion (λ d. IsNumeral d number) (lengths_in (map (header_bytes head) lines))
    by_name true all = (λ e. all.0, all.1)
    by_name false all = (λ e. absurd cc, all)

-- the first value is the number, where all are one
pub named_length : (head : List ℕ) (values : List (List ℕ)) (first : List ℕ) (more : List (List ℕ)) (number n : ℕ)
    → values ≡ first ∷ more → IsNumeral first number → IsLength values n → AllByRecursion (λ d. IsNumeral d number) values
named_length head values first more number n e is length' =
    let all : IsLength (first ∷ more) n = subst (λ (v : List (List ℕ)). IsLength v n) e length' in
    let same : n ≡ number = numeral_once first n number all.0 is in
    subst (λ (v : List (List ℕ)). AllByRecursion (λ d. IsNumeral d number) v) (sym e)
    (subst (λ (k : ℕ). AllByRecursion (λ d. IsNumeral d k) (first ∷ more)) same all)

-- a head's fault is that of its lines
pub head_fault_from : (head : List ℕ) (h : RequestHead) (lines : List (List ℕ × List ℕ)) (w : WireFault) → lines ≡ lines_of h → IsHeadOf head h
    → IsLinesFault lines w → IsHeadFault head w
head_fault_from head h lines BadHead e is f = absurd f
head_fault_from head h lines HeadTooLarge e is f = absurd f
head_fault_from head h lines Coding e is f = (h, is, subst (λ (l : List (List ℕ × List ℕ)). 0 < length (codings_in l)) e f)
head_fault_from head h lines BadLength e is f =
    (h, is, subst (λ (l : List (List ℕ × List ℕ)). (codings_in l ≡ []) × ((n : ℕ) → IsLength (lengths_in l) n → ⊥)) e f)
head_fault_from head h lines BodyTooLarge e is f =
    (h, is, subst (λ (l : List (List ℕ × List ℕ)). (codings_in l ≡ []) × ((n : ℕ) × IsLength (lengths_in l) n × (262144 < n))) e f)

-- what was read of the lines is what the head says
pub served_from : (head : List ℕ) (h : RequestHead) (lines : List (List ℕ × List ℕ)) (read : ServedLines) → lines ≡ lines_of h → IsHeadOf head h
    → AreServedLines head lines read → IsServedHead head h read.length
served_from head h lines read e is a = record {
  of = is;
  uncoded = subst (λ (l : List (List ℕ × List ℕ)). codings_in l ≡ []) e a.uncoded;
  size = subst (λ (l : List (List ℕ × List ℕ)). IsLength (lengths_in l) read.length) e a.size;
  fits = a.fits;
}
