-- What stands at the front of a text, by its head.
use Rattle.std.proofs.Common.{◌≡◌, ℕ, ◌+◌, ◌<◌, ◌≤◌, true, false, List, [], ◌∷◌, ◌++◌, length, take, drop, refl, sym, ◌∙◌, ap, subst, arith, inl, inr, min}
use Rattle.std.proofs.lemmas.List.{append-nil, length-append, length-take, take-take, take_all, take_at, take-append-drop, append_cancel_left}
use Rattle.httparse.specs.Grammar.{LineEnd, crlf, lf, print_blank, RequestHead, print_request}
use Rattle.httparse.proofs.GrammarLemmas.{request_unique}
use Rattle.http_wire.specs.declared.request.WireFault.{WireFault}
use Rattle.http_wire.specs.declared.request.WireFault.TheVariants.{BadHead, HeadTooLarge, BodyTooLarge, Coding, BadLength}
use Rattle.http_wire.specs.Heads.{IsHead, HasLines}
use Rattle.http_wire.specs.HeadLines.{IsHeadOf, IsServedHead, IsNumeral, IsLength, lengths_of, codings_of}
use Rattle.http_wire.specs.Requests.{HeadAt, HasNoEnd, IsFault, IsBlank, IsUnfinished}
use Rattle.http_wire.specs.HeadRead.{IsHeadFault}
use Rattle.http_wire.proofs.Search.{Nothing, Ended, search_head, only_ends}
use Rattle.http_wire.proofs.Scanning.{found_head, at_start, head_found, head_once, many_found, past_blank}

-- ---- heads

-- a text has one head at its front
pub head_at_once : (text a b x y : List ℕ) → HeadAt text a x → HeadAt text b y → (a ≡ b) × (x ≡ y)
head_at_once text a b x y p q =
    let same : a ≡ b = head_once a b x y p.ends p.few q.ends q.few (sym p.is ∙ q.is) in
    (same, append_cancel_left b x y (ap (λ (l : List ℕ). l ++ x) (sym same) ∙ sym p.is ∙ q.is))

-- The search over the first bytes finds the head that stands there.
pub head_at_found : (text : List ℕ) (room n : ℕ) → room ≤ 16384
    → search_head 0 false true false (take room text) ≡ Ended n → HeadAt text (take n text) (drop n text) × (n ≤ length text) × (n ≤ room)
head_at_found text room n small e =
    let found = found_head (take room text) [] 0 false true false n at_start e in
    let short : n ≤ room = omega (arith, found.1, length-take room text) in
    let long : n ≤ length text = omega (arith, found.1, length-take room text) in
    let front : take n text ++ drop n (take room text) ≡ take room text =
    ap (λ (l : List ℕ). l ++ drop n (take room text)) (sym (take-take n room text short)) ∙ take-append-drop n (take room text) in (
      record {
        ends = subst IsHead (take-take n room text short) found.0;
        short = omega (arith, short, length-take n text);
        few = λ many.
            let more = many_found (take n text) (drop n (take room text)) many in
            let other = ap (search_head 0 false true false) front ∙ e in
            absurd cc;
        is = sym (take-append-drop n text);
      },
      long,
      short,
    )

front_cut : (text head rest : List ℕ) (room : ℕ) → room ≡ min (length text) 16384 → length head ≤ 16384 → text ≡ head ++ rest
    → take room text ≡ head ++ drop (length head) (take room text)
front_cut text head rest room is short at =
    let long : length text ≡ length head + length rest = ap length at ∙ length-append head rest in
    let fits : length head ≤ room = omega (arith, long, short) in
    sym (take-append-drop (length head) (take room text))
    ∙ ap (λ (l : List ℕ). l ++ drop (length head) (take room text))
    (take-take (length head) room text fits ∙ ap (take (length head)) at ∙ take_at head rest (length head) refl)

pub head_at_search : (text head rest : List ℕ) (room : ℕ) → room ≡ min (length text) 16384 → HeadAt text head rest
    → search_head 0 false true false (take room text) ≡ Ended (length head)
head_at_search text head rest room is at =
    let cut = front_cut text head rest room is at.short at.is in
    ap (search_head 0 false true false) cut ∙ head_found head (drop (length head) (take room text)) at.ends at.few

-- Where the search finds nothing there is no head.
pub no_head_at : (text : List ℕ) (room : ℕ) → room ≡ min (length text) 16384 → search_head 0 false true false (take room text) ≡ Nothing
    → (head rest : List ℕ) → HeadAt text head rest → ⊥
no_head_at text room is none head rest at =
    let found = head_at_search text head rest room is at in absurd cc

-- a text with a head of few lines has no 66 lines before its end
pub no_lines_at : (text head rest : List ℕ) → HeadAt text head rest → HasLines 66 text → ⊥
no_lines_at text head rest at many =
    let more = ap (search_head 0 false true false) (sym at.is ∙ sym (append-nil text)) ∙ many_found text [] many in
    let found = head_found head rest at.ends at.few in
    absurd cc

-- where the search over all of the text finds nothing, there are no 66 lines
pub no_lines_in : (text : List ℕ) (room : ℕ) → length text ≤ room → search_head 0 false true false (take room text) ≡ Nothing → HasLines 66 text → ⊥
no_lines_in text room all none many =
    let found = many_found text [] many in
    let other = ap (search_head 0 false true false) (append-nil text ∙ sym (take_all room text all)) ∙ none in
    absurd cc

-- no end within 16,384 bytes
pub no_end : (text : List ℕ) (room : ℕ) → room ≡ min (length text) 16384 → search_head 0 false true false (take room text) ≡ Nothing
    → 16384 ≤ length text → HasNoEnd text
no_end text room is none long = record {
  long = long;
  none = λ head rest ends short e. no_head_at text room is none head rest (record {
    ends = ends;
    short = short;
    few = λ many.
        let cut = front_cut text head rest room is short e in
        let more = ap (search_head 0 false true false) cut ∙ many_found head (drop (length head) (take room text)) many in
        absurd cc;
    is = e;
  });
}

-- ---- empty lines

pub blank_has_no_head : (text head rest : List ℕ) → IsBlank text → HeadAt text head rest → ⊥
blank_has_no_head text head rest (es, is, short) at =
    let found = ap (search_head 0 false true false) (sym (append-nil text) ∙ ap (λ (l : List ℕ). l ++ []) is) ∙ past_blank es [] in
    let other = ap (search_head 0 false true false) at.is ∙ head_found head rest at.ends at.few in
    absurd cc

pub blank_has_no_lines : (text : List ℕ) → IsBlank text → HasLines 66 text → ⊥
blank_has_no_lines text (es, is, short) many =
    let found = ap (search_head 0 false true false) (sym (append-nil text) ∙ ap (λ (l : List ℕ). l ++ []) is) ∙ past_blank es [] in
    let other = ap (search_head 0 false true false) (sym (append-nil text)) ∙ many_found text [] many in
    absurd cc

only_ends_blank : (es : List LineEnd) → only_ends false (print_blank es) ≡ true
only_ends_blank [] = refl
only_ends_blank (crlf ∷ es) = only_ends_blank es
only_ends_blank (lf ∷ es) = only_ends_blank es

pub not_blank : (text : List ℕ) → only_ends false text ≡ false → IsBlank text → ⊥
not_blank text e (es, is, short) = let yes = ap (only_ends false) is ∙ only_ends_blank es in absurd cc

-- ---- heads of requests

-- a head is of one request
pub head_of_once : (head : List ℕ) (h k : RequestHead) → IsHeadOf head h → IsHeadOf head k → h ≡ k
head_of_once head h k p q =
    (request_unique head h k [] [] (p.valid, p.is ∙ sym (append-nil (print_request h))) (q.valid, q.is ∙ sym (append-nil (print_request k)))).0

pub numeral_once : (digits : List ℕ) (n m : ℕ) → IsNumeral digits n → IsNumeral digits m → n ≡ m
numeral_once digits n m p q = p.is ∙ sym q.is

pub length_once : (values : List (List ℕ)) (n m : ℕ) → IsLength values n → IsLength values m → n ≡ m
length_once [] n m p q = p ∙ sym q
length_once (digits ∷ values) n m p q = numeral_once digits n m p.0 q.0

-- ---- what the text is

no_fault_head : (text : List ℕ) → ((head rest : List ℕ) → HeadAt text head rest → ⊥) → (HasLines 66 text → ⊥) → length text < 16384
    → (w : WireFault) → IsFault w text → ⊥
no_fault_head text none few short HeadTooLarge (inl f) = absurd (omega (arith, f.long, short))
no_fault_head text none few short HeadTooLarge (inr f) = few f
no_fault_head text none few short BadHead f = none f.0 f.1 f.2.at
no_fault_head text none few short Coding f = none f.0 f.1 f.3.at
no_fault_head text none few short BadLength f = none f.0 f.1 f.3.at
no_fault_head text none few short BodyTooLarge f = none f.0 f.1 f.3.at

-- The faults exclude a served head.
pub no_fault_body : (text head rest : List ℕ) (h : RequestHead) (n : ℕ) → HeadAt text head rest → IsServedHead head h n
    → (w : WireFault) → IsFault w text → ⊥
no_fault_body text head rest h n at served HeadTooLarge (inl f) = f.none head rest at.ends at.short at.is
no_fault_body text head rest h n at served HeadTooLarge (inr f) = no_lines_at text head rest at f
no_fault_body text head rest h n at served BadHead f =
    f.2.bad h (subst (λ (l : List ℕ). IsHeadOf l h) (head_at_once text head f.0 rest f.1 at f.2.at).0 served.of)
no_fault_body text head rest h n at served Coding f =
    let same = head_of_once f.0 h f.2 (subst (λ (l : List ℕ). IsHeadOf l h) (head_at_once text head f.0 rest f.1 at f.3.at).0 served.of) f.3.of in
    absurd (omega (arith, f.3.holds, ap (λ (r : RequestHead). length (codings_of r)) same, ap length served.uncoded))
no_fault_body text head rest h n at served BadLength f =
    let same = head_of_once f.0 h f.2 (subst (λ (l : List ℕ). IsHeadOf l h) (head_at_once text head f.0 rest f.1 at f.3.at).0 served.of) f.3.of in
    f.3.holds.1 n (subst (λ (r : RequestHead). IsLength (lengths_of r) n) same served.size)
no_fault_body text head rest h n at served BodyTooLarge f =
    let same = head_of_once f.0 h f.2 (subst (λ (l : List ℕ). IsHeadOf l h) (head_at_once text head f.0 rest f.1 at f.3.at).0 served.of) f.3.of in
    let number = length_once (lengths_of h) n f.3.holds.1.0 served.size (subst (λ (r : RequestHead). IsLength (lengths_of r) f.3.holds.1.0) (sym same) f.3.holds.1.1) in
    absurd (omega (arith, number, served.fits, f.3.holds.1.2))

-- no head yet, and fewer than the most bytes of a head
pub unfinished_head : (text : List ℕ) → ((head rest : List ℕ) → HeadAt text head rest → ⊥) → (HasLines 66 text → ⊥) → length text < 16384
    → (IsBlank text → ⊥) → IsUnfinished text
unfinished_head text none few short some = record {
  request = λ number request rest is. none is.0 _ is.3.at;
  fault = no_fault_head text none few short;
  blank = some;
}

-- a served head, and less than its body
pub unfinished_body : (text head rest : List ℕ) (h : RequestHead) (n : ℕ) → HeadAt text head rest → IsServedHead head h n
    → length rest < n → IsUnfinished text
unfinished_body text head rest h n at served short = record {
  request = λ number request tail is.
      let same = head_at_once text head is.0 rest (is.2 ++ tail) at is.3.at in
      let one = head_of_once is.0 h is.1 (subst (λ (l : List ℕ). IsHeadOf l h) same.0 served.of) is.3.served.of in
      let number : n ≡ length is.2 = length_once (lengths_of h) n (length is.2) served.size
      (subst (λ (r : RequestHead). IsLength (lengths_of r) (length is.2)) (sym one) is.3.served.size) in
      absurd (omega (arith, short, number, ap length same.1, length-append is.2 tail));
  fault = no_fault_body text head rest h n at served;
  blank = λ b. blank_has_no_head text head rest b at;
}

-- a head at the front that is refused
pub fault_at : (text head rest : List ℕ) (w : WireFault) → HeadAt text head rest → IsHeadFault head w → IsFault w text
fault_at text head rest BadHead at bad = (head, rest, record { at = at; bad = bad })
fault_at text head rest HeadTooLarge at none = absurd none
fault_at text head rest Coding at (h, of', holds) = (head, rest, h, record { at = at; of = of'; holds = holds })
fault_at text head rest BadLength at (h, of', holds) = (head, rest, h, record { at = at; of = of'; holds = holds })
fault_at text head rest BodyTooLarge at (h, of', holds) = (head, rest, h, record { at = at; of = of'; holds = holds })
