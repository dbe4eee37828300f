-- Requests one after the other on a stream.
use Rattle.std.proofs.Common.{◌≡◌, ℕ, ◌+◌, ◌≤◌, Bool, true, false, List, [], ◌∷◌, ◌++◌, length, take, drop, refl, sym, ◌∙◌, ap, subst, arith, append_assoc, inl, inr}
use Rattle.std.specs.Prelude.{◌==◌, ◌||◌}
use Rattle.std.proofs.lemmas.Bool.Decides.{Decides-eqb}
use Rattle.http_wire.specs.HeadLines.{is_last, closes_in, lines_of}
use Rattle.std.proofs.lemmas.List.{length-append, take_at, take-append-le, take-append-drop}
use Rattle.http_wire.proofs.RequestHeads.{lines_longer}
use Rattle.http_wire.specs.declared.request.WireFault.{WireFault}
use Rattle.http_wire.specs.declared.request.WireFault.TheVariants.{BadHead, HeadTooLarge, BodyTooLarge, Coding, BadLength}
use Rattle.http_wire.specs.Requests.{RequestText, HeadAt, IsRequest, IsFault, IsRest, Rest, closed, refused, Spells, Begins, AreOpen}

-- what stands at the front stands there whatever follows
pub head_longer : (stream head rest more : List ℕ) → HeadAt stream head rest → HeadAt (stream ++ more) head (rest ++ more)
head_longer stream head rest more at = record {
  ends = at.ends;
  short = at.short;
  few = at.few;
  is = ap (λ (l : List ℕ). l ++ more) at.is ∙ append_assoc head rest more;
}

pub request_longer : (number : ℕ) (stream : List ℕ) (request : RequestText) (rest more : List ℕ)
    → IsRequest number stream request rest → IsRequest number (stream ++ more) request (rest ++ more)
request_longer number stream request rest more (head, h, body, with') = (
  head,
  h,
  body,
  record {
    at = subst (λ (l : List ℕ). HeadAt (stream ++ more) head l) (append_assoc body rest more)
        (head_longer stream head (body ++ rest) more with'.at);
    served = with'.served;
    is = with'.is;
  },
)

pub begins_longer : (requests : List RequestText) (number : ℕ) (stream tail more : List ℕ)
    → Begins number stream requests tail → Begins number (stream ++ more) requests (tail ++ more)
begins_longer [] number stream tail more e = ap (λ (l : List ℕ). l ++ more) e
begins_longer (r ∷ requests) number stream tail more (next, is, rest) =
    (next ++ more, request_longer number stream r next more is, begins_longer requests (number + 1) next tail more rest)

-- one request more
pub begins_more : (requests : List RequestText) (number n : ℕ) (stream tail : List ℕ) (request : RequestText) (next : List ℕ)
    → n ≡ number + length requests → Begins number stream requests tail → IsRequest n tail request next
    → Begins number stream (requests ++ request ∷ []) next
begins_more [] number n stream tail request next e begins is =
    let same : n ≡ number = omega (arith, e) in
    (next, subst (λ (k : ℕ). IsRequest k stream request next) same (subst (λ (l : List ℕ). IsRequest n l request next) (sym begins) is), refl)
begins_more (r ∷ requests) number n stream tail request next e (mid, first, begins) is =
    (mid, first, begins_more requests (number + 1) n mid tail request next (omega (arith, e)) begins is)

-- The stream spells requests that begin it, and then what its tail is.
pub spells_open : (requests : List RequestText) (number : ℕ) (stream tail : List ℕ) (rest : Rest)
    → Begins number stream requests tail → AreOpen requests → IsRest tail rest → Spells number stream requests rest
spells_open [] number stream tail rest begins open' is = subst (λ (l : List ℕ). IsRest l rest) (sym begins) is
spells_open (r ∷ requests) number stream tail rest (next, first, begins) open' is =
    (next, first, inr (open'.0, spells_open requests (number + 1) next tail rest begins open'.1 is))

pub spells_last : (requests : List RequestText) (number n : ℕ) (stream tail : List ℕ) (request : RequestText) (next : List ℕ)
    → n ≡ number + length requests → Begins number stream requests tail → AreOpen requests
    → IsRequest n tail request next → request.last ≡ true → Spells number stream (requests ++ request ∷ []) closed
spells_last [] number n stream tail request next e begins open' is last =
    let same : n ≡ number = omega (arith, e) in (
      next,
      subst (λ (k : ℕ). IsRequest k stream request next) same (subst (λ (l : List ℕ). IsRequest n l request next) (sym begins) is),
      inl (last, refl, refl),
    )
spells_last (r ∷ requests) number n stream tail request next e (mid, first, begins) open' is last =
    (mid, first, inr (open'.0, spells_last requests (number + 1) n mid tail request next (omega (arith, e)) begins open'.1 is last))

-- ---- a stream that has ended goes on

pub fault_longer : (fault : WireFault) (stream more : List ℕ) → IsFault fault stream → IsFault fault (stream ++ more)
fault_longer HeadTooLarge stream more (inl f) = inl (record {
  long = omega (arith, f.long, length-append stream more);
  none = λ head rest ends short e.
      let fits : length head ≤ length stream = omega (arith, f.long, short) in
      let front : head ≡ take (length head) stream =
      sym (take_at head rest (length head) refl) ∙ ap (take (length head)) (sym e) ∙ take-append-le (length head) stream more fits in
      f.none head (drop (length head) stream) ends short
      (sym (take-append-drop (length head) stream) ∙ ap (λ (l : List ℕ). l ++ drop (length head) stream) (sym front));
})
fault_longer HeadTooLarge stream more (inr f) = inr (lines_longer stream more f)
fault_longer BadHead stream more (head, rest, f) =
    (head, rest ++ more, record { at = head_longer stream head rest more f.at; bad = f.bad })
fault_longer Coding stream more (head, rest, h, f) =
    (head, rest ++ more, h, record { at = head_longer stream head rest more f.at; of = f.of; holds = f.holds })
fault_longer BadLength stream more (head, rest, h, f) =
    (head, rest ++ more, h, record { at = head_longer stream head rest more f.at; of = f.of; holds = f.holds })
fault_longer BodyTooLarge stream more (head, rest, h, f) =
    (head, rest ++ more, h, record { at = head_longer stream head rest more f.at; of = f.of; holds = f.holds })

pub spells_longer : (requests : List RequestText) (number : ℕ) (stream more : List ℕ) (fault : WireFault)
    → Spells number stream requests (refused fault) → Spells number (stream ++ more) requests (refused fault)
spells_longer [] number stream more fault is = fault_longer fault stream more is
spells_longer (r ∷ requests) number stream more fault (next, first, inl (last, none, rest)) =
    (next ++ more, request_longer number stream r next more first, inl (last, none, rest))
spells_longer (r ∷ requests) number stream more fault (next, first, inr (last, rest)) =
    (next ++ more, request_longer number stream r next more first, inr (last, spells_longer requests (number + 1) next more fault rest))

pub closed_longer : (requests : List RequestText) (number : ℕ) (stream more : List ℕ)
    → Spells number stream requests closed → Spells number (stream ++ more) requests closed
closed_longer [] number stream more is = is
closed_longer (r ∷ requests) number stream more (next, first, inl (last, none, rest)) =
    (next ++ more, request_longer number stream r next more first, inl (last, none, rest))
closed_longer (r ∷ requests) number stream more (next, first, inr (last, rest)) =
    (next ++ more, request_longer number stream r next more first, inr (last, closed_longer requests (number + 1) next more rest))

or_true : (b : Bool) → (b || true) ≡ true
or_true true = refl
or_true false = refl

-- request 65,536 is the last
pub number_is_last : (number : ℕ) (stream : List ℕ) (request : RequestText) (rest : List ℕ) → IsRequest number stream request rest
    → number ≡ 65536 → request.last ≡ true
unfolding is_last
number_is_last number stream request rest (head, h, body, p) e =
    ap (λ (r : RequestText). r.last) p.is
    ∙ ap (λ (b : Bool). (h.minor == 0) || closes_in (lines_of h) || b) ((Decides-eqb number 65536).1 e)
    ∙ or_true ((h.minor == 0) || closes_in (lines_of h))
