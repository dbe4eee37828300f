-- A stream spells its requests in one way.
use Rattle.std.proofs.Common.{◌≡◌, ℕ, ◌+◌, ◌<◌, true, false, List, [], ◌∷◌, ◌++◌, length, take, refl, sym, ◌∙◌, ap, subst, arith, inl, inr}
use Rattle.std.specs.Prelude.{◌⊎◌}
use Rattle.std.proofs.lemmas.List.{append_cancel_left, take_at}
use Rattle.http_wire.specs.declared.request.WireFault.{WireFault}
use Rattle.http_wire.specs.declared.request.WireFault.TheVariants.{BadHead, HeadTooLarge, BodyTooLarge, Coding, BadLength}
use Rattle.httparse.specs.Grammar.{RequestHead}
use Rattle.http_wire.specs.HeadLines.{is_last, IsHeadOf, IsLength, lengths_of, codings_of}
use Rattle.http_wire.specs.HeadRead.{IsHeadFault}
use Rattle.http_wire.specs.Requests.{RequestText, request_of, HasNoEnd, HeadAt, IsRequest, IsFault, IsBlank, Rest, empty, unfinished, closed, refused, IsRest, Spells}
use Rattle.http_wire.proofs.Fronts.{head_at_once, head_of_once, length_once, no_fault_body, no_lines_at, blank_has_no_head, blank_has_no_lines}

-- one request stands at the front
pub request_once : (number : ℕ) (stream : List ℕ) (a b : RequestText) (x y : List ℕ) → IsRequest number stream a x → IsRequest number stream b y
    → (a ≡ b) × (x ≡ y)
request_once number stream a b x y (head, h, body, p) (head', h', body', q) =
    let heads = head_at_once stream head head' (body ++ x) (body' ++ y) p.at q.at in
    let same : h ≡ h' = head_of_once head' h h' (subst (λ (l : List ℕ). IsHeadOf l h) heads.0 p.served.of) q.served.of in
    let sizes : length body ≡ length body' = length_once (lengths_of h') (length body) (length body')
    (subst (λ (r : RequestHead). IsLength (lengths_of r) (length body)) same p.served.size) q.served.size in
    let bodies : body ≡ body' =
    sym (take_at body x (length body) refl) ∙ ap (take (length body)) heads.1 ∙ take_at body' y (length body) (sym sizes) in
    let rests : x ≡ y = append_cancel_left body' x y (ap (λ (l : List ℕ). l ++ x) (sym bodies) ∙ heads.1) in
    (p.is ∙ ap (λ (r : RequestHead). request_of r body (is_last number r)) same ∙ ap (λ (l : List ℕ). request_of h' l (is_last number h')) bodies ∙ sym q.is, rests)

-- a request excludes a fault and empty lines
request_no_fault : (number : ℕ) (stream : List ℕ) (a : RequestText) (x : List ℕ) (w : WireFault) → IsRequest number stream a x → IsFault w stream → ⊥
request_no_fault number stream a x w (head, h, body, p) f = no_fault_body stream head (body ++ x) h (length body) p.at p.served w f

request_no_blank : (number : ℕ) (stream : List ℕ) (a : RequestText) (x : List ℕ) → IsRequest number stream a x → IsBlank stream → ⊥
request_no_blank number stream a x (head, h, body, p) b = blank_has_no_head stream head (body ++ x) b p.at

-- what follows from a fault: no head, or one head and what it says
head_fault : (stream head rest : List ℕ) (w : WireFault) → HeadAt stream head rest → IsFault w stream → IsHeadFault head w
head_fault stream head rest HeadTooLarge at (inl f) = f.none head rest at.ends at.short at.is
head_fault stream head rest HeadTooLarge at (inr f) = no_lines_at stream head rest at f
head_fault stream head rest BadHead at (head', rest', f) =
    subst (λ (l : List ℕ). (h : RequestHead) → IsHeadOf l h → ⊥) (head_at_once stream head' head rest' rest f.at at).0 f.bad
head_fault stream head rest Coding at (head', rest', h, f) =
    (h, subst (λ (l : List ℕ). IsHeadOf l h) (head_at_once stream head' head rest' rest f.at at).0 f.of, f.holds)
head_fault stream head rest BadLength at (head', rest', h, f) =
    (h, subst (λ (l : List ℕ). IsHeadOf l h) (head_at_once stream head' head rest' rest f.at at).0 f.of, f.holds)
head_fault stream head rest BodyTooLarge at (head', rest', h, f) =
    (h, subst (λ (l : List ℕ). IsHeadOf l h) (head_at_once stream head' head rest' rest f.at at).0 f.of, f.holds)

module _ (head : List ℕ) where
  coded : (h k : RequestHead) → IsHeadOf head h → IsHeadOf head k → 0 < length (codings_of h) → codings_of k ≡ [] → ⊥
  coded h k p q some none =
      absurd (omega (arith, some, ap (λ (r : RequestHead). length (codings_of r)) (head_of_once head h k p q), ap length none))

  sized : (h k : RequestHead) (n : ℕ) → IsHeadOf head h → IsHeadOf head k → ((m : ℕ) → IsLength (lengths_of h) m → ⊥) → IsLength (lengths_of k) n → ⊥
  sized h k n p q none size = none n (subst (λ (r : RequestHead). IsLength (lengths_of r) n) (head_of_once head k h q p) size)

  -- a head has one fault
  head_fault_once : (v w : WireFault) → IsHeadFault head v → IsHeadFault head w → v ≡ w
  head_fault_once HeadTooLarge w f g = absurd f
  head_fault_once v HeadTooLarge f g = absurd g
  head_fault_once BadHead BadHead f g = refl
  head_fault_once Coding Coding f g = refl
  head_fault_once BadLength BadLength f g = refl
  head_fault_once BodyTooLarge BodyTooLarge f g = refl
  head_fault_once BadHead Coding f (h, of', g) = absurd (f h of')
  head_fault_once BadHead BadLength f (h, of', g) = absurd (f h of')
  head_fault_once BadHead BodyTooLarge f (h, of', g) = absurd (f h of')
  head_fault_once Coding BadHead (h, of', f) g = absurd (g h of')
  head_fault_once BadLength BadHead (h, of', f) g = absurd (g h of')
  head_fault_once BodyTooLarge BadHead (h, of', f) g = absurd (g h of')
  head_fault_once Coding BadLength (h, p, f) (k, q, g) = absurd (coded h k p q f g.0)
  head_fault_once Coding BodyTooLarge (h, p, f) (k, q, g) = absurd (coded h k p q f g.0)
  head_fault_once BadLength Coding (h, p, f) (k, q, g) = absurd (coded k h q p g f.0)
  head_fault_once BodyTooLarge Coding (h, p, f) (k, q, g) = absurd (coded k h q p g f.0)
  head_fault_once BadLength BodyTooLarge (h, p, f) (k, q, g) = absurd (sized h k g.1.0 p q f.1 g.1.1)
  head_fault_once BodyTooLarge BadLength (h, p, f) (k, q, g) = absurd (sized k h f.1.0 q p g.1 f.1.1)

no_end_no_head : (stream head rest : List ℕ) → HasNoEnd stream → HeadAt stream head rest → ⊥
no_end_no_head stream head rest f at = f.none head rest at.ends at.short at.is

-- a head that a fault names, where it names one
too_large_other : (stream : List ℕ) (w : WireFault) → IsFault HeadTooLarge stream → IsFault w stream → HeadTooLarge ≡ w
too_large_other stream HeadTooLarge f g = refl
too_large_other stream BadHead (inl f) g = absurd (no_end_no_head stream g.0 g.1 f g.2.at)
too_large_other stream BadHead (inr f) g = absurd (no_lines_at stream g.0 g.1 g.2.at f)
too_large_other stream Coding (inl f) g = absurd (no_end_no_head stream g.0 g.1 f g.3.at)
too_large_other stream Coding (inr f) g = absurd (no_lines_at stream g.0 g.1 g.3.at f)
too_large_other stream BadLength (inl f) g = absurd (no_end_no_head stream g.0 g.1 f g.3.at)
too_large_other stream BadLength (inr f) g = absurd (no_lines_at stream g.0 g.1 g.3.at f)
too_large_other stream BodyTooLarge (inl f) g = absurd (no_end_no_head stream g.0 g.1 f g.3.at)
too_large_other stream BodyTooLarge (inr f) g = absurd (no_lines_at stream g.0 g.1 g.3.at f)

with_head : (stream head rest : List ℕ) (v w : WireFault) → HeadAt stream head rest → IsFault v stream → IsFault w stream → v ≡ w
with_head stream head rest v w at f g =
    head_fault_once head v w (head_fault stream head rest v at f) (head_fault stream head rest w at g)

-- The faults exclude one another.
pub fault_once : (stream : List ℕ) (v w : WireFault) → IsFault v stream → IsFault w stream → v ≡ w
fault_once stream HeadTooLarge w f g = too_large_other stream w f g
fault_once stream BadHead w f g = with_head stream f.0 f.1 BadHead w f.2.at f g
fault_once stream Coding w f g = with_head stream f.0 f.1 Coding w f.3.at f g
fault_once stream BadLength w f g = with_head stream f.0 f.1 BadLength w f.3.at f g
fault_once stream BodyTooLarge w f g = with_head stream f.0 f.1 BodyTooLarge w f.3.at f g

-- empty lines are no fault
blank_no_fault : (stream : List ℕ) (w : WireFault) → IsBlank stream → IsFault w stream → ⊥
blank_no_fault stream HeadTooLarge b (inl f) = absurd (omega (arith, f.long, b.2))
blank_no_fault stream HeadTooLarge b (inr f) = blank_has_no_lines stream b f
blank_no_fault stream BadHead b f = blank_has_no_head stream f.0 f.1 b f.2.at
blank_no_fault stream Coding b f = blank_has_no_head stream f.0 f.1 b f.3.at
blank_no_fault stream BadLength b f = blank_has_no_head stream f.0 f.1 b f.3.at
blank_no_fault stream BodyTooLarge b f = blank_has_no_head stream f.0 f.1 b f.3.at

-- the rest of a stream is one
rest_once : (stream : List ℕ) (a b : Rest) → IsRest stream a → IsRest stream b → a ≡ b
rest_once stream empty empty p q = refl
rest_once stream unfinished unfinished p q = refl
rest_once stream closed b p q = absurd p
rest_once stream a closed p q = absurd q
rest_once stream (refused v) (refused w) p q = ap (λ (f : WireFault). refused f) (fault_once stream v w p q)
rest_once stream empty unfinished p q = absurd (q.blank p)
rest_once stream unfinished empty p q = absurd (p.blank q)
rest_once stream unfinished (refused w) p q = absurd (p.fault w q)
rest_once stream (refused v) unfinished p q = absurd (q.fault v p)
rest_once stream empty (refused w) p q = absurd (blank_no_fault stream w p q)
rest_once stream (refused v) empty p q = absurd (blank_no_fault stream v q p)

request_no_rest : (number : ℕ) (stream : List ℕ) (r : RequestText) (next : List ℕ) (rest : Rest) → IsRequest number stream r next → IsRest stream rest → ⊥
request_no_rest number stream r next empty p q = request_no_blank number stream r next p q
request_no_rest number stream r next unfinished p q = q.request number r next p
request_no_rest number stream r next closed p q = q
request_no_rest number stream r next (refused w) p q = request_no_fault number stream r next w p q

-- A stream spells one list of requests and one rest.
pub spells_once : (xs ys : List RequestText) (number : ℕ) (stream : List ℕ) (a b : Rest) → Spells number stream xs a → Spells number stream ys b
    → (xs ≡ ys) × (a ≡ b)
spells_once [] [] number stream a b p q = (refl, rest_once stream a b p q)
spells_once [] (r ∷ ys) number stream a b p (next, is, more) = absurd (request_no_rest number stream r next a is p)
spells_once (r ∷ xs) [] number stream a b (next, is, more) q = absurd (request_no_rest number stream r next b is q)
spells_once (r ∷ xs) (s ∷ ys) number stream a b (next, is, more) (next', is', more') =
    let one = request_once number stream r s next next' is is' in
    by_last more (subst (λ (n : List ℕ). ((r.last ≡ true) × (ys ≡ []) × (b ≡ closed)) ⊎ ((r.last ≡ false) × Spells (number + 1) n ys b)) (sym one.1)
    (subst (λ (t : RequestText). ((t.last ≡ true) × (ys ≡ []) × (b ≡ closed)) ⊎ ((t.last ≡ false) × Spells (number + 1) next' ys b)) (sym one.0) more'))
    one.0 (λ p q. spells_once xs ys (number + 1) next a b p q)
  where
    by_last : ((r.last ≡ true) × (xs ≡ []) × (a ≡ closed)) ⊎ ((r.last ≡ false) × Spells (number + 1) next xs a)
        → ((r.last ≡ true) × (ys ≡ []) × (b ≡ closed)) ⊎ ((r.last ≡ false) × Spells (number + 1) next ys b)
        → r ≡ s → (Spells (number + 1) next xs a → Spells (number + 1) next ys b → (xs ≡ ys) × (a ≡ b))
        → (r ∷ xs ≡ s ∷ ys) × (a ≡ b)
    by_last (inl (last, none, is1)) (inl (last', none', is2)) same later = (cc, is1 ∙ sym is2)
    by_last (inl (last, none, is1)) (inr (last', rest)) same later = absurd cc
    by_last (inr (last, rest)) (inl (last', none', is2)) same later = absurd cc
    by_last (inr (last, rest)) (inr (last', rest')) same later =
        let both = later rest rest' in (let e = both.0 in cc, both.1)
