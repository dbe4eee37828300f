-- A worker's bytes spell its requests, one for each leg that they ask for.
use Rattle.std.proofs.Common.{◌≡◌, ◌∙◌, ℕ, zero, suc, ◌+◌, ◌≤◌, ◌<◌, ◌++◌, List, [], ◌∷◌, inr, refl, sym, ap, subst, arith, append_assoc, append-nil}
use Rattle.http_wire.specs.Requests.{RequestText, empty, IsRequest, Spells}
use Rattle.host_drill.specs.Generator.{drill_leg, request_bytes, requests_from}
use Rattle.host_drill.proofs.DrillHead.{text_with, is_request}
use Rattle.host_drill.proofs.DrillBody.{body_bytes, body_size, request_split}

-- the request for a leg
abbrev pub request_for : ℕ → RequestText
request_for leg = text_with (body_bytes leg)

-- so many requests, of which the first has this number
abbrev pub requests_for : ℕ → ℕ → ℕ → List RequestText
requests_for seed k zero = []
requests_for seed k (suc n) = request_for (drill_leg seed k) ∷ requests_for seed (k + 1) n

-- the first of the requests stands at the front
first_bytes : (n seed k : ℕ) → requests_from seed k (suc n) ≡ request_bytes (drill_leg seed k) ++ requests_from seed (k + 1) n
first_bytes zero seed k =
    ap (λ (j : ℕ). request_bytes (drill_leg seed j)) (let e : k + 0 ≡ k = omega arith in e)
    ∙ sym (append-nil (request_bytes (drill_leg seed k)))
first_bytes (suc n) seed k =
    let same : k + suc n ≡ (k + 1) + n = omega arith in
    ap (λ (l : List ℕ). l ++ request_bytes (drill_leg seed (k + suc n))) (first_bytes n seed k)
    ∙ ap (λ (j : ℕ). (request_bytes (drill_leg seed k) ++ requests_from seed (k + 1) n) ++ request_bytes (drill_leg seed j)) same
    ∙ append_assoc (request_bytes (drill_leg seed k)) (requests_from seed (k + 1) n) (request_bytes (drill_leg seed ((k + 1) + n)))

at_front : (number leg : ℕ) (stream tail : List ℕ) → stream ≡ request_bytes leg ++ tail → number < 65536 → IsRequest number stream (request_for leg) tail
at_front number leg stream tail is few =
    subst (λ (s : List ℕ). IsRequest number s (request_for leg) tail) (sym (is ∙ request_split leg tail))
    (is_request number (body_bytes leg) tail (body_size leg) few)

pub spells : (n number seed k : ℕ) → number + n ≤ 65536 → Spells number (requests_from seed k n) (requests_for seed k n) empty
spells zero number seed k few = ([], refl, omega arith)
spells (suc n) number seed k few = (
  requests_from seed (k + 1) n,
  at_front number (drill_leg seed k) (requests_from seed k (suc n)) (requests_from seed (k + 1) n) (first_bytes n seed k) (omega (arith, few)),
  inr (refl, spells n (number + 1) seed (k + 1) (omega (arith, few))),
)
