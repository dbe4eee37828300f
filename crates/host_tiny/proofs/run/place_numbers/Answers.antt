use Rattle.std.proofs.Common.{◌≡◌, ℕ, zero, suc, ◌+◌, List, [], ◌∷◌, ◌++◌, map, sym, ap, ◌∙◌, arith}
use Rattle.std.specs.List.{range_with_len}
use mathlib.Core.List.{map-append}
use Rattle.hold_core.specs.Tries.{place_number}
use Rattle.host_tiny.proofs.run.place_numbers.Goals as goal

one_more : (a n : ℕ) → range_with_len a (suc n) ≡ range_with_len a n ++ (a + n) ∷ []
one_more a zero = ap (λ (k : ℕ). k ∷ []) (let e : a ≡ a + 0 = omega arith in e)
one_more a (suc n) =
    ap (λ (l : List ℕ). a ∷ l)
    (one_more (a + 1) n ∙ ap (λ (k : ℕ). range_with_len (a + 1) n ++ k ∷ []) (let e : a + 1 + n ≡ a + suc n = omega arith in e))

pub loop-number-preserved : goal.loop-number-preserved
loop-number-preserved c =
    let n = c.loop-number.number in
    let next : suc n ≡ n + 1 = omega arith in
    let here : c.from-in-loop-number.result ≡ 0 + n = omega (arith, c.from-in-loop-number.ensures) in
    ap (map place_number) c.in_ok-push.ensures.items
    ∙ (map-append place_number c.loop-number.places.items (record { 0 = c.from-in-loop-number.result } ∷ [])
    ∙ (ap (λ (l : List ℕ). l ++ c.from-in-loop-number.result ∷ []) c.loop-number.invariant
    ∙ (ap (λ (k : ℕ). range_with_len 0 n ++ k ∷ []) here ∙ (sym (one_more 0 n) ∙ ap (range_with_len 0) next))))

pub returns : goal.returns
returns c =
    let all : c.loop-number.number ≡ c.args.count = omega arith in
    c.loop-number.invariant ∙ ap (range_with_len 0) all
