-- Rising numbers of which the last is as far from the first as the list is long are a row.
use Rattle.std.proofs.Common.{◌≡◌, ◌∙◌, ℕ, zero, suc, ◌+◌, ◌-◌, ◌==◌, ◌<◌, false, ◌≤◌, All, List, [], ◌∷◌, length, get_or, refl, ap, subst, arith}
use Rattle.std.proofs.lemmas.Bool.Decides.{nat_tests}
use Rattle.rail_ids.specs.declared.PlaceNo.{PlaceNo}
use Rattle.place_map.specs.Candidates.{AreRising}
use Rattle.availability.specs.Looks.{row_from}

last_at_least : (n : PlaceNo) (xs : List PlaceNo) (d : PlaceNo) → AreRising (n.0 + 1) xs → n.0 + length xs ≤ (get_or (n ∷ xs) (length xs) d).0
last_at_least n [] d h = omega arith
last_at_least n (m ∷ xs) d h = let more = last_at_least m xs d h.1 in omega (arith, more, h.0)

row_of : (n : PlaceNo) (xs : List PlaceNo) (d : PlaceNo) → AreRising (n.0 + 1) xs → (get_or (n ∷ xs) (length xs) d).0 ≡ n.0 + length xs → n ∷ xs ≡ row_from n.0 (suc (length xs))
row_of n [] d h e = refl
row_of n (m ∷ xs) d h e =
    let more = last_at_least m xs d h.1 in
    let next : m.0 ≡ n.0 + 1 = omega (arith, more, h.0, e) in
    let last : (get_or (m ∷ xs) (length xs) d).0 ≡ m.0 + length xs = omega (arith, more, h.0, e) in
    ap (λ (l : List PlaceNo). n ∷ l) (row_of m xs d h.1 last ∙ ap (λ (k : ℕ). row_from k (suc (length xs))) next)

pub are_in_row : (least : ℕ) (xs : List PlaceNo) (d : PlaceNo) → AreRising least xs → 0 < length xs → (get_or xs (length xs - 1) d).0 ≡ (get_or xs 0 d).0 + (length xs - 1)
    → xs ≡ row_from (get_or xs 0 d).0 (length xs)
are_in_row least [] d h some e = absurd (omega (arith, some))
are_in_row least (n ∷ xs) d h some e =
    let less : suc (length xs) - 1 ≡ length xs = omega arith in
    row_of n xs d h.1 (subst (λ (k : ℕ). (get_or (n ∷ xs) k d).0 ≡ n.0 + k) less e)

last_in_row : (first k : ℕ) (d : PlaceNo) → (get_or (row_from first (suc k)) k d).0 ≡ first + k
last_in_row first zero d = omega arith
last_in_row first (suc k) d = let e = last_in_row (first + 1) k d in omega (arith, e)

-- a row that is within lies there up to its end
pub row_within : (first n : ℕ) (xs : List PlaceNo) → xs ≡ row_from first (length xs) → 0 < length xs → All (λ p. p.0 < n) xs → first + length xs ≤ n
row_within first n xs is some within =
    let none : PlaceNo = record { 0 = 0 } in
    let k = length xs - 1 in
    let e : length xs ≡ suc k = omega (arith, some) in
    let at : (get_or xs k none).0 ≡ first + k = ap (λ (l : List PlaceNo). (get_or l k none).0) (is ∙ ap (row_from first) e) ∙ last_in_row first k none in
    let below : (get_or xs k none).0 < n = within k none (omega (arith, some)) in
    omega (arith, at, below, some)

pub above_none : (n : ℕ) → (n == 0) ≡ false → 0 < n
above_none n e = grind (arith, nat_tests)
