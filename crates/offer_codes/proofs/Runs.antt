-- The numbers of a text of marked numbers.
use Rattle.std.proofs.Common.{◌≡◌, ℕ, ◌<◌, ◌≤◌, ◌^◌, ◌+◌, ◌-◌, ◌*◌, ◌/◌, ◌%◌, min, List, [], ◌∷◌, ◌++◌, Some, None, true, false, decimal, map, refl, ap, ◌∙◌, arith, append_assoc}
use Rattle.std.specs.List.{AllByRecursion}
use Rattle.std.proofs.lemmas.Fmt.{decimal_by_steps}
use Rattle.std.proofs.lemmas.Bool.Decides.{nat_tests}
use Rattle.offer_codes.specs.Marked.{marked, is_digit, numbers_in}

-- after a number's digits the text goes on with that number
abbrev GathersAt : ℕ → List ℕ → Type 0
GathersAt n ds = n < 2 ^ 64 → (rest : List ℕ) → numbers_in None (ds ++ rest) ≡ numbers_in (Some n) rest

digit_test : (d : ℕ) → d < 10 → is_digit (48 + d) ≡ true
digit_test d h = grind (arith, nat_tests)

one : (n : ℕ) → n < 10 → GathersAt n ((48 + n) ∷ [])
one n h fits rest =
    let same : 48 + n - 48 ≡ n = omega arith in
    rw (digit_test n h, same) refl

more : (n : ℕ) (ds : List ℕ) → 10 ≤ n → GathersAt (n / 10) ds → GathersAt n (ds ++ ((48 + n % 10) ∷ []))
more n ds big before fits rest =
    let digit : n % 10 < 10 = omega arith in
    let same : min (n / 10 * 10 + (48 + n % 10 - 48)) 18_446_744_073_709_551_615 ≡ n = omega arith in
    rw (append_assoc, before (omega arith) ((48 + n % 10) ∷ rest), digit_test (n % 10) digit, same) refl

pub numbers_in-decimal : (n : ℕ) → n < 2 ^ 64 → (rest : List ℕ) → numbers_in None (decimal n ++ rest) ≡ numbers_in (Some n) rest
numbers_in-decimal n h = decimal_by_steps GathersAt one more n h h

-- a mark has a byte, and its bytes are no digits
abbrev pub IsMark : List ℕ → Type 0
IsMark [] = ⊥
IsMark (b ∷ rest) = (is_digit b ≡ false) × AllByRecursion (λ c. is_digit c ≡ false) rest

abbrev pub AreMarks : List (List ℕ × ℕ) → Type 0
AreMarks ms = AllByRecursion (λ m. IsMark m.0 × (m.1 < 2 ^ 64)) ms

after_bytes : (bs rest : List ℕ) → AllByRecursion (λ c. is_digit c ≡ false) bs → numbers_in None (bs ++ rest) ≡ numbers_in None rest
after_bytes [] rest h = refl
after_bytes (b ∷ bs) rest h = rw (h.0, after_bytes bs rest h.1) refl

ends_number : (n : ℕ) (mark rest : List ℕ) → IsMark mark → numbers_in (Some n) (mark ++ rest) ≡ n ∷ numbers_in None rest
ends_number n [] rest h = absurd h
ends_number n (b ∷ mark) rest h = rw (h.0, after_bytes mark rest h.1) refl

numbers_after : (n : ℕ) (ms : List (List ℕ × ℕ)) → AreMarks ms → numbers_in (Some n) (marked ms) ≡ n ∷ map (λ m. m.1) ms
numbers_after n [] h = refl
numbers_after n (m ∷ ms) h =
    ends_number n m.0 _ h.0.0 ∙ ap (λ ns. n ∷ ns) (numbers_in-decimal m.1 h.0.1 (marked ms) ∙ numbers_after m.1 ms h.1)

starts : (mark rest : List ℕ) → IsMark mark → numbers_in None (mark ++ rest) ≡ numbers_in None rest
starts [] rest h = absurd h
starts (b ∷ mark) rest h = rw (h.0, after_bytes mark rest h.1) refl

pub numbers_in-marked : (ms : List (List ℕ × ℕ)) → AreMarks ms → numbers_in None (marked ms) ≡ map (λ m. m.1) ms
numbers_in-marked [] h = refl
numbers_in-marked (m ∷ ms) h = starts m.0 _ h.0.0 ∙ (numbers_in-decimal m.1 h.0.1 (marked ms) ∙ numbers_after m.1 ms h.1)
