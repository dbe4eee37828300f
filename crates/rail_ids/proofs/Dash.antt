-- Where the `-` of an id stands.
use Rattle.std.proofs.Common.{◌≡◌, ℕ, zero, suc, ◌<◌, ◌^◌, ◌+◌, ◌/◌, ◌%◌, ◌==◌, Bool, false, cond, List, [], ◌∷◌, ◌++◌, length, take, drop, replicate, decimal, Option, Some, None, refl, sym, ap, ◌∙◌, arith, append-nil, append_assoc, ltb, ◌-◌, length-append}
use Rattle.std.specs.List.{AllByRecursion, position, position_or_len}
use Rattle.std.proofs.Math.Seq.{take-append_seam, drop-append-add, take-length}
use Rattle.std.proofs.lemmas.Bool.{lt-ltb, le-ltb}
use Rattle.std.proofs.lemmas.Fmt.{decimal_by_steps}
use Rattle.std.proofs.lemmas.Bool.Decides.{nat_tests}
use Rattle.rail_ids.specs.Spelling.{generation_text}
use Rattle.rail_ids.proofs.Padded.{padded}

abbrev is_dash : ℕ → Bool
is_dash b = b == 45

abbrev NoDash : List ℕ → Type 0
NoDash bs = AllByRecursion (λ b. is_dash b ≡ false) bs

no_digit : (d : ℕ) → d < 10 → is_dash (48 + d) ≡ false
no_digit d h = grind (arith, nat_tests)

both : (xs ys : List ℕ) → NoDash xs → NoDash ys → NoDash (xs ++ ys)
both [] ys h k = k
both (x ∷ xs) ys h k = (h.0, both xs ys h.1 k)

NoDash-decimal : (n : ℕ) → n < 2 ^ 64 → NoDash (decimal n)
NoDash-decimal n h = decimal_by_steps (λ _ bs. NoDash bs) (λ m small. (no_digit m small, tt)) (λ m bs big before. both bs ((48 + m % 10) ∷ []) before (no_digit (m % 10) (omega arith), tt)) n h

NoDash-padded : (k n : ℕ) → n < 2 ^ 64 → NoDash (padded k n)
NoDash-padded zero n h = NoDash-decimal n h
NoDash-padded (suc k) n h = (refl, NoDash-padded k n h)

past : (xs ys : List ℕ) → NoDash xs → position_or_len is_dash (xs ++ ys) ≡ length xs + position_or_len is_dash ys
past [] ys h = omega arith
past (x ∷ xs) ys h = rw h.0 (omega (arith, past xs ys h.1))

where_is : (bs : List ℕ) (n : ℕ) → position_or_len is_dash bs ≡ n → position is_dash bs ≡ cond (ltb n (length bs)) (Some n) None
where_is bs n e = rw e refl

none_there : (k row : ℕ) → row < 2 ^ 32 → position is_dash (padded k row ++ []) ≡ None
none_there k row h =
    let at : position_or_len is_dash (padded k row ++ []) ≡ length (padded k row ++ []) = past (padded k row) [] (NoDash-padded k row (omega arith)) ∙ (let e : length (padded k row) + 0 ≡ length (padded k row ++ []) = omega (arith, length-append (padded k row) []) in e) in
    where_is (padded k row ++ []) (length (padded k row ++ [])) at ∙ rw (le-ltb (length (padded k row ++ [])) (length (padded k row ++ [])) (omega arith)) refl

some_there : (k row : ℕ) (ds : List ℕ) → row < 2 ^ 32 → position is_dash (padded k row ++ 45 ∷ ds) ≡ Some (length (padded k row))
some_there k row ds h =
    let at : position_or_len is_dash (padded k row ++ 45 ∷ ds) ≡ length (padded k row) = past (padded k row) (45 ∷ ds) (NoDash-padded k row (omega arith)) ∙ (let e : length (padded k row) + 0 ≡ length (padded k row) = omega arith in e) in
    where_is (padded k row ++ 45 ∷ ds) (length (padded k row)) at ∙ rw (lt-ltb (length (padded k row)) (length (padded k row ++ 45 ∷ ds)) (omega (arith, length-append (padded k row) (45 ∷ ds)))) refl

some_none : {at : ℕ} → Some at ≡ None → ⊥
some_none e = cc

some_same : (a b : ℕ) → Some a ≡ Some b → a ≡ b
some_same a b e = cc

-- the parts before and behind the `-`
pub parted : (at : ℕ) (bs : List ℕ) → Some at ≡ position is_dash bs → (k row generation : ℕ) → row < 2 ^ 32 → bs ≡ replicate k 48 ++ (decimal row ++ generation_text generation)
    → (take at bs ≡ replicate k 48 ++ decimal row) × (take (length bs - (at + 1)) (drop (at + 1) bs) ≡ decimal generation)
parted at bs is k row zero h e =
    let text : bs ≡ padded k row ++ [] = e ∙ sym (append_assoc (replicate k 48) (decimal row) []) in
    absurd (some_none (is ∙ ap (position is_dash) text ∙ none_there k row h))
parted at bs is k row (suc n) h e =
    let ds : List ℕ = decimal (suc n) in
    let text : bs ≡ padded k row ++ 45 ∷ ds = e ∙ sym (append_assoc (replicate k 48) (decimal row) (45 ∷ ds)) in
    let here : at ≡ length (padded k row) = some_same at (length (padded k row)) (is ∙ ap (position is_dash) text ∙ some_there k row ds h) in
    let rest : drop (at + 1) bs ≡ ds = rw (text, here) (drop-append-add (padded k row) (45 ∷ ds) 1) in
    let count : length bs - (at + 1) ≡ length ds = rw (text, here) (omega (arith, length-append (padded k row) (45 ∷ ds))) in (
      rw (text, here) (take-append_seam (padded k row) (45 ∷ ds)),
      rw (rest, count) (take-length ds),
    )

zero_text : decimal 0 ≡ 48 ∷ []
zero_text = decimal_by_steps (λ n ds. n ≡ 0 → ds ≡ 48 ∷ []) (λ n small is. ap (λ d. (48 + d) ∷ []) is) (λ n ds big before is. absurd (omega arith)) 0 (omega arith) refl

-- where there is none
pub whole : (bs : List ℕ) → None ≡ position is_dash bs → (k row generation : ℕ) → row < 2 ^ 32 → bs ≡ replicate k 48 ++ (decimal row ++ generation_text generation)
    → (bs ≡ replicate k 48 ++ decimal row) × (48 ∷ [] ≡ decimal generation)
whole bs none k row zero h e = (e ∙ ap (λ ds. replicate k 48 ++ ds) (append-nil (decimal row)), sym zero_text)
whole bs none k row (suc n) h e =
    let text : bs ≡ padded k row ++ 45 ∷ decimal (suc n) = e ∙ sym (append_assoc (replicate k 48) (decimal row) (45 ∷ decimal (suc n))) in
    absurd (some_none (sym (ap (position is_dash) text ∙ some_there k row (decimal (suc n)) h) ∙ sym none))
