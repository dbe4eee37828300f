-- Where a line stands in texts that follow one another.
use Rattle.std.proofs.Common.{◌≡◌, ◌∙◌, ⊎_elim, ℕ, ◌+◌, ◌==◌, ◌&&◌, ◌||◌, not, Bool, true, false, List, [], ◌∷◌, ◌++◌, refl, ap, arith}
use Rattle.std.proofs.lemmas.Bool.{and_parts, or_parts, or_cases, eqb-true}
use Rattle.std.proofs.Math.Bool.{and-false}
use Rattle.std.specs.List.{list_any, AllByRecursion}
use Rattle.host_drill.specs.Totals.{begins, one_if, times}

-- The bytes of the text tell whether the line begins it, whatever follows.
abbrev tells : List ℕ → List ℕ → Bool
tells [] text = true
tells (a ∷ line) [] = false
tells (a ∷ line) (b ∷ text) = not (a == b) || tells line text

-- and at each of its bytes
abbrev pub tells_all : List ℕ → List ℕ → Bool
tells_all line [] = true
tells_all line (b ∷ text) = tells line (b ∷ text) && tells_all line text

where_same : (same tells now then : Bool) → (tells ≡ true → now ≡ then) → (not same || tells) ≡ true → (same && now) ≡ (same && then)
where_same true tells now then more h = more h
where_same false tells now then more h = refl

told : (line text rest : List ℕ) → tells line text ≡ true → begins line (text ++ rest) ≡ begins line text
told [] text rest h = refl
told (a ∷ line) [] rest h = cc
told (a ∷ line) (b ∷ text) rest h = where_same (a == b) (tells line text) _ _ (told line text rest) h

-- texts that tell are counted apart
pub times_apart : (line text rest : List ℕ) → tells_all line text ≡ true → times line (text ++ rest) ≡ times line text + times line rest
times_apart line [] rest h = omega arith
times_apart line (b ∷ text) rest h =
    let parts = and_parts (tells line (b ∷ text)) (tells_all line text) h in
    let here : one_if (begins line (b ∷ text ++ rest)) ≡ one_if (begins line (b ∷ text)) = ap one_if (told line (b ∷ text) rest parts.0) in
    let more = times_apart line text rest parts.1 in
    let e : one_if (begins line (b ∷ text ++ rest)) + times line (text ++ rest) ≡ one_if (begins line (b ∷ text)) + times line text + times line rest = omega (arith, here, more) in e

-- A line with this first byte begins at no other byte.
pub times_without_first : (first : ℕ) (line text rest : List ℕ) → AllByRecursion (λ b. (first == b) ≡ false) text
    → times (first ∷ line) (text ++ rest) ≡ times (first ∷ line) rest
times_without_first first line [] rest h = refl
times_without_first first line (b ∷ text) rest h =
    let here : one_if ((first == b) && begins line (text ++ rest)) ≡ 0 = ap (λ (same : Bool). one_if (same && begins line (text ++ rest))) h.0 in
    let more = times_without_first first line text rest h.1 in
    let e : one_if ((first == b) && begins line (text ++ rest)) + times (first ∷ line) (text ++ rest) ≡ times (first ∷ line) rest = omega (arith, here, more) in e

-- nothing, or a text that begins with this byte
abbrev pub StartsWith : ℕ → List ℕ → Type 0
StartsWith first [] = Unit {0}
StartsWith first (b ∷ text) = b ≡ first

-- the line has the one byte, and not the other
abbrev pub has : ℕ → List ℕ → Bool
has byte line = list_any (λ a. a == byte) line

-- A line with a byte that the text lacks doesn't begin it; nor does it go on behind it, where only a byte that the line
-- lacks comes next.
cut : (stop first : ℕ) (line text rest : List ℕ) → has stop line ≡ true → has first line ≡ false → AllByRecursion (λ b. (stop == b) ≡ false) text
    → StartsWith first rest → begins line (text ++ rest) ≡ false
cut stop first [] text rest stops lacks h starts = cc
cut stop first (a ∷ line) [] [] stops lacks h starts = refl
cut stop first (a ∷ line) [] (b ∷ rest) stops lacks h starts =
    ap (λ (c : ℕ). (a == c) && begins line rest) starts ∙ ap (λ (same : Bool). same && begins line rest) (or_parts (a == first) (has first line) lacks).0
cut stop first (a ∷ line) (b ∷ text) rest stops lacks h starts =
    ⊎_elim
    (λ (here : (a == stop) ≡ true). ap (λ (c : ℕ). (c == b) && begins line (text ++ rest)) (eqb-true a stop here) ∙ ap (λ (same : Bool). same && begins line (text ++ rest)) h.0)
    (λ (later : has stop line ≡ true).
    ap (λ (more : Bool). (a == b) && more) (cut stop first line text rest later (or_parts (a == first) (has first line) lacks).1 h.1 starts) ∙ and-false (a == b))
    (or_cases (a == stop) (has stop line) stops)

pub times_without_stop : (stop first : ℕ) (line text rest : List ℕ) → has stop line ≡ true → has first line ≡ false → AllByRecursion (λ b. (stop == b) ≡ false) text
    → StartsWith first rest → times (first ∷ line) (text ++ rest) ≡ times (first ∷ line) rest
times_without_stop stop first line [] rest stops lacks h starts = refl
times_without_stop stop first line (b ∷ text) rest stops lacks h starts =
    let here : one_if ((first == b) && begins line (text ++ rest)) ≡ 0 =
    ap (λ (more : Bool). one_if ((first == b) && more)) (cut stop first line text rest stops lacks h.1 starts) ∙ ap one_if (and-false (first == b)) in
    let more = times_without_stop stop first line text rest stops lacks h.1 starts in
    let e : one_if ((first == b) && begins line (text ++ rest)) + times (first ∷ line) (text ++ rest) ≡ times (first ∷ line) rest = omega (arith, here, more) in e
