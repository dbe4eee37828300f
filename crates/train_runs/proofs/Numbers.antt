-- The numbers of codes: below 2 ^ 64, and no two codes have the same.
use Rattle.std.proofs.Common.{◌≡◌, ℕ, zero, suc, ◌+◌, ◌*◌, ◌<◌, ◌≤◌, Bool, true, false, List, [], ◌∷◌, ◌++◌, length, Some, None, refl, cond, sym, ap, drop, ◌==◌, ◌∙◌, subst, arith, nat_le, true≢false}
use Rattle.std.specs.List.{list_all}
use Rattle.std.specs.Str.{bytes_eq}
use Rattle.std.specs.Ordering.{nat_cmp, is_eq}
use Rattle.std.specs.Cmp.{unsigned_tied}
use Rattle.std.specs.BTreeMap.{BTreeMap, Updates, get}
use Rattle.std.proofs.lemmas.Bool.Decides.{nat_tests}
use Rattle.std.proofs.lemmas.Slice.Eq.{bytes_eq-Decides}
use Rattle.rail_ids.specs.declared.StationNo.{StationNo}
use Rattle.train_runs.specs.Stations.{StationView, is_code, is_code_byte, code_number, number_from, station_with}
use Rattle.train_runs.proofs.Coding.{both, finds}

-- 256 ^ k
abbrev pub most : ℕ → ℕ
most zero = 1
most (suc k) = 256 * most k

high : (b : ℕ) → is_code_byte b ≡ true → b < 91
high b h = grind (arith, nat_tests)

some_byte : (b : ℕ) → is_code_byte b ≡ true → 47 < b
some_byte b h = grind (arith, nat_tests)

shifted : (b n m : ℕ) → b < 256 → n < m → b + 256 * n < 256 * m
shifted b n m small h = omega arith

pub below : (code : List ℕ) (k : ℕ) → list_all is_code_byte code ≡ true → length code ≤ k → code_number code < most k
below [] zero all few = omega arith
below [] (suc k) all few = let h : 0 < most k = below [] k refl (omega arith) in omega arith
below (b ∷ rest) zero all few = absurd (omega arith)
below (b ∷ rest) (suc k) all few =
    let parts = both (is_code_byte b) (list_all is_code_byte rest) all in
    let h = high b parts.0 in
    shifted b (code_number rest) (most k) (omega arith) (below rest k parts.1 (omega arith))

-- behind the first letter
pub below_seven : (code : List ℕ) → list_all is_code_byte code ≡ true → length code ≤ 8 → code_number (drop 1 code) < 72_057_594_037_927_936
below_seven [] all few = omega arith
below_seven (b ∷ rest) all few = below rest 7 (both (is_code_byte b) (list_all is_code_byte rest) all).1 (omega arith)

head : (b e n m : ℕ) → b < 91 → e < 91 → b + 256 * n ≡ e + 256 * m → (b ≡ e) × (n ≡ m)
head b e n m hb he h = (omega arith, omega arith)

pub same_code : (c d : List ℕ) → list_all is_code_byte c ≡ true → list_all is_code_byte d ≡ true → code_number c ≡ code_number d → c ≡ d
same_code [] [] cs ds h = refl
same_code [] (e ∷ d) cs ds h = let k = some_byte e (both (is_code_byte e) _ ds).0 in absurd (omega arith)
same_code (b ∷ c) [] cs ds h = let k = some_byte b (both (is_code_byte b) _ cs).0 in absurd (omega arith)
same_code (b ∷ c) (e ∷ d) cs ds h =
    let bs = both (is_code_byte b) (list_all is_code_byte c) cs in
    let es = both (is_code_byte e) (list_all is_code_byte d) ds in
    let it = head b e (code_number c) (code_number d) (high b bs.0) (high e es.0) h in
    subst (λ (x : ℕ). b ∷ c ≡ x ∷ d) it.0 (ap (λ (x : List ℕ). b ∷ x) (same_code c d bs.1 es.1 it.1))

pub letters_of : (code : List ℕ) → is_code code ≡ true → list_all is_code_byte code ≡ true
letters_of code h = (both (nat_le (length code) 8) (list_all is_code_byte code) (both (nat_le 1 (length code)) _ h).1).1

-- the comparison of two codes' numbers is that of the codes
pub told_by_number : (c d : List ℕ) → is_code c ≡ true → is_code d ≡ true → is_eq (nat_cmp (code_number c) (code_number d)) ≡ bytes_eq c d
told_by_number c d hc hd = unsigned_tied (code_number c) (code_number d) ∙ by_test (bytes_eq c d) refl
  where
    by_test : (b : Bool) → bytes_eq c d ≡ b → (code_number c == code_number d) ≡ b
    by_test true e = let same : code_number c ≡ code_number d = ap code_number ((bytes_eq-Decides c d).0 e) in grind (arith, nat_tests)
    by_test false e = by_other (code_number c == code_number d) refl
      where
        by_other : (r : Bool) → (code_number c == code_number d) ≡ r → r ≡ false
        by_other true h = let same : c ≡ d = same_code c d (letters_of c hc) (letters_of d hd) (grind (arith, nat_tests)) in absurd (true≢false (sym ((bytes_eq-Decides c d).1 same) ∙ e))
        by_other false h = refl

no_match : (s : StationView) (code : List ℕ) → is_code s.code ≡ true → is_code code ≡ false → bytes_eq s.code code ≡ false
no_match s code fine un = by_test (bytes_eq s.code code) refl
  where
    by_test : (b : Bool) → bytes_eq s.code code ≡ b → b ≡ false
    by_test true e = absurd (true≢false (sym fine ∙ (ap is_code ((bytes_eq-Decides s.code code).0 e) ∙ un)))
    by_test false e = refl

-- what is no code is no station's code
pub uncoded : (n : ℕ) (code : List ℕ) (stations : List StationView) → list_all (λ s. is_code s.code) stations ≡ true → is_code code ≡ false → number_from n code stations ≡ None
uncoded n code [] all un = refl
uncoded n code (s ∷ rest) all un =
    let parts = both (is_code s.code) (list_all (λ (t : StationView). is_code t.code) rest) all in
    rw (no_match s code parts.0 un) (uncoded (n + 1) code rest parts.1 un)

-- the map that finds each code's number, with a further station
pub finds_number : (stations : List StationView) (last : StationView) (old new : BTreeMap ℕ StationNo) (key count : ℕ) → is_code last.code ≡ true → station_with last.code stations ≡ None
    → key ≡ code_number last.code → count ≡ length stations → Updates nat_cmp old new key (Some (record { 0 = count }))
    → ((code : List ℕ) → is_code code ≡ true → get nat_cmp old (code_number code) ≡ station_with code stations)
    → (code : List ℕ) → is_code code ≡ true → get nat_cmp new (code_number code) ≡ station_with code (stations ++ last ∷ [])
finds_number stations last old new key count fine fresh keyed counted updated was code h =
    let q : ℕ = code_number code in
    let told : is_eq (nat_cmp key q) ≡ bytes_eq last.code code = ap (λ (k : ℕ). is_eq (nat_cmp k q)) keyed ∙ told_by_number last.code code fine h in
    let is : get nat_cmp new q ≡ cond (bytes_eq last.code code) (Some (record { 0 = length stations })) (get nat_cmp old q) =
    subst (λ (n : ℕ). get nat_cmp new q ≡ cond (bytes_eq last.code code) (Some (record { 0 = n })) (get nat_cmp old q)) counted
    (subst (λ (b : Bool). get nat_cmp new q ≡ cond b (Some (record { 0 = count })) (get nat_cmp old q)) told (updated.0 q)) in
    finds code stations last (get nat_cmp old q) (get nat_cmp new q) fresh (was code h) is
