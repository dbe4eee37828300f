-- What a path finds in the rows, whatever stands for its parameters.
use Rattle.std.proofs.Common.{◌≡◌, ℕ, zero, suc, ◌-◌, ◌<◌, Bool, true, false, cond, List, [], ◌∷◌, ◌++◌, length, drop, Option, Some, None, refl, ap, ◌∙◌, arith, ◌==◌, ltb, ◌&&◌, nat_eq}
use Rattle.std.proofs.lemmas.Bool.Decides.{nat_tests}
use Rattle.std.specs.List.{AllByRecursion}
use Rattle.std.specs.Cmp.Lexicographic.{pointwise}
use Rattle.matchit.specs.Rows.{RowsOf, param_token, catch_all_token}
use Rattle.matchit.specs.Seek.{first, seek, param_step, step, own, or_else}
use Rattle.matchit.specs.Seek.{segment, has_slash, cuts, longest_suffix, with_suffix}
use Rattle.rail_service.specs.Paths.{IsParameter, IsPartByte}

-- the rows that go on with these bytes, with the bytes gone
abbrev pub along : {K : Type 0} → RowsOf K → List ℕ → RowsOf K
along rows [] = rows
along rows (b ∷ path) = along (step b rows) path

-- each row with a parameter in front
abbrev pub behind_param : {K : Type 0} → RowsOf K → RowsOf K
behind_param [] = []
behind_param ((t, key) ∷ rest) = (param_token ∷ t, key) ∷ behind_param rest

-- a slash as a suffix
abbrev pub one_slash : List ℕ
one_slash = 47 ∷ []

-- what is found behind bytes is found at the whole path
pub found_behind : {K : Type 0} (front rest : List ℕ) (rows : RowsOf K) (key : K)
    → first (along rows front) rest ≡ Some key → first rows (front ++ rest) ≡ Some key
unfolding seek
found_behind [] rest rows key is = is
found_behind {K} (b ∷ front) rest rows key is =
    let other = param_step (step param_token rows) (b ∷ (front ++ rest)) in
    ap (λ (o : Option K). or_else o (or_else (seek (other.0 - 1) other.1 (front ++ rest)) (own (step catch_all_token rows))))
    (found_behind front rest (step b rows) key is)

-- a path that is a row's, byte for byte, is found there
pub found_whole : {K : Type 0} (path : List ℕ) (rows : RowsOf K) (key : K)
    → own (along rows path) ≡ Some key → first rows path ≡ Some key
unfolding seek
found_whole [] rows key is = is
found_whole {K} (b ∷ path) rows key is =
    let other = param_step (step param_token rows) (b ∷ path) in
    ap (λ (o : Option K). or_else o (or_else (seek (other.0 - 1) other.1 path) (own (step catch_all_token rows))))
    (found_whole path (step b rows) key is)

no_row_left : {K : Type 0} (path : List ℕ) → (param_step {K = K} [] path).1 ≡ []
unfolding param_step
no_row_left {K} path =
    elim (has_slash path) as (λ v. (cond {A = ℕ × RowsOf K} v (0, []) (length path, [])).1 ≡ []) [
      | true ↦ refl
      | false ↦ refl
    ]

seek_none : {K : Type 0} (skip : ℕ) (path : List ℕ) → seek {K = K} skip [] path ≡ None
unfolding seek
seek_none skip [] = refl
seek_none {K} (suc skip) (b ∷ path) = seek_none {K = K} skip path
seek_none {K} zero (b ∷ path) =
    simp (
      seek_none {K = K} 0 path,
      no_row_left {K = K} (b ∷ path),
      seek_none {K = K} (((param_step {K = K} [] (b ∷ path)).0) - 1) path,
    )

seek_drop : {K : Type 0} (skip : ℕ) (rows : RowsOf K) (path : List ℕ)
    → seek skip rows path ≡ seek 0 rows (drop skip path)
unfolding seek
seek_drop zero rows path = refl
seek_drop (suc skip) rows [] = refl
seek_drop (suc skip) rows (b ∷ path) = seek_drop skip rows path

step_misses : {K : Type 0} (b : ℕ) (rows : RowsOf K) → b < 256 → step b (behind_param rows) ≡ []
step_misses b [] small = refl
step_misses b ((t, key) ∷ rest) small =
    let e : (param_token == b) ≡ false = grind (arith, nat_tests) in
    rw e (step_misses b rest small)

step_takes : {K : Type 0} (rows : RowsOf K) → step param_token (behind_param rows) ≡ rows
step_takes [] = refl
step_takes {K} ((t, key) ∷ rest) = ap (λ (r : RowsOf K). (t, key) ∷ r) (step_takes rest)

less_one : (n : ℕ) → suc n - 1 ≡ n
less_one n = omega arith

-- what is found behind what a parameter takes
found_by_param : {K : Type 0} (rows on : RowsOf K) (b skip : ℕ) (path : List ℕ) (key : K)
    → b < 256 → param_step rows (b ∷ path) ≡ (suc skip, on) → first on (drop skip path) ≡ Some key → first (behind_param rows) (b ∷ path) ≡ Some key
unfolding seek
found_by_param {K} rows on b skip path key small takes is =
    rw (
      step_misses b rows small,
      seek_none {K = K} 0 path,
      step_takes rows,
      takes,
      less_one skip,
      seek_drop skip on path,
      is,
    ) refl

abbrev AreParts : List ℕ → Type 0
AreParts text = AllByRecursion IsPartByte text

segment_stops : (text tail : List ℕ) → AreParts text → segment (text ++ 47 ∷ tail) ≡ text ++ one_slash
segment_stops [] tail are = refl
segment_stops (b ∷ text) tail are =
    let e : (b == 47) ≡ false = grind (arith, nat_tests) in
    rw e (ap (λ (t : List ℕ). b ∷ t) (segment_stops text tail are.1))

segment_goes : (text : List ℕ) → AreParts text → segment text ≡ text
segment_goes [] are = refl
segment_goes (b ∷ text) are =
    let e : (b == 47) ≡ false = grind (arith, nat_tests) in
    rw e (ap (λ (t : List ℕ). b ∷ t) (segment_goes text are.1))

no_slash : (text : List ℕ) → AreParts text → has_slash text ≡ false
no_slash [] are = refl
no_slash (b ∷ text) are =
    let e : (b == 47) ≡ false = grind (arith, nat_tests) in
    rw e (no_slash text are.1)

drop_before : (text tail : List ℕ) → drop (length text) (text ++ tail) ≡ tail
drop_before [] tail = refl
drop_before (b ∷ text) tail = drop_before text tail

drop_all : (text : List ℕ) → drop (length text) text ≡ []
drop_all [] = refl
drop_all (b ∷ text) = drop_all text

length_behind : (text : List ℕ) → length (text ++ one_slash) ≡ suc (length text)
length_behind [] = refl
length_behind (b ∷ text) = ap suc (length_behind text)

-- a slash ends what a slash is put behind; no slash ends a text without one
slash_cuts : (b : ℕ) (text : List ℕ) → cuts (b ∷ (text ++ one_slash)) one_slash ≡ true
slash_cuts b text =
    let longer : ltb 1 (suc (suc (length text))) ≡ true = grind (arith, nat_tests) in
    rw (length_behind text, less_one (suc (length text)), longer) (by text)
  where
    by : (text : List ℕ) → pointwise nat_eq one_slash (drop (suc (length text)) (b ∷ (text ++ one_slash))) ≡ true
    by text = rw (drop_before text one_slash) refl

ends_otherwise : (b : ℕ) (text : List ℕ) → AreParts (b ∷ text)
    → pointwise nat_eq one_slash (drop (length text) (b ∷ text)) ≡ false
ends_otherwise b [] are =
    let e : (47 == b) ≡ false = grind (arith, nat_tests) in
    rw e refl
ends_otherwise b (c ∷ text) are = ends_otherwise c text are.1

slash_cuts_not : (b : ℕ) (text : List ℕ) → AreParts (b ∷ text) → cuts (b ∷ text) one_slash ≡ false
slash_cuts_not b text are =
    rw (less_one (length text), ends_otherwise b text are) (and_false (ltb 1 (suc (length text))))
  where
    and_false : (v : Bool) → (v && false) ≡ false
    and_false true = refl
    and_false false = refl

-- what is found behind a parameter and a slash
pub found_between : {K : Type 0} (rows : RowsOf K) (text tail : List ℕ) (key : K) → IsParameter text
    → ((seg : List ℕ) → cuts seg one_slash ≡ true → longest_suffix seg rows ≡ one_slash)
    → first (with_suffix one_slash rows) (47 ∷ tail) ≡ Some key
    → first (behind_param rows) (text ++ 47 ∷ tail) ≡ Some key
unfolding param_step
found_between rows [] tail key is longest found = absurd (omega (arith, is.some))
found_between {K} rows (b ∷ text) tail key is longest found =
    found_by_param rows (with_suffix one_slash rows) b (length text) (text ++ 47 ∷ tail) key is.bytes.0.0
    (takes (longest (b ∷ (text ++ one_slash)) (slash_cuts b text)))
    (ap (λ (p : List ℕ). first (with_suffix one_slash rows) p) (drop_before text (47 ∷ tail)) ∙ found)
  where
    takes : longest_suffix (b ∷ (text ++ one_slash)) rows ≡ one_slash
        → param_step rows (b ∷ (text ++ 47 ∷ tail)) ≡ (suc (length text), with_suffix one_slash rows)
    takes e = rw (segment_stops (b ∷ text) tail is.bytes, e, length_behind text, less_one (suc (length text))) refl

-- what is found where the path ends with a parameter
pub found_last : {K : Type 0} (rows : RowsOf K) (text : List ℕ) (key : K) → IsParameter text
    → ((seg : List ℕ) → cuts seg one_slash ≡ false → longest_suffix seg rows ≡ [])
    → own rows ≡ Some key → first (behind_param rows) text ≡ Some key
unfolding param_step seek
found_last rows [] key is longest found = absurd (omega (arith, is.some))
found_last {K} rows (b ∷ text) key is longest found =
    found_by_param rows rows b (length text) text key is.bytes.0.0
    (takes (longest (b ∷ text) (slash_cuts_not b text is.bytes)))
    (ends found)
  where
    takes : longest_suffix (b ∷ text) rows ≡ [] → param_step rows (b ∷ text) ≡ (suc (length text), rows)
    takes e = rw (segment_goes (b ∷ text) is.bytes, e, no_slash (b ∷ text) is.bytes) refl

    ends : own rows ≡ Some key → first rows (drop (length text) text) ≡ Some key
    ends e = rw (drop_all text) e
