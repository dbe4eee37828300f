-- Words that are put into a list of words.
use Rattle.std.proofs.Common.{◌≡◌, ◌≢◌, ◌⊎◌, ⊎_elim, ℕ, zero, suc, ◌+◌, ◌-◌, ◌<◌, ◌≤◌, List, [], ◌∷◌, ◌++◌, length, take, get_or, set, refl, sym, ap, ◌∙◌, subst, arith, get_or-set_other, get_or-set_same, length-set, add-one}
use Rattle.std.proofs.Math.Seq.{take-suc}
use Rattle.std.proofs.lemmas.Bool.{cases_lt}
use Rattle.cold_store.specs.Drafts.{put}

pub length-put : (ws : List ℕ) (at : ℕ) (ns : List ℕ) → length (put ws at ns) ≡ length ws
length-put ws at [] = refl
length-put ws at (n ∷ ns) = length-put (set ws at n) (at + 1) ns ∙ length-set ws at n

-- one more at the end
pub put-push : (ws : List ℕ) (at : ℕ) (ns : List ℕ) (n : ℕ) → put ws at (ns ++ n ∷ []) ≡ set (put ws at ns) (at + length ns) n
put-push ws at [] n = let e : at + 0 ≡ at = omega arith in rw e refl
put-push ws at (m ∷ ns) n =
    let e : (at + 1) + length ns ≡ at + length (m ∷ ns) = omega arith in
    put-push (set ws at m) (at + 1) ns n ∙ ap (λ (j : ℕ). set (put (set ws at m) (at + 1) ns) j n) e

-- a word in front
pub put-before : (ws : List ℕ) (at : ℕ) (ns : List ℕ) (i : ℕ) → i < at → get_or (put ws at ns) i 0 ≡ get_or ws i 0
put-before ws at [] i h = refl
put-before ws at (n ∷ ns) i h = put-before (set ws at n) (at + 1) ns i (omega arith) ∙ get_or-set_other ws at i n 0 (λ e. omega arith)

-- a word behind
pub put-behind : (ws : List ℕ) (at : ℕ) (ns : List ℕ) (i : ℕ) → at + length ns ≤ i → get_or (put ws at ns) i 0 ≡ get_or ws i 0
put-behind ws at [] i h = refl
put-behind ws at (n ∷ ns) i h = put-behind (set ws at n) (at + 1) ns i (omega arith) ∙ get_or-set_other ws at i n 0 (λ e. omega arith)

-- a word that is put
pub put-within : (ws : List ℕ) (at : ℕ) (ns : List ℕ) (k : ℕ) → k < length ns → at + length ns ≤ length ws → get_or (put ws at ns) (at + k) 0 ≡ get_or ns k 0
put-within ws at [] k h fits = absurd (omega arith)
put-within ws at (n ∷ ns) zero h fits =
    let e : at + 0 ≡ at = omega arith in
    ap (λ (j : ℕ). get_or (put (set ws at n) (at + 1) ns) j 0) e
    ∙ put-before (set ws at n) (at + 1) ns at (omega arith) ∙ get_or-set_same ws at n 0 (omega arith)
put-within ws at (n ∷ ns) (suc k) h fits =
    let e : at + suc k ≡ (at + 1) + k = omega arith in
    let long = length-set ws at n in
    ap (λ (j : ℕ). get_or (put (set ws at n) (at + 1) ns) j 0) e
    ∙ put-within (set ws at n) (at + 1) ns k (omega arith) (omega arith)

-- one word more of a list
pub put-more : (ws : List ℕ) (at : ℕ) (ns : List ℕ) (k : ℕ) → k < length ns → put ws at (take (k + 1) ns) ≡ set (put ws at (take k ns)) (at + k) (get_or ns k 0)
put-more ws at ns k h =
    let long : length (take k ns) ≡ k = length_take k ns (omega arith) in
    let one : take (k + 1) ns ≡ take k ns ++ get_or ns k 0 ∷ [] = rw add-one (take-suc ns k 0 h) in
    ap (put ws at) one ∙ put-push ws at (take k ns) (get_or ns k 0) ∙ ap (λ (j : ℕ). set (put ws at (take k ns)) (at + j) (get_or ns k 0)) long
  where
    length_take : (k : ℕ) (ns : List ℕ) → k ≤ length ns → length (take k ns) ≡ k
    length_take zero ns h = refl
    length_take (suc k) [] h = absurd (omega arith)
    length_take (suc k) (n ∷ ns) h = ap suc (length_take k ns (omega arith))
