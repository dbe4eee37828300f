-- Counts add up to the answers that were counted.
use Rattle.std.proofs.Common.{◌≡◌, ◌≤◌, ◌<◌, ◌+◌, ◌-◌, ◌^◌, ◌∙◌, ℕ, zero, suc, Bool, true, false, cond, eqb, List, length, min, get_or, set, slice_index, sum, length-set, refl, arith}
use Rattle.std.proofs.lemmas.List.Sums.{get_or-le-sum_by, sum_by-set}
use Rattle.host_window.specs.Counted.{label_in, number_in, raise}
use Rattle.host_window.specs.Labels.{status_number}
use Rattle.host_window.specs.Runs.{raised}

either : (b : Bool) (x y n : ℕ) → x < n → y < n → cond b x y < n
either true x y n less more = less
either false x y n less more = more

few_labels : (s : ℕ) → status_number s < 16
few_labels s =
    either (eqb s 200) 0 _ 16 (omega arith) (either (eqb s 201) 1 _ 16 (omega arith) (either (eqb s 400) 2 _ 16 (omega arith)
    (either (eqb s 401) 3 _ 16 (omega arith) (either (eqb s 403) 4 _ 16 (omega arith) (either (eqb s 404) 5 _ 16 (omega arith)
    (either (eqb s 405) 6 _ 16 (omega arith) (either (eqb s 409) 7 _ 16 (omega arith) (either (eqb s 410) 8 _ 16 (omega arith)
    (either (eqb s 413) 9 _ 16 (omega arith) (either (eqb s 431) 10 _ 16 (omega arith) (either (eqb s 500) 11 _ 16 (omega arith)
    (either (eqb s 501) 12 _ 16 (omega arith) (either (eqb s 503) 13 _ 16 (omega arith)
    (either (eqb s 507) 14 15 16 (omega arith) (omega arith)))))))))))))))

raised_length : (text : ℕ → List ℕ) (begun : ℕ) (counts : List ℕ) → length (raised text begun counts) ≡ length counts
raised_length text zero counts = refl
raised_length text (suc n) counts =
    length-set (raised text n counts) (label_in (text n)) (min (get_or (raised text n counts) (label_in (text n)) 0 + 1) (2 ^ 64 - 1))
    ∙ raised_length text n counts

-- one more answer, one more in the sum
raised_once : (text : List ℕ) (counts : List ℕ) → length counts ≡ 16 → sum counts + 1 < 2 ^ 64 → sum (raise (label_in text) counts) ≡ sum counts + 1
raised_once text counts all few =
    let label : label_in text < 16 = few_labels (number_in (slice_index text 9) (slice_index text 10) (slice_index text 11)) in
    let one = get_or counts (label_in text) 0 in
    let next = min (one + 1) (2 ^ 64 - 1) in
    let part : one ≤ sum counts = get_or-le-sum_by (λ (n : ℕ). n) counts (label_in text) 0 (omega (arith, label, all)) in
    let new : sum (set counts (label_in text) next) + one ≡ sum counts + next =
    sum_by-set (λ (n : ℕ). n) counts (label_in text) next 0 (omega (arith, label, all)) in
    omega (arith, new, part, few)

pub added : (text : ℕ → List ℕ) (begun : ℕ) (counts : List ℕ) → length counts ≡ 16 → sum counts + begun < 2 ^ 64
    → sum (raised text begun counts) ≡ sum counts + begun
added text zero counts all few = omega arith
added text (suc n) counts all few =
    let before = added text n counts all (omega (arith, few)) in
    let long = raised_length text n counts ∙ all in
    let once = raised_once (text n) (raised text n counts) long (omega (arith, before, few)) in
    omega (arith, before, once)
