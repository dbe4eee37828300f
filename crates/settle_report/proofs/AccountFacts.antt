-- The account of one booking more, and how great an account can be.
use Rattle.std.proofs.Common.{◌≡◌, ◌∙◌, ℕ, suc, ◌+◌, ◌*◌, ◌≤◌, Bool, true, false, cond, List, [], ◌∷◌, ◌++◌, map, length, refl, sym, subst, arith}
use Rattle.std.proofs.lemmas.Int.{ints}
use Rattle.std.specs.Prelude.{ℤ, pos, ◌+ℤ◌}
use Rattle.std.specs.List.{AllByRecursion}
use Rattle.std.proofs.lemmas.List.Sums.{sum_by_from}
use Rattle.history_model.specs.declared.phase.Phase.{Phase}
use Rattle.history_model.specs.Booking.{greatest_amount}
use Rattle.history_model.specs.Phase.{is_live}
use Rattle.claim_rule.specs.Openings.{KeptBooking}
use Rattle.settle_report.specs.declared.account.Account.{Account}
use Rattle.settle_report.specs.Accounts.{account_of, amounts_of, in_phases, is_exchanged, is_refunded, is_sold, totals_of}
use Rattle.settle_report.specs.Steps.{IsFair, IsOfFew, IsSumOfFew, sale_of}

-- sums of one more

counted : (test : Phase → Bool) (kept : List KeptBooking) (k : KeptBooking) → length (in_phases test (kept ++ k ∷ [])) ≡ length (in_phases test kept) + cond (test k.phase) 1 0
counted test [] k = one (test k.phase)
  where
    one : (b : Bool) → length (cond b (k ∷ []) []) ≡ 0 + cond b 1 0
    one true = refl
    one false = refl
counted test (j ∷ kept) k = more (test j.phase) (counted test kept k)
  where
    more : (b : Bool) → length (in_phases test (kept ++ k ∷ [])) ≡ length (in_phases test kept) + cond (test k.phase) 1 0
        → length (cond b (j ∷ in_phases test (kept ++ k ∷ [])) (in_phases test (kept ++ k ∷ []))) ≡ length (cond b (j ∷ in_phases test kept) (in_phases test kept)) + cond (test k.phase) 1 0
    more true before = omega (arith, before)
    more false before = before

total_cons : (k : KeptBooking) (kept : List KeptBooking) → totals_of (k ∷ kept) ≡ k.total + totals_of kept
total_cons k kept = sum_by_from (λ (n : ℕ). n) (0 + k.total) (map (λ (k : KeptBooking). k.total) kept) ∙ (let e : 0 + k.total + totals_of kept ≡ k.total + totals_of kept = omega arith in e)

totalled : (test : Phase → Bool) (kept : List KeptBooking) (k : KeptBooking) → totals_of (in_phases test (kept ++ k ∷ [])) ≡ totals_of (in_phases test kept) + cond (test k.phase) k.total 0
totalled test [] k = one (test k.phase)
  where
    one : (b : Bool) → totals_of (cond b (k ∷ []) []) ≡ 0 + cond b k.total 0
    one true = refl
    one false = refl
totalled test (j ∷ kept) k = more (test j.phase) (totalled test kept k)
  where
    more : (b : Bool) → totals_of (in_phases test (kept ++ k ∷ [])) ≡ totals_of (in_phases test kept) + cond (test k.phase) k.total 0
        → totals_of (cond b (j ∷ in_phases test (kept ++ k ∷ [])) (in_phases test (kept ++ k ∷ []))) ≡ totals_of (cond b (j ∷ in_phases test kept) (in_phases test kept)) + cond (test k.phase) k.total 0
    more true before =
        let long = total_cons j (in_phases test (kept ++ k ∷ [])) in
        let short = total_cons j (in_phases test kept) in
        omega (arith, before, long, short)
    more false before = before

paid : (test : Phase → Bool) (kept : List KeptBooking) (k : KeptBooking) → amounts_of (in_phases test (kept ++ k ∷ [])) ≡ amounts_of (in_phases test kept) +ℤ cond (test k.phase) k.end.amount (pos 0)
paid test [] k = one (test k.phase)
  where
    one : (b : Bool) → amounts_of (cond b (k ∷ []) []) ≡ pos 0 +ℤ cond b k.end.amount (pos 0)
    one true = let e : (k.end.amount +ℤ pos 0) ≡ (pos 0 +ℤ k.end.amount) = omega (arith, ints) in e
    one false = refl
paid test (j ∷ kept) k = more (test j.phase) (paid test kept k)
  where
    add : (a x y z : ℤ) → x ≡ (y +ℤ z) → (a +ℤ x) ≡ ((a +ℤ y) +ℤ z)
    add a x y z e = omega (arith, ints, e)

    more : (b : Bool) → amounts_of (in_phases test (kept ++ k ∷ [])) ≡ amounts_of (in_phases test kept) +ℤ cond (test k.phase) k.end.amount (pos 0)
        → amounts_of (cond b (j ∷ in_phases test (kept ++ k ∷ [])) (in_phases test (kept ++ k ∷ []))) ≡ amounts_of (cond b (j ∷ in_phases test kept) (in_phases test kept)) +ℤ cond (test k.phase) k.end.amount (pos 0)
    more true before = add j.end.amount (amounts_of (in_phases test (kept ++ k ∷ []))) (amounts_of (in_phases test kept)) (cond (test k.phase) k.end.amount (pos 0)) before
    more false before = before

one_more : {X : Type 0} (kept : List X) (k : X) → length (kept ++ k ∷ []) ≡ length kept + 1
one_more [] k = refl
one_more (j ∷ kept) k = let before = one_more kept k in omega (arith, before)

-- the account of one booking more, by its parts
pub account_more : (a : Account) (kept : List KeptBooking) (k : KeptBooking)
    → a.bookings ≡ length kept + 1
    → a.live ≡ length (in_phases is_live kept) + cond (is_live k.phase) 1 0
    → a.sold ≡ totals_of (in_phases is_sold kept) + cond (is_sold k.phase) k.total 0
    → a.refunded ≡ (amounts_of (in_phases is_refunded kept) +ℤ cond (is_refunded k.phase) k.end.amount (pos 0))
    → a.exchanged ≡ (amounts_of (in_phases is_exchanged kept) +ℤ cond (is_exchanged k.phase) k.end.amount (pos 0))
    → a ≡ account_of (kept ++ k ∷ [])
account_more a kept k bookings live sold refunded exchanged =
    let b = bookings ∙ sym (one_more kept k) in
    let l = live ∙ sym (counted is_live kept k) in
    let s = sold ∙ sym (totalled is_sold kept k) in
    let r = refunded ∙ sym (paid is_refunded kept k) in
    let e = exchanged ∙ sym (paid is_exchanged kept k) in
    λ i. record { bookings = b i; live = l i; sold = s i; refunded = r i; exchanged = e i }

-- bounds

abbrev pub AllFair : List KeptBooking → Type 0
AllFair kept = AllByRecursion (λ k. IsFair (sale_of k)) kept

fewer : (m n : ℕ) (z : ℤ) → m ≤ n → IsSumOfFew m z → IsSumOfFew n z
fewer m n z le few = let a = few.0 in let b = few.1 in (omega (arith, ints, a, b, le), omega (arith, ints, a, b, le))

few_more : (n : ℕ) (a z : ℤ) → IsSumOfFew 1 a → IsSumOfFew n z → IsSumOfFew (n + 1) (a +ℤ z)
few_more n a z one few =
    let a0 = one.0 in let a1 = one.1 in let z0 = few.0 in let z1 = few.1 in
    (omega (arith, ints, a0, a1, z0, z1), omega (arith, ints, a0, a1, z0, z1))

few_of : (test : Phase → Bool) (kept : List KeptBooking) → length (in_phases test kept) ≤ length kept
few_of test [] = omega arith
few_of test (k ∷ kept) = more (test k.phase) (few_of test kept)
  where
    more : (b : Bool) → length (in_phases test kept) ≤ length kept → length (cond b (k ∷ in_phases test kept) (in_phases test kept)) ≤ length (k ∷ kept)
    more true before = omega (arith, before)
    more false before = omega (arith, before)

total_of_few : (test : Phase → Bool) (kept : List KeptBooking) → AllFair kept → totals_of (in_phases test kept) ≤ length kept * greatest_amount
total_of_few test [] fair = omega arith
total_of_few test (k ∷ kept) fair = more (test k.phase) (total_of_few test kept fair.1)
  where
    more : (b : Bool) → totals_of (in_phases test kept) ≤ length kept * greatest_amount → totals_of (cond b (k ∷ in_phases test kept) (in_phases test kept)) ≤ length (k ∷ kept) * greatest_amount
    more true before =
        let cons = total_cons k (in_phases test kept) in
        let one = fair.0.total in
        omega (arith, before, cons, one)
    more false before = omega (arith, before)

amount_of_few : (test : Phase → Bool) (kept : List KeptBooking) → AllFair kept → IsSumOfFew (length kept) (amounts_of (in_phases test kept))
amount_of_few test [] fair = (omega (arith, ints), omega (arith, ints))
amount_of_few test (k ∷ kept) fair = subst (λ n. IsSumOfFew n (amounts_of (cond (test k.phase) (k ∷ in_phases test kept) (in_phases test kept)))) (let e : length kept + 1 ≡ suc (length kept) = omega arith in e) (more (test k.phase) (amount_of_few test kept fair.1))
  where
    more : (b : Bool) → IsSumOfFew (length kept) (amounts_of (in_phases test kept)) → IsSumOfFew (length kept + 1) (amounts_of (cond b (k ∷ in_phases test kept) (in_phases test kept)))
    more true before = few_more (length kept) k.end.amount (amounts_of (in_phases test kept)) fair.0.amount before
    more false before = fewer (length kept) (length kept + 1) (amounts_of (in_phases test kept)) (omega arith) before

pub of_few : (n : ℕ) (kept : List KeptBooking) → length kept ≤ n → AllFair kept → IsOfFew n (account_of kept)
of_few n kept le fair =
    let live = few_of is_live kept in
    let sold = total_of_few is_sold kept fair in
    record {
      bookings = le;
      live = omega (arith, live, le);
      sold = omega (arith, sold, le);
      refunded = fewer (length kept) n (amounts_of (in_phases is_refunded kept)) le (amount_of_few is_refunded kept fair);
      exchanged = fewer (length kept) n (amounts_of (in_phases is_exchanged kept)) le (amount_of_few is_exchanged kept fair);
    }

pub few_if : (b : Bool) (x z : ℤ) → x ≡ cond b z (pos 0) → IsSumOfFew 1 z → IsSumOfFew 1 x
few_if true x z e few = subst (IsSumOfFew 1) (sym e) few
few_if false x z e few = subst (IsSumOfFew 1) (sym e) (omega (arith, ints), omega (arith, ints))
