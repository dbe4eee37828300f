-- All searches of a desk.
use Rattle.std.proofs.Common.{◌≡◌, ℕ, suc, ◌+◌, ◌-◌, ◌<◌, ◌≤◌, [], ◌∷◌, length, ap, subst, arith}
use Rattle.history_model.specs.Booking.{Layout}
use Rattle.claim_rule.specs.Rule.{BooksView, DeskView}
use Rattle.claim_rule.specs.Desks.{IsOf}
use Rattle.booking_rows.specs.Starts.{Misses, misses_steps, AreMissesFrom}
use Rattle.booking_rows.specs.Searches.{Searches, no_call, a_call, a_part, a_meet, a_search}

none : (n p q : ℕ) → n ≡ 0 → p ≡ q → n + q ≤ p
none n p q e f = omega arith

on : (n f p q : ℕ) → n + f ≤ p → p ≤ q → n + f ≤ q
on n f p q l m = omega arith

kept : (n f p q : ℕ) → n + f ≤ p → q ≡ p → n + f ≤ q
kept n f p q l e = omega arith

more : (n k f p q many : ℕ) → n + f ≤ p → p ≤ q → k ≤ q - p → many ≡ n + k → many + f ≤ q
more n k f p q many l m few e = omega arith

moved : (first last : DeskView) (n : ℕ) → Searches first last n → n + first.past ≤ last.past
moved first last n (no_call desk k e z) = none n last.past first.past z (ap (λ (d : DeskView). d.past) e)
moved first last n (a_call old new k steps before did) = on n first.past old.past last.past (moved first old n before) did.further
moved first last n (a_part old new k before did) = kept k first.past old.past last.past (moved first old k before) did.same.6
moved first last n (a_meet old other new k before met) = kept k first.past old.past last.past (moved first old k before) met.same.5
moved first last n (a_search old new k many steps rest before did few e) = more k (length steps) first.past old.past last.past n (moved first old k before) did.further few e

pub all_few : (books : BooksView) (first last : DeskView) (n : ℕ) → IsOf books last → Searches first last n → n ≤ books.layout.rows
all_few books first last n of calls = subst (λ (g : Layout). n ≤ g.rows) of.layout (within n first.past last.past last.layout.rows (moved first last n calls) of.within)
  where
    within : (n f p r : ℕ) → n + f ≤ p → p ≤ r → n ≤ r
    within n f p r l m = omega arith

pub few_misses : (from last : ℕ) (misses : Misses) → AreMissesFrom from last misses → length (misses_steps misses) ≤ last - from
few_misses from last [] are = omega arith
few_misses from last ((row, word) ∷ rest) are = one from row last (length (misses_steps rest)) are.0 are.1 (few_misses (row + 1) last rest are.3)
  where
    one : (from row last n : ℕ) → from ≤ row → row < last → n ≤ last - (row + 1) → suc n ≤ last - from
    one from row last n a b c = omega (arith, a, b, c)
