use Rattle.std.proofs.Common.{ℕ, ◌≤◌, ◌<◌, ◌^◌, ◌-◌, ◌+◌, ◌*◌, ◌%◌, arith, le_trans, pow_mono, subst, sym, ap, ap₂, ◌∙◌, ◌≡◌}
use Rattle.std.specs.Int.{bit_at}
use Rattle.leg_masks.specs.Interval.{Interval, IsSpan, in_word, has_leg, half_of, bit_of, leg_of}
use Rattle.leg_masks.proofs.HalfLegs.{leg_back}
use Rattle.leg_masks.proofs.Masks.{bit, shift, bit_at-mask, ends_by}
use Rattle.leg_masks.proofs.place_words.mask_of.Goals as goal

-- what is shifted by is where the piece begins and ends in the word
from_first : (a b k h : ℕ) → a ≡ b → k ≡ h → a - 63 * k ≡ b - (0 + 63 * h)
from_first a b k h e f = omega (arith, e, f)

power : (k j : ℕ) → k ≡ j → j ≤ 63 → 1 * 2 ^ k % 18446744073709551616 ≡ 2 ^ j
power k j e l = ap (λ (n : ℕ). 1 * 2 ^ n % 18446744073709551616) e ∙ shift j l

in_order : (a b k : ℕ) → a < b → a - k ≤ b - k
in_order a b k l = omega arith

module _ (c : goal.After-struct_known-2-1) where
  span : IsSpan c.args.span
  span = subst IsSpan c.span.view_is c.span.invariant

  ends : (in_word c.args.span).to ≤ 63
  ends = ends_by c.args.span span.0 span.1 c.requires.piece

  order : (in_word c.args.span).from ≤ (in_word c.args.span).to
  order = in_order c.args.span.from c.args.span.to (leg_of (half_of c.args.span) 0) span.0

  within : (in_word c.args.span).from ≤ 63
  within = le_trans order ends

  power_from : 1 * 2 ^ (c.span.inside.from - 63 * c.half_of-first.result) % 18446744073709551616 ≡ 2 ^ (in_word c.args.span).from
  power_from = power _ _ (from_first c.span.inside.from c.args.span.from c.half_of-first.result (half_of c.args.span) (ap (λ (i : Interval). i.from) c.span.view_is) c.half_of-first.ensures.value) within

  power_to : 1 * 2 ^ (c.span.inside.to - 63 * c.half_of-first.result) % 18446744073709551616 ≡ 2 ^ (in_word c.args.span).to
  power_to = power _ _ (from_first c.span.inside.to c.args.span.to c.half_of-first.result (half_of c.args.span) (ap (λ (i : Interval). i.to) c.span.view_is) c.half_of-first.ensures.value) ends

pub overflow_sub-result : goal.overflow_sub-result
overflow_sub-result c = subst (λ (x : ℕ × ℕ). x.0 ≤ x.1) (λ i. (sym (power_from c) i, sym (power_to c) i)) (pow_mono (order c))

pub returns-clause-value : goal.returns-clause-value
returns-clause-value c = ap₂ (λ (x y : ℕ). x - y) (power_to c) (power_from c)

pub returns-clause-span : goal.returns-clause-span
returns-clause-span c = span c

pub returns-clause-bits : goal.returns-clause-bits
returns-clause-bits c = λ bit. ap (λ (n : ℕ). bit_at n bit) (returns-clause-value c) ∙ bit_at-mask c.args.span (span c).0 bit

pub returns-clause-legs : goal.returns-clause-legs
returns-clause-legs c = λ leg here.
    returns-clause-bits c (bit_of leg)
    ∙ ap (λ (l : ℕ). bit (has_leg c.args.span l)) (ap (λ (h : ℕ). leg_of h (bit_of leg)) (sym here) ∙ leg_back leg)
