use Rattle.std.proofs.Common.{◌≡◌, ◌+◌, ◌*◌, ℕ, ◌<◌, bit_and, sym, ap, ◌∙◌, subst, refl, arith}
use Rattle.std.specs.Int.{trailing_zeros, w64}
use Rattle.leg_masks.specs.Interval.{IsFirstTaken, half_of, leg_of}
use Rattle.leg_masks.proofs.Masks.{clear_from, first_of}
use Rattle.leg_masks.proofs.place_words.first_taken.Goals as goal

pub returns-then-taken-eq0-clause-free : goal.returns-then-taken-eq0-clause-free
returns-then-taken-eq0-clause-free c =
    let ends = c.mask_of.ensures.span in
    clear_from c.args.word c.args.span ends.0 ends.1 c.requires.piece (ap (bit_and c.args.word) (sym c.mask_of.ensures.value) ∙ c.if-taken-eq0.true)

-- the leg is the bit of the mask and the half's first leg
the_leg : (m n h k : ℕ) → m ≡ n → h ≡ k → trailing_zeros w64 m + 63 * h ≡ leg_of k (trailing_zeros w64 n)
the_leg m n h k e f = rw (e, f) refl

pub returns-clause-taken : goal.returns-clause-taken
returns-clause-taken c =
    let word : ℕ = c.args.word in
    let span = c.args.span in
    let ends = c.mask_of.ensures.span in
    let masked = ap (bit_and word) c.mask_of.ensures.value in
    let some : 0 < bit_and word c.mask_of.result = omega (arith, c.if-taken-eq0.false) in
    subst (IsFirstTaken word span) (sym (the_leg _ _ c.half_of.result (half_of span) masked c.half_of.ensures.value))
    (first_of word span ends.0 ends.1 c.requires.piece c.ranges.word.fits (subst (λ (m : ℕ). 0 < m) masked some))
