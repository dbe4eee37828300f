-- The status that refused words end with.
use Rattle.std.proofs.Common.{◌≡◌, ◌⊎◌, ℕ, List, Option, None, inl, inr, refl, sym, subst, arith}
use Rattle.claim_rule.specs.Walls.{WallView}
use Rattle.host_drill.specs.declared.drill.Cause.{Cause}
use Rattle.host_drill.specs.declared.drill.Cause.TheVariants.{Whole, Words, Write, Memory}
use Rattle.host_drill.specs.Ends.{IsForDrill, IsNoDrill, Leaves, end_of_drill}
use Rattle.host_catalogue.specs.Ends.{status_of}

pub when_refused : (words : List (List ℕ)) (before after : Option (List ℕ)) (wall : Option WallView) (cause : Cause) → Leaves words before after wall cause
    → IsNoDrill words → (status_of (end_of_drill cause) ≡ 2) ⊎ ((status_of (end_of_drill cause) ≡ 5) × IsForDrill words)
when_refused words before after wall Whole left none = absurd (none left.0 left.2)
when_refused words before after wall Words left none = inl refl
when_refused words before after wall Write left none = absurd (none left.0 left.4)
when_refused words before after wall Memory left none = inr (refl, left.0)

-- words that were refused, or that there was no memory for, leave nothing
pub unsaid : (words : List (List ℕ)) (before : Option (List ℕ)) (cause : Cause) → (cause ≡ Words → IsNoDrill words) → (cause ≡ Memory → IsForDrill words)
    → (cause ≡ Words) ⊎ (cause ≡ Memory) → Leaves words before before None cause
unsaid words before cause none command (inl is) = subst (λ (e : Cause). Leaves words before before None e) (sym is) (none is, refl, refl)
unsaid words before cause none command (inr is) = subst (λ (e : Cause). Leaves words before before None e) (sym is) (command is, refl, refl)

-- status 2 is that of refused words
pub words_refused : (cause : Cause) → status_of (end_of_drill cause) ≡ 2 → cause ≡ Words
words_refused Whole two = absurd (omega (arith, two))
words_refused Words two = refl
words_refused Write two = absurd (omega (arith, two))
words_refused Memory two = absurd (omega (arith, two))

pub none_left : (words : List (List ℕ)) (before after : Option (List ℕ)) (wall : Option WallView) (cause : Cause) → Leaves words before after wall cause
    → cause ≡ Words → IsNoDrill words
none_left words before after wall cause left is = (subst (λ (c : Cause). Leaves words before after wall c) is left).0
