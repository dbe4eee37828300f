-- Where a list splits is seen at two neighbours.
use Rattle.std.proofs.Common.{◌≡◌, ℕ, ◌-◌, ◌<◌, ◌≤◌, ◌⊎◌, inl, inr, Bool, true, false, List, length, get_or, nat_le, nat_lt, ltb, leb, refl, sym, ap, ◌∙◌, arith}
use Rattle.std.specs.List.Sorted.{IsPartitionPoint, IsPartitionedBy}
use Rattle.std.proofs.lemmas.Bool.Decides.{nat_tests}
use Rattle.std.proofs.lemmas.List.{get_or_default}

false_or : (b : Bool) → (b ≡ true → ⊥) → b ≡ false
false_or true h = absurd (h refl)
false_or false h = refl

differ : true ≡ false → ⊥
differ e = absurd cc

-- the one before passes, and the one there doesn't
pub splits_at : {X : Type 0} (p : X → Bool) (xs : List X) (n : ℕ) (d₀ : X) → IsPartitionedBy p xs → (n ≡ 0 ⊎ p (get_or xs (n - 1) d₀) ≡ true) → (n ≡ length xs ⊎ p (get_or xs n d₀) ≡ false) → n ≤ length xs
    → IsPartitionPoint (λ x. p x ≡ true) (λ x. p x ≡ false) xs n
splits_at {X} p xs n d₀ parted before after fits = (λ i d low small. front i d small before, λ i d from small. back i d from small after)
  where
    front : (i : ℕ) (d : X) → i < n → (n ≡ 0 ⊎ p (get_or xs (n - 1) d₀) ≡ true) → p (get_or xs i d) ≡ true
    front i d small (inl none) = absurd (omega (arith, small, none))
    front i d small (inr last) =
        let there : n - 1 < length xs = omega (arith, small, fits) in
        parted i (n - 1) d (omega (arith, small)) there (ap p (get_or_default xs (n - 1) d d₀ there) ∙ last)

    back : (i : ℕ) (d : X) → n ≤ i → i < length xs → (n ≡ length xs ⊎ p (get_or xs n d₀) ≡ false) → p (get_or xs i d) ≡ false
    back i d from small (inl all) = absurd (omega (arith, from, small, all))
    back i d from small (inr next) =
        let there : n < length xs = omega (arith, from, small) in
        false_or (p (get_or xs i d)) (λ passes. differ (sym (parted n i d from small passes) ∙ (ap p (get_or_default xs n d d₀ there) ∙ next)))

pub is_below : (a t : ℕ) → a < t → ltb a t ≡ true
is_below a t h = grind (arith, nat_tests)

pub not_below : (a t : ℕ) → nat_le t a ≡ true → ltb a t ≡ false
not_below a t h = grind (arith, nat_tests)

pub is_within : (a t : ℕ) → a ≤ t → leb a t ≡ true
is_within a t h = grind (arith, nat_tests)

pub not_within : (a t : ℕ) → nat_lt t a ≡ true → leb a t ≡ false
not_within a t h = grind (arith, nat_tests)
