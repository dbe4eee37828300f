-- Words of places, and an item more in them.
use Rattle.std.proofs.Common.{◌≡◌, ◌∙◌, ℕ, zero, suc, ◌+◌, ◌*◌, ◌<◌, ◌≤◌, max, ⊎_elim, Bool, true, false, not, ◌&&◌, ◌||◌, eqb, eq-eqb, ne_eqb, List, [], ◌∷◌, take, length, bit_or, slice_index, slice_get, refl, sym, ap, subst, Some, arith, get_or-set_same, get_or-set_other, length-set}
use Rattle.std.specs.Int.{bit_at}
use Rattle.std.specs.List.{list_any}
use Rattle.std.proofs.lemmas.Bool.{cases_eq}
use Rattle.std.proofs.lemmas.Nat.{or_lt}
use Rattle.std.proofs.lemmas.Nat.Bits.{bit_at_or, same_from_bits_below}
use Rattle.leg_masks.specs.Interval.{IsPiece, half_of, halves, has_leg, leg_of, mask}
use Rattle.leg_masks.proofs.HalfLegs.{half_of-lt}
use Rattle.leg_masks.proofs.Masks.{bit, bit_at-mask, mask-lt, other_half}
use Rattle.history_model.specs.declared.booking.BookedItem.{BookedItem}
use Rattle.history_model.specs.Booking.{occupies}
use Rattle.history_model.specs.Laws.{LiesWithin}
use Rattle.history_model.specs.Words.{number_of_bits, place_number, place_words}
use Rattle.history_model.proofs.Bits.{bit_at-number, max_bits, number_of_bits-lt}
use Rattle.history_model.proofs.WordLemmas.{number_of_bits-agree}
use Rattle.claim_rule.specs.Openings.{placed}
use Rattle.claim_rule.specs.Walls.{WallView}
use Rattle.cold_store.specs.Exports.{with_item}

-- the words are those of the places of which a test says which legs are taken
pub record AreWordsBy (w : WallView) (taken : ℕ → ℕ → Bool) (words : List ℕ) : Type 0 where
  pub count : length words ≡ place_words w.layout
  pub each : (place half : ℕ) → place < length w.layout.legs → half < halves
      → slice_index words (place_number place half) ≡ number_of_bits (λ bit. taken place (leg_of half bit)) 63

pub same_words : (w : WallView) (t u : ℕ → ℕ → Bool) (words : List ℕ) → ((place leg : ℕ) → t place leg ≡ u place leg) → AreWordsBy w t words → AreWordsBy w u words
same_words w t u words same are =
    record {
      count = are.count;
      each = λ p h a b. are.each p h a b ∙ number_of_bits-agree (λ bit. t p (leg_of h bit)) (λ bit. u p (leg_of h bit)) 63 (λ k l. same p (leg_of h k));
    }

pub or_false : (a : Bool) → (a || false) ≡ a
or_false true = refl
or_false false = refl

and_false : (a : Bool) → (a && false) ≡ false
and_false true = refl
and_false false = refl

-- the legs of an item in the word of its half
occupies_here : (i : BookedItem) (leg : ℕ) → i.given_back ≡ false → occupies i.place leg i ≡ has_leg i.span leg
occupies_here i leg left = λ j. eq-eqb i.place i.place refl j && (not (left j) && has_leg i.span leg)

-- and in another
elsewhere : (i : BookedItem) (p h k : ℕ) → i.span.to ≤ 126 → IsPiece i.span → k < 63 → ((p ≡ i.place) → (h ≡ half_of i.span) → ⊥) → occupies p (leg_of h k) i ≡ false
elsewhere i p h k fits piece l other = ⊎_elim
    (λ (same : i.place ≡ p).
    ap (λ t. eqb i.place p && (not i.given_back && t)) (other_half i.span fits piece h k l (other (sym same)))
    ∙ (ap (λ t. eqb i.place p && t) (and_false (not i.given_back)) ∙ and_false (eqb i.place p)))
    (λ (n : i.place ≡ p → ⊥). ap (λ t. t && (not i.given_back && has_leg i.span (leg_of h k))) (ne_eqb i.place p n))
    (cases_eq i.place p)

one_number : (p h q k : ℕ) → h < 2 → k < 2 → 2 * p + h ≡ 2 * q + k → (p ≡ q) × (h ≡ k)
one_number p h q k a b e = (omega arith, omega arith)

within_words : (p h n m : ℕ) → p < n → h < 2 → m ≡ 2 * n → 2 * p + h < m
within_words p h n m a b e = omega arith

pub item_added : (w : WallView) (t : ℕ → ℕ → Bool) (words : List ℕ) (i : BookedItem) → LiesWithin w.layout i → i.span.to ≤ 126 → i.given_back ≡ false
    → AreWordsBy w t words → AreWordsBy w (λ p leg. t p leg || occupies p leg i) (with_item (placed i) words)
item_added w t words i lies fits left are =
    record { count = length-set words at new ∙ are.count; each = each }
  where
    at : ℕ
    at = place_number i.place (half_of i.span)

    new : ℕ
    new = bit_or (slice_index words at) (mask i.span)

    u : ℕ → ℕ → Bool
    u p leg = t p leg || occupies p leg i

    low : half_of i.span < 2
    low = half_of-lt i.span lies.some fits

    inside : at < length words
    inside = within_words i.place (half_of i.span) (length w.layout.legs) (length words) lies.place low are.count

    word : ℕ
    word = number_of_bits (λ bit. t i.place (leg_of (half_of i.span) bit)) 63

    bits : bit_or word (mask i.span) ≡ number_of_bits (λ bit. u i.place (leg_of (half_of i.span) bit)) 63
    bits = same_from_bits_below 63 (bit_or word (mask i.span)) (number_of_bits (λ bit. u i.place (leg_of (half_of i.span) bit)) 63)
        (or_lt 63 word (mask i.span) (number_of_bits-lt (λ bit. t i.place (leg_of (half_of i.span) bit)) 63) (mask-lt i.span lies.some fits lies.piece))
        (number_of_bits-lt (λ bit. u i.place (leg_of (half_of i.span) bit)) 63)
        (λ k l.
        let leg : ℕ = leg_of (half_of i.span) k in
        bit_at_or word (mask i.span) k
        ∙ (ap (λ (x : ℕ). max x (bit_at (mask i.span) k)) (bit_at-number (λ bit. t i.place (leg_of (half_of i.span) bit)) 63 k l)
        ∙ (ap (λ (x : ℕ). max (bit (t i.place leg)) x) (bit_at-mask i.span lies.some k)
        ∙ (max_bits (t i.place leg) (has_leg i.span leg)
        ∙ (ap (λ b. bit (t i.place leg || b)) (sym (occupies_here i leg left))
        ∙ sym (bit_at-number (λ bit. u i.place (leg_of (half_of i.span) bit)) 63 k l))))))

    here : slice_index (with_item (placed i) words) at ≡ number_of_bits (λ bit. u i.place (leg_of (half_of i.span) bit)) 63
    here = get_or-set_same words at new 0 inside ∙ (ap (λ n. bit_or n (mask i.span)) (are.each i.place (half_of i.span) lies.place low) ∙ bits)

    there : (p h : ℕ) → p < length w.layout.legs → h < 2 → ((p ≡ i.place) → (h ≡ half_of i.span) → ⊥)
        → slice_index (with_item (placed i) words) (place_number p h) ≡ number_of_bits (λ bit. u p (leg_of h bit)) 63
    there p h a b other =
        get_or-set_other words at (place_number p h) new 0 (λ e. let same = one_number p h i.place (half_of i.span) b low e in other same.0 same.1)
        ∙ (are.each p h a b ∙ number_of_bits-agree (λ bit. t p (leg_of h bit)) (λ bit. u p (leg_of h bit)) 63
        (λ k l. sym (ap (λ x. t p (leg_of h k) || x) (elsewhere i p h k fits lies.piece l other) ∙ or_false (t p (leg_of h k)))))

    each : (p h : ℕ) → p < length w.layout.legs → h < halves
        → slice_index (with_item (placed i) words) (place_number p h) ≡ number_of_bits (λ bit. u p (leg_of h bit)) 63
    each p h a b = ⊎_elim
        (λ (x : p ≡ i.place). ⊎_elim
        (λ (y : h ≡ half_of i.span). subst (λ (z : ℕ × ℕ). slice_index (with_item (placed i) words) (place_number z.0 z.1) ≡ number_of_bits (λ bit. u z.0 (leg_of z.1 bit)) 63) (λ j. (sym x j, sym y j)) here)
        (λ (n : h ≡ half_of i.span → ⊥). there p h a b (λ _ y. n y))
        (cases_eq h (half_of i.span)))
        (λ (n : p ≡ i.place → ⊥). there p h a b (λ x _. n x))
        (cases_eq p i.place)

-- the first items of a list, and one more
pub any_more : (f : BookedItem → Bool) (is : List BookedItem) (k : ℕ) (i : BookedItem) → slice_get is k ≡ Some i → list_any f (take (suc k) is) ≡ (list_any f (take k is) || f i)
any_more f [] k i e = absurd cc
any_more f (x ∷ xs) zero i e = let same : x ≡ i = cc in ap (λ y. f y || false) same ∙ or_false (f i)
any_more f (x ∷ xs) (suc k) i e = ap (λ t. f x || t) (any_more f xs k i e) ∙ sym (or_assoc (f x) (list_any f (take k xs)) (f i))
  where
    or_assoc : (a b c : Bool) → ((a || b) || c) ≡ (a || (b || c))
    or_assoc true b c = refl
    or_assoc false b c = refl
