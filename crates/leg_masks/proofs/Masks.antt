-- The bits of a piece's mask.
use Rattle.std.proofs.Common.{◌≡◌, ℕ, ◌+◌, ◌-◌, ◌*◌, ◌^◌, ◌%◌, ◌<◌, ◌≤◌, Bool, true, false, ◌&&◌, cond, leb, ltb, min, bit_and, refl, sym, ap, ap₂, ◌∙◌, ⊎_elim, arith, le-leb, lt-ltb, le-ltb, pow_mono, mod-eq_of_lt, one-mul, lt_of_le_of_lt, lt_of_lt_of_le, lit<, lit≤}
use Rattle.std.specs.Int.{bit_at, trailing_zeros, w64}
use Rattle.std.proofs.lemmas.Bool.{cases_lt, lt-leb, and_parts, leb-true, ltb-true}
use Rattle.std.proofs.lemmas.Nat.Bits.{same_from_bits_below, bit_at_and, bit_at-zero, bit_at_mask_inside, bit_at_mask_below, bit_at_mask_above, bit_at-lt, bit_at-trailing_zeros}
use Rattle.std.proofs.lemmas.Nat.{and_le_l}
use Rattle.leg_masks.specs.Interval.{Interval, Holds, has_leg, IsPiece, half_of, bit_of, leg_of, in_word, mask, IsClear, IsFirstTaken}
use Rattle.leg_masks.proofs.HalfLegs.{begins_in, ends_in, same_half, leg_back, bit_back, half_back}

abbrev pub bit : Bool → ℕ
bit b = cond b 1 0

-- the bits from one up to the one before another
bit_at-bits : (span : Interval) (i : ℕ) → bit_at (2 ^ span.to - 2 ^ span.from) i ≡ bit (has_leg span i)
bit_at-bits span i = ⊎_elim
    (λ (below : i < span.from). bit_at_mask_below span.from span.to i below ∙ sym (ap (λ (b : Bool). bit (b && ltb i span.to)) (lt-leb span.from i below)))
    (λ (from : span.from ≤ i). ⊎_elim
    (λ (inside : i < span.to). bit_at_mask_inside span.from span.to i from inside ∙ sym (ap (λ (b : Bool). bit (b && ltb i span.to)) (le-leb span.from i from) ∙ ap bit (lt-ltb i span.to inside)))
    (λ (above : span.to ≤ i). bit_at_mask_above span.from span.to i above ∙ sym (ap (λ (b : Bool). bit (b && ltb i span.to)) (le-leb span.from i from) ∙ ap bit (le-ltb i span.to above)))
    (cases_lt i span.to))
    (cases_lt i span.from)

le_shift : (a b k : ℕ) → k ≤ a → leb (a - k) b ≡ leb a (b + k)
le_shift a b k h = ⊎_elim
    (λ (l : b + k < a). lt-leb (a - k) b (omega arith) ∙ sym (lt-leb a (b + k) l))
    (λ (l : a ≤ b + k). le-leb (a - k) b (omega arith) ∙ sym (le-leb a (b + k) l))
    (cases_lt (b + k) a)

lt_shift : (b a k : ℕ) → k ≤ a → ltb b (a - k) ≡ ltb (b + k) a
lt_shift b a k h = ⊎_elim
    (λ (l : b + k < a). lt-ltb b (a - k) (omega arith) ∙ sym (lt-ltb (b + k) a l))
    (λ (l : a ≤ b + k). le-ltb b (a - k) (omega arith) ∙ sym (le-ltb (b + k) a l))
    (cases_lt (b + k) a)

-- a bit of a piece's word is in it where its leg is
has_bit : (span : Interval) → span.from < span.to → (i : ℕ) → has_leg (in_word span) i ≡ has_leg span (leg_of (half_of span) i)
has_bit span some i =
    let k : ℕ = leg_of (half_of span) 0 in
    let from : k ≤ span.from = begins_in span in
    let e : i + k ≡ leg_of (half_of span) i = omega arith in
    ap₂ (λ (a b : Bool). a && b) (le_shift span.from i k from ∙ ap (leb span.from) e) (lt_shift i span.to k (omega arith) ∙ ap (λ (n : ℕ). ltb n span.to) e)

pub bit_at-mask : (span : Interval) → span.from < span.to → (i : ℕ) → bit_at (mask span) i ≡ bit (has_leg span (leg_of (half_of span) i))
bit_at-mask span some i = bit_at-bits (in_word span) i ∙ ap bit (has_bit span some i)

pub shift : (k : ℕ) → k ≤ 63 → 1 * 2 ^ k % 18446744073709551616 ≡ 2 ^ k
shift k h = let small : 2 ^ k ≤ 2 ^ 63 = pow_mono h in let x : ℕ = 2 ^ k in let small' : x ≤ 2 ^ 63 = small in
    let e : 1 * x ≡ x = one-mul x in ap (λ (y : ℕ). y % 18446744073709551616) e ∙ mod-eq_of_lt (lt_of_le_of_lt small' (lit< tt))

-- a piece's bits end where its word does
pub ends_by : (span : Interval) → span.from < span.to → span.to ≤ 126 → IsPiece span → (in_word span).to ≤ 63
ends_by span some fits piece = let e = ends_in span some fits piece in omega arith

-- the mask of a piece has no bit past its word's last leg
pub mask-lt : (span : Interval) → span.from < span.to → span.to ≤ 126 → IsPiece span → mask span < 2 ^ 63
mask-lt span some fits piece =
    let at : Interval = in_word span in
    let up : 0 ≤ at.to = omega arith in
    let down : 0 ≤ at.from = omega arith in
    let a : 2 ^ at.to ≤ 2 ^ 63 = pow_mono (ends_by span some fits piece) in
    let b : 2 ^ 0 ≤ 2 ^ at.from = pow_mono down in
    let c : 2 ^ 0 ≤ 2 ^ at.to = pow_mono up in
    less (2 ^ at.to) (2 ^ at.from) a b c
  where
    less : (x y : ℕ) → x ≤ 2 ^ 63 → 1 ≤ y → 1 ≤ x → x - y < 2 ^ 63
    less x y a b c = omega arith

pub mask-small : (span : Interval) → span.from < span.to → span.to ≤ 126 → IsPiece span → mask span < 2 ^ 64
mask-small span some fits piece = let a = mask-lt span some fits piece in let x : ℕ = mask span in let a' : x < 2 ^ 63 = a in lt_of_lt_of_le a' (lit≤ tt)

-- the legs of a piece that are set are those of the word with the mask

both_zero : (n : ℕ) (b : Bool) → min n (bit b) ≡ 0 → b ≡ true → n ≡ 0
both_zero n true e t = omega arith
both_zero n false e t = absurd cc

min_zero : (n : ℕ) (b : Bool) → (b ≡ true → n ≡ 0) → min n (bit b) ≡ 0
min_zero n true h = let z = h refl in omega arith
min_zero n false h = omega arith

legs_of : (span : Interval) (leg : ℕ) → has_leg span leg ≡ true → Holds span leg
legs_of span leg t = let a = and_parts (leb span.from leg) (ltb leg span.to) t in (leb-true span.from leg a.0, ltb-true leg span.to a.1)

pub leg-has : (span : Interval) (leg : ℕ) → span.from ≤ leg → leg < span.to → has_leg span leg ≡ true
leg-has span leg from to = ap (λ (b : Bool). b && ltb leg span.to) (le-leb span.from leg from) ∙ lt-ltb leg span.to to

masked : (word : ℕ) (span : Interval) → span.from < span.to → (i : ℕ) → bit_at (bit_and word (mask span)) i ≡ min (bit_at word i) (bit (has_leg span (leg_of (half_of span) i)))
masked word span some i = bit_at_and word (mask span) i ∙ ap (λ (x : ℕ). min (bit_at word i) x) (bit_at-mask span some i)

-- the bit of a leg of the piece is that leg's
pub leg_at : (span : Interval) → span.to ≤ 126 → IsPiece span → (leg : ℕ) → span.from ≤ leg → leg < span.to → leg_of (half_of span) (bit_of leg) ≡ leg
leg_at span fits piece leg from to = ap (λ (h : ℕ). leg_of h (bit_of leg)) (sym (same_half span fits piece leg (from, to))) ∙ leg_back leg

module _ (word : ℕ) (span : Interval) (some : span.from < span.to) (fits : span.to ≤ 126) (piece : IsPiece span) where
  pub clear_from : bit_and word (mask span) ≡ 0 → IsClear word span
  clear_from none leg from to =
      both_zero (bit_at word (bit_of leg)) (has_leg span (leg_of (half_of span) (bit_of leg)))
      (sym (masked word span some (bit_of leg)) ∙ (ap (λ (x : ℕ). bit_at x (bit_of leg)) none ∙ bit_at-zero (bit_of leg)))
      (ap (has_leg span) (leg_at span fits piece leg from to) ∙ leg-has span leg from to)

  -- a set bit of the mask is that of a leg of the piece
  bit_leg : (i : ℕ) → has_leg span (leg_of (half_of span) i) ≡ true → Holds span (leg_of (half_of span) i) × (bit_of (leg_of (half_of span) i) ≡ i)
  bit_leg i t =
      let holds : Holds span (leg_of (half_of span) i) = legs_of span (leg_of (half_of span) i) t in
      let end = ends_in span some fits piece in
      let below : i < 63 = omega (arith, holds.1, end) in
      (holds, bit_back (half_of span) i below)

  pub none_from : word < 2 ^ 64 → IsClear word span → bit_and word (mask span) ≡ 0
  none_from small clear =
      same_from_bits_below 64 (bit_and word (mask span)) 0 (lt_of_le_of_lt (and_le_l word (mask span)) small) (lit< tt)
      (λ i h. masked word span some i
      ∙ (min_zero (bit_at word i) (has_leg span (leg_of (half_of span) i)) (λ t. let a = bit_leg i t in ap (bit_at word) (sym a.1) ∙ clear (leg_of (half_of span) i) a.0.0 a.0.1)
      ∙ sym (bit_at-zero i)))

  -- the lowest bit of the word with the mask is that of the least leg of the piece that is set
  pub first_of : word < 2 ^ 64 → 0 < bit_and word (mask span) → IsFirstTaken word span (leg_of (half_of span) (trailing_zeros w64 (bit_and word (mask span))))
  first_of small set =
      let n : ℕ = bit_and word (mask span) in
      let low = bit_at-trailing_zeros w64 n set (lt_of_le_of_lt (and_le_l word (mask span)) small) in
      let at : ℕ = trailing_zeros w64 n in
      let leg : ℕ = leg_of (half_of span) at in
      let here = set_min (bit_at word at) (has_leg span leg) (bit_at-lt word at) (sym (masked word span some at) ∙ low.1) in
      let is = bit_leg at here.0 in
      record {
        inside = is.0;
        set = ap (bit_at word) is.1 ∙ here.1;
        least = λ l from below.
            let up : l < span.to = let e : leg < span.to = is.0.1 in omega arith in
            let back = leg_at span fits piece l from up in
            both_zero (bit_at word (bit_of l)) (has_leg span (leg_of (half_of span) (bit_of l)))
            (sym (masked word span some (bit_of l)) ∙ low.2 (bit_of l) (lower (half_of span) (bit_of l) at l back below))
            (ap (has_leg span) back ∙ leg-has span l from up);
      }
    where
      set_min : (n : ℕ) (b : Bool) → n < 2 → min n (bit b) ≡ 1 → (b ≡ true) × (n ≡ 1)
      set_min n true h e = (refl, omega arith)
      set_min n false h e = absurd (omega arith)

      lower : (half a b l : ℕ) → leg_of half a ≡ l → l < leg_of half b → a < b
      lower half a b l e h = omega arith

-- a bit of the other half's word is no leg of the piece
pub other_half : (span : Interval) → span.to ≤ 126 → IsPiece span → (h i : ℕ) → i < 63 → (h ≡ half_of span → ⊥) → has_leg span (leg_of h i) ≡ false
other_half span fits piece h i l other = go (has_leg span (leg_of h i)) refl
  where
    go : (b : Bool) → has_leg span (leg_of h i) ≡ b → has_leg span (leg_of h i) ≡ false
    go false e = e
    go true e = absurd (other (sym (half_back h i l) ∙ same_half span fits piece (leg_of h i) (legs_of span (leg_of h i) e)))
