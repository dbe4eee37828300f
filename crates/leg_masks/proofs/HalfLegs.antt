-- Where the legs of a piece lie.
use Rattle.std.proofs.Common.{◌≡◌, ◌⊎◌, inl, inr, ℕ, [], ◌∷◌, length, ◌+◌, ◌<◌, ◌≤◌, Bool, true, false, ◌||◌, leb, refl, ap, ◌∙◌, ⊎_elim, arith, le-leb}
use Rattle.std.proofs.lemmas.Bool.{cases_Bool, leb-false, leb-true}
use Rattle.std.specs.List.{AllByRecursion}
use Rattle.leg_masks.specs.Interval.{Interval, Holds, IsPiece, is_piece, half_at, half_of, bit_of, leg_of, pieces, word_legs}

pub leg_back : (leg : ℕ) → leg_of (half_at leg) (bit_of leg) ≡ leg
leg_back leg = omega arith

pub half_back : (half bit : ℕ) → bit < 63 → half_at (leg_of half bit) ≡ half
half_back half bit l = omega arith

pub bit_back : (half bit : ℕ) → bit < 63 → bit_of (leg_of half bit) ≡ bit
bit_back half bit l = omega arith

pub bit_of-lt : (leg : ℕ) → bit_of leg < 63
bit_of-lt leg = omega arith

-- the legs of a piece lie in its half
pub same_half : (span : Interval) → span.to ≤ 126 → IsPiece span → (leg : ℕ) → Holds span leg → half_at leg ≡ half_of span
same_half span fits (inl low) leg h = omega (arith, h.0, h.1)
same_half span fits (inr high) leg h = omega (arith, h.0, h.1)

pub half_of-lt : (span : Interval) → span.from < span.to → span.to ≤ 126 → half_of span < 2
half_of-lt span some fits = omega arith

-- the piece begins in its half, and ends there at the latest
pub begins_in : (span : Interval) → leg_of (half_of span) 0 ≤ span.from
begins_in span = omega arith

pub ends_in : (span : Interval) → span.from < span.to → span.to ≤ 126 → IsPiece span → span.to ≤ leg_of (half_of span) 63
ends_in span some fits (inl low) = omega arith
ends_in span some fits (inr high) = omega arith

pub is_piece-true : (span : Interval) → is_piece span ≡ true → IsPiece span
is_piece-true span t = go (leb span.to 63) (leb 63 span.from) refl refl t where
  go : (a b : Bool) → leb span.to 63 ≡ a → leb 63 span.from ≡ b → (a || b) ≡ true → IsPiece span
  go true b e f t = inl (leb-true span.to 63 e)
  go false true e f t = inr (leb-true 63 span.from f)
  go false false e f t = absurd cc

pub piece-is_piece : (span : Interval) → IsPiece span → is_piece span ≡ true
piece-is_piece span (inl low) = ap (λ (b : Bool). b || leb 63 span.from) (le-leb span.to 63 low)
piece-is_piece span (inr high) = ap (λ (b : Bool). leb span.to 63 || b) (le-leb 63 span.from high) ∙ or_true (leb span.to 63)
  where
    or_true : (b : Bool) → (b || true) ≡ true
    or_true true = refl
    or_true false = refl

-- a piece is its only piece
pub pieces-whole : (span : Interval) → IsPiece span → pieces span ≡ span ∷ []
pieces-whole span piece = rw (piece-is_piece span piece) refl

-- the parts of a span that lies in both halves
abbrev pub before_border : Interval → Interval
before_border span = record { from = span.from; to = word_legs }

abbrev pub behind_border : Interval → Interval
behind_border span = record { from = word_legs; to = span.to }

pub pieces-border : (span : Interval) → is_piece span ≡ false → pieces span ≡ before_border span ∷ behind_border span ∷ []
pieces-border span both = rw both refl

pub ends-border : (span : Interval) → is_piece span ≡ false → (span.from < word_legs) × (word_legs < span.to)
ends-border span both = go (leb span.to 63) (leb 63 span.from) refl refl both where
  go : (a b : Bool) → leb span.to 63 ≡ a → leb 63 span.from ≡ b → (a || b) ≡ false → (span.from < 63) × (63 < span.to)
  go false false e f t = (leb-false 63 span.from f, leb-false span.to 63 e)
  go true b e f t = absurd cc
  go false true e f t = absurd cc

pub cases_piece : (span : Interval) → IsPiece span ⊎ (is_piece span ≡ false)
cases_piece span = ⊎_elim (λ (t : is_piece span ≡ true). inl (is_piece-true span t)) (λ (f : is_piece span ≡ false). inr f) (cases_Bool (is_piece span))

-- a span has one piece or two
pub pieces_some : (span : Interval) → (1 ≤ length (pieces span)) × (length (pieces span) ≤ 2)
pieces_some span = ⊎_elim
    (λ (p : IsPiece span). rw (pieces-whole span p) (omega arith, omega arith))
    (λ (b : is_piece span ≡ false). rw (pieces-border span b) (omega arith, omega arith))
    (cases_piece span)
