-- Spans of legs, the two words of a place and what they say of a leg, and the words of items.
use Rattle.std.specs.Prelude.{◌≡◌, ℕ, ◌+◌, ◌-◌, ◌*◌, ◌^◌, ◌/◌, ◌%◌, ◌<◌, ◌≤◌, ◌⊎◌, ◌&&◌, ◌||◌, Bool, List, [], ◌∷◌, if◌then◌else◌, map, nat_le, nat_lt}
use Rattle.std.specs.Int.{bit_at}

-- the legs from `from` up to the one before `to`
pub record Interval : Type 0 where
  pub from : ℕ
  pub to : ℕ

-- the span has this leg
abbrev pub Holds : Interval → ℕ → Type 0
Holds span leg = (span.from ≤ leg) × (leg < span.to)

-- the same, as a test
abbrev pub has_leg : Interval → ℕ → Bool
has_leg span leg = nat_le span.from leg && nat_lt leg span.to

-- some leg is in both
abbrev pub Meet : Interval → Interval → Type 0
Meet a b = (leg : ℕ) × Holds a leg × Holds b leg

-- the word that an item of this place and these legs is written as
abbrev pub item_word : ℕ → Interval → ℕ
item_word place span = place * 65536 + span.from * 256 + span.to

-- how many legs a run and a place have at most, and where a span ends at the latest, that of an item too
abbrev pub most_legs : ℕ
most_legs = 126

-- the span has a leg, and none past the greatest
abbrev pub IsSpan : Interval → Type 0
IsSpan span = (span.from < span.to) × (span.to ≤ most_legs)

-- how many legs a word has: half 0 of a place has legs 0 to 62, half 1 legs 63 to 125
abbrev pub word_legs : ℕ
word_legs = 63

-- how many halves a place has, each with a word of its own
abbrev pub halves : ℕ
halves = 2

-- the half that a leg lies in
abbrev pub half_at : ℕ → ℕ
half_at leg = leg / word_legs

-- the bit of a leg in the word of its half
abbrev pub bit_of : ℕ → ℕ
bit_of leg = leg % word_legs

-- the leg of a bit in the word of a half
abbrev pub leg_of : ℕ → ℕ → ℕ
leg_of half bit = bit + word_legs * half

-- what the word of its half says of a leg: 1 where it is set, else 0
abbrev pub shows : ℕ → ℕ → ℕ
shows word leg = bit_at word (bit_of leg)

-- the span lies in one half
abbrev pub IsPiece : Interval → Type 0
IsPiece span = (span.to ≤ word_legs) ⊎ (word_legs ≤ span.from)

-- the same, as a test
abbrev pub is_piece : Interval → Bool
is_piece span = nat_le span.to word_legs || nat_le word_legs span.from

-- the span's parts, each in one half, in order
abbrev pub pieces : Interval → List Interval
pieces span =
    if is_piece span
    then span ∷ []
    else record { from = span.from; to = word_legs } ∷ record { from = word_legs; to = span.to } ∷ []

-- the half of a piece
abbrev pub half_of : Interval → ℕ
half_of piece = half_at piece.from

-- a piece's legs as bits of its half's word
abbrev pub in_word : Interval → Interval
in_word piece = record { from = piece.from - leg_of (half_of piece) 0; to = piece.to - leg_of (half_of piece) 0 }

-- the number with exactly the piece's legs as bits
abbrev pub mask : Interval → ℕ
mask piece = 2 ^ (in_word piece).to - 2 ^ (in_word piece).from

-- no leg of the piece is set
abbrev pub IsClear : ℕ → Interval → Type 0
IsClear word piece = (leg : ℕ) → piece.from ≤ leg → leg < piece.to → shows word leg ≡ 0

-- the least leg of the piece that is set
pub record IsFirstTaken (word : ℕ) (piece : Interval) (leg : ℕ) : Type 0 where
  pub inside : Holds piece leg
  pub set : shows word leg ≡ 1
  pub least : (l : ℕ) → piece.from ≤ l → l < leg → shows word l ≡ 0

-- how many places there may be
abbrev pub most_places : ℕ
most_places = 4194304

-- a span at a place
pub record PlacedSpan : Type 0 where
  pub place : ℕ
  pub span : Interval

-- what one who has the span at a place has there: an item for each piece
abbrev pub items_at : Interval → ℕ → List PlacedSpan
items_at span place = map (λ piece. record { place = place; span = piece }) (pieces span)

-- the word is that of an item of this place and these legs, which lie in one half
abbrev pub IsItemOf : ℕ → Interval → ℕ → Type 0
IsItemOf place span word =
    (place < most_places) × (span.from < span.to) × (span.to ≤ most_legs) × IsPiece span × (item_word place span ≡ word)

-- the word is no other item's
abbrev pub IsWordOfNoOther : ℕ → Interval → ℕ → Type 0
IsWordOfNoOther place span word = (p : ℕ) (s : Interval) → IsItemOf p s word → (p ≡ place) × (s ≡ span)
