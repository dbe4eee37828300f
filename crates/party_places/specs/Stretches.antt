-- Places side by side.
use Rattle.std.specs.Prelude.{◌≡◌, ℕ, ◌+◌, ◌==◌, ◌&&◌, Bool, true, false, List, [], ◌∷◌, ◌++◌, length, Option, Some, None, slice_get}
use Rattle.place_map.specs.declared.coach.Place.{Place}

-- the second place is in the first one's coach, and has the number one above
abbrev pub stands_beside : Option Place → Option Place → Bool
stands_beside (Some p) (Some q) = q.run.0 == p.run.0 && (q.coach == p.coach && q.number == p.number + 1)
stands_beside (Some p) None = false
stands_beside None q = false

-- the same of the places with these numbers
abbrev pub is_beside : List Place → ℕ → ℕ → Bool
is_beside places p q = stands_beside (slice_get places p) (slice_get places q)

-- each stands beside the one before
abbrev pub AreSideBySide : List Place → List ℕ → Type 0
AreSideBySide places [] = Unit {0}
AreSideBySide places (p ∷ []) = Unit {0}
AreSideBySide places (p ∷ q ∷ rest) = (is_beside places p q ≡ true) × AreSideBySide places (q ∷ rest)

-- that many neighbours in the list of candidates, side by side
pub record IsStretch (places : List Place) (count : ℕ) (candidates stretch : List ℕ) : Type 0 where
  pub front : List ℕ
  pub back : List ℕ
  pub are : candidates ≡ front ++ (stretch ++ back)
  pub many : length stretch ≡ count
  pub beside : AreSideBySide places stretch
