-- Looking for a stretch that is free.
use Rattle.std.specs.Prelude.{◌≡◌, ℕ, ◌+◌, Bool, true, if◌then◌else◌, List, [], ◌∷◌, ◌++◌, length, map}
use Rattle.std.specs.List.{AllByRecursion}
use Rattle.leg_masks.specs.Interval.{Interval, pieces}
use Rattle.place_map.specs.declared.coach.Place.{Place}
use Rattle.history_model.specs.declared.entry.Step.{Step}
use Rattle.claim_rule.specs.Calls.{Calls}
use Rattle.availability.specs.Looks.{LooksPieces}
use Rattle.party_places.specs.Stretches.{AreSideBySide}

-- a candidate that was looked at, and whether it showed free on all pieces of the span
pub record Looked : Type 0 where
  pub place : ℕ
  pub free : Bool

abbrev pub places_looked : List Looked → List ℕ
places_looked looked = map (λ l. l.place) looked

-- the looks at each of them in order: one a piece
abbrev pub LooksAtEach : Interval → List Looked → List Step → Type 0
LooksAtEach span [] es = es ≡ []
LooksAtEach span (l ∷ rest) es =
    (mine : List Step) × (more : List Step) × LooksPieces l.place (pieces span) l.free mine × LooksAtEach span rest more
    × (es ≡ mine ++ more)

-- the last of them are a stretch of that many, and all showed free
pub record EndsFree (places : List Place) (count : ℕ) (looked : List Looked) : Type 0 where
  pub front : List Looked
  pub stretch : List Looked
  pub are : looked ≡ front ++ stretch
  pub many : length stretch ≡ count
  pub free : AllByRecursion (λ l. l.free ≡ true) stretch
  pub beside : AreSideBySide places (places_looked stretch)

-- no front of them ends so
abbrev pub ShowsNone : List Place → ℕ → List Looked → Type 0
ShowsNone places count looked =
    (front : List Looked) → (back : List Looked) → looked ≡ front ++ back → ¬ EndsFree places count front

-- a search of the candidates ended at the first such stretch
pub record Finds (places : List Place) (count : ℕ) (candidates : List ℕ) (looked : List Looked) : Type 0 where
  pub before : List Looked
  pub last : Looked
  pub are : looked ≡ before ++ last ∷ []
  pub none : ShowsNone places count before
  pub ends : EndsFree places count looked
  pub left : List ℕ
  pub candidates_are : candidates ≡ places_looked looked ++ left

-- or at the list's end
pub record FindsNone (places : List Place) (count : ℕ) (candidates : List ℕ) (looked : List Looked) : Type 0 where
  pub none : ShowsNone places count looked
  pub all : candidates ≡ places_looked looked

-- the steps of such searches, of which the one that finds looks at n candidates
abbrev pub FindsAt : List Place → ℕ → Interval → List ℕ → ℕ → Calls
FindsAt places count span candidates n es =
    (looked : List Looked) × LooksAtEach span looked es × Finds places count candidates looked × (length looked ≡ n)

abbrev pub FindsNothing : List Place → ℕ → Interval → List ℕ → Calls
FindsNothing places count span candidates es =
    (looked : List Looked) × LooksAtEach span looked es × FindsNone places count candidates looked

-- how many of the last candidates looked at stand side by side and showed free, after one more
abbrev pub next_together : ℕ → Bool → Bool → ℕ
next_together together free beside = if free then (if beside then together + 1 else 1) else 0
