-- What a count of sold places is.
use Rattle.std.specs.Prelude.{◌≡◌, ◌≤◌, ℕ, suc, ◌+◌, ◌==◌, ◌&&◌, not, Bool, true, false, List, [], ◌∷◌, count_by, map}
use Rattle.history_model.specs.declared.entry.Step.{Step}
use Rattle.history_model.specs.declared.entry.Step.TheVariants.{Look}
use Rattle.place_map.specs.declared.coach.Class.{Class}
use Rattle.place_map.specs.declared.coach.Class.TheVariants.{First, Second}
use Rattle.place_map.specs.declared.coach.Place.{Place}
use Rattle.row_cuts.specs.declared.sold.SoldCount.{SoldCount}

-- what looks at a place showed: the words of its halves, in which each sold leg is set
pub record PlaceSeen : Type 0 where
  pub class : Class
  pub low : ℕ
  pub high : ℕ

abbrev pub is_sold : PlaceSeen → Bool
is_sold s = not ((s.low == 0) && (s.high == 0))

abbrev pub is_first : Class → Bool
is_first First = true
is_first Second = false

-- the looks at places in rising number, from one on
abbrev pub places_looks : ℕ → List PlaceSeen → List Step
places_looks place [] = []
places_looks place (s ∷ seen) = Look place 0 s.low ∷ Look place 1 s.high ∷ places_looks (suc place) seen

-- looks at both halves of each place, in order; the count is that of those seen sold, by class
pub record CountsSold (places : List Place) (count : SoldCount) (es : List Step) : Type 0 where
  pub seen : List PlaceSeen
  pub are : map (λ (s : PlaceSeen). s.class) seen ≡ map (λ (p : Place). p.class) places
  pub steps : es ≡ places_looks 0 seen
  pub first : count.first ≡ count_by (λ s. is_first s.class && is_sold s) seen
  pub second : count.second ≡ count_by (λ s. not (is_first s.class) && is_sold s) seen

-- the looks at one place, and whether they show a leg sold
abbrev pub ShowsPlace : ℕ → Bool → List Step → Type 0
ShowsPlace place sold es =
    (low : ℕ) × (high : ℕ) × (sold ≡ not ((low == 0) && (high == 0)))
    × (es ≡ Look place 0 low ∷ Look place 1 high ∷ [])

-- one place more
abbrev pub with_place : Class → Bool → SoldCount → SoldCount
with_place class false n = n
with_place First true n = record n { first = n.first + 1 }
with_place Second true n = record n { second = n.second + 1 }

-- no count of places is greater than this
abbrev pub AreFewSold : SoldCount → ℕ → Type 0
AreFewSold n k = (n.first ≤ k) × (n.second ≤ k)
