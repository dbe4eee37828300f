-- The words of `tiny`.
use Rattle.std.specs.Prelude.{◌≡◌, ◌≤◌, ℕ, List, [], ◌∷◌, codes, decimal}
use Rattle.leg_masks.specs.Interval.{most_legs}
use Rattle.host_words.specs.Limits.{most_run_places}

-- the word spells this number from 1 to `most`, with no leading zero
pub record IsNumber (word : List ℕ) (most n : ℕ) : Type 0 where
  pub some : 1 ≤ n
  pub few : n ≤ most
  pub is : word ≡ decimal n

-- the words are `tiny`, the legs and the places
abbrev pub IsTiny : List (List ℕ) → ℕ → ℕ → Type 0
IsTiny words legs places =
    (second : List ℕ) × (third : List ℕ) × (words ≡ codes "tiny" ∷ second ∷ third ∷ [])
    × IsNumber second most_legs legs × IsNumber third most_run_places places

-- not the words of `tiny`
abbrev pub IsNoTiny : List (List ℕ) → Type 0
IsNoTiny words = (legs places : ℕ) → IsTiny words legs places → ⊥
