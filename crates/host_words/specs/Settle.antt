-- The words of `settle`.
use Rattle.std.specs.Prelude.{◌≡◌, ℕ, List, [], ◌∷◌, codes}

-- the words are `settle`, the name of the catalogue's file and that of the export's, whatever these are
abbrev pub IsSettle : List (List ℕ) → List ℕ → List ℕ → Type 0
IsSettle words catalogue export = words ≡ codes "settle" ∷ catalogue ∷ export ∷ []

-- not the words of `settle`
abbrev pub IsNoSettle : List (List ℕ) → Type 0
IsNoSettle words = (catalogue export : List ℕ) → IsSettle words catalogue export → ⊥
