-- The words of `recover`.
use Rattle.std.specs.Prelude.{◌≡◌, ℕ, List, [], ◌∷◌, codes}

-- the words are `recover`, the name of the catalogue's file and that of the journal's, whatever these are
abbrev pub IsRecover : List (List ℕ) → List ℕ → List ℕ → Type 0
IsRecover words catalogue journal = words ≡ codes "recover" ∷ catalogue ∷ journal ∷ []

-- not the words of `recover`
abbrev pub IsNoRecover : List (List ℕ) → Type 0
IsNoRecover words = (catalogue journal : List ℕ) → IsRecover words catalogue journal → ⊥
