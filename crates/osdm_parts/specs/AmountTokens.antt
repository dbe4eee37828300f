-- The tokens that end an amount.
use Rattle.std.specs.Prelude.{ℕ, List, [], ◌∷◌, codes, decimal}
use Rattle.json.specs.Token.{Token, key, string, number, end_object}

-- what follows the number of an amount
abbrev pub amount_rest : List ℕ → List Token
amount_rest currency =
    key (codes "currency") ∷ string currency ∷ key (codes "scale") ∷ number (decimal 2) ∷ end_object ∷ []
