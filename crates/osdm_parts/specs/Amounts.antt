-- The JSON of counts and amounts.
use Rattle.std.specs.Prelude.{ℕ, ℤ, List, codes}
use Rattle.serde_json.specs.Data.{Data, number, string, object, unsigned, no_members, member}
use Rattle.serde_json.specs.Find.{of_integer}

abbrev pub count_tree : ℕ → Data
count_tree n = number (unsigned n)

-- an amount in minor units of the currency, of which two digits stand after the point
abbrev pub amount_tree : List ℕ → ℤ → Data
amount_tree currency amount =
    object (member (codes "amount") (number (of_integer amount))
    (member (codes "currency") (string currency) (member (codes "scale") (count_tree 2) no_members)))
