-- A text that was written field by field.
use Rattle.std.proofs.Common.{◌≡◌, ◌∷◌, [], ◌++◌, ℕ, List, append_assoc}
use Rattle.line_text.specs.Lines.{field, number_field}

pub two_fields : (t a b c d e f : List ℕ) (m n : ℕ) → a ≡ t ++ b → c ≡ a ++ number_field m → d ≡ c ++ number_field n → e ≡ d ++ f → e ≡ t ++ ((b ++ (number_field m ++ number_field n)) ++ f)
two_fields t a b c d e f m n ha hc hd he = rw (he, hd, hc, ha) (simp append_assoc)

pub three_fields : (t a b c d e f s : List ℕ) (m n : ℕ) → a ≡ t ++ b → c ≡ a ++ number_field m → d ≡ c ++ number_field n → e ≡ d ++ field s → f ≡ e ++ 10 ∷ [] → f ≡ t ++ (b ++ (number_field m ++ (number_field n ++ (field s ++ 10 ∷ []))))
three_fields t a b c d e f s m n ha hc hd he hf = rw (hf, he, hd, hc, ha) (simp append_assoc)
