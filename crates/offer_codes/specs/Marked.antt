-- A text of numbers, each after a mark.
use Rattle.std.specs.Prelude.{ℕ, ◌+◌, ◌-◌, ◌*◌, ◌&&◌, min, nat_le, Bool, List, [], ◌∷◌, ◌++◌, if◌then◌else◌, Option, Some, None, decimal, ◌≡◌, true}

-- each number in decimal digits, after its mark
abbrev pub marked : List (List ℕ × ℕ) → List ℕ
marked [] = []
marked ((mark, n) ∷ rest) = mark ++ (decimal n ++ marked rest)

abbrev pub is_digit : ℕ → Bool
is_digit b = nat_le 48 b && nat_le b 57

-- the numbers that the runs of digits in a text write, after the digits of `current`; those above 64 bits are cut
abbrev pub numbers_in : Option ℕ → List ℕ → List ℕ
numbers_in None [] = []
numbers_in (Some n) [] = n ∷ []
numbers_in None (b ∷ rest) = if is_digit b then numbers_in (Some (b - 48)) rest else numbers_in None rest
numbers_in (Some n) (b ∷ rest) =
    if is_digit b then numbers_in (Some (min (n * 10 + (b - 48)) 18_446_744_073_709_551_615)) rest else n
    ∷ numbers_in None rest

-- the text spells the value, which is in range
abbrev pub IsSpelling : {A : Type 0} → (A → Bool) → (A → List ℕ) → List ℕ → A → Type 0
IsSpelling is_in_range spelling text x = (is_in_range x ≡ true) × (text ≡ spelling x)

-- whichever value in range the text spells was read
abbrev pub ReadsAny : {A : Type 0} → (A → Bool) → (A → List ℕ) → List ℕ → Option A → Type 0
ReadsAny {A} is_in_range spelling text read = (x : A) → is_in_range x ≡ true → text ≡ spelling x → read ≡ Some x
