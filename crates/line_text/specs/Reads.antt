-- What a reader of a part of a text answers.
use Rattle.std.specs.Prelude.{◌≡◌, ℕ, ◌+◌, ◌*◌, ◌^◌, ◌<◌, ◌++◌, ◌∷◌, Bool, false, true, List, [], Option, Some, None, codes, decimal, IfSome, nat_lt, if◌then◌else◌}
use Rattle.std.specs.Char.{is_ascii_digit}
use Rattle.line_text.specs.declared.heads.Head.{Head}
use Rattle.line_text.specs.declared.ends.SaidRow.{SaidRow}
use Rattle.line_text.specs.Lines.{HasLetter, IsNumber, head_text, number_field}

-- no digit comes first
abbrev pub IsCut : List ℕ → Type 0
IsCut [] = Unit {0}
IsCut (c ∷ cs) = is_ascii_digit c ≡ false

-- what was read stood at the front; and what stands at the front, cut off where no digit follows, is read
pub record Reads {A : Type 0} (text : A → List ℕ) (Is : A → Type 0) (old new : List ℕ) (read : Option A) : Type 0 where
  pub found : IfSome read (λ a. Is a × (old ≡ text a ++ new))
  pub only : (a : A) (rest : List ℕ) → Is a → IsCut rest → old ≡ text a ++ rest → (read ≡ Some a) × (new ≡ rest)

-- the bytes stood at the front and are gone, or nothing is
pub record Eats (bytes old new : List ℕ) (read : Bool) : Type 0 where
  pub found : read ≡ true → old ≡ bytes ++ new
  pub none : read ≡ false → (new ≡ old) × ((rest : List ℕ) → ¬ (old ≡ bytes ++ rest))

-- a digit stood at the front and is gone, or there is none and nothing is
abbrev pub TakesDigit : List ℕ → List ℕ → Option ℕ → Type 0
TakesDigit old new (Some n) = (n < 10) × (old ≡ (48 + n) ∷ new)
TakesDigit old new None = IsCut old × (new ≡ old)

-- the number with one digit more, if a text may have it
abbrev pub number_with : ℕ → ℕ → Option ℕ
number_with n d = if nat_lt (n * 10 + d) (2 ^ 64) then Some (n * 10 + d) else None

-- a number after a dot
abbrev pub number_part : ℕ → List ℕ
number_part n = codes "." ++ decimal n

-- a row and a generation
abbrev pub row_field : SaidRow → List ℕ
row_field s = number_field s.row ++ number_part s.generation

abbrev pub two_fields : ℕ × ℕ → List ℕ
two_fields two = number_field two.0 ++ number_field two.1

abbrev pub AreNumbers : ℕ × ℕ → Type 0
AreNumbers two = IsNumber two.0 × IsNumber two.1

-- the fields before the items
abbrev pub head_fields : Head → List ℕ
head_fields h =
    head_text h.row h.generation h.phase
    ++ (number_field h.retailer ++ (number_field h.limit ++ (number_field h.total ++ number_field h.count)))

pub record IsHeadSaid (h : Head) : Type 0 where
  pub row : IsNumber h.row
  pub generation : IsNumber h.generation
  pub phase : HasLetter h.phase
  pub retailer : IsNumber h.retailer
  pub limit : IsNumber h.limit
  pub total : IsNumber h.total
  pub count : IsNumber h.count
