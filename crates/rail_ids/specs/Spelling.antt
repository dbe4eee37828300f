-- The one spelling of each booking's id.
use Rattle.std.specs.Prelude.{◌≡◌, ◌≢◌, ℕ, zero, suc, ◌-◌, ◌^◌, ◌<◌, ◌≤◌, List, [], ◌∷◌, ◌++◌, length, decimal, replicate, Option, Some}
use Rattle.rail_ids.specs.declared.RowNo.{RowNo}

-- the last generation of a row
abbrev pub last_generation : ℕ
last_generation = 65535

-- nothing for a row's first booking, else `-` and the generation in decimal digits
abbrev pub generation_text : ℕ → List ℕ
generation_text zero = []
generation_text (suc n) = 45 ∷ decimal (suc n)

-- `B`, the row's number in decimal digits, with zeros before it where there are fewer than six, and the generation
abbrev pub booking_id_text : ℕ → ℕ → List ℕ
booking_id_text row generation =
    66 ∷ (replicate (6 - length (decimal row)) 48 ++ (decimal row ++ generation_text generation))

-- the text is the id of this booking; of no other one; and of none
abbrev pub IsIdOf : List ℕ → RowNo → Type 0
IsIdOf text row = (row.generation ≤ last_generation) × (text ≡ booking_id_text row.row row.generation)

abbrev pub IsIdOfNoOther : List ℕ → RowNo → Type 0
IsIdOfNoOther text id =
    (row generation : ℕ) → row < 2 ^ 32 → generation ≤ last_generation → text ≡ booking_id_text row generation
    → (row ≡ id.row) × (generation ≡ id.generation)

abbrev pub IsNoId : List ℕ → Type 0
IsNoId text = (row generation : ℕ) → row < 2 ^ 32 → generation ≤ last_generation → text ≢ booking_id_text row generation

-- where the text is a booking's id, these are the numbers of that booking
abbrev pub HasNumbers : List ℕ → Option RowNo → Type 0
HasNumbers text numbers =
    (row generation : ℕ) → row < 2 ^ 32 → generation ≤ last_generation → text ≡ booking_id_text row generation
    → numbers ≡ Some (record { row = row; generation = generation })

-- where the text is that of a row, with zeros before it, and of a generation after it, these are the digits of both
abbrev pub HasParts : List ℕ → List ℕ → List ℕ → Type 0
HasParts text first second =
    (k row generation : ℕ) → row < 2 ^ 32 → text ≡ replicate k 48 ++ (decimal row ++ generation_text generation)
    → (first ≡ replicate k 48 ++ decimal row) × (second ≡ decimal generation)
