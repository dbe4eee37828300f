-- The lines of an export's rows.
use Rattle.std.specs.Prelude.{◌≡◌, ℕ, List, [], ◌∷◌, ◌++◌, length, map}
use Rattle.std.specs.List.{AllByRecursion}
use Rattle.line_text.specs.Lines.{IsLine, SaidBooking, booking_line, text_of}

-- the text has these lines, and a line before them and one after them
pub record IsWithin (text first : List ℕ) (lines : List (List ℕ)) (last : List ℕ) : Type 0 where
  pub begins : IsLine first
  pub each : AllByRecursion IsLine lines
  pub ends : IsLine last
  pub is : text ≡ ((first ++ 10 ∷ []) ++ text_of lines) ++ (last ++ 10 ∷ [])

-- the text has just the lines of these bookings, and this is their count
abbrev pub AreLinesOf : List SaidBooking → List ℕ → ℕ → Type 0
AreLinesOf said text count = (text ≡ text_of (map booking_line said)) × (count ≡ length said)
