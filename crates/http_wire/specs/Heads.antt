-- The lines of a head, and where it ends.
use Rattle.std.specs.Prelude.{◌≡◌, ◌≢◌, ℕ, ◌<◌, List, [], ◌∷◌, ◌++◌, length}
use Rattle.std.specs.List.{flat_map, AllByRecursion}
use Rattle.httparse.specs.Grammar.{LineEnd, print_end, print_blank}

-- no byte of it is a line feed
abbrev pub HasNoFeed : List ℕ → Type 0
HasNoFeed bytes = AllByRecursion (λ b. b ≢ 10) bytes

-- a line without its line feed that isn't empty: it has more than the CR before the line feed
pub record IsLine (line : List ℕ) : Type 0 where
  pub one : HasNoFeed line
  pub some : line ≢ []
  pub more : line ≢ 13 ∷ []

-- a line with its line feed
abbrev pub print_line : List ℕ → List ℕ
print_line line = line ++ 10 ∷ []

-- empty lines, and then lines
abbrev pub print_lines : List LineEnd → List (List ℕ) → List ℕ
print_lines blank lines = print_blank blank ++ flat_map print_line lines

-- empty lines, at least one line that isn't empty, and the first empty line after it
abbrev pub IsHead : List ℕ → Type 0
IsHead head =
    (blank : List LineEnd) × (lines : List (List ℕ)) × (last : LineEnd)
    × (0 < length lines) × AllByRecursion IsLine lines × (head ≡ print_lines blank lines ++ print_end last)

-- the same, of that many lines that aren't empty
abbrev pub IsHeadOfLines : ℕ → List ℕ → Type 0
IsHeadOfLines count head =
    (blank : List LineEnd) × (lines : List (List ℕ)) × (last : LineEnd)
    × (length lines ≡ count) × AllByRecursion IsLine lines × (head ≡ print_lines blank lines ++ print_end last)

-- `count` lines that aren't empty, each with its line end, stand before any end of a head
abbrev pub HasLines : ℕ → List ℕ → Type 0
HasLines count stream =
    (blank : List LineEnd) × (lines : List (List ℕ)) × (rest : List ℕ)
    × (length lines ≡ count) × AllByRecursion IsLine lines × (stream ≡ print_lines blank lines ++ rest)
