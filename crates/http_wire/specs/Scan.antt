-- What a search for the end of a head stands for, by the rules on heads: where a head ends, and how many lines it has.
use Rattle.std.specs.Prelude.{◌≡◌, ◌≢◌, ◌⊎◌, ℕ, zero, suc, ◌+◌, ◌-◌, ◌<◌, ◌≤◌, Bool, true, false, not, ◌&&◌, List, [], ◌∷◌, ◌++◌, length, take, slice_index, Option, Some, None}
use Rattle.std.specs.List.{AllByRecursion}
use Rattle.httparse.specs.Grammar.{LineEnd}
use Rattle.http_wire.specs.Heads.{HasNoFeed, IsLine, print_lines, IsHeadOfLines}
use Rattle.http_wire.specs.declared.scan.HeadScan.{HeadScan}
use Rattle.http_wire.specs.declared.scan.Found.{Found}

-- whether the line in progress has no byte, or one CR alone
abbrev pub IsLineEmpty : Bool → List ℕ → Type 0
IsLineEmpty true part = (part ≡ []) ⊎ (part ≡ 13 ∷ [])
IsLineEmpty false part = (part ≢ []) × (part ≢ 13 ∷ [])

-- whether the last byte is a CR
abbrev pub IsCarriageLast : Bool → List ℕ → Type 0
IsCarriageLast true bytes = (front : List ℕ) × (bytes ≡ front ++ 13 ∷ [])
IsCarriageLast false bytes = (front : List ℕ) → bytes ≢ front ++ 13 ∷ []

-- whether the request line has ended, by the lines that have
abbrev pub HasBegun : Bool → List (List ℕ) → Type 0
HasBegun true lines = 0 < length lines
HasBegun false lines = lines ≡ []

-- The bytes are empty lines, lines that aren't empty, and a line in progress: no head has ended in them.
pub record IsOpenWith (scan : HeadScan) (bytes : List ℕ) (blank : List LineEnd) (lines : List (List ℕ))
    (part : List ℕ) : Type 0 where
  pub is : bytes ≡ print_lines blank lines ++ part
  pub each : AllByRecursion IsLine lines
  pub one : HasNoFeed part
  pub begun : HasBegun scan.begun lines
  pub count : scan.lines ≡ length lines - 1
  pub empty : IsLineEmpty scan.line_empty part
  pub carriage : IsCarriageLast scan.carriage bytes
  pub at : scan.at ≡ length bytes

abbrev pub IsOpen : HeadScan → List ℕ → Type 0
IsOpen scan bytes =
    (blank : List LineEnd) × (lines : List (List ℕ)) × (part : List ℕ) × IsOpenWith scan bytes blank lines part

-- The first bytes are a head, and nothing was searched past it.
pub record IsEnded (scan : HeadScan) (bytes : List ℕ) (end : ℕ) : Type 0 where
  pub within : end ≤ length bytes
  pub head : IsHeadOfLines (scan.lines + 1) (take end bytes)
  pub begun : scan.begun ≡ true
  pub empty : scan.line_empty ≡ true
  pub carriage : scan.carriage ≡ false
  pub at : scan.at ≡ end

abbrev pub StandsWith : HeadScan → List ℕ → Option ℕ → Type 0
StandsWith scan bytes None = IsOpen scan bytes
StandsWith scan bytes (Some end) = IsEnded scan bytes end

-- The search stands for these bytes.
abbrev pub StandsFor : HeadScan → List ℕ → Type 0
StandsFor scan bytes = StandsWith scan bytes scan.ended

-- all bytes searched are empty lines
abbrev pub is_blank : HeadScan → Bool
is_blank scan = scan.line_empty && not scan.begun && not scan.carriage

-- the search with that many bytes more, none of which tells lines apart
abbrev pub with_plain : HeadScan → ℕ → HeadScan
with_plain scan zero = scan
with_plain scan (suc n) = record scan { at = scan.at + suc n; line_empty = false; carriage = false }

-- the bytes from one place up to another are after CR in value: none ends a line, or is part of an empty one
abbrev pub ArePlain : List ℕ → ℕ → ℕ → Type 0
ArePlain bytes from at = (k : ℕ) → from ≤ k → k < at → 13 < slice_index bytes k

-- The byte stands after plain ones.
pub record IsBehind (bytes : List ℕ) (from : ℕ) (found : Found) : Type 0 where
  pub after : from ≤ found.at
  pub within : found.at < length bytes
  pub is : found.byte ≡ slice_index bytes found.at
  pub plain : ArePlain bytes from found.at

-- the byte is after plain ones, or all are plain
abbrev pub IsFoundFrom : List ℕ → ℕ → Option Found → Type 0
IsFoundFrom bytes from None = ArePlain bytes from (length bytes)
IsFoundFrom bytes from (Some found) = IsBehind bytes from found

-- the place up to which bytes were looked at
abbrev pub looked_until : List ℕ → Option Found → ℕ
looked_until bytes None = length bytes
looked_until bytes (Some found) = found.at + 1
