-- The text of a journal.
use Rattle.std.specs.Prelude.{◌≡◌, ℕ, ◌+◌, ◌<◌, ◌≤◌, List, [], ◌∷◌, ◌++◌, map, length, codes, nat_le, ◌&&◌, ◌||◌, Bool}
use Rattle.std.specs.List.{AllByRecursion, AllPass}
use Rattle.hex.specs.Hex.{encode_lower}
use Rattle.sha2.specs.Sha256.{sha256}
use Rattle.history_model.specs.Booking.{most_rows}
use Rattle.history_model.specs.Lists.{Pairwise}
use Rattle.line_text.specs.Lines.{IsLine, IsNumber, field, number_field, text_of}

-- the sum of a text: its SHA-256, as 64 hex digits in lower case
abbrev pub sum_of : List ℕ → List ℕ
sum_of text = encode_lower (sha256 text)

abbrev pub is_hex : ℕ → Bool
is_hex c = (nat_le 48 c && nat_le c 57) || (nat_le 97 c && nat_le c 102)

-- the text may be a sum
abbrev pub HasSumForm : List ℕ → Type 0
HasSumForm digits = (length digits ≡ 64) × AllPass is_hex digits

-- what the first line says
pub record SaidHead : Type 0 where
  pub places : ℕ
  pub rows : ℕ
  pub print : List ℕ

pub record IsHead (h : SaidHead) : Type 0 where
  pub places : IsNumber h.places
  pub rows : h.rows ≤ most_rows
  pub print : HasSumForm h.print

-- the first line, with its line feed
abbrev pub head_text : SaidHead → List ℕ
head_text h =
    codes "rail-journal 1" ++ (number_field h.places ++ (number_field h.rows ++ (field h.print ++ 10 ∷ [])))

-- what a cut says, whatever its body is: its number, how many lines, the sum before it, and its body
pub record SaidCut : Type 0 where
  pub number : ℕ
  pub count : ℕ
  pub before : List ℕ
  pub body : List ℕ

pub record IsSaidCut (c : SaidCut) : Type 0 where
  pub number : IsNumber c.number
  pub count : IsNumber c.count
  pub size : IsNumber (length c.body)
  pub before : HasSumForm c.before

-- the first line of a cut
abbrev pub opening_text : SaidCut → List ℕ
opening_text c =
    codes "cut" ++ (number_field c.number ++ (number_field c.count ++ (number_field (length c.body)
    ++ (field c.before ++ 10 ∷ []))))

-- what its sum is of
abbrev pub summed_text : SaidCut → List ℕ
summed_text c = opening_text c ++ c.body

abbrev pub own_sum : SaidCut → List ℕ
own_sum c = sum_of (summed_text c)

abbrev pub cut_text : SaidCut → List ℕ
cut_text c = summed_text c ++ (codes "sum" ++ (field (own_sum c) ++ 10 ∷ []))

-- a line of a row. Nothing is said of what stands after the row's number and a space
pub record RowLine : Type 0 where
  pub row : ℕ
  pub more : List ℕ

abbrev pub row_text : RowLine → List ℕ
row_text l = codes "row" ++ (number_field l.row ++ field l.more)

pub record IsRowLine (rows : ℕ) (l : RowLine) : Type 0 where
  pub row : l.row < rows
  pub line : IsLine l.more

abbrev pub lines_text : List RowLine → List ℕ
lines_text lines = text_of (map row_text lines)

-- lines of a cut, in rising row
pub record AreLines (rows : ℕ) (lines : List RowLine) : Type 0 where
  pub each : AllByRecursion (IsRowLine rows) lines
  pub rising : Pairwise (λ (a b : RowLine). a.row < b.row) lines
  pub size : IsNumber (length (lines_text lines))

-- the cut of these lines
abbrev pub cut_of : ℕ → List ℕ → List RowLine → SaidCut
cut_of number before lines = record { number = number; count = length lines; before = before; body = lines_text lines }

-- the texts of cuts that follow each other: each says the number and the sum before it
abbrev pub cuts_text : ℕ → List ℕ → List (List RowLine) → List ℕ
cuts_text number before [] = []
cuts_text number before (lines ∷ more) =
    cut_text (cut_of number before lines) ++ cuts_text (number + 1) (own_sum (cut_of number before lines)) more

-- the sum after them
abbrev pub sum_after : ℕ → List ℕ → List (List RowLine) → List ℕ
sum_after number before [] = before
sum_after number before (lines ∷ more) = sum_after (number + 1) (own_sum (cut_of number before lines)) more

abbrev pub journal_text : SaidHead → List (List RowLine) → List ℕ
journal_text h cuts = head_text h ++ cuts_text 1 (sum_of (head_text h)) cuts

-- the sum after a journal's first line and cuts
abbrev pub end_sum : SaidHead → List (List RowLine) → List ℕ
end_sum h cuts = sum_after 1 (sum_of (head_text h)) cuts

-- the text is this first line, these cuts, and a rest
pub record Begins (text : List ℕ) (h : SaidHead) (cuts : List (List RowLine)) (rest : List ℕ) : Type 0 where
  pub head : IsHead h
  pub each : AllByRecursion (AreLines h.rows) cuts
  pub few : IsNumber (length cuts)
  pub is : text ≡ journal_text h cuts ++ rest

-- a whole cut begins somewhere in the text
pub record HoldsCut (text : List ℕ) : Type 0 where
  pub front : List ℕ
  pub cut : SaidCut
  pub rest : List ℕ
  pub said : IsSaidCut cut
  pub is : text ≡ front ++ (cut_text cut ++ rest)

-- the text is a journal of these cuts. The rest, in which no whole cut begins, is a torn end
pub record IsJournal (text : List ℕ) (h : SaidHead) (cuts : List (List RowLine)) (rest : List ℕ) : Type 0 where
  pub begins : Begins text h cuts rest
  pub torn : ¬ HoldsCut rest
