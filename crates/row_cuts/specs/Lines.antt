-- What is written of rows.
use Rattle.std.specs.Prelude.{◌≡◌, ℕ, ◌+◌, ◌-◌, ◌*◌, ◌/◌, ◌%◌, ◌==◌, Bool, List, [], ◌∷◌, ◌++◌, Option, filter}
use Rattle.std.specs.Prelude.{filter_map, get_or, length, map, min, option_to_list}
use Rattle.std.specs.List.{AllByRecursion, range_with_len}
use Rattle.std.specs.Int.{bit_at}
use Rattle.history_model.specs.declared.entry.Step.{Step}
use Rattle.claim_rule.specs.Openings.{KeptBooking}
use Rattle.cold_store.specs.Written.{said_of}
use Rattle.line_text.specs.Lines.{booking_line, text_of}
use Rattle.row_cuts.specs.Looks.{IsRowLook, RowLook, kept_looked, looks_steps}

-- the line of a kept booking, where there is one, and the count of these lines
abbrev pub kept_line : KeptBooking → List ℕ
kept_line k = booking_line (said_of k)

abbrev pub line_text : Option KeptBooking → List ℕ
line_text kept = text_of (map kept_line (option_to_list kept))

abbrev pub line_count : Option KeptBooking → ℕ
line_count kept = length (option_to_list kept)

-- what is kept of all these rows
abbrev pub all_kept : List RowLook → List KeptBooking
all_kept looks = filter_map kept_looked looks

-- these rows were looked at one after another, and the lines of what was seen were written after the text; this is
-- their count
pub record WritesLines (rows old new : List ℕ) (count : ℕ) (es : List Step) : Type 0 where
  pub looks : List RowLook
  pub each : AllByRecursion IsRowLook looks
  pub are : map (λ (l : RowLook). l.row) looks ≡ rows
  pub steps : es ≡ looks_steps looks
  pub text : new ≡ old ++ text_of (map kept_line (all_kept looks))
  pub counts : count ≡ length (all_kept looks)

-- how many rows have their marks in one number
abbrev pub block_rows : ℕ
block_rows = 64

-- how many numbers have the marks of these rows: one for each block, and one more for the rest
abbrev pub mark_blocks : ℕ → ℕ
mark_blocks rows = rows / block_rows + 1

-- how many blocks have their marks in one number, and how many numbers have those of all blocks: as with rows
abbrev pub group_blocks : ℕ
group_blocks = block_rows

abbrev pub mark_groups : ℕ → ℕ
mark_groups rows = mark_blocks rows / group_blocks + 1

-- whether the row is marked in the marks of its block, the first row of which has the lowest bit
abbrev pub is_set : ℕ → ℕ → Bool
is_set marks row = bit_at marks (row % block_rows) == 1

abbrev pub is_marked : List ℕ → ℕ → Bool
is_marked marks row = is_set (get_or marks (row / block_rows) 0) row

-- all rows that are marked, in rising number
abbrev pub marked_rows : ℕ → List ℕ → List ℕ
marked_rows rows marks = filter (is_marked marks) (range_with_len 0 rows)

-- the rows of a block that are set in its marks
abbrev pub set_in : ℕ → ℕ → ℕ → List ℕ
set_in rows block marks =
    filter (is_set marks)
    (range_with_len (block_rows * block) (min (block_rows * block + block_rows) rows - block_rows * block))

-- the rows of these blocks that are set in their marks, of which each block has a number
abbrev pub set_in_all : ℕ → List ℕ → List ℕ → List ℕ
set_in_all rows [] marks = []
set_in_all rows (block ∷ blocks) [] = []
set_in_all rows (block ∷ blocks) (mark ∷ marks) = set_in rows block mark ++ set_in_all rows blocks marks

-- the rows of these blocks that are set in some marks of them were looked at, and their lines were written
pub record WritesBlocks (rows : ℕ) (blocks old new : List ℕ) (count : ℕ) (es : List Step) : Type 0 where
  pub marks : List ℕ
  pub each : length marks ≡ length blocks
  pub writes : WritesLines (set_in_all rows blocks marks) old new count es

-- the rows that are set in some marks of as many blocks as the rows have were looked at, and their lines were written
pub record WritesMarked (rows : ℕ) (old new : List ℕ) (count : ℕ) (es : List Step) : Type 0 where
  pub marks : List ℕ
  pub blocks : length marks ≡ mark_blocks rows
  pub writes : WritesLines (marked_rows rows marks) old new count es
