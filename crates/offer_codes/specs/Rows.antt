-- How an id spells the booking that it is for.
use Rattle.std.specs.Prelude.{ℕ, ◌==◌, ◌&&◌, nat_le, Bool, List, [], ◌∷◌, codes, if◌then◌else◌}
use Rattle.rail_ids.specs.Spelling.{last_generation}
use Rattle.rail_ids.specs.declared.RowNo.{RowNo}

-- a row of the largest table, and a generation of a row
abbrev pub is_row : RowNo → Bool
is_row row = nat_le row.row 262_143 && nat_le row.generation last_generation

-- the row's number after this mark, and the generation after `.` where it isn't 0
abbrev pub row_marks : List ℕ → RowNo → List (List ℕ × ℕ)
row_marks mark row = (mark, row.row) ∷ (if row.generation == 0 then [] else (codes ".", row.generation) ∷ [])
