-- The one spelling of a refund offer.
use Rattle.std.specs.Prelude.{ℕ, ◌&&◌, nat_le, Bool, List, [], ◌∷◌, ◌++◌, codes, if◌then◌else◌}
use Rattle.offer_codes.specs.Marked.{marked}
use Rattle.offer_codes.specs.Rows.{is_row, row_marks}
use Rattle.offer_codes.specs.declared.code.RefundCode.{RefundCode}

-- a booking's row, a moment, and an amount that a booking can have
abbrev pub is_refund : RefundCode → Bool
is_refund r = is_row r.row && (nat_le r.made 4_102_444_799 && nat_le r.amount 99_999_999_999)

-- `C` for a confirmed booking, `F` for a fulfilled one
abbrev pub phase_mark : Bool → List ℕ
phase_mark fulfilled = if fulfilled then codes "-F-" else codes "-C-"

-- `R` row, its generation, `-` made `-` phase `-` amount
abbrev pub refund_text : RefundCode → List ℕ
refund_text r = marked (row_marks (codes "R") r.row ++ (codes "-", r.made) ∷ (phase_mark r.fulfilled, r.amount) ∷ [])
