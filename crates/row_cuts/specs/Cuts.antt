-- Cuts of the rows of books, one after another, and what they fold to.
use Rattle.std.specs.Prelude.{◌≡◌, ◌⊎◌, ℕ, ◌<◌, List, [], ◌∷◌, ◌++◌, Some, decimal, filter_map, length, map}
use Rattle.std.specs.List.{AllByRecursion}
use Rattle.history_model.specs.Booking.{State}
use Rattle.claim_rule.specs.Openings.{KeptBooking, kept_bookings, kept_of_row}
use Rattle.claim_rule.specs.Walls.{WallView}
use Rattle.cold_store.specs.Exports.{IsClosed, state_on}
use Rattle.cold_store.specs.Laws.{HasBegun, HasSizes, IsReadBack}
use Rattle.line_text.specs.Lines.{IsNumber, end_fields, export_text_of, items_fields, number_field, phase_field}
use Rattle.cold_store.specs.Written.{said_of}
use Rattle.cold_store.specs.Tidy.{IsTidyWall}
use Rattle.journal_text.specs.Folds.{FoldView, IsFold, all_lines, fold_text}
use Rattle.journal_text.specs.Texts.{AreLines, IsHead, RowLine, SaidHead, journal_text}

-- what stands in the line of a booking after its row's number and a space
abbrev pub after_row : KeptBooking → List ℕ
after_row k =
    decimal k.generation ++ (phase_field k.phase ++ (number_field k.retailer ++ (number_field k.limit
    ++ (number_field k.total ++ (number_field (length (said_of k).items) ++ (items_fields (said_of k).items
    ++ end_fields k.phase (said_of k).end))))))

abbrev pub row_line : KeptBooking → RowLine
row_line k = record { row = k.row; more = after_row k }

-- a cut: the rows that were looked at, in order, and the state at its moment
pub record Cut : Type 0 where
  pub rows : List ℕ
  pub state : State

-- the lines of the cut: those of its rows of which something is kept
abbrev pub lines_cut : Cut → List RowLine
lines_cut c = map row_line (filter_map (kept_of_row c.state) c.rows)

abbrev pub IsAmong : ℕ → List ℕ → Type 0
IsAmong row [] = ⊥
IsAmong row (r ∷ more) = (row ≡ r) ⊎ IsAmong row more

abbrev pub IsKept : State → ℕ → Type 0
IsKept state row = (k : KeptBooking) × (kept_of_row state row ≡ Some k)

-- The cut comes after a state: of each row that isn't among the cut's the same is kept as before; and a row of which
-- something was kept has something still
pub record ComesAfter (rows : ℕ) (before : State) (c : Cut) : Type 0 where
  pub changes : (row : ℕ) → row < rows
      → (kept_of_row before row ≡ kept_of_row c.state row) ⊎ IsAmong row c.rows
  pub stays : (row : ℕ) → row < rows → IsKept before row → IsKept c.state row

-- each cut comes after the one before, and the first after this state
abbrev pub FollowOn : ℕ → State → List Cut → Type 0
FollowOn rows before [] = Unit {0}
FollowOn rows before (c ∷ more) = ComesAfter rows before c × FollowOn rows c.state more

-- the state at the last cut
abbrev pub last_state : State → List Cut → State
last_state before [] = before
last_state before (c ∷ more) = last_state c.state more

-- the text of the fold of these cuts
abbrev pub folded_text : ℕ → ℕ → List Cut → List ℕ
folded_text places rows cuts = fold_text places rows (all_lines (map lines_cut cuts))

-- Cuts that follow each other from nothing, so that the first has all rows, fold to the export of the state at the
-- last one
abbrev pub CutsFoldToExports : Type 0
CutsFoldToExports =
    (places rows : ℕ) (cuts : List Cut) → FollowOn rows [] cuts
    → folded_text places rows cuts ≡ export_text_of places rows (map said_of (kept_bookings rows (last_state [] cuts)))

-- the state at the last cut, as the text of an export
abbrev pub last_text : ℕ → ℕ → List Cut → List ℕ
last_text places rows cuts = export_text_of places rows (map said_of (kept_bookings rows (last_state [] cuts)))

-- so each fold of the journal that was written of them has that text
abbrev pub JournalsFoldToExports : Type 0
JournalsFoldToExports =
    (h : SaidHead) (cuts : List Cut) → IsHead h → AllByRecursion (AreLines h.rows) (map lines_cut cuts)
    → IsNumber (length (map lines_cut cuts)) → FollowOn h.rows [] cuts
    → (view : FoldView) → IsFold (journal_text h (map lines_cut cuts)) view
    → view.export ≡ last_text h.places h.rows cuts

-- And where the desks were between two calls at the last cut, this text is read back as the bookings that are kept
-- then, and with no fault but lack of memory. The wall is the one that the books would have been closed to
abbrev pub JournalsAreReadBack : Type 0
JournalsAreReadBack =
    (w : WallView) (cuts : List Cut) → HasSizes w.layout → HasBegun w.layout → IsClosed w → IsTidyWall w
    → FollowOn w.layout.rows [] cuts → last_state [] cuts ≡ state_on w
    → IsReadBack w (folded_text (length w.layout.legs) w.layout.rows cuts)
