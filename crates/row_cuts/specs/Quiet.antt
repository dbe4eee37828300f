-- Lines of one moment.
use Rattle.std.specs.Prelude.{◌≡◌, ℕ, true, List, ◌++◌, length}
use Rattle.std.specs.List.{AllByRecursion}
use Rattle.history_model.specs.declared.entry.Entry.{Entry}
use Rattle.history_model.specs.History.{IsLegal}
use Rattle.claim_rule.specs.Calls.{AddsStepsBy}
use Rattle.claim_rule.specs.Out.{is_look}
use Rattle.claim_rule.specs.Rule.{DeskView, state_seen}
use Rattle.booking_rows.specs.SealedRows.{FitWords}
use Rattle.journal_text.specs.Texts.{lines_text}
use Rattle.row_cuts.specs.Cuts.{Cut, lines_cut}
use Rattle.row_cuts.specs.Lines.{WritesLines}

-- of all entries that the desk has seen since, those of other desks too, none changes a word
abbrev pub IsQuietSince : DeskView → DeskView → Type 0
IsQuietSince old new =
    (more : List Entry) → new.seen ≡ old.seen ++ more → AllByRecursion (λ (e : Entry). is_look e.step ≡ true) more

-- the cut of these rows in what the desk has seen
abbrev pub cut_seen : List ℕ → DeskView → Cut
cut_seen rows desk = record { rows = rows; state = state_seen desk }

-- Lines that were written while nobody changed anything are those of a cut of these rows, and the state at the end of
-- the looks is the one at their beginning
abbrev pub LinesAreOfOneMoment : Type 0
LinesAreOfOneMoment =
    (rows text more : List ℕ) (count : ℕ) (old new : DeskView) → IsLegal old.layout old.seen → FitWords old.layout
    → IsQuietSince old new → AddsStepsBy (WritesLines rows text more count) old new
    → (more ≡ text ++ lines_text (lines_cut (cut_seen rows new))) × (count ≡ length (lines_cut (cut_seen rows new)))
    × (state_seen new ≡ state_seen old)
