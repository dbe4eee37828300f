-- The closed table.
use Rattle.std.specs.Prelude.{◌≡◌, ℕ, ◌<◌, List, []}
use mathlib.Core.List.{IsPrefix}
use Rattle.claim_rule.specs.Rule.{DeskView, IsWhole}
use Rattle.history_model.specs.Booking.{Layout}
use Rattle.history_model.specs.History.{IsLegal, own, state_of}
use Rattle.history_model.specs.Words.{AreWordsOf}
use Rattle.history_model.specs.declared.entry.Entry.{Entry}

-- what contracts see of the closed table: its words, and the history of which they are
pub record WallView : Type 0 where
  pub layout : Layout
  pub words : List ℕ
  pub history : List Entry

-- The words are those of this history, which is legal and goes on from what the desk had seen. The first desk knows
-- that no desk beyond those that it parted has an entry
pub record Finishes (layout : Layout) (desk : DeskView) (words : List ℕ) (history : List Entry) : Type 0 where
  pub legal : IsLegal layout history
  pub front : IsPrefix desk.seen history
  pub are : AreWordsOf layout (state_of layout history) words
  pub whole : IsWhole desk.number desk.parted desk.joined → history ≡ desk.seen
  pub no_others : desk.number ≡ 0 → (other : ℕ) → desk.parted < other → own history other ≡ []
