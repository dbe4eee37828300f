-- What a desk has out: a hold, an ending, or none.
use Rattle.std.specs.Prelude.{◌≡◌, ◌⊎◌, ℕ, ◌-◌, Bool, true, false, List, [], ◌∷◌, ◌++◌, map, take, drop, length, ◌%◌, ◌==◌, Some, option_map}
use mathlib.Core.List.{IsPrefix}
use Rattle.std.specs.List.{AllByRecursion}
use Rattle.leg_masks.specs.Interval.{item_word}
use Rattle.leg_masks.specs.Interval.{PlacedSpan as Item}
use Rattle.history_model.specs.declared.entry.Entry.{Entry}
use Rattle.history_model.specs.declared.entry.Step.{Step}
use Rattle.history_model.specs.declared.entry.Step.TheVariants.{Look, SawRow, Seal, Turn, LostTurn, Met}
use Rattle.history_model.specs.declared.phase.Phase.{Phase}
use Rattle.history_model.specs.declared.phase.Phase.TheVariants.{Confirmed, Ending}
use Rattle.history_model.specs.declared.phase.EndKind.TheVariants.{Exchange}
use Rattle.rail_ids.specs.declared.RowNo.{RowNo}
use Rattle.history_model.specs.Booking.{Booking, first_item_word, successor_rows}
use Rattle.history_model.specs.Allowed.{IsMadeBy, IsBeingEndedBy, IsSealable, MaySealAs, OnRow}
use Rattle.history_model.specs.History.{entry, own, state_of}
use Rattle.claim_rule.specs.Rule.{DeskView, state_seen}
use Rattle.claim_rule.specs.Holds.{HoldView, IsHoldOf, held}
use Rattle.claim_rule.specs.Endings.{EndingView, IsEndingOf}

-- the row is in the making, and the desk's; it is ending, and the desk's
abbrev pub Makes : DeskView → ℕ → Type 0
Makes desk row = OnRow (state_seen desk) row (IsMadeBy desk.number)

abbrev pub EndsRow : DeskView → ℕ → Type 0
EndsRow desk row = OnRow (state_seen desk) row (IsBeingEndedBy desk.number)

-- the hold is this desk's and out, and its row is the only one that the desk makes
pub record IsHolding (desk : DeskView) (hold : HoldView) : Type 0 where
  pub of : IsHoldOf desk hold
  pub only : (row : ℕ) → Makes desk row → row ≡ hold.row.row

-- no hold is out: the desk makes no row but one that it keeps
abbrev pub HoldsNone : DeskView → Type 0
HoldsNone desk = (row : ℕ) → Makes desk row → option_map (λ (kept : RowNo). kept.row) desk.kept ≡ Some row

-- the ending is this desk's and out, and its row is the only one that the desk ends
pub record IsEnding (desk : DeskView) (ending : EndingView) : Type 0 where
  pub of : IsEndingOf desk ending
  pub only : (row : ℕ) → EndsRow desk row → row ≡ ending.row.row

-- no ending is out
abbrev pub EndsNone : DeskView → Type 0
EndsNone desk = (row : ℕ) → EndsRow desk row → ⊥

-- neither is out
abbrev pub IsIdle : DeskView → Type 0
IsIdle desk = HoldsNone desk × EndsNone desk

-- the first item words of the row are those of these items
abbrev pub HasNoted : DeskView → ℕ → List Item → Type 0
HasNoted desk row items =
    OnRow (state_seen desk) row
    (λ b. take (length items) (drop first_item_word b.words) ≡ map (λ i. item_word i.place i.span) items)

-- the hold's items are noted in its row; all of them but the last; and all that a seal asks is noted
abbrev pub HasNotedItems : DeskView → HoldView → Type 0
HasNotedItems desk hold = HasNoted desk hold.row.row hold.items

abbrev pub HasNotedButLast : DeskView → HoldView → Type 0
HasNotedButLast desk hold =
    (front : List Item) × (last : Item) × (hold.items ≡ front ++ last ∷ []) × HasNoted desk hold.row.row front

abbrev pub IsToBeSealed : DeskView → HoldView → Type 0
IsToBeSealed desk hold = OnRow (state_seen desk) hold.row.row IsSealable

-- the phase in which the hold's booking may be sealed
abbrev pub MaySealHold : DeskView → HoldView → Phase → Type 0
MaySealHold desk hold phase =
    OnRow (state_seen desk) hold.row.row (λ b. MaySealAs (state_seen desk) desk.number b phase)

-- what the call does not touch of the desk's hold: it stays out with what is noted, or none is out as before
pub record KeepsHolds (old new : DeskView) : Type 0 where
  pub hold : (hold : HoldView) → IsHolding old hold → IsHolding new hold
  pub noted : (hold : HoldView) (items : List Item) → IsHolding old hold → HasNoted old hold.row.row items
      → HasNoted new hold.row.row items
  pub ready : (hold : HoldView) → IsHolding old hold → IsToBeSealed old hold → IsToBeSealed new hold
  pub none : HoldsNone old → HoldsNone new

-- and of its ending
pub record KeepsEndings (old new : DeskView) : Type 0 where
  pub ending : (ending : EndingView) → IsEnding old ending → IsEnding new ending
  pub none : EndsNone old → EndsNone new

-- a booking of this generation and this owner, in this phase and with just these items
abbrev pub IsSealedAs : ℕ → ℕ → Phase → List Item → Booking → Type 0
IsSealedAs generation owner phase items booking =
    (booking.generation ≡ generation) × (booking.owner ≡ owner) × (booking.phase ≡ phase)
    × (booking.items ≡ map held items)

-- since the old view the desk has sealed this booking, and as the seal left it, it is its own, in this phase, with just
-- these items
abbrev pub SealsItems : DeskView → DeskView → RowNo → Phase → List Item → Type 0
SealsItems old new row phase items =
    (before : List Entry) × (after : List Entry) × IsPrefix old.seen before
    × (new.seen ≡ before ++ entry old.number (Seal row.row phase) ∷ after)
    × OnRow (state_of old.layout (before ++ entry old.number (Seal row.row phase) ∷ [])) row.row
    (IsSealedAs row.generation old.number phase items)

-- a turn to an exchange
abbrev pub exchanges : Step → Bool
exchanges (Turn row from (Ending Exchange) moment amount successor) = true
exchanges _ = false

-- the row of a turn's successor
abbrev pub successor_row : Step → ℕ
successor_row (Turn row from to moment amount successor) = (successor - 1) % successor_rows
successor_row _ = 0

-- a seal of this row
abbrev pub seals : ℕ → Step → Bool
seals row (Seal sealed phase) = sealed == row
seals row _ = false

-- the first seal of the row among the entries is as confirmed
abbrev pub IsConfirmedNext : ℕ → List Entry → Type 0
IsConfirmedNext row [] = ⊥
IsConfirmedNext row (first ∷ rest) =
    (first.step ≡ Seal row Confirmed) ⊎ ((seals row first.step ≡ false) × IsConfirmedNext row rest)

-- Each turn to an exchange among a desk's own entries is followed by the seal of its successor. That is a booking in
-- the making of this desk, so it is the desk's next seal of the row
abbrev pub AreSettled : List Entry → Type 0
AreSettled [] = Unit {0}
AreSettled (first ∷ rest) =
    (exchanges first.step ≡ true → IsConfirmedNext (successor_row first.step) rest) × AreSettled rest

-- a row that the desk makes has no item
abbrev pub MakesEmpty : DeskView → Type 0
MakesEmpty desk = (row : ℕ) → Makes desk row → OnRow (state_seen desk) row (λ b. b.items ≡ [])

-- a desk between two calls of the service: nothing is out, each of its exchanges has its new booking, and its row in
-- the making, where it has one, has no item
abbrev pub IsTidy : DeskView → Type 0
IsTidy desk = IsIdle desk × AreSettled (own desk.seen desk.number) × MakesEmpty desk

-- a step that only looks
abbrev pub is_look : Step → Bool
is_look (Look place half shown) = true
is_look (SawRow row word value) = true
is_look (LostTurn row wanted shown) = true
is_look Met = true
is_look _ = false

abbrev pub AllLooks : List Step → Type 0
AllLooks steps = AllByRecursion (λ step. is_look step ≡ true) steps
