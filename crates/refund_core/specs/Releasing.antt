-- Releasing a booking.
use Rattle.std.specs.Prelude.{◌≡◌, ◌⊎◌, ℕ, ◌<◌, ◌≤◌, List, ◌++◌, length, None}
use Rattle.leg_masks.specs.Interval.{PlacedSpan as Item}
use Rattle.history_model.specs.declared.entry.Step.{Step}
use Rattle.history_model.specs.declared.phase.Phase.TheVariants.{Prebooked}
use Rattle.history_model.specs.declared.phase.EndKind.TheVariants.{Release}
use Rattle.history_model.specs.Booking.{most_items}
use Rattle.booking_rows.specs.declared.turns.Aim.TheVariants as aim
use Rattle.booking_rows.specs.Aims.{end_of}
use Rattle.booking_rows.specs.Ends.{IsEndedAs}
use Rattle.claim_rule.specs.Rule.{DeskView}
use Rattle.rail_ids.specs.declared.RowNo.{RowNo}
use Rattle.confirm_core.specs.Looks.{saw_owner, IsKept, FindsOwned, SawOwned, IsWrong, LosesRow}
use Rattle.confirm_core.specs.RowEnds.{ends_as}
use Rattle.refund_core.specs.declared.releasing.Released.{Released}
use Rattle.refund_core.specs.declared.releasing.Released.TheVariants as released

-- the steps of a release, by what it answers
abbrev pub Releases : ℕ → RowNo → ℕ → ℕ → Released → List Step → Type 0
Releases rows row retailer now released.Done es =
    (row.row < rows) × ((last : ℕ) × (items : List Item) × IsKept row last × (length items ≤ most_items)
    × (es ≡ saw_owner row Prebooked retailer last
    ++ ends_as row.row Prebooked Release (end_of (aim.Release now)) items))
Releases rows row retailer now released.Unknown es =
    FindsOwned rows row retailer None es ⊎ ((row.row < rows) × LosesRow row Prebooked (SawOwned row retailer) es)
Releases rows row retailer now (released.WrongState shown) es =
    (row.row < rows) × IsWrong row Prebooked shown (SawOwned row retailer) es

-- what holds where the call released the booking
abbrev pub IfReleased : Released → Type 0 → Type 0
IfReleased released.Done P = P
IfReleased _ P = Unit {0}

-- the booking has ended by a release at this moment, and all its items are given back
abbrev pub IsReleased : DeskView → RowNo → ℕ → Type 0
IsReleased desk row now = IsEndedAs desk row Release (end_of (aim.Release now))
