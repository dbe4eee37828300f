-- What is done with a retailer's booking, and what is answered.
use Rattle.std.specs.Prelude.{◌≡◌, ◌⊎◌, ℕ, Some, None}
use Rattle.history_model.specs.declared.phase.Phase.{Phase}
use Rattle.history_model.specs.declared.phase.Phase.TheVariants as phase
use Rattle.history_model.specs.declared.phase.EndKind.{EndKind}
use Rattle.history_model.specs.declared.phase.EndKind.TheVariants as kind
use Rattle.history_model.specs.declared.booking.End.{End}
use Rattle.rail_ids.specs.declared.RowNo.{RowNo}
use Rattle.claim_rule.specs.Rule.{DeskView}
use Rattle.claim_rule.specs.Calls.{AddsStepsBy}
use Rattle.booking_rows.specs.Views.{RowSeen}
use Rattle.booking_rows.specs.Aims.{end_of}
use Rattle.booking_rows.specs.declared.turns.Aim.TheVariants as aim
use Rattle.confirm_core.specs.declared.confirming.Confirmed.{Confirmed}
use Rattle.confirm_core.specs.declared.confirming.Confirmed.TheVariants as confirmed
use Rattle.confirm_core.specs.Confirming.{Confirms}
use Rattle.confirm_core.specs.declared.fulfilling.Fulfilment.{Fulfilment}
use Rattle.confirm_core.specs.declared.fulfilling.Fulfilment.TheVariants as fulfilled
use Rattle.confirm_core.specs.Fulfilling.{Fulfils}
use Rattle.refund_core.specs.declared.releasing.Released.{Released}
use Rattle.refund_core.specs.declared.releasing.Released.TheVariants as released
use Rattle.refund_core.specs.Releasing.{Releases}
use Rattle.refund_core.specs.Quotes.{FindsBooking}
use Rattle.osdm_parts.specs.declared.problem.Problem.TheVariants.{UnknownBooking, TooLate, WrongState, NoMemory}
use Rattle.osdm_texts.specs.Answers.{Reply, booking, problem, Told, reply_told}
use Rattle.catalogue_contents.specs.Contents.{CatalogueView}

-- which steps and replies a call may have, from what a desk has seen to what it has then seen
abbrev pub Replying : Type 1
Replying = DeskView → DeskView → Reply → Type 0

-- a command has such a reply, and this is told of it
abbrev pub Answered : CatalogueView → Replying → DeskView → DeskView → Told → Type 0
Answered cat Does old new said = (reply : Reply) × Does old new reply × (said ≡ reply_told cat reply)

-- A look for the booking. None is answered as unknown; with one, this is done, or there is no memory and nothing more
-- is done.
abbrev pub OnBooking : ℕ → RowNo → ℕ → (RowSeen → Replying) → Replying
OnBooking rows row retailer Does old new reply =
    (AddsStepsBy (FindsBooking rows row retailer None) old new × (reply ≡ problem UnknownBooking))
    ⊎ ((v : RowSeen) × (mid : DeskView) × AddsStepsBy (FindsBooking rows row retailer (Some v)) old mid
    × (Does v mid new reply ⊎ ((new ≡ mid) × (reply ≡ problem NoMemory))))

-- the booking in another phase, and at an end
abbrev pub in_phase : Phase → RowSeen → RowSeen
in_phase phase v = record v { phase = phase; ended = None }

abbrev pub at_end : EndKind → End → RowSeen → RowSeen
at_end kind end v = record v { phase = phase.Ended kind; ended = Some end }

abbrev pub shows : RowNo → RowSeen → Replying
shows row v old new reply = (new ≡ old) × (reply ≡ booking row v)

abbrev pub confirm_reply : RowNo → ℕ → RowSeen → Confirmed → Reply
confirm_reply row now v confirmed.Done = booking row (in_phase phase.Confirmed v)
confirm_reply row now v confirmed.Unknown = problem UnknownBooking
confirm_reply row now v (confirmed.TooLate limit) = problem (TooLate limit now)
confirm_reply row now v (confirmed.WrongState shown) = problem (WrongState shown)

abbrev pub ConfirmsFound : ℕ → RowNo → ℕ → ℕ → RowSeen → Replying
ConfirmsFound rows row retailer now v old new reply =
    (a : Confirmed) × AddsStepsBy (Confirms rows row retailer now a) old new × (reply ≡ confirm_reply row now v a)

abbrev pub ConfirmsBooking : ℕ → RowNo → ℕ → ℕ → Replying
ConfirmsBooking rows row retailer now = OnBooking rows row retailer (ConfirmsFound rows row retailer now)

abbrev pub fulfil_reply : RowNo → RowSeen → Fulfilment → Reply
fulfil_reply row v fulfilled.Done = booking row (in_phase phase.Fulfilled v)
fulfil_reply row v fulfilled.Unknown = problem UnknownBooking
fulfil_reply row v (fulfilled.WrongState shown) = problem (WrongState shown)

abbrev pub FulfilsFound : ℕ → RowNo → ℕ → RowSeen → Replying
FulfilsFound rows row retailer v old new reply =
    (a : Fulfilment) × AddsStepsBy (Fulfils rows row retailer a) old new × (reply ≡ fulfil_reply row v a)

abbrev pub release_reply : RowNo → ℕ → RowSeen → Released → Reply
release_reply row now v released.Done = booking row (at_end kind.Release (end_of (aim.Release now)) v)
release_reply row now v released.Unknown = problem UnknownBooking
release_reply row now v (released.WrongState shown) = problem (WrongState shown)

abbrev pub ReleasesFound : ℕ → RowNo → ℕ → ℕ → RowSeen → Replying
ReleasesFound rows row retailer now v old new reply =
    (a : Released) × AddsStepsBy (Releases rows row retailer now a) old new × (reply ≡ release_reply row now v a)

abbrev pub ReleasesBooking : ℕ → RowNo → ℕ → ℕ → Replying
ReleasesBooking rows row retailer now = OnBooking rows row retailer (ReleasesFound rows row retailer now)
