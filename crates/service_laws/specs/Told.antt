-- A booking that was told of, as it is found later.
use Rattle.std.specs.Prelude.{◌≡◌, ◌≢◌, ◌⊎◌, ℕ, ◌+◌, ℤ, Bool, true, List}
use Rattle.std.specs.List.{AllByRecursion}
use Rattle.rail_ids.specs.declared.RowNo.{RowNo}
use Rattle.history_model.specs.declared.entry.Step.{Step}
use Rattle.history_model.specs.declared.entry.Step.TheVariants.{SawRow, LostTurn}
use Rattle.history_model.specs.declared.phase.Phase.{Phase}
use Rattle.history_model.specs.declared.phase.Phase.TheVariants.{Free, Confirmed, Fulfilled}
use Rattle.history_model.specs.Phase.{is_ended, is_sealed, phase_shown}
use Rattle.history_model.specs.Booking.{Booking, next_generation, retailer_word, standing_word, word_at}
use Rattle.history_model.specs.Life.{LeadsTo}
use Rattle.claim_rule.specs.Rule.{BooksView, DeskView, OnBooking, state_seen}
use Rattle.claim_rule.specs.Desks.{AddsSteps, IsOf}
use Rattle.claim_rule.specs.Turns.{IsPresentIn}
use Rattle.booking_rows.specs.Views.{RowSeen}
use Rattle.refund_core.specs.Refunding.{IsRefunded}
use Rattle.refund_core.specs.Releasing.{IsReleased}
use Rattle.catalogue_contents.specs.Contents.{CatalogueView}
use Rattle.osdm_texts.specs.Answers.{Reply, booking, created, exchanged, problem}
use Rattle.osdm_parts.specs.declared.problem.Problem.TheVariants.{UnknownBooking, NoMemory, WrongState}
use Rattle.offer_codes.specs.declared.code.OfferCode.{OfferCode}
use Rattle.offer_codes.specs.declared.code.RefundCode.{RefundCode}
use Rattle.offer_codes.specs.Exchanges.{ExchangeView}
use Rattle.offer_codes.specs.Offers.{OfferView}
use Rattle.trade_service.specs.Exchanges.{AnswersAcceptedExchange}
use Rattle.reservation_service.specs.Reserving.{HasAllOrNone, Reserves}
use Rattle.service_rules.specs.Ordered as order
use Rattle.service_rules.specs.Performing.{Performs}
use Rattle.service_laws.specs.Begun.{BeginsAfter}

-- the booking is sealed, this retailer's, and in this phase or in one that it leads to
abbrev pub HasCome : Phase → ℕ → Booking → Type 0
HasCome phase retailer b =
    (is_sealed b.phase ≡ true) × (word_at b retailer_word ≡ retailer) × LeadsTo phase b.phase

-- so it stands in what the desk has seen; and there it has ended, and its row has a booking of a later generation
abbrev pub StandsFrom : Phase → ℕ → DeskView → RowNo → Type 0
StandsFrom phase retailer desk row = OnBooking (state_seen desk) row (HasCome phase retailer)

abbrev pub IsOver : DeskView → RowNo → Type 0
IsOver desk row =
    OnBooking (state_seen desk) row (λ b. is_ended b.phase ≡ true)
    × (next_generation (state_seen desk) row.row ≢ row.generation + 1)

-- where the number, in word 0 of the row, shows the booking, it shows it in this phase or in one that it leads to
abbrev pub ShowsFurther : RowNo → Phase → ℕ → Type 0
ShowsFurther row phase n = phase_shown row.generation n ≢ Free → LeadsTo phase (phase_shown row.generation n)

-- so it is of each number that a step finds in word 0 of the row
abbrev pub FindsFurther : RowNo → Phase → Step → Type 0
FindsFurther row phase (SawRow r w n) = r ≡ row.row → w ≡ standing_word → ShowsFurther row phase n
FindsFurther row phase (LostTurn r wanted n) = r ≡ row.row → ShowsFurther row phase n
FindsFurther row phase step = Unit {0}

-- whatever a later call does, it finds the booking as it was told or further
abbrev pub BookingsAreFound : Type 0
BookingsAreFound =
    (books : BooksView) (row : RowNo) (phase : Phase) (retailer : ℕ) (told old new : DeskView) (steps : List Step)
    → IsOf books told → IsOf books old → StandsFrom phase retailer told row → AddsSteps old new steps
    → BeginsAfter told old new → AllByRecursion (FindsFurther row phase) steps

-- what a later show answers: the booking, in the phase told or in one that it leads to; or that there is no memory; or
-- that it is unknown, where it has ended and its row was given away
abbrev pub ShowsOn : RowNo → Phase → ℕ → DeskView → Reply → Type 0
ShowsOn row phase retailer new reply =
    ((w : RowSeen) × (w.retailer ≡ retailer) × LeadsTo phase w.phase × (reply ≡ booking row w))
    ⊎ ((reply ≡ problem NoMemory) ⊎ ((reply ≡ problem UnknownBooking) × IsOver new row))

abbrev pub BookingsAreShown : Type 0
BookingsAreShown =
    (cat : CatalogueView) (books : BooksView) (row : RowNo) (phase : Phase) (retailer now : ℕ) (reply : Reply)
    (told old new : DeskView)
    → IsOf books told → IsOf books old → cat.rows ≡ books.layout.rows → StandsFrom phase retailer told row
    → Performs cat retailer now (order.show row) old new reply → BeginsAfter told old new
    → ShowsOn row phase retailer new reply

-- where a later command is refused since the booking is in another phase than it asks for, the phase shown is the one
-- told or one that it leads to
abbrev pub RefusalsShowFurther : Type 0
RefusalsShowFurther =
    (cat : CatalogueView) (books : BooksView) (row : RowNo) (phase : Phase) (retailer now : ℕ) (shown : Phase)
    (told old new : DeskView)
    → IsOf books told → IsOf books old → StandsFrom phase retailer told row → BeginsAfter told old new
    → (Performs cat retailer now (order.confirm row) old new (problem (WrongState shown)) → LeadsTo phase shown)
    × (Performs cat retailer now (order.fulfil row) old new (problem (WrongState shown)) → LeadsTo phase shown)
    × (Performs cat retailer now (order.release row) old new (problem (WrongState shown)) → LeadsTo phase shown)
    × (Performs cat retailer now (order.quote_refund row) old new (problem (WrongState shown)) → LeadsTo phase shown)
    × ((offer : OfferCode) → Performs cat retailer now (order.quote_exchange row offer) old new
    (problem (WrongState shown)) → LeadsTo phase shown)
    × ((code : RefundCode) → code.row ≡ row
    → Performs cat retailer now (order.accept_refund code) old new (problem (WrongState shown)) → LeadsTo phase shown)

-- What is told of a booking is so: it stands as its retailer's, in the phase told or further, in what was seen. Of a
-- command that changes it, that is so with what its own contract says of the booking
abbrev pub ShownIsSo : Type 0
ShownIsSo =
    (cat : CatalogueView) (retailer now : ℕ) (row : RowNo) (v : RowSeen) (old new : DeskView)
    → Performs cat retailer now (order.show row) old new (booking row v) → StandsFrom v.phase retailer new row

abbrev pub ConfirmedIsSo : Type 0
ConfirmedIsSo =
    (cat : CatalogueView) (retailer now : ℕ) (row : RowNo) (v : RowSeen) (old new : DeskView)
    → Performs cat retailer now (order.confirm row) old new (booking row v) → IsPresentIn new row Confirmed
    → StandsFrom v.phase retailer new row

abbrev pub FulfilledIsSo : Type 0
FulfilledIsSo =
    (cat : CatalogueView) (retailer now : ℕ) (row : RowNo) (v : RowSeen) (old new : DeskView)
    → Performs cat retailer now (order.fulfil row) old new (booking row v) → IsPresentIn new row Fulfilled
    → StandsFrom v.phase retailer new row

abbrev pub ReleasedIsSo : Type 0
ReleasedIsSo =
    (cat : CatalogueView) (retailer now : ℕ) (row : RowNo) (v : RowSeen) (old new : DeskView)
    → Performs cat retailer now (order.release row) old new (booking row v) → IsReleased new row now
    → StandsFrom v.phase retailer new row

-- a refund tells of the booking that its quote names
abbrev pub RefundedIsSo : Type 0
RefundedIsSo =
    (cat : CatalogueView) (retailer now : ℕ) (code : RefundCode) (row : RowNo) (v : RowSeen) (old new : DeskView)
    → Performs cat retailer now (order.accept_refund code) old new (booking row v)
    → IsRefunded new code.row now code.amount → StandsFrom v.phase retailer new row

-- a booking that was made, with what the contract says of its seal
abbrev pub CreatedIsSo : Type 0
CreatedIsSo =
    (cat : CatalogueView) (retailer now : ℕ) (offer : OfferView) (together : Bool) (row : RowNo) (v : RowSeen)
    (old new : DeskView)
    → Reserves cat retailer now offer together old new (created row v) → HasAllOrNone cat offer old new (created row v)
    → StandsFrom v.phase retailer new row

-- the booking that an exchange made
abbrev pub ExchangedIsSo : Type 0
ExchangedIsSo =
    (cat : CatalogueView) (retailer now : ℕ) (code : ExchangeView) (row : RowNo) (v : RowSeen) (difference : ℤ)
    (replaced : RowNo) (old new : DeskView)
    → AnswersAcceptedExchange cat cat.rows retailer code now old new (exchanged row v difference replaced)
    → StandsFrom v.phase retailer new row
