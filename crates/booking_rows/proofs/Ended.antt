-- What becomes of a booking that a desk turned to an end.
use Rattle.std.proofs.Common.{◌≡◌, ◌⊎◌, inl, inr, ⊎_elim, ℕ, true, false, List, [], ◌∷◌, Option, Some, IsSomeAnd, sym, ap, ◌∙◌, subst}
use Rattle.history_model.specs.declared.entry.Entry.{Entry}
use Rattle.history_model.specs.declared.entry.Step.{Step}
use Rattle.history_model.specs.declared.phase.Phase.{Phase}
use Rattle.history_model.specs.declared.phase.Phase.TheVariants.{Ending, Ended}
use Rattle.history_model.specs.declared.phase.EndKind.{EndKind}
use Rattle.history_model.specs.declared.booking.End.{End}
use Rattle.history_model.specs.Phase.{is_ended}
use Rattle.history_model.specs.Booking.{Booking, Layout, State, booking_at, stands_as}
use Rattle.history_model.specs.Allowed.{AllGiven, IsBeingEndedBy}
use Rattle.history_model.specs.Apply.{apply}
use Rattle.history_model.specs.History.{IsLegalFrom, state_after}
use Rattle.history_model.specs.Laws.{MayBecome, MayFollow, IsSound, is_turned_to_end}
use Rattle.history_model.proofs.Generations.{present_key, unended_present}
use Rattle.history_model.proofs.Going.{GoesOn-step}
use Rattle.history_model.proofs.Keeping.{found}
use Rattle.history_model.proofs.ListLemmas.{All-found}
use Rattle.history_model.proofs.Owners.{on_row}
use Rattle.rail_ids.specs.declared.RowNo.{RowNo}
use Rattle.claim_rule.specs.Rule.{DeskView, OnBooking, state_seen}
use Rattle.claim_rule.specs.Desks.{AddsSteps}
use Rattle.claim_rule.specs.Endings.{EndingView, IsEndingOf}
use Rattle.claim_rule.specs.Out.{IsEnding, EndsNone}
use Rattle.claim_rule.specs.Turns.{IsPresentIn}
use Rattle.claim_rule.proofs.Moves.{is_sound}
use Rattle.claim_rule.proofs.Shapes.{shape_rest}
use Rattle.booking_rows.specs.Ends.{IsEndedAs}

-- an ending is of its row's present booking
pub ending_present : (desk : DeskView) (row : RowNo) (to : Phase) (e : EndingView) → e.row ≡ row → to ≡ Ending e.kind → IsEndingOf desk e → IsPresentIn desk row to
ending_present desk row to e same kind is =
    subst (λ (x : RowNo × Phase). IsPresentIn desk x.0 x.1) (λ i. (same i, sym kind i))
    (on_row (state_seen desk) e.row.row is.booking (λ b. (b.generation ≡ e.row.generation) × (b.phase ≡ Ending e.kind)) is.found (is.generation, is.phase))

-- a booking, by what holds of it
at_state : (s : State) (row : RowNo) (b : Booking) (P : Booking → Type 0) → booking_at s row.row row.generation ≡ Some b → P b → OnBooking s row P
at_state s row b P at p = subst (λ (o : Option Booking). IsSomeAnd o P) (sym at) p

-- the booking is the desk's, and ending or ended in this way with this end
abbrev EndsAs : EndKind → ℕ → End → Booking → Type 0
EndsAs kind d end b = (b.owner ≡ d) × (b.end ≡ end) × ((b.phase ≡ Ending kind) ⊎ (b.phase ≡ Ended kind))

ends_becomes : (kind : EndKind) (d : ℕ) (end : End) (e : ℕ) (x y : Booking) → MayBecome e x y → EndsAs kind d end x → EndsAs kind d end y
ends_becomes kind d end e x y m (own, same, phase) =
    let t : is_turned_to_end x.phase ≡ true = ⊎_elim (λ p. ap is_turned_to_end p) (λ p. ap is_turned_to_end p) phase in (
      m.ender t ∙ own,
      m.ended t ∙ same,
      ⊎_elim
          (λ (still : y.phase ≡ x.phase). ⊎_elim (λ p. inl (still ∙ p)) (λ p. inr (still ∙ p)) phase)
          (λ (on : MayFollow x.phase y.phase). ⊎_elim (λ p. inr (ending x.phase y.phase p on)) (λ p. absurd (ended x.phase y.phase p on)) phase)
          m.forward,
    )
  where
    ending : (a b : Phase) → a ≡ Ending kind → MayFollow a b → b ≡ Ended kind
    ending a b p on = subst (λ (z : Phase). MayFollow z b) p on

    ended : (a b : Phase) → a ≡ Ended kind → MayFollow a b → ⊥
    ended a b p on = let no : false ≡ true = subst (λ (z : Phase). MayFollow z b) p on in cc

ends_stays : (g : Layout) (kind : EndKind) (d : ℕ) (end : End) (row : RowNo) (s : State) (es : List Entry) → IsLegalFrom g s es → OnBooking s row (EndsAs kind d end) → OnBooking (state_after s es) row (EndsAs kind d end)
ends_stays g kind d end row s [] l on = on
ends_stays g kind d end row s (x ∷ es) l on =
    let b = found (booking_at s row.row row.generation) (EndsAs kind d end) on in
    let n = found (booking_at (apply s x) row.row row.generation) (MayBecome x.desk b.0) (rw b.1 at ((GoesOn-step g s x.desk x.step l.0).bookings row.row row.generation)) in
    ends_stays g kind d end row (apply s x) es l.1 (at_state (apply s x) row n.0 (EndsAs kind d end) n.1 (ends_becomes kind d end x.desk b.0 n.0 n.2 b.2))

-- an ending that a desk had out, and has no longer, has ended in its way with all items given back
pub has_ended : (mid new : DeskView) (steps : List Step) (e : EndingView) → IsEnding mid e → AddsSteps mid new steps → EndsNone new → IsEndedAs new e.row e.kind e.end
has_ended mid new steps e is did none =
    let x = shape_rest mid new steps did in
    let d = mid.number in
    let row = e.row in
    let s = state_seen mid in
    let t = state_seen new in
    let here = subst (λ (n : ℕ). booking_at s row.row n ≡ Some is.of.booking) is.of.generation (present_key s row.row is.of.booking is.of.found) in
    let was : OnBooking s row (EndsAs e.kind d e.end) = at_state s row is.of.booking (EndsAs e.kind d e.end) here (is.of.owner, is.of.end, inl is.of.phase) in
    let now : OnBooking t row (EndsAs e.kind d e.end) = subst (λ (s : State). OnBooking s row (EndsAs e.kind d e.end)) (sym x.2) (ends_stays mid.layout e.kind d e.end row s did.front.0 x.0 was) in
    let c = found (booking_at t row.row row.generation) (EndsAs e.kind d e.end) now in
    let well = is_sound new.layout new.seen did.legal in
    let sound = All-found (IsSound new.layout) (stands_as row.row row.generation) t c.0 c.1 well.each in
    ⊎_elim
    (λ (p : c.0.phase ≡ Ending e.kind).
    let still = unended_present t row.row row.generation c.0 well.earlier c.1 (ap is_ended p) in
    absurd (none row.row (on_row t row.row c.0 (IsBeingEndedBy new.number) still (e.kind, (p, c.2.0 ∙ sym did.same.2)))))
    (λ (p : c.0.phase ≡ Ended e.kind). at_state t row c.0 (λ b. (b.phase ≡ Ended e.kind) × (b.end ≡ e.end) × AllGiven b) c.1 (p, c.2.1, (sound.ended e.kind p).0))
    c.2.2

-- a booking that has ended stays so

ended_becomes : (kind : EndKind) (end : End) (e : ℕ) (x y : Booking) → MayBecome e x y → (x.phase ≡ Ended kind) × (x.end ≡ end) → (y.phase ≡ Ended kind) × (y.end ≡ end)
ended_becomes kind end e x y m (phase, same) = (
  ⊎_elim (λ (still : y.phase ≡ x.phase). still ∙ phase) (λ (on : MayFollow x.phase y.phase). absurd (last x.phase y.phase phase on)) m.forward,
  m.ended (ap is_turned_to_end phase) ∙ same,
)
  where
    last : (a b : Phase) → a ≡ Ended kind → MayFollow a b → ⊥
    last a b p on = let no : false ≡ true = subst (λ (z : Phase). MayFollow z b) p on in cc

ended_after : (g : Layout) (kind : EndKind) (end : End) (row : RowNo) (s : State) (es : List Entry) → IsLegalFrom g s es
    → OnBooking s row (λ b. (b.phase ≡ Ended kind) × (b.end ≡ end)) → OnBooking (state_after s es) row (λ b. (b.phase ≡ Ended kind) × (b.end ≡ end))
ended_after g kind end row s [] l on = on
ended_after g kind end row s (x ∷ es) l on =
    let P : Booking → Type 0 = λ b. (b.phase ≡ Ended kind) × (b.end ≡ end) in
    let b = found (booking_at s row.row row.generation) P on in
    let n = found (booking_at (apply s x) row.row row.generation) (MayBecome x.desk b.0) (rw b.1 at ((GoesOn-step g s x.desk x.step l.0).bookings row.row row.generation)) in
    ended_after g kind end row (apply s x) es l.1 (at_state (apply s x) row n.0 P n.1 (ended_becomes kind end x.desk b.0 n.0 n.2 b.2))

pub ended_stays : (old new : DeskView) (steps : List Step) (row : RowNo) (kind : EndKind) (end : End) → AddsSteps old new steps → IsEndedAs old row kind end → IsEndedAs new row kind end
ended_stays old new steps row kind end did on =
    let P : Booking → Type 0 = λ b. (b.phase ≡ Ended kind) × (b.end ≡ end) in
    let x = shape_rest old new steps did in
    let s = state_seen old in
    let t = state_seen new in
    let b = found (booking_at s row.row row.generation) (λ b. (b.phase ≡ Ended kind) × (b.end ≡ end) × AllGiven b) on in
    let now : OnBooking t row P = subst (λ (s : State). OnBooking s row P) (sym x.2) (ended_after old.layout kind end row s did.front.0 x.0 (at_state s row b.0 P b.1 (b.2.0, b.2.1))) in
    let c = found (booking_at t row.row row.generation) P now in
    let well = is_sound new.layout new.seen did.legal in
    let sound = All-found (IsSound new.layout) (stands_as row.row row.generation) t c.0 c.1 well.each in
    at_state t row c.0 (λ b. (b.phase ≡ Ended kind) × (b.end ≡ end) × AllGiven b) c.1 (c.2.0, c.2.1, (sound.ended kind c.2.0).0)
