-- A sealed row may be turned.
use Rattle.std.proofs.Common.{◌≡◌, ◌≢◌, inl, inr, ℕ, ◌+◌, ◌<◌, ◌≤◌, true, false, List, [], ◌∷◌, length, Option, IsSomeAnd, refl, sym, ap, subst, arith, length-append}
use Rattle.history_model.specs.declared.entry.Step.{Step}
use Rattle.history_model.specs.declared.entry.Step.TheVariants.{SawRow}
use Rattle.history_model.specs.declared.phase.Phase.{Phase}
use Rattle.history_model.specs.Phase.{is_sealed, is_turn, phase_shown}
use Rattle.rail_ids.specs.declared.RowNo.{RowNo}
use Rattle.history_model.specs.declared.phase.Phase.TheVariants.{Free}
use Rattle.history_model.specs.Booking.{Booking, Layout, booking_at, limit_of}
use Rattle.history_model.specs.Allowed.{TurnsWith}
use Rattle.history_model.specs.History.{IsLegal, state_of}
use Rattle.history_model.specs.declared.booking.End.{End}
use Rattle.history_model.proofs.Keeping.{found}
use Rattle.claim_rule.specs.Rule.{DeskView, OnBooking}
use Rattle.claim_rule.specs.Desks.{AddsSteps, CanTurn, AddsAtMost}
use Rattle.claim_rule.specs.Calls.{Calls, AddsStepsBy}
use Rattle.claim_rule.proofs.Shapes.{shape_then, shape_none, adds_length}
use Rattle.booking_rows.specs.SealedRows.{IsSealedRow}
use Rattle.booking_rows.specs.Views.{saw_phase}
use Rattle.confirm_core.specs.Looks.{HasLimit, IsUnknown, IsWrong, LosesRow, SawPhase, saw_owner, saw_terms}

-- a turn that asks nothing of the limit
pub can_turn : (lay : Layout) (desk : DeskView) (row : RowNo) (from to : Phase) (end : End) → desk.layout ≡ lay → row.row < lay.rows → is_turn from to ≡ true → end.moment ≤ 4102444799 → ((limit : ℕ) → TurnsWith (state_of lay desk.seen) desk.number limit to end) → IsSealedRow desk row → CanTurn lay desk.seen desk.number row from to end
can_turn lay desk row from to end same here is years with sealed =
    let on = subst (λ (g : Layout). OnBooking (state_of g desk.seen) row (λ b. is_sealed b.phase ≡ true)) same sealed in
    let b = found (booking_at (state_of lay desk.seen) row.row row.generation) (λ b. is_sealed b.phase ≡ true) on in
    (here, is, years, subst (λ (o : Option Booking). IsSomeAnd o (λ y. (is_sealed y.phase ≡ true) × TurnsWith (state_of lay desk.seen) desk.number (limit_of y) to end)) (sym b.1) (b.2, with (limit_of b.0)))

-- and one at a limit that was seen
pub can_turn_by : (lay : Layout) (desk : DeskView) (row : RowNo) (limit : ℕ) (from to : Phase) (end : End) → desk.layout ≡ lay → row.row < lay.rows → is_turn from to ≡ true → end.moment ≤ 4102444799 → TurnsWith (state_of lay desk.seen) desk.number limit to end → HasLimit desk row limit → CanTurn lay desk.seen desk.number row from to end
can_turn_by lay desk row limit from to end same here is years with has =
    let on = subst (λ (g : Layout). OnBooking (state_of g desk.seen) row (λ b. (is_sealed b.phase ≡ true) × (limit_of b ≡ limit))) same has in
    let b = found (booking_at (state_of lay desk.seen) row.row row.generation) (λ b. (is_sealed b.phase ≡ true) × (limit_of b ≡ limit)) on in (
      here,
      is,
      years,
      subst (λ (o : Option Booking). IsSomeAnd o (λ y. (is_sealed y.phase ≡ true) × TurnsWith (state_of lay desk.seen) desk.number (limit_of y) to end)) (sym b.1)
          (b.2.0, subst (λ (l : ℕ). TurnsWith (state_of lay desk.seen) desk.number l to end) (sym b.2.1) with),
    )

-- at most so many entries, by the steps that a call may have
pub by_length : (P : Calls) (n : ℕ) (a b : DeskView) → ((es : List Step) → P es → length es ≤ n) → AddsStepsBy P a b → AddsAtMost n a b
by_length P n a b few did = adds_length a b did.0 n did.2 (few did.0 did.1)

pub unknown_most : (rows : ℕ) (row : RowNo) (retailer n : ℕ) (Saw : Phase → ℕ → ℕ → List Step → Type 0) → 1 ≤ n → ((shown : Phase) (who last : ℕ) (es : List Step) → Saw shown who last es → length es ≤ n) → (es : List Step) → IsUnknown rows row retailer Saw es → length es ≤ n
unknown_most rows row retailer n Saw some few es (inl (past, is)) = subst (λ (l : List Step). length l ≤ n) (sym is) (omega arith)
unknown_most rows row retailer n Saw some few es (inr (here, shown, inl (not_so, (m, shows, is)))) = subst (λ (l : List Step). length l ≤ n) (sym is) some
unknown_most rows row retailer n Saw some few es (inr (here, shown, inr (is_so, who, last, why, saw))) = few shown who last es saw

pub wrong_most : (row : RowNo) (n : ℕ) (wanted shown : Phase) (Saw : Phase → List Step → Type 0) → ((was : Phase) (es : List Step) → Saw was es → length es ≤ n) → (es : List Step) → IsWrong row wanted shown Saw es → length es ≤ n + 1
wrong_most row n wanted shown Saw few es (inl (ne, sealed, saw)) = let l = few shown es saw in omega arith
wrong_most row n wanted shown Saw few es (inr (some, front, back, saw, lost, is)) =
    let l = few wanted front saw in
    let m : length back ≡ 1 = ap length lost.3 in
    let k = length-append front back in
    subst (λ (x : List Step). length x ≤ n + 1) (sym is) (omega arith)

pub loses_most : (row : RowNo) (n : ℕ) (wanted : Phase) (Saw : Phase → List Step → Type 0) → ((was : Phase) (es : List Step) → Saw was es → length es ≤ n) → (es : List Step) → LosesRow row wanted Saw es → length es ≤ n + 1
loses_most row n wanted Saw few es (front, back, saw, lost, is) =
    let l = few wanted front saw in
    let m : length back ≡ 1 = ap length lost.3 in
    let k = length-append front back in
    subst (λ (x : List Step). length x ≤ n + 1) (sym is) (omega arith)

-- a search for a retailer's booking

pub past_last : (rows : ℕ) (row : RowNo) (retailer : ℕ) (Saw : Phase → ℕ → ℕ → List Step → Type 0) (a : DeskView) → rows ≤ row.row → IsLegal a.layout a.seen → AddsStepsBy (IsUnknown rows row retailer Saw) a a
past_last rows row retailer Saw a past legal = ([], inl (past, refl), shape_none a legal)

pub unsealed : (rows : ℕ) (row : RowNo) (retailer : ℕ) (Saw : Phase → ℕ → ℕ → List Step → Type 0) (shown : Phase) (a b : DeskView) → row.row < rows → is_sealed shown ≡ false → AddsStepsBy (SawPhase row shown) a b → AddsStepsBy (IsUnknown rows row retailer Saw) a b
unsealed rows row retailer Saw shown a b here not_so did = (did.0, inr (here, shown, inl (not_so, did.1)), did.2)

pub given_away : (rows : ℕ) (row : RowNo) (retailer who last : ℕ) (Saw : Phase → ℕ → ℕ → List Step → Type 0) (shown : Phase) (es : List Step) (a b : DeskView) → row.row < rows → is_sealed shown ≡ true → phase_shown row.generation last ≡ Free → Saw shown who last es → AddsSteps a b es → AddsStepsBy (IsUnknown rows row retailer Saw) a b
given_away rows row retailer who last Saw shown es a b here is_so free saw did = (es, inr (here, shown, inr (is_so, who, last, inl free, saw)), did)

pub anothers : (rows : ℕ) (row : RowNo) (retailer who last : ℕ) (Saw : Phase → ℕ → ℕ → List Step → Type 0) (shown : Phase) (es : List Step) (a b : DeskView) → row.row < rows → is_sealed shown ≡ true → who ≢ retailer → Saw shown who last es → AddsSteps a b es → AddsStepsBy (IsUnknown rows row retailer Saw) a b
anothers rows row retailer who last Saw shown es a b here is_so ne saw did = (es, inr (here, shown, inr (is_so, who, last, inr ne, saw)), did)

-- the looks at a booking, one after another; the last is the one that a look at its phase made

pub owner_seen : (a b c d : DeskView) (row : RowNo) (who last : ℕ) (shown : Phase) → AddsSteps a b (saw_phase row shown ∷ []) → AddsSteps b c (SawRow row.row 1 who ∷ []) → AddsSteps c d (SawRow row.row 0 last ∷ []) → AddsSteps a d (saw_owner row shown who last)
owner_seen a b c d row who last shown p o l = shape_then a b d (saw_phase row shown ∷ []) (SawRow row.row 1 who ∷ SawRow row.row 0 last ∷ []) p (shape_then b c d (SawRow row.row 1 who ∷ []) (SawRow row.row 0 last ∷ []) o l)

pub terms_seen : (a b c d e : DeskView) (row : RowNo) (who limit last : ℕ) (shown : Phase) → AddsSteps a b (saw_phase row shown ∷ []) → AddsSteps b c (SawRow row.row 1 who ∷ []) → AddsSteps c d (SawRow row.row 2 limit ∷ []) → AddsSteps d e (SawRow row.row 0 last ∷ []) → AddsSteps a e (saw_terms row shown who limit last)
terms_seen a b c d e row who limit last shown p o l z =
    shape_then a b e (saw_phase row shown ∷ []) (SawRow row.row 1 who ∷ SawRow row.row 2 limit ∷ SawRow row.row 0 last ∷ []) p
    (shape_then b c e (SawRow row.row 1 who ∷ []) (SawRow row.row 2 limit ∷ SawRow row.row 0 last ∷ []) o (shape_then c d e (SawRow row.row 2 limit ∷ []) (SawRow row.row 0 last ∷ []) l z))

-- the word of a look at the phase, with its step
pub last_look : (a b : DeskView) (row : RowNo) (shown : Phase) → AddsStepsBy (SawPhase row shown) a b → (last : ℕ) × (phase_shown row.generation last ≡ shown) × AddsSteps a b (SawRow row.row 0 last ∷ [])
last_look a b row shown did = (did.1.0, did.1.1, subst (AddsSteps a b) did.1.2 did.2)
