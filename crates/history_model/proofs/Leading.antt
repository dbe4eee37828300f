-- Where a phase leads over a legal history.
use Rattle.std.proofs.Common.{◌≡◌, ℕ, ◌+◌, ◌⊎◌, inl, inr, ⊎_elim, Bool, true, false, List, [], ◌∷◌, ◌++◌, Option, Some, None, IfSome, IfNone, IsSomeAnd, refl, sym, ap, ◌∙◌, subst}
use Rattle.std.specs.Option.{option_map_or}
use Rattle.history_model.specs.declared.entry.Entry.{Entry}
use Rattle.history_model.specs.declared.entry.Step.TheVariants.{LostTurn}
use Rattle.history_model.specs.declared.phase.Phase.{Phase}
use Rattle.history_model.specs.declared.phase.Phase.TheVariants.{Free, Making, Prebooked, Confirmed, Fulfilled, Ending, Ended}
use Rattle.history_model.specs.declared.phase.EndKind.{EndKind}
use Rattle.history_model.specs.declared.phase.EndKind.TheVariants.{Release, Expire, Refund, Exchange}
use Rattle.history_model.specs.declared.booking.End.{End}
use Rattle.history_model.specs.Phase.{is_turn, phase_shown}
use Rattle.history_model.specs.Booking.{Booking, Layout, State, booking_at, phase_at, next_generation, present, change, limit_of}
use Rattle.history_model.specs.Allowed.{IsAllowed, IsAllowedStep, TurnsWith}
use Rattle.history_model.specs.Apply.{apply, apply_step, turned}
use Rattle.history_model.specs.History.{IsLegalFrom, state_after}
use Rattle.history_model.specs.Words.{row_word}
use Rattle.history_model.specs.Laws.{MayFollow, MayBecome, GoesOn}
use Rattle.history_model.specs.Life.{LeadsTo, leads_here, leads_on, IsTurnBetween, IsLostTurn, is_let_go}
use Rattle.history_model.specs.WholeEnds.{end_turn}
use Rattle.history_model.proofs.Keeping.{found, turned-key}
use Rattle.history_model.proofs.Going.{GoesOn-step, turned-phase}
use Rattle.history_model.proofs.Generations.{key-changed}
use Rattle.history_model.proofs.PhaseWords.{shown_at}
use Rattle.history_model.proofs.Forward.{state-append, legal_left, legal_right, at_generation}

-- phases

pub leads_trans : (a b c : Phase) → LeadsTo a b → LeadsTo b c → LeadsTo a c
leads_trans a b c h (leads_here _ e) = subst (λ (p : Phase). LeadsTo a p) (sym e) h
leads_trans a b c h (leads_on mid _ k f) = leads_on mid c (leads_trans a b mid h k) f

leads_to : (from to : Phase) → (to ≡ from) ⊎ MayFollow from to → LeadsTo from to
leads_to from to m = ⊎_elim (λ e. leads_here to e) (λ f. leads_on from to (leads_here from refl) f) m

-- an ending leads to itself and to its end alone

ending_step : (k : EndKind) (mid to : Phase) → (mid ≡ Ending k) ⊎ (mid ≡ Ended k) → MayFollow mid to → (to ≡ Ending k) ⊎ (to ≡ Ended k)
ending_step k mid to at f = ⊎_elim
    (λ e. inr (subst (λ (p : Phase). MayFollow p to) e f))
    (λ e. let no : false ≡ true = subst (λ (p : Phase). MayFollow p to) e f in absurd cc)
    at

pub leads-ending : (k : EndKind) (to : Phase) → LeadsTo (Ending k) to → (to ≡ Ending k) ⊎ (to ≡ Ended k)
leads-ending k to (leads_here _ e) = inl e
leads-ending k to (leads_on mid _ h f) = ending_step k mid to (leads-ending k mid h) f

-- what was confirmed is not let go

abbrev is_kept : Phase → Bool
is_kept Confirmed = true
is_kept Fulfilled = true
is_kept (Ending Refund) = true
is_kept (Ending Exchange) = true
is_kept (Ended Refund) = true
is_kept (Ended Exchange) = true
is_kept _ = false

kept_turn : (from to : Phase) → is_kept from ≡ true → is_turn from to ≡ true → is_kept to ≡ true
kept_turn Confirmed Fulfilled t u = refl
kept_turn Confirmed (Ending Refund) t u = refl
kept_turn Confirmed (Ending Exchange) t u = refl
kept_turn Confirmed to t u = absurd cc
kept_turn Fulfilled (Ending Refund) t u = refl
kept_turn Fulfilled (Ending Exchange) t u = refl
kept_turn Fulfilled to t u = absurd cc
kept_turn Prebooked to t u = absurd cc
kept_turn Free to t u = absurd cc
kept_turn Making to t u = absurd cc
kept_turn (Ending k) to t u = absurd cc
kept_turn (Ended k) to t u = absurd cc

kept_ending : (k : EndKind) → is_kept (Ending k) ≡ true → is_kept (Ended k) ≡ true
kept_ending Release t = t
kept_ending Expire t = t
kept_ending Refund t = refl
kept_ending Exchange t = refl

kept_step : (from to : Phase) → is_kept from ≡ true → MayFollow from to → is_kept to ≡ true
kept_step Free to t f = absurd cc
kept_step Making to t f = absurd cc
kept_step Prebooked to t f = absurd cc
kept_step Confirmed to t f = kept_turn Confirmed to t f
kept_step Fulfilled to t f = kept_turn Fulfilled to t f
kept_step (Ending k) to t f = ap is_kept f ∙ kept_ending k t
kept_step (Ended k) to t f = kept_turn (Ended k) to t f

kept_all : (to : Phase) → LeadsTo Confirmed to → is_kept to ≡ true
kept_all to (leads_here _ e) = ap is_kept e
kept_all to (leads_on mid _ h f) = kept_step mid to (kept_all mid h) f

not_let_go : (p : Phase) → is_kept p ≡ true → is_let_go p ≡ false
not_let_go Confirmed t = refl
not_let_go Fulfilled t = refl
not_let_go (Ending Refund) t = refl
not_let_go (Ending Exchange) t = refl
not_let_go (Ended Refund) t = refl
not_let_go (Ended Exchange) t = refl
not_let_go (Ending Release) t = absurd cc
not_let_go (Ending Expire) t = absurd cc
not_let_go (Ended Release) t = absurd cc
not_let_go (Ended Expire) t = absurd cc
not_let_go Free t = refl
not_let_go Making t = refl
not_let_go Prebooked t = refl

pub leads-confirmed : (to : Phase) → LeadsTo Confirmed to → is_let_go to ≡ false
leads-confirmed to h = not_let_go to (kept_all to h)

-- histories

row_step : (desk : ℕ) (o n : Option Booking) → IfSome o (λ b. IsSomeAnd n (MayBecome desk b)) → IfNone o (IfSome n (λ c. (c.phase ≡ Making) × (c.owner ≡ desk)))
    → LeadsTo (option_map_or (λ (b : Booking). b.phase) o Free) (option_map_or (λ (b : Booking). b.phase) n Free)
row_step desk None None h k = leads_here Free refl
row_step desk None (Some c) h k = leads_on Free c.phase (leads_here Free refl) k.0
row_step desk (Some b) None h k = absurd h
row_step desk (Some b) (Some c) h k = leads_to b.phase c.phase h.forward

pub leads-history : (g : Layout) (s : State) (history : List Entry) (row generation : ℕ) → IsLegalFrom g s history → LeadsTo (phase_at s row generation) (phase_at (state_after s history) row generation)
leads-history g s [] row generation l = leads_here (phase_at s row generation) refl
leads-history g s (e ∷ es) row generation l =
    let on : GoesOn e.desk s (apply s e) = GoesOn-step g s e.desk e.step l.0 in
    leads_trans (phase_at s row generation) (phase_at (apply s e) row generation) (phase_at (state_after (apply s e) es) row generation)
    (row_step e.desk (booking_at s row generation) (booking_at (apply s e) row generation) (on.bookings row generation) (on.starts row generation)) (leads-history g (apply s e) es row generation l.1)

-- a turn leaves the booking in its second phase
turned_phase : (g : Layout) (s : State) (e : Entry) (row generation : ℕ) (from to : Phase) → next_generation s row ≡ generation + 1 → IsTurnBetween row from to e → IsAllowed g s e → phase_at (apply s e) row generation ≡ to
turned_phase g s e row generation from to next (end, is) may = rw is (now (rw is at may))
  where
    now : IsAllowedStep g s e.desk (end_turn row from to end) → phase_at (apply_step s e.desk (end_turn row from to end)) row generation ≡ to
    now a =
        let f = found (present s row) (λ b. (b.phase ≡ from) × TurnsWith s e.desk (limit_of b) to end) a.3 in
        let at = at_generation s row generation f.0 next f.1 in
        let there : booking_at (change s row (turned e.desk to end)) row generation ≡ Some (turned e.desk to end f.0) =
        subst (λ (n : ℕ). booking_at (change s row (turned e.desk to end)) row n ≡ Some (turned e.desk to end f.0)) at.0 (key-changed s row (turned e.desk to end) f.0 (turned-key e.desk to end) f.1) in
        ap (λ o. option_map_or (λ (b : Booking). b.phase) o Free) there ∙ turned-phase e.desk to end f.0

pub turn_decides : (g : Layout) (opening : State) (before after : List Entry) (first : Entry) (row generation : ℕ) (from to : Phase) → next_generation (state_after opening before) row ≡ generation + 1 → IsTurnBetween row from to first → IsLegalFrom g opening (before ++ first ∷ after) → LeadsTo to (phase_at (state_after opening (before ++ first ∷ after)) row generation)
turn_decides g opening before after first row generation from to next turn l =
    let rest = legal_right g opening before (first ∷ after) l in
    let s : State = state_after opening before in
    let on : LeadsTo (phase_at (apply s first) row generation) (phase_at (state_after (apply s first) after) row generation) = leads-history g (apply s first) after row generation rest.1 in
    subst (λ (t : State). LeadsTo to (phase_at t row generation)) (sym (state-append opening before (first ∷ after)))
    (subst (λ (p : Phase). LeadsTo p (phase_at (state_after (apply s first) after) row generation)) (turned_phase g s first row generation from to next turn rest.0) on)

-- a lost turn shows the row's word 0
lost_shows : (g : Layout) (s : State) (e : Entry) (row shown : ℕ) → IsLostTurn row shown e → IsAllowed g s e → shown ≡ row_word s row 0
lost_shows g s e row shown (wanted, is) may = now (rw is at may)
  where
    now : IsAllowedStep g s e.desk (LostTurn row wanted shown) → shown ≡ row_word s row 0
    now a = a.1

pub losers_see : (g : Layout) (opening : State) (before between after : List Entry) (first lost : Entry) (row generation : ℕ) (from to : Phase) (shown : ℕ) → next_generation (state_after opening before) row ≡ generation + 1 → IsTurnBetween row from to first → IsLostTurn row shown lost
    → IsLegalFrom g opening (before ++ first ∷ between ++ lost ∷ after) → (phase_shown generation shown ≡ Free) ⊎ LeadsTo to (phase_shown generation shown)
losers_see g opening before between after first lost row generation from to shown next turn lose l =
    let front = legal_left g opening (before ++ first ∷ between) (lost ∷ after) l in
    let last = legal_right g opening (before ++ first ∷ between) (lost ∷ after) l in
    let s : State = state_after opening (before ++ first ∷ between) in
    let shows : shown ≡ row_word s row 0 = lost_shows g s lost row shown lose last.0 in
    ⊎_elim
    (λ (free : phase_shown generation (row_word s row 0) ≡ Free). inl (ap (phase_shown generation) shows ∙ free))
    (λ (its : phase_shown generation (row_word s row 0) ≡ phase_at s row generation). inr (subst (λ (p : Phase). LeadsTo to p) (sym (ap (phase_shown generation) shows ∙ its))
    (turn_decides g opening before between first row generation from to next turn front)))
    (shown_at s row generation)
