-- A wall whose desks are all between two calls of the service.
use Rattle.std.proofs.Common.{◌≡◌, ◌∙◌, ◌++◌, ◌∷◌, ◌≤◌, ℕ, false, List, [], Option, Some, refl, sym, ap, subst, append-nil, append_assoc}
use Rattle.std.specs.Prelude.{IsSomeAnd}
use Rattle.std.specs.List.{AllByRecursion}
use mathlib.Core.List.{IsPrefix}
use Rattle.history_model.specs.Allowed.{IsBeingEndedBy, IsMadeBy, OnRow}
use Rattle.history_model.specs.Booking.{Booking, Layout, State, booking_at, most_rows, present}
use Rattle.history_model.specs.History.{IsLegal, IsLegalFrom, own, state_after, state_of}
use Rattle.history_model.specs.Laws.{IsWellFormed}
use Rattle.history_model.specs.Phase.{is_ended}
use Rattle.history_model.specs.Work.{IsIn}
use Rattle.history_model.specs.declared.entry.Entry.{Entry}
use Rattle.history_model.specs.declared.phase.EndKind.{EndKind}
use Rattle.history_model.specs.declared.phase.Phase.TheVariants.{Making, Ending}
use Rattle.history_model.proofs.Generations.{stands_there, unended_present}
use Rattle.history_model.proofs.Keeping.{found}
use Rattle.history_model.proofs.Legal.{WellFormed-history}
use Rattle.history_model.proofs.Owners.{firm_making, firm_stays, on_row}
use Rattle.history_model.proofs.Seen.{legal-rest, own_rest, state_of-append}
use Rattle.history_model.proofs.Work.{ended_since, made_since}
use Rattle.claim_rule.specs.Out.{AreSettled, IsTidy}
use Rattle.claim_rule.specs.Rule.{DeskView}
use Rattle.claim_rule.proofs.Out.{new_idle}
use Rattle.cold_store.specs.Tidy.{AreSucceeded, IsTidyWall}

-- what the desk has done in the history it had done when it was between two calls of the service
pub record IsRested (plan : Layout) (history : List Entry) (d : ℕ) : Type 0 where
  pub seen : List Entry
  pub more : List Entry
  pub whole : seen ++ more ≡ history
  pub none : own more d ≡ []
  pub settled : AreSettled (own history d)
  pub ends : (row : ℕ) → OnRow (state_of plan seen) row (IsBeingEndedBy d) → ⊥
  pub makes : (row : ℕ) → OnRow (state_of plan seen) row (IsMadeBy d) → OnRow (state_of plan seen) row (λ b. b.items ≡ [])

-- so of a desk's own view
rested_desk : (history : List Entry) (desk : DeskView) → IsTidy desk → IsPrefix desk.seen history → own history desk.number ≡ own desk.seen desk.number
    → IsRested desk.layout history desk.number
rested_desk history desk tidy front same = record {
  seen = desk.seen;
  more = front.0;
  whole = front.1;
  none = own_rest desk.number desk.seen front.0 history front.1 (sym same);
  settled = subst AreSettled (sym same) tidy.1;
  ends = tidy.0.1;
  makes = tidy.2;
}

pub rested : (plan : Layout) (history : List Entry) (d : ℕ) (desk : DeskView) → desk.layout ≡ plan → desk.number ≡ d → IsTidy desk
    → IsPrefix desk.seen history → own history d ≡ own desk.seen d → IsRested plan history d
rested plan history d desk layout number tidy front same =
    subst (λ (l : Layout). IsRested l history d) layout (subst (λ (n : ℕ). IsRested desk.layout history n) number
    (rested_desk history desk tidy front (subst (λ (n : ℕ). own history n ≡ own desk.seen n) (sym number) same)))

-- and of one without entries
pub never_worked : (plan : Layout) (history : List Entry) (d : ℕ) → IsLegal plan history → own history d ≡ [] → IsRested plan history d
never_worked plan history d legal none = record {
  seen = history;
  more = [];
  whole = append-nil history;
  none = refl;
  settled = subst AreSettled (sym none) tt;
  ends = λ row on. (new_idle plan history d row legal none).1 on;
  makes = λ row on. absurd ((new_idle plan history d row legal none).0 on);
}

some_same : (x y : Booking) → Some x ≡ Some y → x ≡ y
some_same x y e = cc

module _ (g : Layout) (h : List Entry) (legal : IsLegal g h) (rests : (d : ℕ) → IsRested g h d) where
  well : IsWellFormed g (state_of g h)
  well = WellFormed-history g g.opening h legal.0.well_formed legal.1

  stands : (b : Booking) → booking_at (state_of g h) b.row b.generation ≡ Some b → is_ended b.phase ≡ false → present (state_of g h) b.row ≡ Some b
  stands b at unended = unended_present (state_of g h) b.row b.generation b well.earlier at unended

  later : (d : ℕ) → IsLegalFrom g (state_of g (rests d).seen) (rests d).more
  later d = legal-rest g (rests d).seen (rests d).more (subst (IsLegal g) (sym (rests d).whole) legal)

  goes_on : (d : ℕ) → state_of g h ≡ state_after (state_of g (rests d).seen) (rests d).more
  goes_on d = ap (state_of g) (sym (rests d).whole) ∙ state_of-append g (rests d).seen (rests d).more

  -- no booking is ending
  ends_none : (b : Booking) → booking_at (state_of g h) b.row b.generation ≡ Some b → (kind : EndKind) → b.phase ≡ Ending kind → ⊥
  ends_none b at kind ending =
      let d = b.owner in
      let t = state_of g (rests d).seen in
      let here : present (state_of g h) b.row ≡ Some b = stands b at (ap is_ended ending) in
      let on : OnRow (state_of g h) b.row (IsIn (Ending kind) d) = on_row (state_of g h) b.row b (IsIn (Ending kind) d) here (ending, refl) in
      let before : OnRow t b.row (IsIn (Ending kind) d) =
      ended_since g t (rests d).more [] kind d b.row (later d) (rests d).none tt
      (subst (λ (s : State). OnRow s b.row (IsIn (Ending kind) d)) (goes_on d) on) in
      let x = found (present t b.row) (IsIn (Ending kind) d) before in
      (rests d).ends b.row (on_row t b.row x.0 (IsBeingEndedBy d) x.1 (kind, x.2))

  -- one in the making has no items
  makes_none : (b : Booking) → booking_at (state_of g h) b.row b.generation ≡ Some b → b.phase ≡ Making → b.items ≡ []
  makes_none b at making =
      let d = b.owner in
      let t = state_of g (rests d).seen in
      let here : present (state_of g h) b.row ≡ Some b = stands b at (ap is_ended making) in
      let on : OnRow (state_of g h) b.row (IsMadeBy d) = on_row (state_of g h) b.row b (IsMadeBy d) here (making, refl) in
      let before : OnRow t b.row (IsMadeBy d) =
      made_since g t (rests d).more [] d b.row (later d) (rests d).none tt
      (subst (λ (s : State). OnRow s b.row (IsMadeBy d)) (goes_on d) on) in
      let x = found (present t b.row) (IsMadeBy d) before in
      let still : present (state_after t (rests d).more) b.row ≡ Some x.0 =
      firm_stays g t b.row x.0 (rests d).more x.1 (firm_making x.0.phase x.2.0)
      (subst (λ (k : ℕ). own (rests d).more k ≡ []) (sym x.2.1) (rests d).none) (later d) in
      let same : x.0 ≡ b = some_same x.0 b (sym still ∙ (ap (λ (s : State). present s b.row) (sym (goes_on d)) ∙ here)) in
      let empty : x.0.items ≡ [] = subst (λ (o : Option Booking). IsSomeAnd o (λ y. y.items ≡ [])) x.1 ((rests d).makes b.row before) in
      sym (ap (λ (y : Booking). y.items) same) ∙ empty

  all_so : (P : Booking → Type 0) → ((b : Booking) → booking_at (state_of g h) b.row b.generation ≡ Some b → P b) → (front rest : State)
      → state_of g h ≡ front ++ rest → AllByRecursion P rest
  all_so P each front [] is = tt
  all_so P each front (b ∷ rest) is = (
    each b (stands_there (state_of g h) front b rest well.keys is),
    all_so P each (front ++ b ∷ []) rest (is ∙ sym (append_assoc front (b ∷ []) rest)),
  )

  pub tidy_wall : (words : List ℕ) → AreSucceeded g.opening → g.rows ≤ most_rows → IsTidyWall (record { layout = g; words = words; history = h })
  tidy_wall words succeeded few = record {
    none_ending = all_so (λ b. (kind : EndKind) → b.phase ≡ Ending kind → ⊥) ends_none [] (state_of g h) refl;
    empty = all_so (λ b. b.phase ≡ Making → b.items ≡ []) makes_none [] (state_of g h) refl;
    settled = λ d. (rests d).settled;
    succeeded = succeeded;
    rows = few;
  }
