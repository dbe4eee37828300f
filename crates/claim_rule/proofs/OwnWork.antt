-- A lone desk's steps keep its own work.
use Rattle.std.proofs.Common.{◌≡◌, ◌≢◌, ℕ, Bool, true, false, cond, [], ◌∷◌, ◌++◌, Some, refl, sym, ap, ◌∙◌, subst, append_assoc}
use Rattle.std.specs.Prelude.{find, length, ◌<◌}
use Rattle.std.specs.List.{AllByRecursion}
use Rattle.std.proofs.lemmas.Bool.{true≢false}
use Rattle.history_model.specs.declared.booking.End.{End}
use Rattle.history_model.specs.declared.entry.Step.{Step}
use Rattle.history_model.specs.declared.entry.Step.TheVariants.{Look, Take, Give, Start, SawRow, Note, Seal, Turn, LostTurn, Close, Met}
use Rattle.history_model.specs.declared.phase.Phase.{Phase}
use Rattle.history_model.specs.declared.phase.Phase.TheVariants.{Free, Making, Prebooked, Confirmed, Fulfilled, Ending, Ended}
use Rattle.history_model.specs.Phase.{is_turn, is_ended}
use Rattle.history_model.specs.Allowed.{IsAllowedStep, IsMadeBy, MayGive, MayNote, MayClose, MaySealAs, IsSealable, OnRow, TurnsWith}
use Rattle.history_model.specs.Apply.{apply_step, item_taken, given, noted, in_phase, turned, closed, started, words_of_row, ended_phase}
use Rattle.history_model.specs.Booking.{Booking, Layout, State, change, present, stands_in, most_items, limit_of}
use Rattle.history_model.specs.Laws.{IsWellFormed, IsOpening, is_owners}
use Rattle.history_model.specs.Lists.{change_first}
use Rattle.history_model.specs.WholeEnds.{end_at}
use Rattle.history_model.proofs.Going.{turned-phase}
use Rattle.history_model.proofs.Keeping.{found}
use Rattle.history_model.proofs.ListLemmas.{All-append, All-changed, All-found}
use Rattle.history_model.proofs.Generations.{unended_present, stands_there}
use Rattle.history_model.proofs.Owners.{on_row}
use Rattle.claim_rule.specs.OwnWork.{MakesLast, IsOwnWork}

-- the step starts a row
abbrev pub is_start : Step → Bool
is_start (Start row generation) = true
is_start _ = false

-- ---- one booking changed

changed_last : (p : Booking → Bool) (f : Booking → Booking) (s : State) (b : Booking) → find p s ≡ Some b → ((f b).phase ≡ Making → b.phase ≡ Making) → MakesLast s
    → MakesLast (change_first p f s)
changed_last p f [] b at keeps last = tt
changed_last p f (x ∷ xs) b at keeps last = go (p x) at (λ e. changed_last p f xs b e keeps last.1)
  where
    go : (t : Bool) → cond t (Some x) (find p xs) ≡ Some b → (find p xs ≡ Some b → MakesLast (change_first p f xs)) → MakesLast (cond t (f x ∷ xs) (x ∷ change_first p f xs))
    go true e more =
        let same : b ≡ x = cc in
        ((λ making. last.0 (subst (λ (y : Booking). (f y).phase ≡ Making → y.phase ≡ Making) same keeps making)), last.1)
    go false e more = ((λ making. ap (change_first p f) (last.0 making)), more e)

abbrev pub IsOwned : Booking → Type 0
IsOwned b = is_owners b.phase ≡ true → b.owner ≡ 0

work_changed : (s : State) (row : ℕ) (f : Booking → Booking) (P : Booking → Type 0) → OnRow s row P → ((b : Booking) → P b → (f b).phase ≡ Making → b.phase ≡ Making)
    → ((b : Booking) → P b → IsOwned b → IsOwned (f b)) → IsOwnWork s → IsOwnWork (change s row f)
work_changed s row f P on keeps owns work =
    let b = found (present s row) P on in
    record {
      owned = All-changed IsOwned (stands_in s row) f s b.0 b.1 work.owned (owns b.0 b.2 (All-found IsOwned (stands_in s row) s b.0 b.1 work.owned));
      last = changed_last (stands_in s row) f s b.0 b.1 (keeps b.0 b.2) work.last;
    }

-- ---- steps

no_turn_to_making : (from : Phase) → is_turn from Making ≡ true → ⊥
no_turn_to_making Free e = true≢false (sym e)
no_turn_to_making Making e = true≢false (sym e)
no_turn_to_making Prebooked e = true≢false (sym e)
no_turn_to_making Confirmed e = true≢false (sym e)
no_turn_to_making Fulfilled e = true≢false (sym e)
no_turn_to_making (Ending kind) e = true≢false (sym e)
no_turn_to_making (Ended kind) e = true≢false (sym e)

turned_owned : (from to : Phase) (end : End) (b : Booking) → is_turn from to ≡ true → IsOwned (turned 0 to end b)
turned_owned from Free end b turn owners = absurd (true≢false (sym owners))
turned_owned from Making end b turn owners = absurd (no_turn_to_making from turn)
turned_owned from Prebooked end b turn owners = absurd (true≢false (sym owners))
turned_owned from Confirmed end b turn owners = absurd (true≢false (sym owners))
turned_owned from Fulfilled end b turn owners = absurd (true≢false (sym owners))
turned_owned from (Ending kind) end b turn owners = refl
turned_owned from (Ended kind) end b turn owners = absurd (true≢false (sym owners))

closed_owned : (b : Booking) → MayClose 0 b → IsOwned b → IsOwned (closed b)
closed_owned b (kind, ending, given, words) own owners = ending.1

closed_still : (g : Layout) (b : Booking) → MayClose 0 b → (closed b).phase ≡ Making → b.phase ≡ Making
closed_still g b (kind, ending, given, words) making =
    absurd (let no : Ended kind ≡ Making = sym (ap ended_phase ending.0) ∙ making in cc)

pub step_keeps : (g : Layout) (s : State) (st : Step) → IsAllowedStep g s 0 st → is_start st ≡ false → IsOwnWork s → IsOwnWork (apply_step s 0 st)
step_keeps g s (Look place half shown) may none work = work
step_keeps g s (Take row place span) may none work =
    work_changed s row (item_taken place span) (λ b. IsMadeBy 0 b × (length b.items < most_items)) may.2 (λ b p e. e) (λ b p own. own) work
step_keeps g s (Give row item) may none work = work_changed s row (given item) (MayGive 0 item) may.1 (λ b p e. e) (λ b p own. own) work
step_keeps g s (Start row generation) may none work = absurd (true≢false none)
step_keeps g s (SawRow row word value) may none work = work
step_keeps g s (Note row word value) may none work = work_changed s row (noted word value) (MayNote 0 word) may.1 (λ b p e. e) (λ b p own. own) work
step_keeps g s (Seal row phase) may none work =
    work_changed s row (in_phase phase) (λ b. IsMadeBy 0 b × IsSealable b × MaySealAs s 0 b phase) may.1 (λ b p e. p.0.0) (λ b p own owners. p.0.1) work
step_keeps g s (Turn row from to moment amount successor) may none work =
    let end : End = end_at moment amount successor in
    work_changed s row (turned 0 to end) (λ b. (b.phase ≡ from) × TurnsWith s 0 (limit_of b) to end) may.3
    (λ b p e. absurd (no_turn_to_making from (subst (λ (q : Phase). is_turn from q ≡ true) (sym (turned-phase 0 to end b) ∙ e) may.1)))
    (λ b p own. turned_owned from to end b may.1) work
step_keeps g s (LostTurn row wanted shown) may none work = work
step_keeps g s (Close row) may none work = work_changed s row closed (MayClose 0) may.1 (closed_still g) closed_owned work
step_keeps g s Met may none work = work

-- ---- a booking in the making is its row's present one

making_open : (p : Phase) → p ≡ Making → is_ended p ≡ false
making_open p making = ap is_ended making

none_making : (g : Layout) (s front rest : State) → IsWellFormed g s → s ≡ front ++ rest → ((row : ℕ) → OnRow s row (IsMadeBy 0) → ⊥) → AllByRecursion IsOwned rest
    → AllByRecursion (λ b. b.phase ≢ Making) rest
none_making g s front [] well is none owned = tt
none_making g s front (b ∷ rest) well is none owned = (
  λ making. none b.row (on_row s b.row b (IsMadeBy 0)
      (unended_present s b.row b.generation b well.earlier (stands_there s front b rest well.keys is) (making_open b.phase making))
      (making, owned.0 (ap is_owners making))),
  none_making g s (front ++ b ∷ []) rest well (is ∙ sym (append_assoc front (b ∷ []) rest)) none owned.1,
)

one_behind : (s : State) (b : Booking) → AllByRecursion (λ x. x.phase ≢ Making) s → MakesLast (s ++ b ∷ [])
one_behind [] b none = ((λ making. refl), tt)
one_behind (x ∷ s) b none = ((λ making. absurd (none.0 making)), one_behind s b none.1)

-- So does the start of a row where it makes none.
pub start_keeps : (g : Layout) (s : State) (row generation : ℕ) → IsWellFormed g s → ((r : ℕ) → OnRow s r (IsMadeBy 0) → ⊥) → IsOwnWork s → IsOwnWork (apply_step s 0 (Start row generation))
start_keeps g s row generation well idle work =
    let new : Booking = started row generation 0 (words_of_row s row) in
    record {
      owned = All-append IsOwned s (new ∷ []) work.owned ((λ owners. refl), tt);
      last = one_behind s new (none_making g s [] s well refl idle work.owned);
    }

-- New books begin with it.

settled_still : (p : Phase) → is_owners p ≡ false → p ≡ Making → ⊥
settled_still p still making = true≢false (sym (ap is_owners making) ∙ still)

opening_last : (s : State) → AllByRecursion (λ b. is_owners b.phase ≡ false) s → MakesLast s
opening_last [] still = tt
opening_last (b ∷ s) still = ((λ making. absurd (settled_still b.phase still.0 making)), opening_last s still.1)

opening_owned : (s : State) → AllByRecursion (λ b. b.owner ≡ 0) s → AllByRecursion IsOwned s
opening_owned [] own = tt
opening_owned (b ∷ s) own = ((λ owners. own.0), opening_owned s own.1)

pub opening_work : (g : Layout) (s : State) → IsOpening g s → IsOwnWork s
opening_work g s opening = record { owned = opening_owned s opening.owner; last = opening_last s opening.settled }
