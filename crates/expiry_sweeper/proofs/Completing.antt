-- A sweep leaves no booking prebooked that was overdue when it began.
use Rattle.std.proofs.Common.{◌≡◌, ℕ, zero, suc, ◌+◌, ◌<◌, ◌≤◌, ◌%◌, inl, List, [], ◌∷◌, ◌++◌, length, Some, refl, sym, ap, ◌∙◌, subst, arith}
use Rattle.std.specs.List.{AllByRecursion}
use Rattle.history_model.specs.declared.entry.Entry.{Entry}
use Rattle.history_model.specs.declared.entry.Step.{Step}
use Rattle.history_model.specs.declared.entry.Step.TheVariants.{SawRow, LostTurn}
use Rattle.history_model.specs.declared.phase.Phase.TheVariants.{Free, Prebooked, Ending}
use Rattle.history_model.specs.declared.phase.EndKind.TheVariants.{Expire}
use Rattle.history_model.specs.Phase.{is_sealed, is_live, phase_shown, row_word_of, said_phase}
use Rattle.history_model.specs.Booking.{Booking, Layout, State, booking_at, limit_of, next_generation, stands_as}
use Rattle.history_model.specs.History.{IsLegal, IsLegalFrom, state_after, state_of}
use Rattle.history_model.specs.Laws.{IsInRange}
use Rattle.history_model.proofs.Generations.{key_at}
use Rattle.history_model.proofs.Keeping.{found}
use Rattle.history_model.proofs.ListLemmas.{All-left, All-right, All-found}
use Rattle.history_model.proofs.PhaseWords.{phase_back, row_word_same, shown_back}
use Rattle.history_model.proofs.Ranges.{ranges_all}
use Rattle.history_model.proofs.Seen.{legal-front, legal-rest, state_of-append}
use Rattle.history_model.specs.WholeEnds.{end_turn}
use Rattle.rail_ids.specs.declared.RowNo.{RowNo}
use Rattle.claim_rule.specs.Rule.{BooksView, DeskView, state_seen}
use Rattle.claim_rule.specs.Desks.{IsOf}
use Rattle.claim_rule.specs.Calls.{AddsStepsBy}
use Rattle.claim_rule.specs.Endings.{items_read}
use Rattle.claim_rule.specs.EndSteps.{ending_steps}
use Rattle.expiry_sweeper.specs.AllRows.{Sweeps, sweeps_steps}
use Rattle.expiry_sweeper.specs.OneRow.{RowSweep, SeenPrebooked, IsRowSweep, passed, given_away, waiting, expired, lost, row_sweep_steps, saw_prebooked}
use Rattle.booking_rows.specs.declared.swept.Swept.{Swept}
use Rattle.booking_rows.specs.declared.turns.Aim.TheVariants as aim
use Rattle.booking_rows.specs.Aims.{end_of}
use Rattle.booking_rows.specs.Views.{saw_phase}
use Rattle.confirm_core.specs.RowEnds.{ends_as}
use Rattle.expiry_sweeper.specs.Complete.{LeavesNoneOverdue}
use Rattle.expiry_sweeper.proofs.Own.{first_of, rest_of, steps_all, steps_since}
use Rattle.expiry_sweeper.proofs.Standing.{ShowsSeal, LeavesPhase, there, seal_shown, phase_left, phase_of, still_there, stands_so}

-- the sweep of the row of this number
sweep_at : (P : Step → Type 0) (now k i : ℕ) (sweeps : List RowSweep) → i < length sweeps → AllByRecursion P (sweeps_steps now k sweeps) → AllByRecursion (IsRowSweep now) sweeps → (s : RowSweep) × IsRowSweep now s × AllByRecursion P (row_sweep_steps now (k + i) s)
sweep_at P now k i [] few all each = absurd (omega (arith, few))
sweep_at P now k zero (s ∷ rest) few all each =
    (s, each.0, subst (λ (n : ℕ). AllByRecursion P (row_sweep_steps now n s)) (let e : k ≡ k + 0 = omega arith in e) (All-left P (row_sweep_steps now k s) (sweeps_steps now (suc k) rest) all))
sweep_at P now k (suc i) (s ∷ rest) few all each =
    let x = sweep_at P now (suc k) i rest (omega (arith, few)) (All-right P (row_sweep_steps now k s) (sweeps_steps now (suc k) rest) all) each.1 in
    (x.0, x.1, subst (λ (n : ℕ). AllByRecursion P (row_sweep_steps now n x.0)) (let e : suc k + i ≡ k + suc i = omega arith in e) x.2)

-- none of the looks of a row's sweep, and no turn of it, may come while an overdue booking stands prebooked

abbrev Fits : ℕ → ℕ → Booking → Step → Type 0
Fits row generation b step = ShowsSeal row b step × LeavesPhase row generation Prebooked step

not_free : Prebooked ≡ Free → ⊥
not_free e = cc

shown_so : (generation its last : ℕ) → row_word_of Prebooked its ≡ row_word_of Prebooked generation → last ≡ row_word_of Prebooked generation → phase_shown its last ≡ Prebooked
shown_so generation its last first same = (λ i. phase_shown ((row_word_same Prebooked Prebooked its generation first).1 i) (same i)) ∙ shown_back Prebooked generation

first_look : (row generation : ℕ) (b : Booking) (s : SeenPrebooked) (more : List Step) → AllByRecursion (Fits row generation b) (saw_prebooked row s ++ more) → row_word_of Prebooked s.generation ≡ row_word_of Prebooked generation
first_look row generation b s more all = (first_of (Fits row generation b) (saw_phase (record { row = row; generation = s.generation }) Prebooked) (SawRow row 2 s.limit ∷ SawRow row 0 s.last ∷ more) all).1 refl refl

limit_look : (row generation : ℕ) (b : Booking) (s : SeenPrebooked) (more : List Step) → AllByRecursion (Fits row generation b) (saw_prebooked row s ++ more) → s.limit ≡ limit_of b
limit_look row generation b s more all =
    let P = Fits row generation b in
    let one = rest_of P (saw_phase (record { row = row; generation = s.generation }) Prebooked) (SawRow row 2 s.limit ∷ SawRow row 0 s.last ∷ more) all in
    (first_of P (SawRow row 2 s.limit) (SawRow row 0 s.last ∷ more) one).0 refl (inl (let e : 1 ≤ 2 = omega arith in e, let e : 2 ≤ 4 = omega arith in e))

last_look : (row generation : ℕ) (b : Booking) (s : SeenPrebooked) (more : List Step) → AllByRecursion (Fits row generation b) (saw_prebooked row s ++ more) → (s.last ≡ row_word_of Prebooked generation) × AllByRecursion (Fits row generation b) more
last_look row generation b s more all =
    let P = Fits row generation b in
    let one = rest_of P (saw_phase (record { row = row; generation = s.generation }) Prebooked) (SawRow row 2 s.limit ∷ SawRow row 0 s.last ∷ more) all in
    let two = rest_of P (SawRow row 2 s.limit) (SawRow row 0 s.last ∷ more) one in
    ((first_of P (SawRow row 0 s.last) more two).1 refl refl, rest_of P (SawRow row 0 s.last) more two)

impossible : (now row generation : ℕ) (b : Booking) (s : RowSweep) → limit_of b < now → IsRowSweep now s → AllByRecursion (Fits row generation b) (row_sweep_steps now row s) → ⊥
impossible now row generation b (passed n) before is all =
    let word : n ≡ row_word_of Prebooked generation = (first_of (Fits row generation b) (SawRow row 0 n) [] all).1 refl refl in
    is (ap said_phase (let e : n % 16 ≡ 2 = omega (arith, word) in e) ∙ phase_back Prebooked)
impossible now row generation b (given_away s) before is all =
    not_free (sym (shown_so generation s.generation s.last (first_look row generation b s [] all) (last_look row generation b s [] all).0) ∙ is)
impossible now row generation b (waiting s) before is all =
    let limit = limit_look row generation b s [] all in
    let late = is.1 in
    omega (arith, limit, late, before)
impossible now row generation b (expired s items) before is all =
    let turn = last_look row generation b s (ends_as row Prebooked Expire (end_of (aim.Expire now)) items) all in
    (first_of (Fits row generation b) (end_turn row Prebooked (Ending Expire) (end_of (aim.Expire now))) (items_read row items ++ ending_steps row Expire (end_of (aim.Expire now)) items) turn.1).1 refl
impossible now row generation b (lost s shown) before is all =
    let turn = last_look row generation b s (LostTurn row (row_word_of Prebooked s.generation) shown ∷ []) all in
    let word : shown ≡ row_word_of Prebooked generation = (first_of (Fits row generation b) (LostTurn row (row_word_of Prebooked s.generation) shown) [] turn.1).1 refl in
    is.2 (word ∙ sym (first_look row generation b s (LostTurn row (row_word_of Prebooked s.generation) shown ∷ []) all))

-- both hold of all
both_all : (row generation : ℕ) (b : Booking) (es : List Entry) → AllByRecursion (λ e. ShowsSeal row b e.step) es → AllByRecursion (λ e. LeavesPhase row generation Prebooked e.step) es → AllByRecursion (λ e. Fits row generation b e.step) es
both_all row generation b [] p q = tt
both_all row generation b (e ∷ es) p q = ((p.0, q.0), both_all row generation b es p.1 q.1)

pub leaves_none : (books : BooksView) (old new : DeskView) (now : ℕ) (answer : Swept) → IsOf books old → AddsStepsBy (Sweeps books.layout.rows now answer) old new → LeavesNoneOverdue books now old new
leaves_none books old new now answer of (steps, sweep, did) begun row begins over =
    let g = books.layout in
    let s : State = state_of g begun in
    let rest = begins.goes_on.0 in
    let layout : new.layout ≡ g = did.same.1 ∙ of.layout in
    let all : begun ++ rest ≡ new.seen = begins.goes_on.1 in
    let legal : IsLegal g (begun ++ rest) = subst (IsLegal g) (sym all) (subst (λ (x : Layout). IsLegal x new.seen) layout did.legal) in
    let l : IsLegalFrom g s rest = legal-rest g begun rest legal in
    let b = found (booking_at s row.row row.generation) (λ (x : Booking). (x.phase ≡ Prebooked) × (limit_of x < now)) over in
    let c = there g s rest row.row row.generation b.0 l b.1 (ap is_sealed b.2.0) in
    let last : state_of g (begun ++ rest) ≡ state_after s rest = state_of-append g begun rest in
    let final : state_seen new ≡ state_after s rest = ap (λ (x : Layout). state_of x new.seen) layout ∙ (ap (state_of g) (sym all) ∙ last) in
    let in_row : row.row < g.rows = in_range g begun row b.0 (legal-front g begun rest legal) b.1 in
    stands_so (state_after s rest) (state_seen new) row c.0 (λ y. y.phase ≡ Prebooked → ⊥) final c.1 (λ (is : c.0.phase ≡ Prebooked).
    let later : booking_at (state_of g (begun ++ rest)) row.row row.generation ≡ Some c.0 = ap (λ (x : State). booking_at x row.row row.generation) last ∙ c.1 in
    let still = ap (λ (x : State). next_generation x row.row) (sym last) ∙ still_there g (begun ++ rest) row.row row.generation c.0 legal later (ap is_live is) in
    let seals = seal_shown g s rest row.row row.generation b.0 b.0 l b.1 (ap is_sealed b.2.0) (λ w _. refl) still in
    let phases = phase_left g s rest row.row row.generation Prebooked b.0 l b.1 b.2.0 refl still (phase_of (state_after s rest) row.row row.generation c.0 c.1 ∙ is) in
    let mine = steps_all (Fits row.row row.generation b.0) old.number rest steps (steps_since old new begun rest steps did begins.none_yet all) (both_all row.row row.generation b.0 rest seals phases) in
    let its = sweep_at (Fits row.row row.generation b.0) now 0 row.row sweep.sweeps (subst (λ (n : ℕ). row.row < n) (sym sweep.every) in_row) (subst (AllByRecursion (Fits row.row row.generation b.0)) sweep.steps mine) sweep.each in
    let same : 0 + row.row ≡ row.row = omega arith in
    impossible now row.row row.generation b.0 its.0 b.2.1 its.1 (subst (λ (n : ℕ). AllByRecursion (Fits row.row row.generation b.0) (row_sweep_steps now n its.0)) same its.2))
  where
    in_range : (g : Layout) (h : List Entry) (row : RowNo) (b : Booking) → IsLegal g h → booking_at (state_of g h) row.row row.generation ≡ Some b → row.row < g.rows
    in_range g h row b legal at =
        let ranged = All-found (IsInRange g) (stands_as row.row row.generation) (state_of g h) b at (ranges_all g h legal) in
        subst (λ (n : ℕ). n < g.rows) (key_at (state_of g h) row.row row.generation b at).0 ranged.row
