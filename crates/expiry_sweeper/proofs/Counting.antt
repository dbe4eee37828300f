-- What a sweep has counted, and seen, up to a row.
use Rattle.std.proofs.Common.{◌≡◌, ℕ, suc, ◌+◌, ◌*◌, ◌≤◌, List, [], ◌∷◌, ◌++◌, length, refl, sym, ap, ◌∙◌, subst, arith, length-append, add-zero}
use Rattle.history_model.specs.Booking.{most_items}
use Rattle.std.specs.List.{AllByRecursion}
use Rattle.history_model.specs.declared.entry.Step.{Step}
use Rattle.history_model.specs.declared.phase.EndKind.TheVariants.{Expire}
use Rattle.booking_rows.specs.declared.turns.Aim.TheVariants as aim
use Rattle.booking_rows.specs.Aims.{end_of}
use Rattle.booking_rows.proofs.Ended.{ended_stays}
use Rattle.history_model.specs.History.{IsLegal}
use Rattle.claim_rule.specs.Rule.{BooksView, DeskView}
use Rattle.claim_rule.specs.Desks.{IsOf, AddsSteps, AddsAtMost}
use Rattle.claim_rule.specs.Calls.{AddsStepsBy}
use Rattle.claim_rule.specs.Out.{KeepsHolds, EndsNone, IsTidy}
use Rattle.claim_rule.proofs.Shapes.{shape_then, shape_none, adds_length}
use Rattle.claim_rule.proofs.Out.{settled_calm, tidy_through}
use Rattle.expiry_sweeper.specs.declared.rows.RowSwept.{RowSwept}
use Rattle.expiry_sweeper.specs.declared.rows.RowSwept.TheVariants as came
use Rattle.booking_rows.specs.declared.swept.Swept.{Swept}
use Rattle.expiry_sweeper.specs.OneRow.{RowSweep, passed, given_away, waiting, expired, lost, IsRowSweep, HasExpired, SweepsRow, outcome_of, row_sweep_steps}
use Rattle.expiry_sweeper.specs.AllRows.{Sweeps, HaveExpired, ExpiresCounted, sweeps_steps, counted, counts_of}
use Rattle.expiry_sweeper.proofs.Sweeping.{steps_more, sweeps_length, calm_sweeps}

all_more : {X : Type 0} (P : X → Type 0) (xs : List X) (x : X) → AllByRecursion P xs → P x → AllByRecursion P (xs ++ x ∷ [])
all_more P [] x all p = (p, tt)
all_more P (y ∷ ys) x all p = (all.0, all_more P ys x all.1 p)

-- in whatever order two rows are counted

swapped : (a b : RowSwept) (n : Swept) → counted a (counted b n) ≡ counted b (counted a n)
swapped came.Passed b n = refl
swapped came.Waiting came.Passed n = refl
swapped came.Waiting came.Waiting n = refl
swapped came.Waiting came.Expired n = refl
swapped came.Waiting came.Lost n = refl
swapped came.Expired came.Passed n = refl
swapped came.Expired came.Waiting n = refl
swapped came.Expired came.Expired n = refl
swapped came.Expired came.Lost n = refl
swapped came.Lost came.Passed n = refl
swapped came.Lost came.Waiting n = refl
swapped came.Lost came.Expired n = refl
swapped came.Lost came.Lost n = refl

counts_more : (ss : List RowSweep) (s : RowSweep) → counts_of (ss ++ s ∷ []) ≡ counted (outcome_of s) (counts_of ss)
counts_more [] s = refl
counts_more (x ∷ ss) s = ap (counted (outcome_of x)) (counts_more ss s) ∙ swapped (outcome_of x) (outcome_of s) (counts_of ss)

-- no count is greater than the number of rows

abbrev pub AreSmall : Swept → ℕ → Type 0
AreSmall n k = (n.expired ≤ k) × (n.lost ≤ k) × (n.waiting ≤ k)

one_more : (o : RowSwept) (n : Swept) (k : ℕ) → AreSmall n k → AreSmall (counted o n) (suc k)
one_more came.Passed n k (a, b, c) = (omega arith, omega arith, omega arith)
one_more came.Waiting n k (a, b, c) = (omega arith, omega arith, omega arith)
one_more came.Expired n k (a, b, c) = (omega arith, omega arith, omega arith)
one_more came.Lost n k (a, b, c) = (omega arith, omega arith, omega arith)

are_small : (ss : List RowSweep) → AreSmall (counts_of ss) (length ss)
are_small [] = (omega arith, omega arith, omega arith)
are_small (s ∷ ss) = one_more (outcome_of s) (counts_of ss) (length ss) (are_small ss)

-- what has expired stays so, and one row more

stays_expired : (b c : DeskView) (steps : List Step) (now row : ℕ) (s : RowSweep) → AddsSteps b c steps → HasExpired b now row s → HasExpired c now row s
stays_expired b c steps now row (passed n) did has = tt
stays_expired b c steps now row (given_away s) did has = tt
stays_expired b c steps now row (waiting s) did has = tt
stays_expired b c steps now row (expired s items) did has = ended_stays b c steps (record { row = row; generation = s.generation }) Expire (end_of (aim.Expire now)) did has
stays_expired b c steps now row (lost s shown) did has = tt

expired_stay : (b c : DeskView) (steps : List Step) (now row : ℕ) (ss : List RowSweep) → AddsSteps b c steps → HaveExpired b now row ss → HaveExpired c now row ss
expired_stay b c steps now row [] did all = tt
expired_stay b c steps now row (s ∷ ss) did all = (stays_expired b c steps now row s did all.0, expired_stay b c steps now (suc row) ss did all.1)

expired_more : (c : DeskView) (now row : ℕ) (ss : List RowSweep) (s : RowSweep) → HaveExpired c now row ss → HasExpired c now (row + length ss) s → HaveExpired c now row (ss ++ s ∷ [])
expired_more c now row [] s all has = (subst (λ (r : ℕ). HasExpired c now r s) (add-zero row) has, tt)
expired_more c now row (x ∷ ss) s all has = (all.0, expired_more c now (suc row) ss s all.1 (subst (λ (r : ℕ). HasExpired c now r s) (moved row (length ss)) has))
  where
    moved : (r n : ℕ) → r + suc n ≡ suc r + n
    moved r n = omega arith

-- the rows below this one are swept
pub record SweptTo (start now_at : DeskView) (now row : ℕ) (swept : Swept) : Type 0 where
  pub sweeps : List RowSweep
  pub every : length sweeps ≡ row
  pub each : AllByRecursion (IsRowSweep now) sweeps
  pub seen : AddsSteps start now_at (sweeps_steps now 0 sweeps)
  pub counts : swept ≡ counts_of sweeps
  pub expired : HaveExpired now_at now 0 sweeps

pub swept_none : (start : DeskView) (now : ℕ) → IsLegal start.layout start.seen → SweptTo start start now 0 (record { expired = 0; lost = 0; waiting = 0 })
swept_none start now legal = record { sweeps = []; every = refl; each = tt; seen = shape_none start legal; counts = refl; expired = tt }

pub swept_more : (a b c : DeskView) (now row : ℕ) (n : Swept) (o : RowSwept) → SweptTo a b now row n → SweepsRow now row b c o → SweptTo a c now (row + 1) (counted o n)
swept_more a b c now row n o so (s, is, came_to, did, ended) = record {
  sweeps = so.sweeps ++ s ∷ [];
  every = length-append so.sweeps (s ∷ []) ∙ ap (λ (k : ℕ). k + 1) so.every;
  each = all_more (IsRowSweep now) so.sweeps s so.each is;
  seen = subst (AddsSteps a c) (sym (steps_more now 0 so.sweeps s)) (shape_then a b c (sweeps_steps now 0 so.sweeps) (row_sweep_steps now (0 + length so.sweeps) s) so.seen (subst (λ (r : ℕ). AddsSteps b c (row_sweep_steps now r s)) (first row (length so.sweeps) so.every) did));
  counts = ap (counted o) so.counts ∙ (ap (λ (x : RowSwept). counted x (counts_of so.sweeps)) (sym came_to) ∙ sym (counts_more so.sweeps s));
  expired = expired_more c now 0 so.sweeps s (expired_stay b c (row_sweep_steps now row s) now 0 so.sweeps did so.expired) (subst (λ (r : ℕ). HasExpired c now r s) (first row (length so.sweeps) so.every) ended);
}
  where
    first : (r n : ℕ) → n ≡ r → r ≡ 0 + n
    first r n e = omega arith

pub small_counts : (a b : DeskView) (now row : ℕ) (n : Swept) → SweptTo a b now row n → AreSmall n row
small_counts a b now row n so = subst (AreSmall n) so.every (subst (λ (x : Swept). AreSmall x (length so.sweeps)) (sym so.counts) (are_small so.sweeps))

pub swept_all : (a b : DeskView) (now row rows : ℕ) (n : Swept) → row ≡ rows → SweptTo a b now row n → AddsStepsBy (Sweeps rows now n) a b
swept_all a b now row rows n whole so = (sweeps_steps now 0 so.sweeps, record { sweeps = so.sweeps; every = so.every ∙ whole; each = so.each; steps = refl; counts = so.counts }, so.seen)

pub swept_expired : (a b : DeskView) (now row rows : ℕ) (n : Swept) → row ≡ rows → SweptTo a b now row n → ExpiresCounted rows now n a b
swept_expired a b now row rows n whole so = (so.sweeps, so.every ∙ whole, so.counts, so.seen, so.expired)

pub swept_bound : (a b : DeskView) (now row rows : ℕ) (n : Swept) → row ≡ rows → SweptTo a b now row n → AddsAtMost ((2 * most_items + 9) * rows) a b
swept_bound a b now row rows n whole so =
    adds_length a b (sweeps_steps now 0 so.sweeps) ((2 * most_items + 9) * rows) so.seen
    (subst (λ (k : ℕ). length (sweeps_steps now 0 so.sweeps) ≤ (2 * most_items + 9) * k) (so.every ∙ whole) (sweeps_length now 0 so.sweeps so.each))

pub swept_tidy : (books : BooksView) (a b : DeskView) (now row : ℕ) (n : Swept) → IsOf books b → SweptTo a b now row n → KeepsHolds a b → EndsNone b → IsTidy a → IsTidy b
swept_tidy books a b now row n of so holds none tidy =
    tidy_through books a b (sweeps_steps now 0 so.sweeps) of so.seen (settled_calm a.number (sweeps_steps now 0 so.sweeps) (calm_sweeps now 0 so.sweeps)) tidy (holds.none tidy.0.0, none)
