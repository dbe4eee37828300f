-- Rows and ends stay in range, and an ended booking keeps its phase and its end.
use Rattle.std.proofs.Common.{◌≡◌, ◌⊎◌, inl, inr, ⊎_elim, ℕ, ◌<◌, ◌≤◌, ℤ, pos, Bool, true, false, cond, List, [], ◌∷◌, ◌++◌, find, Option, Some, IfSome, IsSomeAnd, refl, sym, ap, ◌∙◌, subst, arith}
use Rattle.std.specs.List.{AllByRecursion, Any}
use Rattle.history_model.specs.declared.phase.Phase.{Phase}
use Rattle.history_model.specs.declared.phase.Phase.TheVariants.{Free, Making, Prebooked, Confirmed, Fulfilled, Ending, Ended}
use Rattle.history_model.specs.declared.phase.EndKind.{EndKind}
use Rattle.history_model.specs.declared.phase.EndKind.TheVariants.{Release, Expire, Refund, Exchange}
use Rattle.history_model.specs.declared.booking.End.{End}
use Rattle.history_model.specs.declared.entry.Step.{Step}
use Rattle.history_model.specs.declared.entry.Step.TheVariants.{Look, Take, Give, Start, SawRow, Note, Seal, Turn, LostTurn, Close, Met}
use Rattle.history_model.specs.declared.entry.Entry.{Entry}
use Rattle.rail_ids.specs.Spelling.{last_generation}
use Rattle.history_model.specs.Lists.{change_first}
use Rattle.history_model.specs.Phase.{is_turn}
use Rattle.history_model.specs.Booking.{Booking, Layout, State, successor_word, last_moment, limit_of, booking_at, stands_in, present}
use Rattle.history_model.specs.Allowed.{IsAllowedStep, IsRow, MaySealAs, IsMadeBy, IsSealable, IsExchangedFor, IsAmountOf, TurnsWith}
use Rattle.history_model.specs.Apply.{apply, apply_step, words_of_row, started, item_taken, given, noted, in_phase, turned, ended_phase, closed}
use Rattle.history_model.specs.History.{IsLegal, IsLegalFrom, state_after, state_of}
use Rattle.history_model.specs.Laws.{IsInRange, AreInRange, IsSuccessorIn, IsWellFormed, HasAmountFor, MayBecome, MayFollow, is_turned_to_end}
use Rattle.history_model.specs.WholeEnds.{end_at}
use Rattle.history_model.proofs.Keeping.{found}
use Rattle.history_model.proofs.Going.{GoesOn-step}
use Rattle.history_model.proofs.ListLemmas.{All-found, All-both}
use Rattle.history_model.proofs.Generations.{present_latest}
use Rattle.history_model.proofs.Legal.{WellFormed-step}
use Rattle.history_model.proofs.Successors.{successor_found}

-- a change of the first that passes, where it keeps what holds of that one
all_changed : (P : Booking → Type 0) (test : Booking → Bool) (f : Booking → Booking) (s : State) → ((b : Booking) → find test s ≡ Some b → P b → P (f b)) → AllByRecursion P s → AllByRecursion P (change_first test f s)
all_changed P test f [] keep all = tt
all_changed P test f (b ∷ bs) keep all = go (test b) (λ c. keep c) (λ later. all_changed P test f bs later all.1)
  where
    go : (t : Bool) → ((c : Booking) → cond t (Some b) (find test bs) ≡ Some c → P c → P (f c)) → (((c : Booking) → find test bs ≡ Some c → P c → P (f c)) → AllByRecursion P (change_first test f bs)) → AllByRecursion P (cond t (f b ∷ bs) (b ∷ change_first test f bs))
    go true keep rest = (keep b refl all.0, all.1)
    go false keep rest = (all.0, rest keep)

all_more : (P : Booking → Type 0) (s : State) (b : Booking) → AllByRecursion P s → P b → AllByRecursion P (s ++ b ∷ [])
all_more P [] b all p = (p, tt)
all_more P (x ∷ xs) b all p = (all.0, all_more P xs b all.1 p)

pub all_found : (P : Booking → Type 0) (s : State) (r : ℕ) (b : Booking) → AllByRecursion P s → present s r ≡ Some b → P b
all_found P s r b all e = All-found P (stands_in s r) s b e all

pub row_of : (s : State) (r : ℕ) (b : Booking) → present s r ≡ Some b → b.row ≡ r
row_of s r b e = (present_latest s r b e).0

same_found : (s : State) (r : ℕ) (b c : Booking) → present s r ≡ Some b → present s r ≡ Some c → c ≡ b
same_found s r b c e f = let same : ◌≡◌ {A = Option Booking} (Some c) (Some b) = sym f ∙ e in cc

-- where the row, the phase and the end stay
same_range : (g : Layout) (b c : Booking) → c.row ≡ b.row → c.phase ≡ b.phase → c.end ≡ b.end → IsInRange g b → IsInRange g c
same_range g b c row phase end is = record {
  row = subst (λ (n : ℕ). n < g.rows) (sym row) is.row;
  moment = subst (λ (e : End). e.moment ≤ last_moment) (sym end) is.moment;
  amount = subst (λ (x : Phase × End). HasAmountFor x.0 x.1.amount) (λ i. (sym phase i, sym end i)) is.amount;
  successor = subst (λ (e : End). IsSuccessorIn g e.successor) (sym end) is.successor;
}

-- where the phase alone changes
same_end : (g : Layout) (b : Booking) (phase : Phase) → HasAmountFor phase b.end.amount → IsInRange g b → IsInRange g (in_phase phase b)
same_end g b phase amount is = record { row = is.row; moment = is.moment; amount = amount; successor = is.successor }

sealed_amount : (phase : Phase) (a : ℤ) (X : Type 0) → (phase ≡ Prebooked) ⊎ ((phase ≡ Confirmed) × X) → a ≡ pos 0 → HasAmountFor phase a
sealed_amount phase a X may none = ⊎_elim
    (λ (p : phase ≡ Prebooked). subst (λ (ph : Phase). HasAmountFor ph a) (sym p) none)
    (λ (p : (phase ≡ Confirmed) × X). subst (λ (ph : Phase). HasAmountFor ph a) (sym p.0) none) may

closed_amount : (phase : Phase) (a : ℤ) → HasAmountFor phase a → HasAmountFor (ended_phase phase) a
closed_amount Free a is = is
closed_amount Making a is = is
closed_amount Prebooked a is = is
closed_amount Confirmed a is = is
closed_amount Fulfilled a is = is
closed_amount (Ending k) a is = is
closed_amount (Ended k) a is = is

none_before : (from to : Phase) (a : ℤ) → is_turn from to ≡ true → HasAmountFor from a → a ≡ pos 0
none_before Prebooked to a t is = is
none_before Confirmed to a t is = is
none_before Fulfilled to a t is = is
none_before Free to a t is = is
none_before Making to a t is = is
none_before (Ending k) to a t is = let no : false ≡ true = t in cc
none_before (Ended k) to a t is = let no : false ≡ true = t in cc

-- what a turn to an ending writes is in range
pub turn_fits : (g : Layout) (s : State) (who limit : ℕ) (kind : EndKind) (end : End) → AllByRecursion (λ b. IsRow g b.row × (b.generation ≤ last_generation)) s → TurnsWith s who limit (Ending kind) end → IsAmountOf kind end.amount × IsSuccessorIn g end.successor
turn_fits g s who limit Release end all may = (may.0, inl may.1)
turn_fits g s who limit Expire end all may = (may.1, inl may.2)
turn_fits g s who limit Refund end all may = (may.0, inl may.1)
turn_fits g s who limit Exchange end all may =
    let b = successor_found (λ b. IsRow g b.row × (b.generation ≤ last_generation)) s who end.successor all may.1 in
    (may.0, inr (b.0.row, b.0.generation, b.1.0, b.1.1, sym b.2))

-- the rows and generations of a state
pub keys_in_range : (g : Layout) (s : State) → IsWellFormed g s → AreInRange g s → AllByRecursion (λ b. IsRow g b.row × (b.generation ≤ last_generation)) s
keys_in_range g s good all = All-both (λ b sound range. (range.row, sound.generation)) s good.each all

with_end : (g : Layout) (s : State) (who limit : ℕ) (to : Phase) (end : End) (b : Booking) → AllByRecursion (λ c. IsRow g c.row × (c.generation ≤ last_generation)) s → end.moment ≤ last_moment → TurnsWith s who limit to end → b.end.amount ≡ pos 0 → IsInRange g b
    → IsInRange g (turned who to end b)
with_end g s who limit (Ending kind) end b all moment may none is = let f = turn_fits g s who limit kind end all may in record { row = is.row; moment = moment; amount = f.0; successor = f.1 }
with_end g s who limit Confirmed end b all moment may none is = same_end g b Confirmed none is
with_end g s who limit Fulfilled end b all moment may none is = same_end g b Fulfilled none is
with_end g s who limit Free end b all moment may none is = absurd may
with_end g s who limit Making end b all moment may none is = absurd may
with_end g s who limit Prebooked end b all moment may none is = absurd may
with_end g s who limit (Ended kind) end b all moment may none is = absurd may

ranges-step : (g : Layout) (s : State) (who : ℕ) (st : Step) → IsWellFormed g s → IsAllowedStep g s who st → AreInRange g s → AreInRange g (apply_step s who st)
ranges-step g s who (Look p k n) good may all = all
ranges-step g s who (Take q p span) good may all = all_changed (IsInRange g) (stands_in s q) (item_taken p span) s (λ b _. same_range g b (item_taken p span b) refl refl refl) all
ranges-step g s who (Give q k) good may all = all_changed (IsInRange g) (stands_in s q) (given k) s (λ b _. same_range g b (given k b) refl refl refl) all
ranges-step g s who (Start q j) good may all = all_more (IsInRange g) s (started q j who (words_of_row s q)) all (record { row = may.0; moment = omega arith; amount = refl; successor = inl refl })
ranges-step g s who (SawRow q w n) good may all = all
ranges-step g s who (Note q w n) good may all = all_changed (IsInRange g) (stands_in s q) (noted w n) s (λ b _. same_range g b (noted w n b) refl refl refl) all
ranges-step g s who (Seal q ph) good may all =
    let b = found (present s q) (λ b. IsMadeBy who b × IsSealable b × MaySealAs s who b ph) may.1 in
    all_changed (IsInRange g) (stands_in s q) (in_phase ph) s (λ c at is. same_end g c ph (sealed_amount ph c.end.amount (Any (IsExchangedFor who (successor_word b.0.row b.0.generation)) s) b.2.2
    (subst (λ (p : Phase). HasAmountFor p c.end.amount) (ap (λ (y : Booking). y.phase) (same_found s q b.0 c b.1 at) ∙ b.2.0.0) is.amount)) is) all
ranges-step g s who (Turn q from to m a x) good may all =
    let end : End = end_at m a x in
    let b = found (present s q) (λ b. (b.phase ≡ from) × TurnsWith s who (limit_of b) to end) may.3 in
    all_changed (IsInRange g) (stands_in s q) (turned who to end) s (λ c at is. with_end g s who (limit_of b.0) to end c (keys_in_range g s good all) may.2 b.2.1
    (none_before from to c.end.amount may.1 (subst (λ (p : Phase). HasAmountFor p c.end.amount) (ap (λ (y : Booking). y.phase) (same_found s q b.0 c b.1 at) ∙ b.2.0) is.amount)) is) all
ranges-step g s who (LostTurn q wanted shown) good may all = all
ranges-step g s who (Close q) good may all = all_changed (IsInRange g) (stands_in s q) closed s (λ b _ is. same_end g b (ended_phase b.phase) (closed_amount b.phase b.end.amount is.amount) is) all
ranges-step g s who Met good may all = all

ranges-history : (g : Layout) (s : State) (es : List Entry) → IsWellFormed g s → IsLegalFrom g s es → AreInRange g s → AreInRange g (state_after s es)
ranges-history g s [] good legal all = all
ranges-history g s (e ∷ es) good legal all = ranges-history g (apply s e) es (WellFormed-step g s e.desk e.step good legal.0) legal.1 (ranges-step g s e.desk e.step good legal.0 all)

-- the state of each legal history is in range
pub ranges_all : (g : Layout) (h : List Entry) → IsLegal g h → AreInRange g (state_of g h)
ranges_all g h legal = ranges-history g g.opening h legal.0.well_formed legal.1 legal.0.in_range

-- an ended booking keeps its phase and its end
pub ended_stays : (g : Layout) (s : State) (es : List Entry) (r j : ℕ) (kind : EndKind) (b : Booking) → IsLegalFrom g s es → booking_at s r j ≡ Some b → b.phase ≡ Ended kind → IsSomeAnd (booking_at (state_after s es) r j) (λ c. (c.phase ≡ Ended kind) × (c.end ≡ b.end))
ended_stays g s [] r j kind b legal at is = subst (λ (o : Option Booking). IsSomeAnd o (λ c. (c.phase ≡ Ended kind) × (c.end ≡ b.end))) (sym at) (is, refl)
ended_stays g s (e ∷ es) r j kind b legal at is =
    let on = (GoesOn-step g s e.desk e.step legal.0).bookings r j in
    let n = found (booking_at (apply s e) r j) (MayBecome e.desk b) (subst (λ (o : Option Booking). IfSome o (λ b. IsSomeAnd (booking_at (apply s e) r j) (MayBecome e.desk b))) at on) in
    let ph : n.0.phase ≡ Ended kind = still b.phase n.0.phase is n.2.forward in
    let end : n.0.end ≡ b.end = n.2.ended (ap is_turned_to_end is) in
    subst (λ (x : End). IsSomeAnd (booking_at (state_after (apply s e) es) r j) (λ c. (c.phase ≡ Ended kind) × (c.end ≡ x))) end (ended_stays g (apply s e) es r j kind n.0 legal.1 n.1 ph)
  where
    last : (q : Phase) → MayFollow (Ended kind) q → ⊥
    last q f = let no : false ≡ true = f in cc

    still : (p q : Phase) → p ≡ Ended kind → (q ≡ p) ⊎ MayFollow p q → q ≡ Ended kind
    still p q is on = ⊎_elim (λ (same : q ≡ p). same ∙ is) (λ (f : MayFollow p q). absurd (last q (subst (λ (x : Phase). MayFollow x q) is f))) on
