-- What the words of a settled wall say of a row.
use Rattle.std.proofs.Common.{◌≡◌, ◌≢◌, ◌∙◌, ℕ, zero, suc, ◌<◌, ◌≤◌, Bool, true, false, cond, eqb, eq-eqb, ne_eqb, map, refl, sym, ap, subst, Option, Some, None, IsSomeAnd, arith}
use Rattle.std.specs.Prelude.{ℤ, pos, slice_get, option_and_then, option_to_list}
use Rattle.std.specs.List.{AllByRecursion, sum}
use Rattle.std.specs.Option.{option_map_or}
use Rattle.std.proofs.lemmas.Int.{ints}
use Rattle.std.proofs.lemmas.Option.{get_or_from_slice_get}
use Rattle.history_model.specs.declared.phase.Phase.{Phase}
use Rattle.history_model.specs.declared.phase.Phase.TheVariants.{Free, Making, Prebooked, Confirmed, Fulfilled, Ending, Ended}
use Rattle.history_model.specs.declared.phase.EndKind.{EndKind}
use Rattle.history_model.specs.declared.phase.EndKind.TheVariants.{Release, Expire, Refund, Exchange}
use Rattle.history_model.specs.declared.booking.End.{End}
use Rattle.history_model.specs.declared.word.Word.TheVariants.{Row}
use Rattle.history_model.specs.Allowed.{IsAmountOf}
use Rattle.history_model.specs.Allows.{IsNoRowWord}
use Rattle.history_model.specs.Booking.{Booking, State, phase_of_row, present, row_words, stands_in, word_at}
use Rattle.history_model.specs.Laws.{HasAmountFor, IsInRange, IsSound, IsWellFormed}
use Rattle.history_model.specs.Phase.{is_sealed, row_word_of}
use Rattle.history_model.specs.Words.{row_number, row_word}
use Rattle.history_model.proofs.Keeping.{found}
use Rattle.history_model.proofs.ListLemmas.{All-found}
use Rattle.history_model.proofs.PhaseWords.{row_word_same}
use Rattle.history_model.proofs.RowWords.{word_there as word_in_row, some_phase as says_phase}
use Rattle.history_model.proofs.Ranges.{ranges_all}
use Rattle.history_model.proofs.Writing.{sound_of}
use Rattle.claim_rule.proofs.Moves.{is_sound}
use Rattle.claim_rule.specs.Openings.{end_in, kept_as, kept_in, kept_of_row, stub}
use Rattle.claim_rule.specs.Walls.{WallView}
use Rattle.settle_report.specs.declared.account.Sale.{Sale}
use Rattle.settle_report.specs.Accounts.{IsSettled, generation_at, state_on}
use Rattle.settle_report.specs.Steps.{IsAmountBy, IsEndAmount, IsFair, IsInPhase, IsSumOfFew, own_sale, sale_in, sale_of}

pub well_formed : (w : WallView) → IsSettled w → IsWellFormed w.layout (state_on w)
well_formed w settled = is_sound w.layout w.history settled.legal

pub sound_on : (w : WallView) (row : ℕ) (b : Booking) → IsSettled w → present (state_on w) row ≡ Some b → IsSound w.layout b
sound_on w row b settled at = sound_of w.layout (state_on w) row b (well_formed w settled) at

-- the word that the wall has there
pub word_there : (w : WallView) (row word n : ℕ) → IsSettled w → row < w.layout.rows → word < row_words
    → slice_get w.words (row_number w.layout row word) ≡ Some n → n ≡ row_word (state_on w) row word
word_there w row word n settled within some is = word_in_row w.layout (state_on w) w.words row word n settled.words within some is

-- word 0 of a row is that of a phase
pub some_phase : (w : WallView) (row : ℕ) → IsSettled w → ¬ IsNoRowWord (row_word (state_on w) row 0)
some_phase w row settled = says_phase w.layout (state_on w) row (well_formed w settled)

-- word w of the row of a booking, for w from 1
pub word_on : (s : State) (row w : ℕ) (b : Booking) → present s row ≡ Some b → w ≢ 0 → row_word s row w ≡ word_at b w
word_on s row w b at some = ap (λ (o : Option Booking). option_map_or (λ (b : Booking). cond (eqb w 0) (row_word_of b.phase b.generation) (word_at b w)) o 0) at
    ∙ ap (λ (c : Bool). cond c (row_word_of b.phase b.generation) (word_at b w)) (ne_eqb w 0 some)

-- what holds of all bookings holds of a row's present one
all_there : (P : Booking → Type 0) (s : State) (row : ℕ) (b : Booking) → AllByRecursion P s → present s row ≡ Some b → P b
all_there P s row b all at = All-found P (stands_in s row) s b at all

-- the end of a row's booking that has ended: its amount is in range, and word 6 says it
pub ended_amount : (w : WallView) (row : ℕ) (kind : EndKind) → IsSettled w → IsInPhase (state_on w) row (Ended kind)
    → (b : Booking) × (present (state_on w) row ≡ Some b) × (b.phase ≡ Ended kind) × IsAmountBy kind (row_word (state_on w) row 6) b.end.amount
ended_amount w row kind settled in_phase =
    let b = found (present (state_on w) row) (λ b. b.phase ≡ Ended kind) in_phase in
    let range = all_there (IsInRange w.layout) (state_on w) row b.0 (ranges_all w.layout w.history settled.legal) b.1 in
    let words = ((sound_on w row b.0 settled b.1).ended kind b.2).1 in (
      b.0,
      b.1,
      b.2,
      (
        subst (λ (p : Phase). HasAmountFor p b.0.end.amount) b.2 range.amount,
        sym (word_on (state_on w) row 6 b.0 b.1 (λ (e : 6 ≡ 0). omega arith) ∙ words.amount),
      ),
    )

pub shows_end : (s : State) (row : ℕ) (kind : EndKind) (b : Booking) (amount : ℤ) → present s row ≡ Some b → b.phase ≡ Ended kind → amount ≡ b.end.amount
    → IsEndAmount s row amount
shows_end s row kind b amount at ended is =
    subst (λ (o : Option Booking). IsSomeAnd o (λ b. amount ≡ (end_in b.phase b.end).amount)) (sym at)
    (is ∙ sym (ap (λ (p : Phase). (end_in p b.end).amount) ended))

-- a row that is free or in the making counts for no retailer
pub none_counts : (s : State) (row : ℕ) → is_sealed (phase_of_row s row) ≡ false → sale_in s row ≡ None
none_counts s row unsealed = go (present s row) unsealed
  where
    stub_case : (zero : Bool) (b : Booking) → option_and_then own_sale (cond zero None (Some (stub b.row b.generation))) ≡ None
    stub_case true b = refl
    stub_case false b = refl

    one : (p : Phase) (b : Booking) → is_sealed p ≡ false → option_and_then own_sale (kept_in p b) ≡ None
    one Free b e = refl
    one Making b e = stub_case (eqb b.generation 0) b
    one Prebooked b e = cc
    one Confirmed b e = cc
    one Fulfilled b e = cc
    one (Ending k) b e = cc
    one (Ended k) b e = cc

    go : (o : Option Booking) → is_sealed (option_map_or (λ (b : Booking). b.phase) o Free) ≡ false → option_and_then own_sale (option_and_then (λ (b : Booking). kept_in b.phase b) o) ≡ None
    go None e = refl
    go (Some b) e = one b.phase b e

-- what counts of a sealed booking
pub record IsSealedIn (s : State) (row : ℕ) (phase : Phase) (b : Booking) : Type 0 where
  pub at : present s row ≡ Some b
  pub phase_is : b.phase ≡ phase
  pub kept : kept_of_row s row ≡ Some (kept_as b)

kept_sealed : (p : Phase) (b : Booking) → is_sealed p ≡ true → kept_in p b ≡ Some (kept_as b)
kept_sealed Free b e = cc
kept_sealed Making b e = cc
kept_sealed Prebooked b e = refl
kept_sealed Confirmed b e = refl
kept_sealed Fulfilled b e = refl
kept_sealed (Ending k) b e = refl
kept_sealed (Ended k) b e = refl

pub sealed_in : (s : State) (row : ℕ) (phase : Phase) → phase ≡ phase_of_row s row → is_sealed phase ≡ true → (b : Booking) × IsSealedIn s row phase b
sealed_in s row phase is sealed = go (present s row) refl is
  where
    go : (o : Option Booking) → present s row ≡ o → phase ≡ option_map_or (λ (b : Booking). b.phase) o Free → (b : Booking) × IsSealedIn s row phase b
    go None at e = let no : is_sealed Free ≡ true = ap is_sealed (sym e) ∙ sealed in absurd (cc no)
    go (Some b) at e = (
      b,
      record {
        at = at;
        phase_is = sym e;
        kept = ap (option_and_then (λ (b : Booking). kept_in b.phase b)) at ∙ kept_sealed b.phase b (ap is_sealed (sym e) ∙ sealed);
      },
    )

pub in_phase : (s : State) (row : ℕ) (phase : Phase) (b : Booking) → IsSealedIn s row phase b → IsInPhase s row phase
in_phase s row phase b is = subst (λ (o : Option Booking). IsSomeAnd o (λ b. b.phase ≡ phase)) (sym is.at) is.phase_is

-- a booking of retailer 0 counts for none
pub nobodys : (s : State) (row : ℕ) (phase : Phase) (b : Booking) → IsSealedIn s row phase b → row_word s row 1 ≡ 0 → sale_in s row ≡ None
nobodys s row phase b is none =
    let one : word_at b 1 ≡ 0 = sym (word_on s row 1 b is.at (λ (e : 1 ≡ 0). omega arith)) ∙ none in
    ap (option_and_then own_sale) is.kept
    ∙ ap (λ (c : Bool). cond c None (Some (sale_of (kept_as b)))) (eq-eqb (word_at b 1) 0 one)

-- and what does
pub somebodys : (s : State) (row : ℕ) (phase : Phase) (b : Booking) (sale : Sale) → IsSealedIn s row phase b → row_word s row 1 ≢ 0
    → sale.retailer ≡ row_word s row 1 → sale.phase ≡ phase → sale.total ≡ row_word s row 3 → IsEndAmount s row sale.amount
    → Some sale ≡ sale_in s row
somebodys s row phase b sale is some retailer phase_is total amount =
    let w1 = word_on s row 1 b is.at (λ (e : 1 ≡ 0). omega arith) in
    let w3 = word_on s row 3 b is.at (λ (e : 3 ≡ 0). omega arith) in
    let r : sale.retailer ≡ word_at b 1 = retailer ∙ w1 in
    let p : sale.phase ≡ b.phase = phase_is ∙ sym is.phase_is in
    let t : sale.total ≡ word_at b 3 = total ∙ w3 in
    let a : sale.amount ≡ (end_in b.phase b.end).amount =
    subst (λ (o : Option Booking). IsSomeAnd o (λ b. sale.amount ≡ (end_in b.phase b.end).amount)) is.at amount in
    let same : sale ≡ sale_of (kept_as b) = λ j. record { retailer = r j; phase = p j; total = t j; amount = a j } in
    ap (λ (x : Sale). Some x) same
    ∙ sym (ap (option_and_then own_sale) is.kept
    ∙ ap (λ (c : Bool). cond c None (Some (sale_of (kept_as b)))) (ne_eqb (word_at b 1) 0 (λ e. some (w1 ∙ e))))

-- the generation of a row's booking, and what counts of it, are in range
pub row_generation : (w : WallView) (row : ℕ) → IsSettled w → generation_at (state_on w) row ≤ 65535
row_generation w row settled = go (present (state_on w) row) refl
  where
    go : (o : Option Booking) → present (state_on w) row ≡ o → sum (map (λ (b : Booking). b.generation) (option_to_list o)) ≤ 65535
    go None e = omega arith
    go (Some b) e = let few = (sound_on w row b settled e).generation in omega (arith, few)

few_nothing : IsSumOfFew 1 (pos 0)
few_nothing = (omega (arith, ints), omega (arith, ints))

few_of_kind : (kind : EndKind) (a : ℤ) → IsAmountOf kind a → IsSumOfFew 1 a
few_of_kind Release a is = subst (IsSumOfFew 1) (sym is) few_nothing
few_of_kind Expire a is = subst (IsSumOfFew 1) (sym is) few_nothing
few_of_kind Refund a is = let x = is.0 in let y = is.1 in (omega (arith, ints, x, y), omega (arith, ints, x, y))
few_of_kind Exchange a is = let x = is.0 in let y = is.1 in (omega (arith, ints, x, y), omega (arith, ints, x, y))

few_in : (p : Phase) (end : End) → HasAmountFor p end.amount → IsSumOfFew 1 (end_in p end).amount
few_in Free end is = few_nothing
few_in Making end is = few_nothing
few_in Prebooked end is = few_nothing
few_in Confirmed end is = few_nothing
few_in Fulfilled end is = few_nothing
few_in (Ending k) end is = few_nothing
few_in (Ended k) end is = few_of_kind k end.amount is

fair_sealed : (w : WallView) (row : ℕ) (b : Booking) → IsSettled w → present (state_on w) row ≡ Some b → is_sealed b.phase ≡ true → IsFair (sale_of (kept_as b))
fair_sealed w row b settled at sealed =
    let range = all_there (IsInRange w.layout) (state_on w) row b (ranges_all w.layout w.history settled.legal) at in
    record { total = ((sound_on w row b settled at).sealed sealed).total; amount = few_in b.phase b.end range.amount }

pub fair_row : (w : WallView) (row : ℕ) → IsSettled w → AllByRecursion (λ k. IsFair (sale_of k)) (option_to_list (kept_of_row (state_on w) row))
fair_row w row settled = go (present (state_on w) row) refl
  where
    stub_case : (zero : Bool) (b : Booking) → AllByRecursion (λ k. IsFair (sale_of k)) (option_to_list (cond zero None (Some (stub b.row b.generation))))
    stub_case true b = tt
    stub_case false b = (record { total = omega arith; amount = few_nothing }, tt)

    one : (p : Phase) (b : Booking) → (is_sealed p ≡ true → IsFair (sale_of (kept_as b))) → AllByRecursion (λ k. IsFair (sale_of k)) (option_to_list (kept_in p b))
    one Free b fair = tt
    one Making b fair = stub_case (eqb b.generation 0) b
    one Prebooked b fair = (fair refl, tt)
    one Confirmed b fair = (fair refl, tt)
    one Fulfilled b fair = (fair refl, tt)
    one (Ending k) b fair = (fair refl, tt)
    one (Ended k) b fair = (fair refl, tt)

    go : (o : Option Booking) → present (state_on w) row ≡ o → AllByRecursion (λ k. IsFair (sale_of k)) (option_to_list (option_and_then (λ (b : Booking). kept_in b.phase b) o))
    go None e = tt
    go (Some b) e = one b.phase b (fair_sealed w row b settled e)

pub zero_from : (n : ℕ) → ¬ (0 < n) → n ≡ 0
zero_from zero not_above = refl
zero_from (suc n) not_above = absurd (not_above (omega arith))
