-- What word 0 of a row shows.
use Rattle.std.proofs.Common.{◌≡◌, ℕ, ◌+◌, ◌*◌, ◌/◌, ◌%◌, ◌<◌, ◌==◌, ◌⊎◌, inl, inr, ⊎_elim, Bool, true, false, cond, eqb, List, [], ◌∷◌, find, Option, Some, None, refl, sym, ap, ◌∙◌, subst, eq-eqb, ne_eqb, arith}
use Rattle.std.specs.Option.{option_map_or}
use Rattle.std.proofs.lemmas.Bool.{cases_eq}
use Rattle.history_model.specs.declared.phase.Phase.{Phase}
use Rattle.history_model.specs.declared.phase.Phase.TheVariants.{Free, Making, Prebooked, Confirmed, Fulfilled, Ending, Ended}
use Rattle.history_model.specs.declared.phase.EndKind.TheVariants.{Release, Expire, Refund, Exchange}
use Rattle.history_model.specs.Phase.{word_of_phase, said_phase, phases, row_word_of, phase_shown}
use Rattle.history_model.specs.Booking.{Booking, State, present, phase_at}
use Rattle.history_model.specs.Words.{row_word}
use Rattle.history_model.proofs.Generations.{present_key}

-- phases and their words

pub phase_back : (ph : Phase) → said_phase (word_of_phase ph) ≡ ph
phase_back Free = refl
phase_back Making = refl
phase_back Prebooked = refl
phase_back Confirmed = refl
phase_back Fulfilled = refl
phase_back (Ending Release) = refl
phase_back (Ending Expire) = refl
phase_back (Ending Refund) = refl
phase_back (Ending Exchange) = refl
phase_back (Ended Release) = refl
phase_back (Ended Expire) = refl
phase_back (Ended Refund) = refl
phase_back (Ended Exchange) = refl

pub word_phase : (b from : Phase) → word_of_phase b ≡ word_of_phase from → b ≡ from
word_phase b from e = sym (phase_back b) ∙ (ap said_phase e ∙ phase_back from)

pub said_found : (n : ℕ) (ph : Phase) → word_of_phase ph ≡ n → ph ≡ said_phase n
said_found n ph e = sym (phase_back ph) ∙ ap said_phase e

none_found : (test : Phase → Bool) (ps : List Phase) → ((ph : Phase) → test ph ≡ false) → find test ps ≡ None
none_found test [] none = refl
none_found test (ph ∷ ps) none = ap (λ (b : Bool). cond b (Some ph) (find test ps)) (none ph) ∙ none_found test ps none

pub said_none : (n : ℕ) → ((ph : Phase) → word_of_phase ph ≡ n → ⊥) → Free ≡ said_phase n
said_none n none = sym (ap (λ (o : Option Phase). option_map_or (λ ph. ph) o Free) (none_found (λ ph. eqb (word_of_phase ph) n) phases (λ ph. ne_eqb (word_of_phase ph) n (none ph))))

-- with generations

word_small : (ph : Phase) → word_of_phase ph < 16
word_small Free = omega arith
word_small Making = omega arith
word_small Prebooked = omega arith
word_small Confirmed = omega arith
word_small Fulfilled = omega arith
word_small (Ending Release) = omega arith
word_small (Ending Expire) = omega arith
word_small (Ending Refund) = omega arith
word_small (Ending Exchange) = omega arith
word_small (Ended Release) = omega arith
word_small (Ended Expire) = omega arith
word_small (Ended Refund) = omega arith
word_small (Ended Exchange) = omega arith

generation_back : (a n : ℕ) → a < 16 → (a + 16 * n) / 16 ≡ n
generation_back a n h = omega arith

phase_number_back : (a n : ℕ) → a < 16 → (a + 16 * n) % 16 ≡ a
phase_number_back a n h = omega arith

-- a word is that of one phase and one generation
pub row_word_same : (p q : Phase) (m n : ℕ) → row_word_of p m ≡ row_word_of q n → (p ≡ q) × (m ≡ n)
row_word_same p q m n e = (
  word_phase p q (sym (phase_number_back (word_of_phase p) m (word_small p)) ∙ (ap (λ k. k % 16) e ∙ phase_number_back (word_of_phase q) n (word_small q))),
  sym (generation_back (word_of_phase p) m (word_small p)) ∙ (ap (λ k. k / 16) e ∙ generation_back (word_of_phase q) n (word_small q)),
)

-- the word of a booking's own generation shows its phase, and that of another shows Free
pub shown_back : (ph : Phase) (n : ℕ) → phase_shown n (row_word_of ph n) ≡ ph
shown_back ph n = rw (generation_back (word_of_phase ph) n (word_small ph), phase_number_back (word_of_phase ph) n (word_small ph), eq-eqb n n refl) (phase_back ph)

pub shown_other : (ph : Phase) (m n : ℕ) → (m ≡ n → ⊥) → phase_shown n (row_word_of ph m) ≡ Free
shown_other ph m n other = rw (generation_back (word_of_phase ph) m (word_small ph), ne_eqb m n other) refl

pub shown_none : (n : ℕ) → phase_shown n 0 ≡ Free
shown_none n = go (0 == n)
  where
    go : (t : Bool) → cond t (said_phase 0) Free ≡ Free
    go true = refl
    go false = refl

-- word 0 of a row shows Free, or the phase of the booking of that generation
pub shown_at : (s : State) (row generation : ℕ) → (phase_shown generation (row_word s row 0) ≡ Free) ⊎ (phase_shown generation (row_word s row 0) ≡ phase_at s row generation)
shown_at s row generation = go (present s row) refl
  where
    go : (o : Option Booking) → present s row ≡ o → (phase_shown generation (row_word s row 0) ≡ Free) ⊎ (phase_shown generation (row_word s row 0) ≡ phase_at s row generation)
    go None e = inl (rw e (shown_none generation))
    go (Some b) e = ⊎_elim
        (λ (same : b.generation ≡ generation). inr (rw e (subst (λ (n : ℕ). phase_shown n (row_word_of b.phase b.generation) ≡ phase_at s row n) same
        (shown_back b.phase b.generation ∙ sym (ap (λ o. option_map_or (λ (c : Booking). c.phase) o Free) (present_key s row b e))))))
        (λ (other : b.generation ≡ generation → ⊥). inl (rw e (shown_other b.phase b.generation generation other)))
        (cases_eq b.generation generation)

-- where it shows a booking another phase than Free, that booking is the row's present one
pub present_shown : (s : State) (row generation : ℕ) (ph : Phase) → (ph ≡ Free → ⊥) → phase_shown generation (row_word s row 0) ≡ ph → (b : Booking) × (present s row ≡ Some b) × (b.generation ≡ generation) × (b.phase ≡ ph)
present_shown s row generation ph some e = go (present s row) refl
  where
    go : (o : Option Booking) → present s row ≡ o → (b : Booking) × (present s row ≡ Some b) × (b.generation ≡ generation) × (b.phase ≡ ph)
    go None is = absurd (some (sym e ∙ (rw is (shown_none generation))))
    go (Some b) is = ⊎_elim
        (λ (same : b.generation ≡ generation). (b, is, same, sym (shown_back b.phase b.generation) ∙ (ap (λ (n : ℕ). phase_shown n (row_word_of b.phase b.generation)) same ∙ (sym (rw is refl) ∙ e))))
        (λ (other : b.generation ≡ generation → ⊥). absurd (some (sym e ∙ (rw is (shown_other b.phase b.generation generation other)))))
        (cases_eq b.generation generation)
