-- A row with one booking more, where it had none.
use Rattle.std.proofs.Common.{◌≡◌, ◌≢◌, ℕ, ◌+◌, ◌-◌, max, Bool, true, false, cond, nat_eq, List, [], ◌∷◌, ◌++◌, map, Option, Some, None, refl, sym, ap, ◌∙◌, subst, arith}
use Rattle.std.specs.List.{AllByRecursion}
use Rattle.std.specs.Option.{option_or}
use Rattle.std.proofs.lemmas.Bool.{ne_eqb, eq-eqb}
use Rattle.history_model.specs.Booking.{Booking, State, key_of, next_in, next_generation, stands_as, booking_at, present}
use Rattle.history_model.proofs.ListLemmas.{find-push}
use Rattle.history_model.proofs.Generations.{free_of_next, key_present, none_of_free, test_of_key}

-- no booking is of the row
abbrev pub OtherRows : ℕ → State → Type 0
OtherRows row s = AllByRecursion (λ (x : Booking). x.row ≢ row) s

max_zero : (n : ℕ) → max 0 n ≡ n
max_zero n = omega arith

zero_max : (n : ℕ) → max n 0 ≡ n
zero_max n = omega arith

pub next_none : (s : State) (row : ℕ) → OtherRows row s → next_generation s row ≡ 0
next_none [] row h = refl
next_none (b ∷ bs) row h =
    ap (λ (t : Bool). max (cond t (b.generation + 1) 0) (next_generation bs row)) (ne_eqb b.row row h.0)
    ∙ (max_zero (next_generation bs row) ∙ next_none bs row h.1)

next_push : (s : State) (b : Booking) → OtherRows b.row s → next_generation (s ++ b ∷ []) b.row ≡ b.generation + 1
next_push [] b h = ap (λ (t : Bool). max (cond t (b.generation + 1) 0) 0) (eq-eqb b.row b.row refl) ∙ zero_max (b.generation + 1)
next_push (x ∷ xs) b h =
    ap (λ (t : Bool). max (cond t (x.generation + 1) 0) (next_generation (xs ++ b ∷ []) b.row)) (ne_eqb x.row b.row h.0)
    ∙ (max_zero (next_generation (xs ++ b ∷ []) b.row) ∙ next_push xs b h.1)

next_else : (s : State) (b : Booking) (q : ℕ) → b.row ≢ q → next_generation (s ++ b ∷ []) q ≡ next_generation s q
next_else [] b q other = ap (λ (t : Bool). max (cond t (b.generation + 1) 0) 0) (ne_eqb b.row q other)
next_else (x ∷ xs) b q other = ap (λ (n : ℕ). max (cond (nat_eq x.row q) (x.generation + 1) 0) n) (next_else xs b q other)

pub present-none : (s : State) (row : ℕ) → OtherRows row s → present s row ≡ None
present-none s row h = free_of_next s row (next_none s row h)

pub present-push : (s : State) (b : Booking) → OtherRows b.row s → present (s ++ b ∷ []) b.row ≡ Some b
present-push s b h =
    key_present (s ++ b ∷ []) b.row b.generation b (next_push s b h)
    (find-push (stands_as b.row b.generation) s b
    ∙ (ap (λ (o : Option Booking). option_or o (cond (stands_as b.row b.generation b) (Some b) None)) (none_of_free s b.row b.generation (next_none s b.row h))
    ∙ ap (λ (t : Bool). cond t (Some b) None) (test_of_key b.row b.generation b refl refl)))

other_row : (row generation : ℕ) (b : Booking) → b.row ≢ row → stands_as row generation b ≡ false
other_row row generation b n = rw (ne_eqb b.row row n) refl

or_none : (o : Option Booking) → option_or o None ≡ o
or_none None = refl
or_none (Some b) = refl

pub present-else : (s : State) (b : Booking) (q : ℕ) → b.row ≢ q → present (s ++ b ∷ []) q ≡ present s q
present-else s b q other =
    ap (λ (n : ℕ). booking_at (s ++ b ∷ []) q (n - 1)) (next_else s b q other)
    ∙ (find-push (stands_as q (next_generation s q - 1)) s b
    ∙ (ap (λ (t : Bool). option_or (present s q) (cond t (Some b) None)) (other_row q (next_generation s q - 1) b other) ∙ or_none (present s q)))
