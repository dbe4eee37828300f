-- The places of a run stand together.
use Rattle.std.proofs.Common.{◌≡◌, ℕ, zero, suc, ◌+◌, ◌<◌, ◌≤◌, ◌==◌, Bool, true, false, List, [], ◌∷◌, length, take, drop, get_or, nat_lt, nat_le, if◌then◌else◌, refl, sym, ap, ◌∙◌, arith, ◌-◌, length-drop}
use Rattle.std.proofs.lemmas.List.{get_or-drop}
use Rattle.std.specs.List.{filter}
use Rattle.std.proofs.lemmas.Bool.Decides.{nat_tests}
use Rattle.place_map.specs.declared.coach.Place.{Place}
use Rattle.place_map.specs.Places.{run_number, places_of, IsSplit}

step : {X : Type 0} (passes : X → Bool) (p : X) (b : Bool) (rest : List X) → passes p ≡ b → filter passes (p ∷ rest) ≡ (if b then p ∷ filter passes rest else filter passes rest)
step passes p b rest is = ap (λ (c : Bool). if c then p ∷ filter passes rest else filter passes rest) is

-- the places before the n-th, of which none passes
pub filter_skip : {X : Type 0} (passes : X → Bool) (n : ℕ) (places : List X) → ((i : ℕ) (d : X) → i < n → i < length places → passes (get_or places i d) ≡ false) → filter passes (drop n places) ≡ filter passes places
filter_skip passes zero places h = refl
filter_skip passes (suc n) [] h = refl
filter_skip passes (suc n) (p ∷ places) h =
    filter_skip passes n places (λ i d small within. h (suc i) d (omega arith) (omega arith))
    ∙ sym (step passes p false places (h 0 p (omega arith) (omega arith)))

filter_none : {X : Type 0} (passes : X → Bool) (places : List X) → ((i : ℕ) (d : X) → i < length places → passes (get_or places i d) ≡ false) → filter passes places ≡ []
filter_none passes [] h = refl
filter_none passes (p ∷ places) h = step passes p false places (h 0 p (omega arith)) ∙ filter_none passes places (λ i d small. h (suc i) d (omega arith))

-- the first n places, which all pass, where none after them does
pub filter_front : {X : Type 0} (passes : X → Bool) (n : ℕ) (places : List X) → ((i : ℕ) (d : X) → i < n → i < length places → passes (get_or places i d) ≡ true)
    → ((i : ℕ) (d : X) → n ≤ i → i < length places → passes (get_or places i d) ≡ false) → take n places ≡ filter passes places
filter_front passes zero places front after = sym (filter_none passes places (λ i d small. after i d (omega arith) small))
filter_front passes (suc n) [] front after = refl
filter_front passes (suc n) (p ∷ places) front after =
    ap (λ rest. p ∷ rest) (filter_front passes n places (λ i d small within. front (suc i) d (omega arith) (omega arith)) (λ i d from small. after (suc i) d (omega arith) (omega arith)))
    ∙ sym (step passes p true places (front 0 p (omega arith) (omega arith)))

earlier : (a run : ℕ) → nat_lt a run ≡ true → (a == run) ≡ false
earlier a run h = grind (arith, nat_tests)

own : (a run : ℕ) → nat_lt a run ≡ false → nat_le a run ≡ true → (a == run) ≡ true
own a run h k = grind (arith, nat_tests)

later : (a run : ℕ) → nat_le a run ≡ false → (a == run) ≡ false
later a run h = grind (arith, nat_tests)

-- between the earlier runs and the later ones
pub places_of-own : (run first end : ℕ) (places rest : List Place) → rest ≡ drop first places
    → IsSplit (λ p. nat_lt (run_number p) run) places first
    → IsSplit (λ p. nat_le (run_number p) run) rest end
    → take end rest ≡ places_of run places
places_of-own run first end places rest is before after =
    let long : length rest ≡ length places - first = ap length is ∙ length-drop first places in
    let reads : (i : ℕ) (d : Place) → get_or rest i d ≡ get_or places (first + i) d = λ i d. ap (λ (l : List Place). get_or l i d) is ∙ get_or-drop first places i d in
    let not_earlier : (i : ℕ) (d : Place) → i < length rest → nat_lt (run_number (get_or rest i d)) run ≡ false =
    λ i d within. ap (λ (p : Place). nat_lt (run_number p) run) (reads i d) ∙ before.1 (first + i) d (omega arith) (omega (arith, long)) in
    filter_front (λ p. run_number p == run) end rest
    (λ i d small within. own (run_number (get_or rest i d)) run (not_earlier i d within) (after.0 i d (omega arith) small))
    (λ i d from small. later (run_number (get_or rest i d)) run (after.1 i d from small))
    ∙ ap (λ (l : List Place). filter (λ p. run_number p == run) l) is
    ∙ filter_skip (λ p. run_number p == run) first places (λ i d small within. earlier (run_number (get_or places i d)) run (before.0 i d (omega arith) small))
