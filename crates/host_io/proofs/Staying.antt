-- What a sink leaves as it was while it takes bytes.
use Rattle.std.proofs.Common.{◌≡◌, ◌⊎◌, inl, inr, List, Option, ℕ, refl, ◌∙◌, ap}
use Rattle.rail_io.specs.Told.{TakesInTurn}
use Rattle.host_io.specs.Outbox.{Stays, Steady}
use Rattle.host_io.specs.Wires.{Limits}

pub stays_one : {K : Type 0} → (takes : K → List ℕ → K → Type 0) → (a b : K) → (bytes : List ℕ) → takes a bytes b → Stays takes a b
stays_one takes a b bytes took = λ seen same. same a b bytes took

pub stays_then : {K : Type 0} → (takes : K → List ℕ → K → Type 0) → (a b c : K) → Stays takes a b → Stays takes b c → Stays takes a c
stays_then takes a b c first second = λ seen same. second seen same ∙ first seen same

pub stays_turn : {K : Type 0} → (takes : K → List ℕ → K → Type 0) → (a b : K) → (bytes : List ℕ) → TakesInTurn takes a bytes b → Stays takes a b
stays_turn takes a b bytes (inl took) = stays_one takes a b bytes took
stays_turn takes a b bytes (inr turns) = stays_then takes a turns.0 b (stays_one takes a turns.0 turns.1 turns.3) (stays_one takes turns.0 b turns.2 turns.4)

abbrev pub steady_of : Option (List ℕ) → Option Limits → ℕ → Steady
steady_of incoming limits cut = record { incoming = incoming; limits = limits; cut = cut }

pub steady : (i j : Option (List ℕ)) (l m : Option Limits) (c d : ℕ) → j ≡ i → m ≡ l → d ≡ c → steady_of j m d ≡ steady_of i l c
steady i j l m c d ei el ec =
    ap (λ (x : Option (List ℕ)). steady_of x m d) ei ∙ ap (λ (x : Option Limits). steady_of i x d) el ∙ ap (λ (x : ℕ). steady_of i l x) ec
