-- Crews that gain a member who stands ready.
use Rattle.std.proofs.Common.{◌≡◌, ◌∙◌, ◌+◌, ◌-◌, ℕ, List, [], ◌∷◌, ◌++◌, None, length, map, slice_index_or, sym, ap, subst, arith, append_assoc}
use Rattle.std.specs.Prelude.{IfSome}
use Rattle.std.proofs.lemmas.List.{length-map, map-append}
use Rattle.std.proofs.Math.Seq.{get_or-append_seam}
use mathlib.Core.List.{IsPrefix}
use Rattle.worker_pool.specs.declared.member.Member.{Member}
use Rattle.worker_pool.proofs.Crewing.{joined_each}
use Rattle.host_serve.specs.Crews.{AreGated, AreReady, Filling, IsReady}
use Rattle.host_serve.specs.declared.member.Post.{Post}
use Rattle.host_serve.specs.Turns.{Readings, clock_for, clock_of}

-- what is left of a beginning without its last begins the whole
pub shorter : {A : Type 0} (all rest : List A) (last : A) → IsPrefix (rest ++ last ∷ []) all → IsPrefix rest all
shorter all rest last front = (last ∷ front.0, sym (append_assoc rest (last ∷ []) front.0) ∙ front.1)

-- the clock of the member at place i is the one after those that are left for later ones
pub popped_clock : {C : Type 0} (told : C → Readings) (all rest : List C) (c : C) (i : ℕ) → IsPrefix (rest ++ c ∷ []) all
    → length rest + (i + 1) ≡ length all → told c ≡ clock_for (map told all) i
popped_clock {C} told all rest c i front count =
    let whole : all ≡ rest ++ c ∷ front.0 = sym front.1 ∙ append_assoc rest (c ∷ []) front.0 in
    let mapped : map told all ≡ map told rest ++ told c ∷ map told front.0 = ap (λ (l : List C). map told l) whole ∙ map-append told rest (c ∷ front.0) in
    let many : length (map told all) ≡ length all = length-map all told in
    let few : length (map told rest) ≡ length rest = length-map rest told in
    let at : length (map told rest) ≡ length (map told all) - (i + 1) = omega (arith, many, few, count) in
    let there : slice_index_or (map told all) (length (map told rest)) None ≡ told c =
    ap (λ (l : List Readings). slice_index_or l (length (map told rest)) None) mapped
    ∙ get_or-append_seam (map told rest) (told c) (map told front.0) None in
    sym (subst (λ (k : ℕ). slice_index_or (map told all) k None ≡ told c) at there)

-- one more that is ready
pub ready_more : {S T C W : Type 0} (handed : S → ℕ) (told : C → Readings) (with_these : Filling T)
    (all crew : List (Member (Post S T C W))) (m : Member (Post S T C W)) → all ≡ crew ++ m ∷ [] → AreReady crew handed told with_these
    → IsReady m handed told with_these (length crew) → AreReady all handed told with_these
ready_more {S} {T} {C} {W} handed told with_these all crew m items are is =
    subst (λ (l : List (Member (Post S T C W))). AreReady l handed told with_these) (sym items)
    (joined_each (λ i n. IsReady n handed told with_these i) crew m are is)

-- one more whose clock, if it has one, goes through the gate
pub gated_more : {S T C W G : Type 0} (crew all : List (Member (Post S T C W))) (m : Member (Post S T C W)) → all ≡ crew ++ m ∷ []
    → (gate_of : C → G) (gate : G) → AreGated crew gate_of gate → IfSome (clock_of m.worker) (λ (c : C). gate_of c ≡ gate)
    → AreGated all gate_of gate
gated_more {S} {T} {C} {W} crew all m items gate_of gate are is =
    subst (λ (l : List (Member (Post S T C W))). AreGated l gate_of gate) (sym items)
    (joined_each (λ i n. IfSome (clock_of n.worker) (λ (c : C). gate_of c ≡ gate)) crew m are is)
