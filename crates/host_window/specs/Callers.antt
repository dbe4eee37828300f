-- How callers are served, one after the other.
use Rattle.std.specs.Prelude.{◌≡◌, ◌⊎◌, ℕ, zero, suc}
use Rattle.host_window.specs.Counted.{last_number}

-- what hands out callers, and what serves them
pub record Counter (W V : Type 0) : Type 0 where
  pub callers : W
  pub server : V

abbrev pub counter : {W V : Type 0} → W → V → Counter W V
counter callers server = record { callers = callers; server = server }

-- What single calls did: that one handed out this caller, that one handed out none, that one served this caller, and
-- that one found the server over.
pub record Calls (W V I O : Type 0) : Type 1 where
  pub hands : W → I → O → W → Type 0
  pub ends : W → W → Type 0
  pub serves : V → I → O → V → Type 0
  pub over : V → Type 0

abbrev pub calls : {W V I O : Type 0} → (W → I → O → W → Type 0) → (W → W → Type 0) → (V → I → O → V → Type 0)
    → (V → Type 0) → Calls W V I O
calls hands ends serves over = record { hands = hands; ends = ends; serves = serves; over = over }

-- that many callers were handed out, and each was served before the next one was handed out
abbrev pub ServesInTurn : {W V I O : Type 0} → Calls W V I O → ℕ → Counter W V → Counter W V → Type 0
ServesInTurn did zero before after = after ≡ before
ServesInTurn {W} {V} {I} {O} did (suc n) before after =
    (mid : Counter W V) × (input : I) × (output : O) × ServesInTurn did n before mid
    × did.hands mid.callers input output after.callers × did.serves mid.server input output after.server

-- why nobody else is served: there are no more callers, or the server was over once one more was handed out
abbrev pub IsLast : {W V I O : Type 0} → Calls W V I O → Counter W V → Counter W V → Type 0
IsLast {W} {V} {I} {O} did mid after =
    (after.server ≡ mid.server)
    × (did.ends mid.callers after.callers
    ⊎ ((input : I) × (output : O) × did.hands mid.callers input output after.callers × did.over mid.server))

-- Each caller that was handed out was served, once, and in order, until there were no more or the server was over. Or
-- as many were served as a number of 64 bits can count.
abbrev pub ServesAll : {W V I O : Type 0} → Calls W V I O → Counter W V → Counter W V → Type 0
ServesAll {W} {V} did before after =
    ServesInTurn did last_number before after
    ⊎ ((served : ℕ) × (mid : Counter W V) × ServesInTurn did served before mid × IsLast did mid after)
