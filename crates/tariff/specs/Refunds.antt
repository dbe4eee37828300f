-- Which terms there are, and what a refund pays by them.
use Rattle.std.specs.Prelude.{◌≡◌, ◌≤◌, ℕ, ◌-◌, ◌*◌, ◌/◌, ◌&&◌, ◌==◌, nat_lt, nat_le, Bool, true, false, not, List, [], ◌∷◌, length, if◌then◌else◌, Option, Some, None}
use Rattle.std.specs.List.{list_any}
use Rattle.tariff.specs.declared.terms.RefundStep.{RefundStep}
use Rattle.tariff.specs.declared.terms.TermsFault.{TermsFault}
use Rattle.tariff.specs.declared.terms.TermsFault.TheVariants.{StepsNotFalling, FeeOver10000, AmountTooLarge}

-- what contracts see of terms
pub record RefundTerms : Type 0 where
  pub steps : List RefundStep
  pub ticket_fee : ℕ
  pub exchange_fee : ℕ
  pub confirm_seconds : ℕ

-- after a step with this `before`, each further one is below the one before it, and the last is 0
abbrev pub falls_to_zero : ℕ → List RefundStep → Bool
falls_to_zero before [] = before == 0
falls_to_zero before (next ∷ rest) = nat_lt next.before before && falls_to_zero next.before rest

-- there is a step, and `before` falls strictly from step to step, down to 0
abbrev pub are_falling : List RefundStep → Bool
are_falling [] = false
are_falling (first ∷ rest) = falls_to_zero first.before rest

-- some fee is over the whole, in basis points
abbrev pub has_large_fee : List RefundStep → Bool
has_large_fee steps = list_any (λ s. nat_lt 10_000 s.fee) steps

-- the first fault of steps and fees, in this order
abbrev pub terms_fault : List RefundStep → ℕ → ℕ → Option TermsFault
terms_fault steps ticket exchange =
    if not (are_falling steps) then Some StepsNotFalling
    else (if has_large_fee steps then Some FeeOver10000
    else (if nat_lt 10_000_000 ticket then Some AmountTooLarge
    else (if nat_lt 10_000_000 exchange then Some AmountTooLarge else None)))

-- what all terms keep
pub record AreTerms (steps : List RefundStep) (ticket exchange confirm : ℕ) : Type 0 where
  pub falling : are_falling steps ≡ true
  pub fees : has_large_fee steps ≡ false
  pub few : length steps ≤ 64
  pub ticket_in_range : ticket ≤ 10_000_000
  pub exchange_in_range : exchange ≤ 10_000_000
  pub some_time : 1 ≤ confirm
  pub a_day : confirm ≤ 86_400

-- the fee of the first step whose `before` is at most this, in basis points
abbrev pub fee_at : List RefundStep → ℕ → ℕ
fee_at [] seconds = 0
fee_at (s ∷ rest) seconds = if nat_le s.before seconds then s.fee else fee_at rest seconds

abbrev pub refund_of : RefundTerms → ℕ → ℕ → Bool → ℕ
refund_of terms total seconds fulfilled =
    let paid = total * (10_000 - fee_at terms.steps seconds) / 10_000 in
    if fulfilled then paid - terms.ticket_fee else paid
