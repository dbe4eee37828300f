-- When a listener hands out no more streams.
use Rattle.std.specs.Prelude.{◌⊎◌, ◌≤◌, ℕ}
use Rattle.rail_io.specs.Faults.{Rose}
use Rattle.rail_service.specs.Listeners.{ListenerView, Reaches}

-- it has handed out as many as the limit, or it has failed since its count of faults was this
abbrev pub IsSpentOrFailed : {L : Type 0} → (L → ListenerView) → (L → ℕ) → ℕ → ℕ → L → Type 0
IsSpentOrFailed told faults limit count listener = (limit ≤ (told listener).handed) ⊎ Rose count (faults listener)

-- After some calls of the first, there is a listener that has handed out as many as the limit, or has failed.
pub record IsOverAfter {L : Type 0} (told : L → ListenerView) (faults : L → ℕ) (becomes : L → L → Type 0)
    (limit count : ℕ)
    (first : L) : Type 0 where
  pub calls : ℕ
  pub last : L
  pub reaches : Reaches becomes calls first last
  pub ended : IsSpentOrFailed told faults limit count last

-- this is shown by any listener that has ended after some calls of this one
abbrev pub EndsOver : {L : Type 0} → (L → ListenerView) → (L → ℕ) → (L → L → Type 0) → ℕ → ℕ → Type 0 → L → Type 0
EndsOver told faults becomes limit count Shown listener =
    IsOverAfter told faults becomes limit count listener → ∥ Shown ∥₁
