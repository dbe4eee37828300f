-- Listeners that hand out no more streams, some calls later.
use Rattle.std.proofs.Common.{◌≡◌, ◌≤◌, ℕ, suc, true, refl, inl, inr, arith, rules}
use Rattle.rail_io.specs.Faults.{Rose}
use Rattle.rail_service.specs.Listeners.{ListenerView}
use Rattle.host_serve.specs.Over.{EndsOver, IsSpentOrFailed}
use Rattle.host_serve.specs.Risen.{has_risen}
use Rattle.host_serve.specs.declared.shared_listener.ListenerEnd.{ListenerEnd}
use Rattle.host_serve.specs.declared.shared_listener.ListenerEnd.TheVariants.{Open, Closed, Failed}

risen : (old new : ℕ) → has_risen old new ≡ true → Rose old new
risen old new is = search (rules, arith)

module _ {L : Type 0} (told : L → ListenerView) (faults : L → ℕ) (becomes : L → L → Type 0) (limit count : ℕ) (Shown : Type 0) where
  -- it has ended itself
  pub over_at_once : (listener : L) → EndsOver told faults becomes limit count Shown listener
      → IsSpentOrFailed told faults limit count listener → ∥ Shown ∥₁
  over_at_once listener goes ended = goes (record { calls = 0; last = listener; reaches = refl; ended = ended })

  -- what is to come after a call was to come before it
  pub over_on : (old new : L) → becomes old new → EndsOver told faults becomes limit count Shown old
      → EndsOver told faults becomes limit count Shown new
  over_on old new step goes over =
      goes (record { calls = suc over.calls; last = over.last; reaches = (new, step, over.reaches); ended = over.ended })

  -- by how a listener ended it is known whether it hands out no more
  pub ended_over : (listener : L) (end : ListenerEnd) → (end ≡ Open → ⊥) → (end ≡ Closed → limit ≤ (told listener).handed)
      → (end ≡ Failed → has_risen count (faults listener) ≡ true) → EndsOver told faults becomes limit count Shown listener → ∥ Shown ∥₁
  ended_over listener Open ended closed failed goes = absurd (ended refl)
  ended_over listener Closed ended closed failed goes = over_at_once listener goes (inl (closed refl))
  ended_over listener Failed ended closed failed goes = over_at_once listener goes (inr (risen count (faults listener) (failed refl)))
