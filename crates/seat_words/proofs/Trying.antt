-- A desk's hold after a try, and after its last item was given back.
use Rattle.std.proofs.Common.{◌≡◌, ℕ, List, [], ◌∷◌, refl, sym, ap, ◌∙◌, subst}
use Rattle.leg_masks.specs.Interval.{PlacedSpan as Item}
use Rattle.history_model.specs.declared.entry.Step.TheVariants.{Look, Take, Give}
use Rattle.claim_rule.specs.Rule.{DeskView}
use Rattle.claim_rule.specs.Holds.{HoldView, IsHoldOf, with_one}
use Rattle.claim_rule.specs.Desks.{Stepped}
use Rattle.claim_rule.specs.Out.{IsHolding, HasNoted, HasNotedButLast, HasNotedItems, KeepsHolds, KeepsEndings}
use Rattle.claim_rule.proofs.Shapes.{step_shape}
use Rattle.claim_rule.proofs.Noting.{noted_takes, noted_gives}
use Rattle.claim_rule.proofs.Holding.{same_front}
use Rattle.claim_rule.proofs.Out.{hold_only, hold_endings, looks_holds, looks_endings}

pub looked_holds : (p k n : ℕ) (old new : DeskView) → Stepped (Look p k n) old new → KeepsHolds old new
looked_holds p k n old new did = looks_holds old new (Look p k n ∷ []) (step_shape (Look p k n) old new did) did.same.5 (refl, tt)

pub looked_endings : (p k n : ℕ) (old new : DeskView) → Stepped (Look p k n) old new → KeepsEndings old new
looked_endings p k n old new did = looks_endings old new (Look p k n ∷ []) (step_shape (Look p k n) old new did) (refl, tt)

-- won

pub won_hold : (old new : DeskView) (hold now : HoldView) (i : Item) → Stepped (Take hold.row.row i.place i.span) old new → now ≡ with_one hold i → IsHolding old hold → IsHoldOf new now → IsHolding new now
won_hold old new hold now i did is was of = record {
  of = of;
  only = λ r m. hold_only (Take hold.row.row i.place i.span) old new hold did (λ _. refl) was r m ∙ sym (ap (λ (h : HoldView). h.row.row) is);
}

pub won_noted : (old new : DeskView) (hold now : HoldView) (i : Item) → Stepped (Take hold.row.row i.place i.span) old new → now ≡ with_one hold i → IsHolding old hold → HasNotedItems old hold → HasNoted new now.row.row hold.items
won_noted old new hold now i did is was on = subst (λ (r : ℕ). HasNoted new r hold.items) (sym (ap (λ (h : HoldView). h.row.row) is)) (noted_takes old new hold 0 i hold.items did was.of.0 on)

pub won_endings : (old new : DeskView) (hold : HoldView) (i : Item) → Stepped (Take hold.row.row i.place i.span) old new → IsHolding old hold → KeepsEndings old new
won_endings old new hold i did was = hold_endings old new (Take hold.row.row i.place i.span ∷ []) hold (step_shape (Take hold.row.row i.place i.span) old new did) was.of.0 (λ r q. (q, tt)) (λ r. (refl, tt))

-- missed

pub missed_hold : (old new : DeskView) (hold now : HoldView) (p k n : ℕ) → Stepped (Look p k n) old new → now ≡ hold → IsHolding old hold → IsHolding new now
missed_hold old new hold now p k n did is was = subst (IsHolding new) (sym is) ((looked_holds p k n old new did).hold hold was)

pub missed_noted : (old new : DeskView) (hold now : HoldView) (p k n : ℕ) → Stepped (Look p k n) old new → now ≡ hold → IsHolding old hold → HasNotedItems old hold → HasNoted new now.row.row hold.items
missed_noted old new hold now p k n did is was on = subst (λ (h : HoldView). HasNoted new h.row.row hold.items) (sym is) ((looked_holds p k n old new did).noted hold hold.items was on)

-- given back

pub undone_hold : (old new : DeskView) (hold less : HoldView) (i : Item) (k : ℕ) → hold ≡ with_one less i → Stepped (Give hold.row.row k) old new → IsHolding old hold → IsHoldOf new less → IsHolding new less
undone_hold old new hold less i k one did was of = record {
  of = of;
  only = λ r m. hold_only (Give hold.row.row k) old new hold did (λ _. refl) was r m ∙ ap (λ (h : HoldView). h.row.row) one;
}

pub undone_noted : (old new : DeskView) (hold less : HoldView) (i : Item) (k : ℕ) → hold ≡ with_one less i → Stepped (Give hold.row.row k) old new → IsHolding old hold → (items : List Item) → HasNoted old hold.row.row items → HasNoted new less.row.row items
undone_noted old new hold less i k one did was items on = subst (λ (h : HoldView). HasNoted new h.row.row items) one (noted_gives old new hold k items did was.of.0 on)

pub undone_but_last : (old new : DeskView) (hold less : HoldView) (i : Item) (k : ℕ) → hold ≡ with_one less i → Stepped (Give hold.row.row k) old new → IsHolding old hold → HasNotedButLast old hold → HasNotedItems new less
undone_but_last old new hold less i k one did was on =
    let front : on.0 ≡ less.items = same_front on.0 less.items on.1 i (sym on.2 ∙ ap (λ (h : HoldView). h.items) one) in
    subst (HasNoted new less.row.row) front (undone_noted old new hold less i k one did was on.0 on.3)

pub undone_endings : (old new : DeskView) (hold : HoldView) (k : ℕ) → Stepped (Give hold.row.row k) old new → IsHolding old hold → KeepsEndings old new
undone_endings old new hold k did was = hold_endings old new (Give hold.row.row k ∷ []) hold (step_shape (Give hold.row.row k) old new did) was.of.0 (λ r q. (q, tt)) (λ r. (refl, tt))
