-- Calls in their order.
use Rattle.std.proofs.Common.{◌≡◌, List, [], ◌∷◌, ◌++◌, refl, sym, ◌∙◌, ⊎_elim, ◌⊎◌, inl, inr, append-nil}
use mathlib.Core.List.{IsPrefix}
use Rattle.history_model.specs.declared.entry.Entry.{Entry}
use Rattle.history_model.proofs.Seen.{own_between}
use Rattle.service_laws.specs.Begun.{CallsInOrder, LearnedCallsAreLater}

pub begin_one : (xs ys s t : List Entry) → xs ++ s ≡ ys ++ t → IsPrefix xs ys ⊎ IsPrefix ys xs
begin_one [] ys s t e = inl (ys, refl)
begin_one (x ∷ xs) [] s t e = inr (x ∷ xs, refl)
begin_one (x ∷ xs) (y ∷ ys) s t e =
    let here : x ≡ y = cc in
    let rest : xs ++ s ≡ ys ++ t = cc in
    ⊎_elim
    (λ (p : IsPrefix xs ys). inl (p.0, λ i. here i ∷ p.1 i))
    (λ (p : IsPrefix ys xs). inr (p.0, λ i. sym here i ∷ p.1 i))
    (begin_one xs ys s t rest)

pub calls_ordered : CallsInOrder
calls_ordered asked old new steps between later did saw had all on seen =
    let d = old.number in
    ⊎_elim
    (λ (p : IsPrefix between new.seen). inr (between, record { had = had; goes_on = p; none_yet = sym all }, saw))
    (λ (p : IsPrefix new.seen between). inl (own_between d old.seen new.seen between did.front p all ∙ sym all))
    (begin_one between new.seen on.0 seen.0 (on.1 ∙ sym seen.1))

pub learned_later : LearnedCallsAreLater
learned_later told old new steps did front = inr (old.seen, record { had = ([], append-nil old.seen); goes_on = did.front; none_yet = refl }, front)
