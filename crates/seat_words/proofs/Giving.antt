-- One more give in a row of gives.
use Rattle.std.proofs.Common.{◌≡◌, ℕ, zero, suc, ◌+◌, ◌-◌, ◌<◌, ◌≤◌, [], ◌∷◌, ◌++◌, length, arith, refl, sym, ap, ◌∙◌, subst}
use Rattle.std.proofs.Math.Numerals.{add-one}
use Rattle.history_model.specs.declared.entry.Step.TheVariants.{Give}
use Rattle.claim_rule.specs.Rule.{DeskView}
use Rattle.claim_rule.specs.Desks.{AddsSteps, Stepped}
use Rattle.claim_rule.specs.Endings.{EndingView}
use Rattle.claim_rule.specs.EndSteps.{gives_from}
use Rattle.claim_rule.specs.Out.{IsEnding, KeepsHolds}
use Rattle.claim_rule.specs.Endings.{IsEndingOf}
use Rattle.claim_rule.proofs.Out.{ending_only, ending_holds}
use Rattle.claim_rule.proofs.Shapes.{shape_then, step_shape}

abbrev pub so_far : EndingView → ℕ → EndingView
so_far init k = record init { given = init.given + k }

gives_more : (row k n : ℕ) → gives_from row k (suc n) ≡ gives_from row k n ++ Give row (k + n) ∷ []
gives_more row k zero = ap (λ (m : ℕ). Give row m ∷ []) (let e : k ≡ k + 0 = omega arith in e)
gives_more row k (suc n) = ap (λ l. Give row k ∷ l) (gives_more row (suc k) n ∙ ap (λ (m : ℕ). gives_from row (suc k) n ++ Give row m ∷ []) (let e : suc k + n ≡ k + suc n = omega arith in e))

pub more : (a b c : DeskView) (init e : EndingView) (k : ℕ) → AddsSteps a b (gives_from init.row.row init.given k) → e ≡ so_far init k → Stepped (Give e.row.row e.given) b c → AddsSteps a c (gives_from init.row.row init.given (k + 1))
more a b c init e k s is did =
    subst (λ (n : ℕ). AddsSteps a c (gives_from init.row.row init.given n)) (sym (add-one k))
    (subst (AddsSteps a c) (sym (gives_more init.row.row init.given k)) (shape_then a b c (gives_from init.row.row init.given k) _ s (step_shape _ b c (subst (λ (v : EndingView). Stepped (Give v.row.row v.given) b c) is did))))

-- one give more leaves the ending out, and a hold as it is
pub given_ending : (b c : DeskView) (e now : EndingView) → Stepped (Give e.row.row e.given) b c → now ≡ record e { given = e.given + 1 } → IsEnding b e → IsEndingOf c now → IsEnding c now
given_ending b c e now did one is of = record { of = of; only = λ r m. ending_only (Give e.row.row e.given) b c e did (λ _. refl) is r m ∙ sym (ap (λ (v : EndingView). v.row.row) one) }

pub given_holds : (b c : DeskView) (e : EndingView) → Stepped (Give e.row.row e.given) b c → IsEnding b e → KeepsHolds b c
given_holds b c e did is = ending_holds b c (Give e.row.row e.given ∷ []) e (step_shape (Give e.row.row e.given) b c did) did.same.5 is.of (λ r q. (q, tt)) (λ r. (refl, tt))

pub one_on : (init e new : EndingView) (k : ℕ) → e ≡ so_far init k → new ≡ record e { given = e.given + 1 } → new ≡ so_far init (k + 1)
one_on init e new k is one = one ∙ (ap (λ (v : EndingView). record v { given = v.given + 1 }) is ∙ ap (λ (n : ℕ). record init { given = n }) (sum init.given k))
  where
    sum : (g k : ℕ) → g + k + 1 ≡ g + (k + 1)
    sum g k = omega arith

pub still_left : (init e : EndingView) (k n : ℕ) → e ≡ so_far init k → k < n → n + init.given ≡ length init.items → e.given < length e.items
still_left init e k n is l all = subst (λ (v : EndingView). v.given < length v.items) (sym is) (omega arith)

pub all_given : (init e : EndingView) (n : ℕ) → e ≡ so_far init n → n + init.given ≡ length init.items → e ≡ record init { given = length init.items }
all_given init e n is all = is ∙ ap (λ (k : ℕ). record init { given = k }) (omega arith)

pub all_shape : (a c : DeskView) (init : EndingView) (n : ℕ) → n + init.given ≡ length init.items → AddsSteps a c (gives_from init.row.row init.given n) → AddsSteps a c (gives_from init.row.row init.given (length init.items - init.given))
all_shape a c init n all s = let e : n ≡ length init.items - init.given = omega arith in subst (λ (k : ℕ). AddsSteps a c (gives_from init.row.row init.given k)) e s

pub at_end : (k n : ℕ) → k ≤ n → n ≤ k → k ≡ n
at_end k n l m = omega arith
