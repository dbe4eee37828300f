-- The text of a print, run by run.
use Rattle.std.proofs.Common.{◌≡◌, ℕ, zero, suc, ◌+◌, List, [], ◌∷◌, ◌++◌, append_assoc, append-nil, slice_get, take, refl, sym, ap, ◌∙◌, arith}
use Rattle.std.specs.Option.{option_map_or}
use Rattle.train_runs.specs.Runs.{RunsView}
use Rattle.train_runs.specs.Stops.{RunView}
use Rattle.host_catalogue.specs.Prints.{run_text, runs_text}

abbrev text_at : RunsView → List RunView → ℕ → List ℕ
text_at runs all n = option_map_or (run_text runs) (slice_get all n) []

run_more : (runs : RunsView) (all : List RunView) (n : ℕ) → runs_text runs (take (suc n) all) ≡ runs_text runs (take n all) ++ text_at runs all n
run_more runs [] zero = refl
run_more runs [] (suc n) = refl
run_more runs (r ∷ all) zero = append-nil (run_text runs r)
run_more runs (r ∷ all) (suc n) =
    ap (λ (t : List ℕ). run_text runs r ++ t) (run_more runs all n)
    ∙ sym (append_assoc (run_text runs r) (runs_text runs (take n all)) (text_at runs all n))

pub one_run_more : (runs : RunsView) (all : List RunView) (n : ℕ) (old now new : List ℕ) → now ≡ old ++ runs_text runs (take n all) → new ≡ now ++ text_at runs all n → new ≡ old ++ runs_text runs (take (n + 1) all)
one_run_more runs all n old now new so more =
    let next : suc n ≡ n + 1 = omega arith in
    more ∙ (ap (λ (t : List ℕ). t ++ text_at runs all n) so
    ∙ (append_assoc old (runs_text runs (take n all)) (text_at runs all n)
    ∙ ap (λ (t : List ℕ). old ++ t) (sym (run_more runs all n) ∙ ap (λ (m : ℕ). runs_text runs (take m all)) next)))

pub whole : (a b c d heading runs places : List ℕ) → a ≡ [] → b ≡ a ++ heading → c ≡ b ++ runs → d ≡ c ++ places → d ≡ heading ++ (runs ++ places)
whole a b c d heading runs places ha hb hc hd =
    hd ∙ (ap (λ (t : List ℕ). t ++ places) (hc ∙ ap (λ (t : List ℕ). t ++ runs) (hb ∙ ap (λ (t : List ℕ). t ++ heading) ha))
    ∙ append_assoc heading runs places)
