use Rattle.std.proofs.Common.{◌<◌, ◌≤◌, ℕ, List, All, sym, ◌∙◌, subst, arith}
use Rattle.std.proofs.lemmas.List.Elements.{All-replicate}
use Rattle.leg_masks.specs.Interval.{most_legs}
use Rattle.table_tests.proofs.lives.thousand.Goals as goal

pub start_books-requires-clause-legs : goal.start_books-requires-clause-legs
start_books-requires-clause-legs c = subst (λ (l : List ℕ). All (λ n. (0 < n) × (n ≤ most_legs)) l)
    (sym (c.as_slice.ensures.value ∙ c.in_ok-legs.ensures.items_if_clones_equal (λ x e. e)))
    (All-replicate (λ n. (0 < n) × (n ≤ most_legs)) 1000 1 (omega arith, omega arith))
