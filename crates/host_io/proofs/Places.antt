-- A thing that is taken out of a place and put there again.
use Rattle.std.proofs.Common.{◌≡◌, ℕ, List, [], Option, Some, None, IfSome, option_map, ap, ◌∙◌, subst, sym, refl, append-nil}
use Rattle.std.proofs.lemmas.Option.{none-some, same_Some}
use Rattle.rail_io.specs.Told.{Pushes, PushesBoth, taken_by, both_taken_by, with_end}
use Rattle.rail_io.specs.declared.sink.Pushed.{Pushed}
use Rattle.rail_io.specs.declared.sink.Pushed.TheVariants.{Took, Failed}
use Rattle.rail_io.specs.declared.sink.PushedBoth.{PushedBoth}
use Rattle.rail_io.specs.declared.sink.PushedBoth.TheVariants.{Took as TookBoth, Failed as FailedBoth}
use Rattle.host_io.specs.Talks.{LiesAgain}

pub lies_again : {T : Type 0} → (Holds : T → T → Type 0) → (before taken after : Option (Option T)) → (old new : T)
    → IfSome before (λ item. Some old ≡ item) → taken ≡ option_map (λ _. None) before
    → after ≡ option_map (λ _. Some new) taken → Holds old new → LiesAgain Holds before after
lies_again Holds (Some (Some item)) taken after old new takes empty puts holds = (
  new,
  puts ∙ ap (option_map (λ _. Some new)) empty,
  subst (λ (x : _). Holds x new) (same_Some old item takes) holds,
)
lies_again Holds (Some None) taken after old new takes empty puts holds = absurd (none-some old (sym takes))
lies_again Holds None taken after old new takes empty puts holds = puts ∙ ap (option_map (λ _. Some new)) empty

pub stays_empty : {T : Type 0} → (Holds : T → T → Type 0) → (before taken : Option (Option T))
    → IfSome before (λ item. None ≡ item) → taken ≡ option_map (λ _. None) before → LiesAgain Holds before taken
stays_empty Holds (Some (Some item)) taken takes empty = absurd (none-some item takes)
stays_empty Holds (Some None) taken takes empty = empty
stays_empty Holds None taken takes empty = empty

pub no_empty : {T : Type 0} {A : Type 0} → (before : Option (Option T)) → (old : T)
    → IfSome before (λ item. Some old ≡ item) → before ≡ Some None → A
no_empty (Some (Some item)) old takes is = absurd (none-some item (sym (same_Some (Some item) None is)))
no_empty (Some None) old takes is = absurd (none-some old (sym takes))
no_empty None old takes is = absurd (none-some None is)

no_more : (told : Option (List ℕ)) → told ≡ with_end told []
no_more None = refl
no_more (Some bytes) = ap Some (sym (append-nil bytes))

pub pushed_on : (before after : Option (List ℕ)) (piece : List ℕ) (taken : Pushed) → Pushes before after piece taken
    → after ≡ with_end before (taken_by piece taken)
pushed_on before after piece (Took n) is = is.2
pushed_on before after piece Failed is = is ∙ no_more before

pub pushed_both_on : (before after : Option (List ℕ)) (pieces : List ℕ) (taken : PushedBoth)
    → PushesBoth before after pieces taken → after ≡ with_end before (both_taken_by pieces taken)
pushed_both_on before after pieces (TookBoth n) is = is.2
pushed_both_on before after pieces (FailedBoth n) is = is.1
