use Rattle.std.proofs.Common.{◌≡◌, ℕ, List, Option, Ok, ap, subst, sym}
use Rattle.std.specs.Prelude.{IfOk, Result}
use Rattle.host_words.specs.Options.{words_texts}
use Rattle.host_serve.specs.Serve.{Left}
use Rattle.plain_commands.specs.Devices.{Devices}
use Rattle.rail_host.specs.Commands.{Ran}
use Rattle.rail_host.proofs.exit.run_host.Goals as goal

-- what holds of the value holds where there is one
if_ok : {T E : Type 0} (P : T → Type 0) (r : Result T E) (x : T) → r ≡ Ok x → P x → IfOk r P
if_ok {T} {E} P r x is p = subst (λ (s : Result T E). IfOk s P) (sym is) p

-- the same words and the same status
ran_as : {F S K E : Type 0} (words said : List (List ℕ)) (left : Left) (journal : Option (List ℕ)) (status code : ℕ) (d : Devices F S K E) → words ≡ said
    → code ≡ status → Ran words left journal status d → Ran said left journal code d
ran_as words said left journal status code d same is ran =
    subst (λ (w : List (List ℕ)). Ran w left journal code d) same (subst (λ (n : ℕ). Ran words left journal n d) (sym is) ran)

pub returns-in-Ok-clause-ran : goal.returns-in-Ok-clause-ran
returns-in-Ok-clause-ran g c =
    let end = c.run_command-end in
    if_ok _ _ c.in-Ok.words c.in-Ok.is (
      end.result.listener,
      end.result.wall,
      ran_as _ _ _ _ _ _ _ (ap words_texts c.deref.ensures.value) c.from.ensures end.ensures.ran,
    )
