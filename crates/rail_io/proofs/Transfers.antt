-- What two writes handed on, one after the other, where the writer tells its bytes.
use Rattle.std.proofs.Common.{◌≡◌, ◌≤◌, ◌+◌, ◌++◌, ℕ, List, Option, Some, None, ap, ◌∙◌, arith, subst, length, length-append, take}
use Rattle.rail_io.specs.Told.{with_end}
use Rattle.rail_io.specs.Standard.{PushesTold, PushesBothTold}
use Rattle.rail_io.specs.declared.sink.Pushed.TheVariants.{Took}
use Rattle.rail_io.specs.declared.sink.PushedBoth.TheVariants.{Took as TookBoth}
use Rattle.rail_io.proofs.Ends.{end_more, take_both}

-- the first piece whole, and the first bytes of the second
pub both_told : (a b c : Option (List ℕ)) (first second : List ℕ) (count more : ℕ) → PushesTold a b first (Took count) → PushesTold b c second (Took more)
    → length first ≤ count → PushesBothTold a c (first ++ second) (TookBoth (count + more))
both_told None b c first second count more one two all = tt
both_told (Some x) b c first second count more one two all =
    let whole : count ≡ length first = omega (arith, one.1, all) in
    let after : PushesTold (with_end (Some x) (take count first)) c second (Took more) = subst (λ (t : Option (List ℕ)). PushesTold t c second (Took more)) one.2 two in (
      omega (arith, one.0),
      omega (arith, one.1, after.1, length-append first second),
      after.2 ∙ end_more (Some x) (take count first) (take more second) ∙ ap (with_end (Some x)) (take_both first second count more whole),
    )
