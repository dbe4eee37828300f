-- What was found, or an error in its place.
use Rattle.std.proofs.Common.{◌≡◌, Option, Some, None, Result, Ok, Err, IfSome, refl, sym, subst}
use Rattle.std.specs.Prelude.{IfOk, IfErr}
use Rattle.std.specs.Option.{ok_or}

pub ok_if : {T E : Type 0} (found : Option T) (e : E) (P : T → Type 0) (r : Result T E) → r ≡ ok_or found e → IfSome found P → IfOk r P
ok_if {T} {E} found e P r same is = subst (λ x. IfOk x P) (sym same) (of found is)
  where
    of : (o : Option T) → IfSome o P → IfOk (ok_or o e) P
    of None is = tt
    of (Some x) is = is

pub err_is : {T E : Type 0} (found : Option T) (e : E) (r : Result T E) → r ≡ ok_or found e → IfErr r (λ p. p ≡ e)
err_is {T} {E} found e r same = subst (λ x. IfErr x (λ p. p ≡ e)) (sym same) (of found)
  where
    of : (o : Option T) → IfErr (ok_or o e) (λ p. p ≡ e)
    of None = refl
    of (Some x) = tt
