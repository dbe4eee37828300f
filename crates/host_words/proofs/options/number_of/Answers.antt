use Rattle.std.proofs.Common.{◌≡◌, ◌∙◌, ℕ, Option, Some, None, subst, sym}
use Rattle.std.specs.Str.Parse.{ParsesUnsigned, ExplainsUnsignedError, HasUnsignedDigitsIfOk}
use Rattle.clap.specs.Words.{ReadsOne, found_of, one_text}
use Rattle.host_words.proofs.Numbers.{none_found, some_found}
use Rattle.host_words.proofs.options.number_of.Goals as goal

pub returns-in_err-number : goal.returns-in_err-number
returns-in_err-number c =
    let is : c.get_one.result ≡ None = c.in_err-number.was in
    c.from_residual.ensures
    ∙ none_found (λ bs r. ParsesUnsigned 32 10 bs r × ExplainsUnsignedError 10 bs r × HasUnsignedDigitsIfOk bs r) (λ u x g. g.0)
    c.args.least c.args.most (one_text (found_of c.args.matches.now) c.args.name.now) c.ranges.most.fits
    (λ t some. subst (λ (r : Option ℕ). ReadsOne (λ bs x. ParsesUnsigned 32 10 bs x × ExplainsUnsignedError 10 bs x × HasUnsignedDigitsIfOk bs x) t r) is (c.get_one.ensures.value t some))

pub returns-then-number-most : goal.returns-then-number-most
returns-then-number-most c =
    let is : c.get_one.result ≡ Some c.in_ok-number.number = c.in_ok-number.was in
    some_found (λ bs r. ParsesUnsigned 32 10 bs r × ExplainsUnsignedError 10 bs r × HasUnsignedDigitsIfOk bs r) (λ u x g. g.0)
    c.args.least c.args.most c.in_ok-number.number (one_text (found_of c.args.matches.now) c.args.name.now) c.ranges.most.fits
    (λ none. sym is ∙ c.get_one.ensures.none none)
    (λ t some. subst (λ (r : Option ℕ). ReadsOne (λ bs x. ParsesUnsigned 32 10 bs x × ExplainsUnsignedError 10 bs x × HasUnsignedDigitsIfOk bs x) t r) is (c.get_one.ensures.value t some))
    c.if-least-number.true c.if-number-most.true
