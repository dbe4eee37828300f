use Rattle.std.proofs.Common.{sym, subst}
use Rattle.host_words.specs.Options.{words_texts}
use Rattle.host_catalogue.specs.declared.ending.CommandEnd.{CommandEnd}
use Rattle.host_catalogue.proofs.Opened.{err_is}
use Rattle.host_io.specs.Asked.{IsNotAsked}
use Rattle.host_io.proofs.asked.asked_of.Goals as goal

pub returns-in_err-address-clause-refused : goal.returns-in_err-address-clause-refused
returns-in_err-address-clause-refused c =
    let refused = rw c.deref.ensures.value at c.in_err-address.ensures.refused in
    rw c.in-Ok.is
    (err_is c.from_residual.result (λ end same.
    subst (λ (e : CommandEnd). IsNotAsked (words_texts c.in-Ok.words.items) e) (sym same) refused)
    c.from_residual.ensures.1)
