use Rattle.std.proofs.Common.{[], ◌∙◌, sym, subst, append-nil}
use Rattle.httparse.specs.Grammar.{print_request}
use Rattle.http_wire.specs.Heads.{HasLines}
use Rattle.http_wire.proofs.RequestHeads.{few_fields}
use Rattle.http_wire.proofs.served.long_head.Goals as goal

pub returns-in_default-2-clause-err : goal.returns-in_default-2-clause-err
returns-in_default-2-clause-err c h is =
    let few = few_fields h is.valid (λ many. c.requires.few (subst (HasLines 66) (sym is.is) many)) in
    let found = c.parse_request.ensures.found h [] (is.valid, is.is ∙ sym (append-nil (print_request h))) few in
    rw c.in_default.is at found
