use Rattle.std.proofs.Common.{refl}
use Rattle.claim_rule.specs.Openings.{opening_of}
use Rattle.claim_rule.proofs.books.plan_of.Goals as goal

pub choose-requires : goal.choose-requires
choose-requires c =
    let o = c.requires.opening in record { some = (opening_of o.0, (o.0, o.1, refl)) }

pub returns : goal.returns
returns c =
    let o = c.in_ok-choose.ensures in
    (o.0, o.1, λ i. record { legs = c.in_ok-copy.ensures.items i; rows = c.args.rows; opening = o.2 i })
