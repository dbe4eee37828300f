use Rattle.std.proofs.Common.{◌≡◌, ap, arith, rules}
use Rattle.tariff.specs.Prices.{FareAmounts, price_of}
use Rattle.tariff.proofs.Bounds.{price_bound, is_at_most}
use Rattle.tariff.proofs.prices.price.Goals as goal

pub returns-clause-bound : goal.returns-clause-bound
returns-clause-bound c =
    let base : c.fare.inside.base ≡ c.args.fare.base = ap (λ (f : FareAmounts). f.base) c.fare.view_is in
    let per_leg : c.fare.inside.per_leg ≡ c.args.fare.per_leg = ap (λ (f : FareAmounts). f.per_leg) c.fare.view_is in
    is_at_most _ (price_of c.args.fare c.args.legs c.args.adults c.args.children) _
    (price_bound c.args.fare c.args.legs c.args.adults c.args.children (omega (arith, base, c.fare.invariant)) (omega (arith, per_leg, c.fare.invariant)) c.requires.legs c.requires.passengers) (search rules)
