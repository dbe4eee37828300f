use Rattle.std.proofs.Common.{◌≡◌, ◌∙◌, sym, Bool, true, false, not, refl, true≢false}
use Rattle.trip_builder.proofs.StrictOrder.{lists_tell, lists_differ}
use Rattle.trip_builder.proofs.order.is_same_trip.Goals as goal

denied : (b : Bool) → not b ≡ true → b ≡ false
denied true e = absurd (true≢false (sym e))
denied false e = refl

pub returns-then-not-are_lower-clause-same : goal.returns-then-not-are_lower-clause-same
returns-then-not-are_lower-clause-same c =
    λ e. lists_tell c.args.a.now c.args.b.now (sym c.are_lower.ensures ∙ c.if-not-are_lower.true) (sym c.are_lower-then-not-are_lower.ensures ∙ denied c.are_lower-then-not-are_lower.result e)

pub returns-else-not-are_lower-clause-differs : goal.returns-else-not-are_lower-clause-differs
returns-else-not-are_lower-clause-differs c = λ e. lists_differ c.args.a.now c.args.b.now (sym c.are_lower.ensures ∙ c.if-not-are_lower.false)
