use Rattle.std.proofs.Common.{◌∙◌, sym, subst}
use Rattle.trip_builder.specs.Best.{IsAmong}
use Rattle.trip_builder.proofs.Members.{found_among}
use Rattle.trip_builder.proofs.best.is_at.Goals as goal

pub returns-in-Some-clause-found : goal.returns-in-Some-clause-found
returns-in-Some-clause-found c =
    λ e. subst (IsAmong c.args.best.now) (sym c.segments.ensures.value ∙ c.is_same_trip.ensures.same e) (found_among c.args.best.now c.args.at c.in-Some.trip.now c.in-Some.ensures.lookup.0 c.in-Some.ensures.lookup.1)
