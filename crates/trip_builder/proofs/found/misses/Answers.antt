use Rattle.trip_builder.proofs.Calling.{late_call}
use Rattle.trip_builder.proofs.found.misses.Goals as goal

pub returns-else-call-departure : goal.returns-else-call-departure
returns-else-call-departure c =
    λ r w way search late. late_call r w c.args.found.now.best.trips.items way c.args.departure.now c.in-At.call (c.in-At.ensures r w search.ends) (c.are_all_before.ensures r w search.kept late)
