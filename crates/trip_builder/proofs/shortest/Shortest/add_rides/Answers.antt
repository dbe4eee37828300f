use Rattle.std.proofs.Common.{◌≡◌, ◌-◌, List, ap, arith}
use Rattle.train_runs.specs.declared.run.Stop.{Stop}
use Rattle.train_runs.specs.Stops.{stop_at}
use Rattle.train_runs.specs.Runs.{stops_of}
use Rattle.trip_builder.specs.Shortest.{IsRide}
use Rattle.trip_builder.proofs.Deciding.{one_further}
use Rattle.trip_builder.proofs.Riding.{lowered_on, ride_stays, ride_taken}
use Rattle.trip_builder.proofs.shortest.Shortest.add_rides.Goals as goal

pub loop-from-preserved : goal.loop-from-preserved
loop-from-preserved c =
    let r = c.args.runs.now in
    let run = c.args.run.0 in
    let to = c.args.to in
    let old = c.loop-from.self in
    let new = c.add.new.self in
    let its : List Stop = stops_of r run in
    let was = c.loop-from.invariant in
    let low = c.add.ensures.lowered in
    let inside = c.if-to-stops.false in
    let arrive = c.seconds-arrive.ensures.value in
    let depart = c.seconds.ensures.value in
    let rest = c.saturating_sub-seconds.ensures in
    let off = ap (λ (x : Stop). x.arrive) c.index-stops-to.is in
    let on = ap (λ (x : Stop). x.depart) c.index-stops-from.is in
    let took : c.saturating_sub-seconds.result ≡ c.index-stops-to.result.arrive - c.index-stops-from.result.depart = omega (arith, arrive, depart, rest, off, on) in
    record {
      lowered = lowered_on c.args.self.now old new was.lowered low;
      rides = one_further (λ k. IsRide new (stop_at its k).station.0 (stop_at its k).depart (stop_at its to).arrive) c.loop-from.from
          (λ k h. ride_stays old new (stop_at its k).station.0 (stop_at its k).depart (stop_at its to).arrive low (was.rides k h))
          (ride_taken r run c.loop-from.from to new c.stops_of-stops.result.now c.index-stops-from.result c.index-stops-to.result c.saturating_sub-seconds.result c.requires c.stops_of-stops.ensures.stops
          c.loop-from-test.true (omega (arith, inside)) c.index-stops-from.is c.index-stops-to.is took c.add.ensures.here);
    }
