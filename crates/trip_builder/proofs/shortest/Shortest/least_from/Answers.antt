use Rattle.std.proofs.Common.{arith}
use Rattle.trip_builder.proofs.Riding.{takes_a_second, takes_a_ride}
use Rattle.trip_builder.proofs.shortest.Shortest.least_from.Goals as goal

pub returns-then-changes-gt0-clause-least : goal.returns-then-changes-gt0-clause-least
returns-then-changes-gt0-clause-least c = λ r w rise are. takes_a_second r w c.args.changes c.args.station rise

pub returns-clause-least : goal.returns-clause-least
returns-clause-least c = λ r w rise are. takes_a_ride r w c.args.self.now c.args.changes c.ride_from.result c.args.station (let none = c.if-changes-gt0.false in omega (arith, none)) rise are c.ride_from.ensures.value
