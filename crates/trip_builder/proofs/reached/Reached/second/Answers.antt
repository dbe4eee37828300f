use Rattle.trip_builder.proofs.Arriving.{reached_further}
use Rattle.trip_builder.proofs.reached.Reached.second.Goals as goal

pub returns : goal.returns
returns c = λ one. reached_further c.args.runs.now c.args.wish.now 1 c.args.self.now c.in_ok-two.two c.in_ok-two.ensures.start c.in_ok-two.ensures.ridden one
