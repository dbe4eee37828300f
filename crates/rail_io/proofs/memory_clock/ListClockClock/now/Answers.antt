use Rattle.std.proofs.Common.{List, ℕ, ◌+◌, ap, ◌∙◌, arith}
use Rattle.rail_io.specs.Clocks.{listed_reading}
use Rattle.rail_io.proofs.Clocks.{list_moves}
use Rattle.rail_io.proofs.memory_clock.ListClockClock.now.Goals as goal

pub returns-then-self-len-clause-rest : goal.returns-then-self-len-clause-rest
returns-then-self-len-clause-rest c = λ i.
    list_moves c.self.inside.readings.items c.self.inside.at i (omega (arith, c.if-self-len.true, c.len.ensures))
    ∙ ap (λ (ms : List ℕ). listed_reading ms (i + 1)) c.self.view_is
