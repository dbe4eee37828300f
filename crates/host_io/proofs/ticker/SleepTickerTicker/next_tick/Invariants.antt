use Rattle.std.proofs.Common.{◌≡◌, ◌+◌, ◌*◌, ℕ, option_map}
use Rattle.host_io.proofs.ticker.SleepTickerTicker.next_tick.Given as goal

abbrev pub invariant-loop-second : goal.invariant-loop-second
invariant-loop-second g l =
    g.N.Naps.slept l.self.naps ≡ option_map (λ (before : ℕ). before + l._second * 1000) (g.N.Naps.slept l.fn.self.naps)
