use Rattle.std.proofs.Common.{rules, suc, refl}
use Rattle.host_io.proofs.tcp_port.Port.next_stream.Goals as goal

pub loop-preserved : goal.loop-preserved
loop-preserved g c =
    let inv = c.loop.invariant in
    record {
      asks = (suc inv.asks.0, (g.D.Door.calls c.loop.self.door, inv.asks.1, c.in-None.ensures.again refl));
      same = search rules;
    }
