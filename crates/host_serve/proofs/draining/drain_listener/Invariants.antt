use Rattle.std.proofs.Common.{◌≡◌, ◌≤◌, ◌+◌, ℕ}
use Rattle.claim_rule.specs.Desks.{IsOf}
use Rattle.claim_rule.specs.Out.{IsTidy}
use Rattle.worker_pool.specs.Turns.{KeepsDesk}
use Rattle.rail_service.specs.Listeners.{GivesOnly, IsGiven}
use Rattle.host_serve.specs.Turns.{Chain, ConnectionBy, HandedAndClosed}
use Rattle.host_serve.proofs.draining.drain_listener.Given as goal

abbrev pub invariant-loop-served : goal.invariant-loop-served
invariant-loop-served g l = record {
  own : IsOf l.books l.desk;
  tidy : IsTidy l.desk;
  keeps : KeepsDesk l.fn.desk l.desk;
  turns : (n : ℕ) × ((g.L.Listener.told l.listener).handed ≡ (g.L.Listener.told l.fn.listener).handed + n)
      × Chain (ConnectionBy (HandedAndClosed (IsGiven g.N.Named.gives) g.D.Closing.closes) l.common.cat.now) n (record { desk = l.fn.desk; clock = g.C.Clock.told l.fn.clock }) (record { desk = l.desk; clock = g.C.Clock.told l.clock });
  gives : GivesOnly g.L.Listener.becomes g.L.Listener.hands l.listener g.N.Named.gives;
  port : (g.L.Listener.told l.listener).port ≡ (g.L.Listener.told l.fn.listener).port;
  limit : (g.L.Listener.told l.listener).limit ≡ l.limit;
  within : (g.L.Listener.told l.listener).handed ≤ l.limit;
  steady : g.L.Listener.faults l.listener ≡ g.L.Listener.faults l.fn.listener;
  handed : l._served ≤ (g.L.Listener.told l.listener).handed;
}
