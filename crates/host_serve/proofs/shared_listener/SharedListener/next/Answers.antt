use Rattle.std.proofs.Common.{rules}
use Rattle.rail_service.proofs.Handing.{gives_at_once, gives_on}
use Rattle.host_serve.proofs.Overs.{ended_over, over_on}
use Rattle.host_serve.proofs.shared_listener.SharedListener.next.Goals as goal

pub returns-in-Stream-clause-gives : goal.returns-in-Stream-clause-gives
returns-in-Stream-clause-gives g c =
    gives_at_once g.L.Listener.becomes g.L.Listener.hands g.N.Named.gives _ _ _ _ c.args.self.now.gives c.in-Stream.ensures.gives

-- the streams to come are among those that were to come before, and so is the end
pub invariant_of-self : goal.invariant_of-self
invariant_of-self g c =
    let gives = gives_on g.L.Listener.becomes g.L.Listener.hands g.N.Named.gives _ _ c.accept.ensures.becomes c.args.self.now.gives in
    let over = over_on g.L.Listener.told g.L.Listener.faults g.L.Listener.becomes g.N.Named.limit g.N.Named.faults g.N.Named.over _ _ c.accept.ensures.becomes c.args.self.now.over in
    search rules

pub invariant_of-self-in-Failed : goal.invariant_of-self-in-Failed
invariant_of-self-in-Failed g c =
    let gives = gives_on g.L.Listener.becomes g.L.Listener.hands g.N.Named.gives _ _ c.accept.ensures.becomes c.args.self.now.gives in
    let over = over_on g.L.Listener.told g.L.Listener.faults g.L.Listener.becomes g.N.Named.limit g.N.Named.faults g.N.Named.over _ _ c.accept.ensures.becomes c.args.self.now.over in
    search rules

pub invariant_of-self-in-Closed : goal.invariant_of-self-in-Closed
invariant_of-self-in-Closed g c =
    let gives = gives_on g.L.Listener.becomes g.L.Listener.hands g.N.Named.gives _ _ c.accept.ensures.becomes c.args.self.now.gives in
    let over = over_on g.L.Listener.told g.L.Listener.faults g.L.Listener.becomes g.N.Named.limit g.N.Named.faults g.N.Named.over _ _ c.accept.ensures.becomes c.args.self.now.over in
    search rules

-- it has ended, and how is known of it
pub returns-clause-over : goal.returns-clause-over
returns-clause-over g c =
    let s = c.match-accept.self in
    ended_over g.L.Listener.told g.L.Listener.faults g.L.Listener.becomes g.N.Named.limit g.N.Named.faults g.N.Named.over s.listener s.end
    (search rules) s.closed s.rose s.over
