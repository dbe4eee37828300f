use Rattle.std.proofs.Common.{◌≡◌, ◌+◌, rules, arith}
use Rattle.worker_pool.proofs.Chains.{keeps_on}
use Rattle.rail_service.specs.Listeners.{IsGiven}
use Rattle.rail_service.proofs.Handing.{gives_at_once, gives_on}
use Rattle.host_serve.specs.Turns.{Stand, OneTurn, ConnectionBy, HandedAndClosed}
use Rattle.host_serve.proofs.Chaining.{chain_on, one}
use Rattle.host_serve.proofs.draining.drain_listener.Goals as goal

pub loop-served-preserved : goal.loop-served-preserved
loop-served-preserved g c =
    let cat = c.args.common.cat.now in
    let told = g.C.Clock.told in
    let inv = c.loop-served.invariant in
    let did = c.serve_stream.ensures in
    let old : Stand = record { desk = c.args.desk.now; clock = told c.args.clock.now } in
    let at : Stand = record { desk = c.loop-served.desk; clock = told c.loop-served.clock } in
    let more : (g.L.Listener.told c.accept.new.self).handed ≡ (g.L.Listener.told c.args.listener.now).handed + (inv.turns.0 + 1) =
    (let so = inv.turns.1 in let one_more : (g.L.Listener.told c.accept.new.self).handed ≡ (g.L.Listener.told c.loop-served.listener).handed + 1 = search (rules, arith) in
    omega (arith, so, one_more)) in
    let Does : OneTurn = ConnectionBy (HandedAndClosed (IsGiven g.N.Named.gives) g.D.Closing.closes) cat in
    let given = gives_at_once g.L.Listener.becomes g.L.Listener.hands g.N.Named.gives _ _ _ _ inv.gives c.in-Stream.ensures.gives in
    let new : Stand = record { desk = c.serve_stream.new.desk; clock = told c.serve_stream.new.clock } in
    record {
      own = did.own;
      tidy = did.tidy;
      keeps = keeps_on c.args.desk.now c.loop-served.desk c.serve_stream.new.desk inv.keeps did.keeps;
      turns = (
        inv.turns.0 + 1,
        more,
        chain_on Does inv.turns.0 1 old at new inv.turns.2 (one Does at new (record { stream = _; sent = _; left = _; after = _ }, (given, c.close.ensures), (_, did.served))),
      );
      gives = gives_on g.L.Listener.becomes g.L.Listener.hands g.N.Named.gives _ _ c.accept.ensures.becomes inv.gives;
      port = search (rules, arith);
      limit = search (rules, arith);
      within = search (rules, arith);
      steady = search (rules, arith);
      handed = search (rules, arith);
    }
