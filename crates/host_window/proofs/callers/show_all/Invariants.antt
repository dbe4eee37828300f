use Rattle.host_window.specs.Callers.{ServesInTurn, calls, counter}
use Rattle.host_window.proofs.callers.show_all.Given as goal

abbrev pub invariant-loop : goal.invariant-loop
invariant-loop g l =
    ServesInTurn (calls g.W.Callers.hands g.W.Callers.ends g.V.Server.serves g.V.Server.over) l.counter
    (counter l.fn.callers l.fn.server) (counter l.callers l.server)
