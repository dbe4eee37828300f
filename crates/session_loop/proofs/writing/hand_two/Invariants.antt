use Rattle.std.proofs.Common.{◌≡◌, ℕ, List, ◌++◌, length}
use Rattle.session_loop.specs.Writes.{showing, Took}
use Rattle.session_loop.proofs.writing.hand_two.Given as goal

abbrev pub invariant-loop-rest : goal.invariant-loop-rest
invariant-loop-rest g l = record {
  written : List ℕ;
  took : Took (showing g.K.Outlet.told g.K.Outlet.takes g.K.Outlet.held) l.fn.sink written l.sink;
  is : l.first ++ l.second ≡ written ++ (l.rest ++ l.left);
  faults : g.K.Outlet.faults l.sink ≡ g.K.Outlet.faults l.fn.sink;
}

abbrev pub decreases-loop-rest : goal.decreases-loop-rest
decreases-loop-rest g l = length l.rest
