use Rattle.std.proofs.Common.{◌≡◌, ℕ, ◌-◌, ◌<◌, List, length}
use Rattle.rail_io.specs.Told.{with_front}
use Rattle.http_wire.specs.Requests.{RequestText, Begins, AreOpen}
use Rattle.session_loop.specs.Session.{Chain}
use Rattle.session_loop.specs.Writes.{Handed, showing}
use Rattle.session_loop.proofs.session.run_permitted.Given as goal

abbrev pub invariant-requests : goal.invariant-requests
invariant-requests g l = record {
  taken : List ℕ;
  told : g.S.Source.told l.fn.source ≡ with_front taken (g.S.Source.told l.source);
  requests : List RequestText;
  begins : Begins 1 taken requests l.intake.unread;
  open' : AreOpen requests;
  count : l.intake.given ≡ length requests;
  few : l.intake.given < 65536;
  written : List ℕ;
  handed : Handed (showing g.K.Outlet.told g.K.Outlet.takes g.K.Outlet.held) l.fn.sink written l.sink;
  chain : Chain g.R.Responder.answers l.fn.responder requests written l.responder;
  ready : g.R.Responder.ready l.responder;
  source_faults : g.S.Source.faults l.source ≡ g.S.Source.faults l.fn.source;
  sink_faults : g.K.Outlet.faults l.sink ≡ g.K.Outlet.faults l.fn.sink;
}

abbrev pub decreases-requests : goal.decreases-requests
decreases-requests g l = 65536 - l.intake.given
