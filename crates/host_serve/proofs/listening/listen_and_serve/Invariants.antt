use Rattle.rail_service.specs.Listeners.{HandsOn}
use Rattle.host_serve.specs.Over.{IsOverAfter}
use Rattle.host_serve.proofs.listening.listen_and_serve.Given as goal

abbrev pub ghosts-run_books-N-Named : goal.ghosts-run_books-N-Named
ghosts-run_books-N-Named g a = record { faults = g.L.Listener.faults a.devices.listener; port = a.common.said.port; limit = a.common.said.connections; gives = HandsOn g.L.Listener.becomes g.L.Listener.hands a.devices.listener; over = IsOverAfter g.L.Listener.told g.L.Listener.faults g.L.Listener.becomes a.common.said.connections (g.L.Listener.faults a.devices.listener) a.devices.listener }

abbrev pub ghosts-run_books-N-Ledger : goal.ghosts-run_books-N-Ledger
ghosts-run_books-N-Ledger g a = record { name = a.blank.name; parts = a.blank.parts }
