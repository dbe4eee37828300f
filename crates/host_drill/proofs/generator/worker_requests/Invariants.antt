use Rattle.std.proofs.Common.{◌≡◌}
use Rattle.host_drill.specs.Generator.{requests_from}
use Rattle.host_drill.proofs.generator.worker_requests.Given as goal

abbrev pub invariant-loop-k : goal.invariant-loop-k
invariant-loop-k l = l.bytes.items ≡ requests_from l.seed l.first l.k
