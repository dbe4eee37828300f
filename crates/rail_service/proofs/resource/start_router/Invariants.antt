use Rattle.std.proofs.Common.{◌≡◌, map, drop}
use Rattle.std.specs.Prelude.{fold}
use Rattle.rail_service.specs.Paths.{with_path, all_rows}
use Rattle.rail_service.proofs.resource.start_router.Given as goal

abbrev pub invariant-loop-path : goal.invariant-loop-path
invariant-loop-path l = fold with_path l.router (map (λ p. (p.0.now, p.1)) (drop l.path-index l.path-items)) ≡ all_rows
