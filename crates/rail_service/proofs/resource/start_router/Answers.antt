use Rattle.std.proofs.Common.{ap}
use Rattle.std.specs.Prelude.{fold}
use Rattle.rail_service.specs.Paths.{Rows, paths, with_path, all_rows}
use Rattle.rail_service.proofs.Naming.{fold_on}
use Rattle.rail_service.proofs.resource.start_router.Goals as goal

pub loop-path-init : goal.loop-path-init
unfolding all_rows
loop-path-init c = ap (λ (rows : Rows). fold with_path rows paths) c.new-router.ensures

pub loop-path-preserved : goal.loop-path-preserved
loop-path-preserved c =
    fold_on with_path (λ p. (p.0.now, p.1)) _ c.loop-path.path-index _ c.loop-path.router _ all_rows c.loop-path-test.true c.in_ok-add_path.ensures.added c.loop-path.invariant
