use Rattle.std.proofs.Common.{◌∙◌, ap, subst, arith}
use Rattle.trip_builder.specs.Bounds.{RanksView, Ascends}
use Rattle.trip_builder.proofs.Ranking.{placed_more, past_placed}
use Rattle.trip_builder.proofs.ranks.Ranks.are_right.Goals as goal

pub loop-run-preserved : goal.loop-run-preserved
loop-run-preserved c =
    let r = c.args.runs.now in
    let w = c.args.wish.now in
    record {
      ends = c.of-end.ensures.kept;
      placed = placed_more r w c.args.self.now c.loop-run.run c.loop-run.invariant.placed (c.is_placed.ensures r w c.of-end.ensures.value c.if-not-is_placed.false);
    }

pub returns-clause-right : goal.returns-clause-right
returns-clause-right c =
    λ said.
    record {
      placed = past_placed c.args.runs.now c.args.wish.now c.args.self.now c.count-run-end.result c.count-run-end.ensures.value
          (λ run less. c.loop-run.invariant.placed run (let ended = c.loop-run-test.false in omega (arith, less, ended)));
      ascends = subst Ascends (c.as_slice.ensures.value ∙ ap (λ (v : RanksView). v.order) c.self.view_is) (c.ascends.ensures said);
    }
