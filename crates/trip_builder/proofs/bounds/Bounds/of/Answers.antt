use Rattle.std.proofs.Common.{◌<◌, List, length, sym, subst, arith}
use Rattle.trip_builder.specs.Bounds.{ReachView, AreBounds}
use Rattle.trip_builder.proofs.bounds.Bounds.of.Goals as goal
use Rattle.trip_builder.proofs.bounds.Bounds.of.Goals.{then-right+in_ok-add_levels, else-right}

pub returns-clause-bounds : goal.returns-clause-bounds
returns-clause-bounds c =
    elim c.if-right.branch [
      | then-right+in_ok-add_levels v ↦ subst (AreBounds c.args.runs.now c.args.wish.now) (sym v.bounds-is) v.in_ok-add_levels.ensures
      | else-right v ↦
          subst (AreBounds c.args.runs.now c.args.wish.now) (sym v.bounds-is)
          (λ n none h. (let inside = subst (λ (l : List ReachView). n < length l) c.new.ensures.items h in absurd (omega (arith, inside))))
    ]
