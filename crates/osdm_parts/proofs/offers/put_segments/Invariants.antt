use Rattle.std.proofs.Common.{◌≡◌, drop, ◌++◌}
use Rattle.osdm_parts.specs.Offers.{segment_trees}
use Rattle.osdm_parts.specs.Appends.{listed}
use Rattle.osdm_parts.proofs.offers.put_segments.Given as goal

abbrev pub invariant-loop-n : goal.invariant-loop-n
invariant-loop-n l = record {
  before : l.out.before ≡ l.fn.out.before;
  rest : l.out.tokens ++ listed (segment_trees l.cat (drop l.n l.segments) (drop l.n l.free)) ≡ l.fn.out.tokens ++ listed (segment_trees l.cat l.segments l.free);
}
