use Rattle.std.proofs.Common.{◌≡◌, ◌∙◌, ◌+◌, ◌<◌, ℕ, List, ◌∷◌, length, drop, get_or, add-one, arith, refl}
use Rattle.std.proofs.Math.Seq.{drop-cons}
use Rattle.train_runs.specs.declared.segment.Segment.{Segment}
use Rattle.catalogue_contents.specs.Contents.{CatalogueView}
use Rattle.osdm_parts.specs.Offers.{segment_tree, segment_trees}
use Rattle.osdm_parts.proofs.Chains.{turned}
use Rattle.osdm_parts.proofs.offers.put_segments.Goals as goal

pair_read : (cat : CatalogueView) (segments : List Segment) (free : List ℕ) (i : ℕ) (s : Segment) → i < length segments → i < length free → s ≡ get_or segments i s
    → segment_trees cat (drop i segments) (drop i free) ≡ segment_tree cat s (get_or free i 0) ∷ segment_trees cat (drop (i + 1) segments) (drop (i + 1) free)
pair_read cat segments free i s small within is = rw (drop-cons segments i s, drop-cons free i 0, ← is, add-one) refl

pub loop-n-preserved : goal.loop-n-preserved
loop-n-preserved c =
    let within : c.loop-n.n < length c.args.free.now = omega arith in
    record {
      before = c.in_ok-put_segment.ensures.before ∙ c.loop-n.invariant.before;
      rest = turned _ _ _ (segment_tree c.args.cat.now c.index-segments-n.result (get_or c.args.free.now c.loop-n.n 0)) _ _
          (pair_read c.args.cat.now c.args.segments.now c.args.free.now c.loop-n.n c.index-segments-n.result c.loop-n-test.true within c.index-segments-n.is)
          c.loop-n.invariant.rest c.in_ok-put_segment.ensures.tokens;
    }
