-- One word more is put.
use Rattle.std.proofs.Common.{◌≡◌, ℕ, ◌+◌, ◌*◌, List, get_or, set, sym, ap, ◌∙◌}
use Rattle.cold_store.proofs.Puts.{put-more}
use Rattle.cold_store.proofs.draft.Draft.write.Goals as goal

pub loop-k-preserved : goal.loop-k-preserved
loop-k-preserved c =
    let was = c.loop-k.invariant in
    let first : ℕ = 2 * c.self.inside.places + 64 * c.args.row in
    record {
      words = ap (λ (ws : List ℕ). set ws (first + c.loop-k.k) (get_or c.args.words.now c.loop-k.k 0)) was.words
          ∙ sym (put-more c.args.self.now.words first c.args.words.now c.loop-k.k c.loop-k-test.true);
      places = was.places;
      rows = was.rows;
      lines = was.lines;
      follows = was.follows;
      wrong = was.wrong;
      overlap = was.overlap;
    }
