use Rattle.std.proofs.Common.{◌≡◌, ◌*◌, ℕ, List, sym, ap, subst}
use Rattle.history_model.specs.Words.{place_words}
use Rattle.cold_store.specs.Exports.{AreLiveWords}
use Rattle.cold_store.proofs.LiveRows.{live_none}
use Rattle.cold_store.proofs.wall_rows.live_words.Goals as goal

pub loop-row-init : goal.loop-row-init
loop-row-init c =
    let w = c.args.wall.now in
    let count : 2 * c.places.result ≡ place_words w.layout = ap (λ k. 2 * k) c.places.ensures in
    subst (λ (words : List ℕ). AreLiveWords w 0 words) (sym (c.in_ok-words.ensures.items_if_clones_equal (λ y e. e))) (live_none w (2 * c.places.result) count)
