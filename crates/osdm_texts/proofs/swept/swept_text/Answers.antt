use Rattle.std.proofs.Common.{◌≡◌, ◌∙◌, sym, decimal, codes}
use Rattle.osdm_texts.proofs.SweptLemmas.{swept_pieces, compact_text-swept_tree, pushed_seven}
use Rattle.osdm_texts.proofs.swept.swept_text.Goals as goal

pub returns : goal.returns
returns c =
    let s = c.args.swept in
    let pushed : c.push-4.new.text.items ≡ swept_pieces s =
    pushed_seven _ _ _ _ _ _ _ c.push-4.new.text.items (codes "{\"expired\":") (decimal s.expired) (codes ",\"lost\":") (decimal s.lost) (codes ",\"waiting\":") (decimal s.waiting) (codes "}")
    c.new-text.ensures c.push.ensures.items c.push_number.ensures.items c.push-2.ensures.items c.push_number-2.ensures.items c.push-3.ensures.items c.push_number-3.ensures.items c.push-4.ensures.items in
    pushed ∙ sym (compact_text-swept_tree s)
