use Rattle.std.proofs.Common.{◌∙◌, ◌++◌, List, ℕ, ap}
use Rattle.std.proofs.lemmas.Result.{on_ok_weaker}
use Rattle.osdm_parts.proofs.PlaceLines.{put_traits}
use Rattle.osdm_parts.proofs.places.put_traits.Goals as goal

pub returns : goal.returns
returns c =
    let old = c.args.text.now.items in
    on_ok_weaker c.put-2.result
    (λ put. put_traits c.args.traits old _ _ _ c.first_traits-first.ensures.later (c.in_ok-put.ensures ∙ ap (λ (l : List ℕ). old ++ l) c.first_traits-first.ensures.text)
    (put ∙ ap (λ (l : List ℕ). c.put.new.text.items ++ l) c.last_traits.ensures))
    c.put-2.ensures
