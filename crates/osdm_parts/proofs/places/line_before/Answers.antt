use Rattle.std.proofs.Common.{◌∙◌, ◌++◌, List, ℕ, ap}
use Rattle.osdm_parts.specs.PlaceTexts.{front_line}
use Rattle.osdm_parts.proofs.PlaceLines.{put_three}
use Rattle.osdm_parts.proofs.places.line_before.Goals as goal

pub returns : goal.returns
returns c =
    let start = c.new-text.result.items in
    put_three start _ _ _ _ _ _ (c.in_ok-put.ensures ∙ ap (λ (l : List ℕ). start ++ l) c.class_text.ensures) c.in_ok-put_number.ensures
    (c.in_ok-put-2.ensures ∙ ap (λ (l : List ℕ). c.put_number.new.text.items ++ l) c.free_text.ensures)
    ∙ ap (λ (l : List ℕ). l ++ front_line c.args.is_later c.args.class c.args.coach c.args.free) c.new-text.ensures.items
