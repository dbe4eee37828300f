use Rattle.std.proofs.Common.{◌≡◌, ◌∙◌, ◌++◌, Bool, List, ℕ, ap, sym}
use Rattle.std.proofs.lemmas.Result.{on_ok_weaker}
use Rattle.osdm_parts.specs.PlaceTexts.{front_line}
use Rattle.osdm_parts.proofs.PlaceLines.{put_three}
use Rattle.osdm_parts.proofs.places.put_place.Goals as goal
use Rattle.osdm_parts.proofs.places.put_place.Goals.{then-free, else-free}

pub returns : goal.returns
returns c =
    let old = c.args.text.now.items in
    let front = c.args.front.now in
    let line : Bool → List ℕ = λ free. front_line front.is_later front.class front.coach free in
    let before : c.if-free.line.now ≡ line c.args.free =
    elim c.if-free.branch [
      | then-free w ↦ rw w.line-is (w.as_slice-line.ensures.value ∙ (front.lines.0 ∙ ap line (sym w.if-free.true)))
      | else-free w ↦ rw w.line-is (w.as_slice-line-else-free.ensures.value ∙ (front.lines.1 ∙ ap line (sym w.if-free.false)))
    ] in
    on_ok_weaker c.put-2.result
    (put_three old _ _ _ _ _ _ (c.in_ok-put.ensures ∙ ap (λ (l : List ℕ). old ++ l) before) c.in_ok-put_number.ensures)
    c.put-2.ensures
