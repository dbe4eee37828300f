use Rattle.std.proofs.Common.{◌≡◌, ◌∙◌, ℕ, ◌+◌, ◌≤◌, Bool, true, false, cond, ap, sym, subst, arith}
use Rattle.cold_store.proofs.ExportTexts.{count_more, text_more}
use Rattle.cold_store.proofs.export.push_rows.Goals as goal
use Rattle.cold_store.proofs.export.push_rows.Goals.{then-branch, else-branch}

with_none : (n : ℕ) → n ≡ n + 0
with_none n = omega arith

one_at_most : (t : Bool) (n m : ℕ) → n ≤ m → n + cond t 1 0 ≤ m + 1
one_at_most true n m l = omega arith
one_at_most false n m l = omega arith

pub loop-row-preserved : goal.loop-row-preserved
loop-row-preserved c =
    let w = c.args.wall.now in
    let has = c.in_ok-push_row.field-0 in
    let n = c.loop-row.count in
    let added : c.if-branch.count ≡ n + cond has 1 0 =
    elim c.if-branch.branch [
      | then-branch w ↦ w.count-is ∙ ap (λ t. n + cond t 1 0) (sym w.if-branch.true)
      | else-branch w ↦ w.count-is ∙ (with_none n ∙ ap (λ t. n + cond t 1 0) (sym w.if-branch.false))
    ] in
    record {
      text = text_more w c.loop-row.row c.args.text.now.items c.loop-row.text.items c.push_row.new.text.items c.loop-row.invariant.text c.in_ok-push_row.ensures.line;
      count = added ∙ (ap (λ k. k + cond has 1 0) c.loop-row.invariant.count ∙ sym (count_more w c.loop-row.row has c.in_ok-push_row.ensures.kept));
      few = subst (λ k. k ≤ c.loop-row.row + 1) (sym added) (one_at_most has n c.loop-row.row c.loop-row.invariant.few);
    }
