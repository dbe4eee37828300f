use Rattle.std.proofs.Common.{◌≡◌, ℕ, ◌+◌, ◌≤◌, List, ◌++◌, length, take, drop, Some, sym, ◌∙◌, ap, arith, take-append-drop}
use Rattle.std.proofs.lemmas.List.{take_at, drop-drop, length-take-le}
use Rattle.std.proofs.lemmas.Grind.{common_steps}
use Rattle.rail_io.proofs.memory_source.BytesSourceSource.read.Goals as goal

given : (bytes room copied : List ℕ) (at n : ℕ) → n ≤ length (drop at bytes) → copied ≡ take n (drop at bytes)
    → drop at bytes ≡ take n (copied ++ drop n room) ++ drop (at + n) bytes
given bytes room copied at n fits is =
    let long : length copied ≡ n = ap length is ∙ length-take-le n (drop at bytes) fits in
    sym (take-append-drop n (drop at bytes))
    ∙ ap (λ (front : List ℕ). front ++ drop n (drop at bytes)) (sym is ∙ sym (take_at copied (drop n room) n long))
    ∙ ap (λ (back : List ℕ). take n (copied ++ drop n room) ++ back) (drop-drop n at bytes)

pub returns-clause-pulls : goal.returns-clause-pulls
returns-clause-pulls c = (
  grind (arith, common_steps),
  grind (arith, common_steps),
  ap (λ (left : List ℕ). Some left) (given c.args.self.now.bytes.items c.args.room.now c.copy_from_slice.new.self
      c.args.self.now.given c.min-count.result (grind (arith, common_steps)) (grind (arith, common_steps))),
)
