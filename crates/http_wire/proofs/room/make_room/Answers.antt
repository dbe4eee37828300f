use Rattle.std.proofs.Common.{◌≡◌, ◌≤◌, ◌-◌, ℕ, List, length, drop, take, sym, ◌∙◌, ap, arith, zero-add}
use Rattle.std.specs.Prelude.{slice_range}
use Rattle.std.specs.List.{copy_within}
use Rattle.std.proofs.lemmas.List.{length-drop}
use Rattle.std.proofs.lemmas.List.Edits.{take-paste}
use Rattle.http_wire.proofs.room.make_room.Goals as goal

moved : (old new : List ℕ) (at filled : ℕ) → at ≤ filled → filled ≤ length old → new ≡ copy_within old at filled 0
    → take (filled - at) new ≡ slice_range old at filled
moved old new at filled ordered within is =
    let n = filled - at in
    let fits : n ≤ length (drop at old) = omega (arith, length-drop at old, ordered, within) in
    ap (take n) is
    ∙ ap (λ (k : ℕ). take k (copy_within old at filled 0)) (sym (zero-add n))
    ∙ take-paste old 0 (drop at old) n (omega arith) fits

pub returns-clause-held : goal.returns-clause-held
returns-clause-held c =
    ap (λ (k : ℕ). take k c.copy_within.new.self) (omega arith)
    ∙ moved c.args.memory.now c.copy_within.new.self c.args.start c.args.filled c.requires.ordered c.requires.within c.copy_within.ensures.after
