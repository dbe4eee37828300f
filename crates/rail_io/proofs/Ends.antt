-- What stands at the end of the bytes told.
use Rattle.std.proofs.Common.{◌≡◌, ◌+◌, ℕ, List, ◌++◌, length, take, Option, Some, None, refl, sym, ◌∙◌, ap, arith, append_assoc}
use Rattle.std.proofs.Math.Seq.{take-append-add}
use Rattle.std.proofs.lemmas.List.{take_all}
use Rattle.rail_io.specs.Told.{with_end}

pub end_more : (told : Option (List ℕ)) (a b : List ℕ) → with_end (with_end told a) b ≡ with_end told (a ++ b)
end_more None a b = refl
end_more (Some t) a b = ap (λ (l : List ℕ). Some l) (append_assoc t a b)

-- the first piece whole, and the first bytes of the second
pub take_both : (first second : List ℕ) (count more : ℕ) → count ≡ length first → take count first ++ take more second ≡ take (count + more) (first ++ second)
take_both first second count more whole =
    ap (λ (l : List ℕ). l ++ take more second) (ap (λ (n : ℕ). take n first) whole ∙ take_all (length first) first (omega arith))
    ∙ sym (take-append-add first second more)
    ∙ ap (λ (n : ℕ). take (n + more) (first ++ second)) (sym whole)
