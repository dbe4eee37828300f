-- The last of some lines.
use Rattle.std.proofs.Common.{◌≡◌, ℕ, ◌+◌, ◌-◌, ◌<◌, ◌≤◌, ◌↔◌, List, [], ◌∷◌, length, slice_get, Option, Some, None, IfSome, refl, sym, ap, ◌∙◌, subst, arith}
use Rattle.std.specs.List.{last_or}
use Rattle.line_text.specs.declared.ends.SaidRow.{SaidRow}
use Rattle.cold_store.specs.Drafts.{IsNextRow}

last_get : (x : SaidRow) (xs : List SaidRow) → slice_get (x ∷ xs) (length xs) ≡ last_or (Some x) xs
last_get x [] = refl
last_get x (y ∷ ys) = last_get y ys

pub last_is : (lines : List SaidRow) (last : SaidRow) → Some last ≡ slice_get lines (length lines - 1) → last_or None lines ≡ Some last
last_is [] last e = sym e
last_is (x ∷ xs) last e = let at : length (x ∷ xs) - 1 ≡ length xs = omega arith in sym (last_get x xs) ∙ (ap (slice_get (x ∷ xs)) (sym at) ∙ sym e)

pub next_by_last : (lines : List SaidRow) (last : SaidRow) (row : ℕ) → Some last ≡ slice_get lines (length lines - 1) → (last.row < row) ↔ IsNextRow lines row
next_by_last lines last row e =
    subst (λ (o : Option SaidRow). (last.row < row) ↔ IfSome o (λ (l : SaidRow). l.row < row)) (sym (last_is lines last e)) (λ h. h, λ h. h)
