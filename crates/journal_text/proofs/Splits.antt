-- A text and its two parts.
use Rattle.std.proofs.Common.{◌≡◌, ℕ, ◌+◌, ◌-◌, List, ◌++◌, length, take, drop, sym, ap, ◌∙◌, arith}
use Rattle.std.proofs.lemmas.List.{length-append, take-append-drop}
use Rattle.std.proofs.Math.Seq.{drop-append_seam, take-append_seam}

pub front_is : (text front rest : List ℕ) (n : ℕ) → length front ≡ n → text ≡ front ++ rest → take n text ≡ front
front_is text front rest n len is = rw (is, ← len) (take-append_seam front rest)

pub back_is : (text front rest : List ℕ) (n : ℕ) → length front ≡ n → text ≡ front ++ rest → drop n text ≡ rest
back_is text front rest n len is = rw (is, ← len) (drop-append_seam front rest)

pub halves_are : (text front back : List ℕ) (n : ℕ) → front ≡ take n text → back ≡ drop n text → text ≡ front ++ back
halves_are text front back n f b = rw (f, b) (sym (take-append-drop n text))

pub length_of : (text front back : List ℕ) → text ≡ front ++ back → length text ≡ length front + length back
length_of text front back is = ap (λ (x : List ℕ). length x) is ∙ length-append front back

-- the part before what is left
pub before_rest : (text front rest : List ℕ) → text ≡ front ++ rest → take (length text - length rest) text ≡ front
before_rest text front rest is =
    let len = length_of text front rest is in
    front_is text front rest (length text - length rest) (omega arith) is
