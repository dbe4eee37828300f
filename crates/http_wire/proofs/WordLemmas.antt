-- The first word of a value.
use Rattle.std.proofs.Common.{◌≡◌, ℕ, ◌+◌, ◌<◌, ◌≤◌, Bool, true, false, ◌||◌, List, ◌∷◌, length, take, drop, refl, sym, ◌∙◌, ap, subst, arith}
use Rattle.std.specs.Prelude.{◌==◌, codes, All}
use Rattle.std.specs.List.{position_or_len, list_any}
use Rattle.std.proofs.lemmas.List.{take_all, drop-drop, length-drop}
use Rattle.std.proofs.lemmas.List.Sums.{fails_before_first}
use Rattle.std.proofs.lemmas.List.Splits.{slice_split_first, slice_split_none}
use Rattle.httparse.specs.Grammar.{trim_ows}
use Rattle.http_wire.specs.HeadLines.{same_name, says_close}

abbrev comma : ℕ → Bool
comma b = b == 44

abbrev word_says : List ℕ → Bool
word_says word = same_name (trim_ows word) (codes "close")

-- a value with a comma
pub says_first : (value : List ℕ) (at : ℕ) → at ≡ position_or_len comma value → at < length value
    → says_close value ≡ (word_says (take at value) || says_close (drop (at + 1) value))
says_first value at is lt =
    let few : position_or_len comma value < length value = subst (λ (k : ℕ). k < length value) is lt in
    ap (list_any word_says) (slice_split_first comma value 0 few)
    ∙ ap (λ (k : ℕ). word_says (take k value) || says_close (drop (k + 1) value)) (sym is)

-- a value with no comma
pub says_only : (value : List ℕ) (at : ℕ) → at ≡ position_or_len comma value → at ≡ length value
    → says_close value ≡ (word_says (take at value) || false)
says_only value at is all =
    let none : All (λ b. comma b ≡ false) value = λ k d lt. fails_before_first comma value k d (omega (arith, lt, is, all)) in
    ap (list_any word_says) (slice_split_none comma value none)
    ∙ ap (λ (w : List ℕ). word_says w || false) (sym (take_all at value (omega (arith, all))))

pub says_next : (value word more after : List ℕ) (x at : ℕ) → at ≡ position_or_len comma value → word ≡ take at value
    → more ≡ drop at value → more ≡ x ∷ after → says_close value ≡ (word_says word || says_close after)
says_next value word more after x at is front back split =
    let lt : at < length value = omega (arith, ap length split, ap length back, length-drop at value) in
    let rest : drop (at + 1) value ≡ after = sym (drop-drop 1 at value) ∙ ap (drop 1) (sym back ∙ split) in
    says_first value at is lt
    ∙ ap (λ (w : List ℕ). word_says w || says_close (drop (at + 1) value)) (sym front)
    ∙ ap (λ (r : List ℕ). word_says word || says_close r) rest

or_false : (b : Bool) → (b || false) ≡ b
or_false true = refl
or_false false = refl

pub says_end : (value word more : List ℕ) (at : ℕ) → at ≡ position_or_len comma value → at ≤ length value → word ≡ take at value
    → more ≡ drop at value → length more ≡ 0 → word_says word ≡ says_close value
says_end value word more at is within front back none =
    let all : at ≡ length value = omega (arith, ap length back, length-drop at value, none, within) in
    ap word_says front ∙ sym (or_false (word_says (take at value))) ∙ sym (says_only value at is all)
