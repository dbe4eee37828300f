-- The letters of a text of marked numbers are those of its marks.
use Rattle.std.proofs.Common.{◌≡◌, ℕ, ◌<◌, ◌≤◌, ◌^◌, ◌+◌, ◌/◌, ◌%◌, ◌==◌, List, [], ◌∷◌, ◌++◌, Bool, false, ◌||◌, decimal, codes, refl, ap, ◌∙◌, arith}
use Rattle.std.specs.List.{list_any}
use Rattle.std.proofs.lemmas.List.Folds.{list_any-append}
use Rattle.std.proofs.lemmas.Fmt.{decimal_by_steps}
use Rattle.std.proofs.lemmas.Bool.Decides.{nat_tests}
use Rattle.offer_codes.specs.Marked.{marked}
use Rattle.offer_codes.specs.Found.{has}
use Rattle.offer_codes.specs.Offers.{OfferView, segments_marks, offer_marks}
use Rattle.train_runs.specs.declared.segment.Segment.{Segment}
use Rattle.offer_codes.proofs.Runs.{AreMarks}

-- a letter that is no digit
abbrev pub IsLetter : ℕ → Type 0
IsLetter letter = 58 ≤ letter

no_digit : (letter d : ℕ) → IsLetter letter → d < 10 → (48 + d == letter) ≡ false
no_digit letter d l h = grind (arith, nat_tests)

abbrev HasNone : ℕ → ℕ → List ℕ → Type 0
HasNone letter n ds = has letter ds ≡ false

more : (letter : ℕ) → IsLetter letter → (n : ℕ) (ds : List ℕ) → 10 ≤ n → HasNone letter (n / 10) ds → HasNone letter n (ds ++ ((48 + n % 10) ∷ []))
more letter l n ds big before =
    let digit : n % 10 < 10 = omega arith in
    rw (list_any-append (λ (b : ℕ). b == letter) ds ((48 + n % 10) ∷ []), before, no_digit letter (n % 10) l digit) refl

one : (letter : ℕ) → IsLetter letter → (n : ℕ) → n < 10 → HasNone letter n ((48 + n) ∷ [])
one letter l n h = rw (no_digit letter n l h) refl

has-decimal : (letter n : ℕ) → IsLetter letter → n < 2 ^ 64 → has letter (decimal n) ≡ false
has-decimal letter n l h = decimal_by_steps (HasNone letter) (one letter l) (more letter l) n h

pub has-marked : (letter : ℕ) (ms : List (List ℕ × ℕ)) → IsLetter letter → AreMarks ms → has letter (marked ms) ≡ list_any (λ m. has letter m.0) ms
has-marked letter [] l h = refl
has-marked letter (m ∷ ms) l h =
    list_any-append (λ (b : ℕ). b == letter) m.0 (decimal m.1 ++ marked ms)
    ∙ ap (λ (b : Bool). has letter m.0 || b)
    (list_any-append (λ (b : ℕ). b == letter) (decimal m.1) (marked ms) ∙ rw (has-decimal letter m.1 l h.0.1) (has-marked letter ms l h.1))

-- letters that stand in no mark of an offer
abbrev pub IsForeign : ℕ → List ℕ → Type 0
IsForeign letter mark = (has letter mark ≡ false) × (has letter (codes ".") ≡ false) × (has letter (codes "_") ≡ false) × (has letter (codes "-") ≡ false)

none_in_segments : (letter : ℕ) (mark : List ℕ) (segments : List Segment) → IsForeign letter mark → list_any (λ m. has letter m.0) (segments_marks mark segments) ≡ false
none_in_segments letter mark [] f = refl
none_in_segments letter mark (s ∷ rest) f =
    rw (f.0, f.1, none_in_segments letter (codes "_") rest (f.2, f.1, f.2, f.3)) refl

pub none_in_offer : (letter : ℕ) (mark : List ℕ) (o : OfferView) → IsForeign letter mark → list_any (λ m. has letter m.0) (offer_marks mark o) ≡ false
none_in_offer letter mark o f =
    rw (f.0, f.3, none_in_segments letter (codes "-") o.segments (f.3, f.1, f.2, f.3)) refl
