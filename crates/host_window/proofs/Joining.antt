-- One text after another.
use Rattle.std.proofs.Common.{◌≡◌, ◌∙◌, ◌++◌, ℕ, List, Result, Ok, Err, OnOk, ap, append_assoc}
use Rattle.std.specs.declared.alloc.AllocError.{AllocError}
use Rattle.host_window.specs.Texts.{HeadView, table_text}
use Rattle.host_window.specs.declared.family.Sample.{Sample}

-- what two pieces made of a text
pub joined : (old between new a b : List ℕ) → between ≡ old ++ a → new ≡ between ++ b → new ≡ old ++ (a ++ b)
joined old between new a b first second = second ∙ (ap (λ (t : List ℕ). t ++ b) first ∙ append_assoc old a b)

-- so where the second may have failed
pub joined_ok : {U : Type 0} (r : Result U AllocError) (old between new a b : List ℕ) → between ≡ old ++ a
    → OnOk r (new ≡ between ++ b) → OnOk r (new ≡ old ++ (a ++ b))
joined_ok (Ok u) old between new a b first second = joined old between new a b first second
joined_ok (Err e) old between new a b first second = second

-- a table of the same numbers
pub of_same : (new old : List ℕ) (h : HeadView) (some same : List Sample) → some ≡ same → new ≡ old ++ table_text h some
    → new ≡ old ++ table_text h same
of_same new old h some same is e = e ∙ ap (λ (xs : List Sample). old ++ table_text h xs) is

pub of_same_ok : {U : Type 0} (r : Result U AllocError) (new old : List ℕ) (h : HeadView) (some same : List Sample)
    → some ≡ same → OnOk r (new ≡ old ++ table_text h some) → OnOk r (new ≡ old ++ table_text h same)
of_same_ok (Ok u) new old h some same is e = of_same new old h some same is e
of_same_ok (Err u) new old h some same is e = e

-- a text of the same two lists
pub of_both_ok : {U S T : Type 0} (r : Result U AllocError) (f : List S → List T → List ℕ) (new old : List ℕ)
    (some same : List S) (more likewise : List T) → some ≡ same → more ≡ likewise → OnOk r (new ≡ old ++ f some more)
    → OnOk r (new ≡ old ++ f same likewise)
of_both_ok {U} {S} {T} (Ok u) f new old some same more likewise is are e =
    e ∙ (ap (λ (xs : List S). old ++ f xs more) is ∙ ap (λ (ys : List T). old ++ f same ys) are)
of_both_ok (Err u) f new old some same more likewise is are e = e
