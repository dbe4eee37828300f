-- The lines of a table, row by row.
use Rattle.std.proofs.Common.{◌≡◌, ℕ, suc, ◌+◌, ◌<◌, ◌≤◌, List, [], ◌∷◌, ◌++◌, Option, Some, None, flat_map, length, take, get_or, refl, sym, ap, ◌∙◌, arith, append_assoc}
use Rattle.std.proofs.lemmas.List.{length-append, length-take}
use Rattle.std.proofs.Math.Seq.{take-suc}
use Rattle.std.specs.Borrow.{Bor}
use Rattle.journal_text.specs.Rooms.{Table, kept}

abbrev pub all_of : List (List ℕ) → List ℕ
all_of lines = flat_map (λ line. line) lines

pub kept_both : (a b : Table) → kept (a ++ b) ≡ kept a ++ kept b
kept_both [] b = refl
kept_both (Some x ∷ a) b = ap (λ (y : List (List ℕ)). x.now ∷ y) (kept_both a b)
kept_both (None ∷ a) b = kept_both a b

pub flat_both : (a b : List (List ℕ)) → flat_map (λ (line : List ℕ). line) (a ++ b) ≡ flat_map (λ (line : List ℕ). line) a ++ flat_map (λ (line : List ℕ). line) b
flat_both [] b = refl
flat_both (x ∷ a) b = ap (λ (y : List ℕ). x ++ y) (flat_both a b) ∙ sym (append_assoc x (flat_map (λ (line : List ℕ). line) a) (flat_map (λ (line : List ℕ). line) b))

pub few : (table : Table) → length (kept table) ≤ length table
few [] = omega arith
few (Some x ∷ table) = let r = few table in omega arith
few (None ∷ table) = let r = few table in omega arith

pub one_more : (table : Table) (j : ℕ) (d : Option (Bor (List ℕ))) → j < length table → kept (take (j + 1) table) ≡ kept (take j table) ++ kept (get_or table j d ∷ [])
one_more table j d below =
    let next : j + 1 ≡ suc j = omega arith in
    rw next (ap (λ (x : Table). kept x) (take-suc table j d below) ∙ kept_both (take j table) (get_or table j d ∷ []))

pub one_more_text : (table : Table) (j : ℕ) (d : Option (Bor (List ℕ))) (first old new : List ℕ) → j < length table → old ≡ first ++ flat_map (λ line. line) (kept (take j table)) → new ≡ old ++ flat_map (λ line. line) (kept (get_or table j d ∷ [])) → new ≡ first ++ flat_map (λ line. line) (kept (take (j + 1) table))
one_more_text table j d first old new below before is =
    is
    ∙ (ap (λ (x : List ℕ). x ++ all_of (kept (get_or table j d ∷ []))) before
    ∙ (append_assoc first (all_of (kept (take j table))) (all_of (kept (get_or table j d ∷ [])))
    ∙ ap (λ (x : List ℕ). first ++ x)
    (sym (flat_both (kept (take j table)) (kept (get_or table j d ∷ []))) ∙ ap all_of (sym (one_more table j d below)))))

pub one_more_count : (table : Table) (j : ℕ) (d : Option (Bor (List ℕ))) (count more : ℕ) → j < length table → count ≡ length (kept (take j table)) → more ≡ length (kept (get_or table j d ∷ [])) → count + more ≡ length (kept (take (j + 1) table))
one_more_count table j d count more below before is =
    let len = length-append (kept (take j table)) (kept (get_or table j d ∷ [])) in
    let same = ap (λ (x : List (List ℕ)). length x) (one_more table j d below) in
    omega arith

pub few_before : (table : Table) (j : ℕ) → length (kept (take j table)) ≤ length table
few_before table j =
    let one = few (take j table) in
    let two : length (take j table) ≤ length table = rw (length-take j table) (omega arith) in
    omega arith
