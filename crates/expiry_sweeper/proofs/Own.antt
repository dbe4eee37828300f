-- A desk's own entries of a part of a history.
use Rattle.std.proofs.Common.{◌≡◌, ℕ, eqb, Bool, cond, true, false, List, [], ◌∷◌, ◌++◌, map, refl, sym, ap, ◌∙◌, subst, ⊎_elim, append-nil}
use Rattle.std.specs.List.{AllByRecursion}
use Rattle.std.proofs.lemmas.Bool.{cases_Bool}
use mathlib.Core.List.{append_cancel_left}
use Rattle.history_model.specs.declared.entry.Entry.{Entry}
use Rattle.history_model.specs.declared.entry.Step.{Step}
use Rattle.history_model.specs.History.{entry, own}
use Rattle.history_model.proofs.ListLemmas.{All-under_map}
use Rattle.history_model.proofs.Seen.{own-append}
use Rattle.claim_rule.specs.Rule.{DeskView}
use Rattle.claim_rule.specs.Desks.{AddsSteps}

-- the first of a list for which all holds, and the others
pub first_of : {X : Type 0} (P : X → Type 0) (x : X) (xs : List X) → AllByRecursion P (x ∷ xs) → P x
first_of P x xs p = p.0

pub rest_of : {X : Type 0} (P : X → Type 0) (x : X) (xs : List X) → AllByRecursion P (x ∷ xs) → AllByRecursion P xs
rest_of P x xs p = p.1

-- whether the first entry is the desk's

own_first : (d : ℕ) (e : Entry) (es : List Entry) → eqb e.desk d ≡ true → own (e ∷ es) d ≡ e ∷ own es d
own_first d e es t = ap (λ (c : Bool). cond c (e ∷ own es d) (own es d)) t

own_other : (d : ℕ) (e : Entry) (es : List Entry) → eqb e.desk d ≡ false → own (e ∷ es) d ≡ own es d
own_other d e es t = ap (λ (c : Bool). cond c (e ∷ own es d) (own es d)) t

own_all : (P : Entry → Type 0) (d : ℕ) (es : List Entry) → AllByRecursion P es → AllByRecursion P (own es d)
own_all P d [] all = tt
own_all P d (e ∷ es) all = ⊎_elim
    (λ (t : eqb e.desk d ≡ true). subst (AllByRecursion P) (sym (own_first d e es t)) (all.0, own_all P d es all.1))
    (λ (t : eqb e.desk d ≡ false). subst (AllByRecursion P) (sym (own_other d e es t)) (own_all P d es all.1))
    (cases_Bool (eqb e.desk d))

-- what holds of all entries holds of the desk's steps
pub steps_all : (P : Step → Type 0) (d : ℕ) (es : List Entry) (steps : List Step) → own es d ≡ map (entry d) steps → AllByRecursion (λ e. P e.step) es → AllByRecursion P steps
steps_all P d es steps is all = All-under_map (λ (e : Entry). P e.step) (entry d) steps (subst (AllByRecursion (λ (e : Entry). P e.step)) is (own_all (λ (e : Entry). P e.step) d es all))

-- the steps of a call stand after the history in which it begins
pub steps_since : (old new : DeskView) (begun rest : List Entry) (steps : List Step) → AddsSteps old new steps → own begun old.number ≡ own old.seen old.number → begun ++ rest ≡ new.seen → own rest old.number ≡ map (entry old.number) steps
steps_since old new begun rest steps did none_yet is =
    let d = old.number in
    append_cancel_left (own begun d) (own rest d) (map (entry d) steps)
    (sym (own-append begun rest d) ∙ (ap (λ (l : List Entry). own l d) is ∙ (did.mine ∙ ap (λ (l : List Entry). l ++ map (entry d) steps) (sym none_yet))))

-- a call without entries has no steps

no_map : (d : ℕ) (steps : List Step) → map (entry d) steps ≡ [] → steps ≡ []
no_map d [] is = refl
no_map d (x ∷ xs) is = absurd cc

pub no_steps : (old new : DeskView) (steps : List Step) → AddsSteps old new steps → own new.seen old.number ≡ own old.seen old.number → steps ≡ []
no_steps old new steps did none =
    let d = old.number in
    let had = own old.seen d in
    no_map d steps (append_cancel_left had (map (entry d) steps) [] (sym did.mine ∙ (none ∙ sym (append-nil had))))

-- the entries around one of the desk's steps
pub record Around (d : ℕ) (es : List Entry) (xs : List Step) (x : Step) (ys : List Step) : Type 0 where
  pub before : List Entry
  pub after : List Entry
  pub is : es ≡ before ++ entry d x ∷ after
  pub first : own before d ≡ map (entry d) xs
  pub last : own after d ≡ map (entry d) ys

more : (d : ℕ) (e : Entry) (es : List Entry) (xs zs : List Step) (x : Step) (ys : List Step) → (a : Around d es xs x ys) → own (e ∷ a.before) d ≡ map (entry d) zs → Around d (e ∷ es) zs x ys
more d e es xs zs x ys a first = record { before = e ∷ a.before; after = a.after; is = ap (λ (l : List Entry). e ∷ l) a.is; first = first; last = a.last }

pub around : (d : ℕ) (es : List Entry) (xs : List Step) (x : Step) (ys : List Step) → own es d ≡ map (entry d) (xs ++ x ∷ ys) → Around d es xs x ys
around d [] [] x ys is = absurd cc
around d [] (z ∷ zs) x ys is = absurd cc
around d (e ∷ es) [] x ys is = ⊎_elim
    (λ (t : eqb e.desk d ≡ true).
    let split : e ∷ own es d ≡ entry d x ∷ map (entry d) ys = sym (own_first d e es t) ∙ is in
    let here : e ≡ entry d x = cc in
    let rest : own es d ≡ map (entry d) ys = cc in
    record { before = []; after = es; is = ap (λ (y : Entry). y ∷ es) here; first = refl; last = rest })
    (λ (t : eqb e.desk d ≡ false).
    let a = around d es [] x ys (sym (own_other d e es t) ∙ is) in
    more d e es [] [] x ys a (own_other d e a.before t ∙ a.first))
    (cases_Bool (eqb e.desk d))
around d (e ∷ es) (z ∷ zs) x ys is = ⊎_elim
    (λ (t : eqb e.desk d ≡ true).
    let split : e ∷ own es d ≡ entry d z ∷ map (entry d) (zs ++ x ∷ ys) = sym (own_first d e es t) ∙ is in
    let here : e ≡ entry d z = cc in
    let rest : own es d ≡ map (entry d) (zs ++ x ∷ ys) = cc in
    let a = around d es zs x ys rest in
    more d e es zs (z ∷ zs) x ys a (own_first d e a.before t ∙ (λ i. here i ∷ a.first i)))
    (λ (t : eqb e.desk d ≡ false).
    let a = around d es (z ∷ zs) x ys (sym (own_other d e es t) ∙ is) in
    more d e es (z ∷ zs) (z ∷ zs) x ys a (own_other d e a.before t ∙ a.first))
    (cases_Bool (eqb e.desk d))
