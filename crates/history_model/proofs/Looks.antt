-- Between two looks that show unlike words stands an entry that changes the word.
use Rattle.std.proofs.Common.{◌≡◌, ⊎_elim, ℕ, Bool, true, false, cond, eqb, List, [], ◌∷◌, ◌++◌, refl, sym, ap, ◌∙◌, subst, append_assoc, append-nil, eq-eqb}
use Rattle.std.proofs.lemmas.Bool.{cases_eq}
use Rattle.history_model.specs.declared.entry.Entry.{Entry}
use Rattle.history_model.specs.declared.entry.Step.TheVariants.{Look}
use Rattle.history_model.specs.Booking.{Layout, State}
use Rattle.history_model.specs.History.{IsLegal, entry, own, state_of}
use Rattle.history_model.specs.Words.{place_word}
use Rattle.history_model.specs.Looks.{ChangesPlace}
use Rattle.history_model.proofs.Seen.{legal-rest, state_of-append}

changes : (g : Layout) (h : List Entry) (p k a : ℕ) (es : List Entry) → place_word (state_of g h) p k ≡ a → (place_word (state_of g (h ++ es)) p k ≡ a → ⊥) → ChangesPlace g h p k es
changes g h p k a [] is differs = absurd (differs (ap (λ (l : List Entry). place_word (state_of g l) p k) (append-nil h) ∙ is))
changes g h p k a (x ∷ es) is differs = ⊎_elim
    (λ (same : place_word (state_of g (h ++ x ∷ [])) p k ≡ a).
    let r = changes g (h ++ x ∷ []) p k a es same (λ e. differs (ap (λ (l : List Entry). place_word (state_of g l) p k) (sym (append_assoc h (x ∷ []) es)) ∙ e)) in (
      x ∷ r.0,
      r.1,
      r.2,
      ap (λ (l : List Entry). x ∷ l) r.3,
      subst (λ (l : List Entry). place_word (state_of g (l ++ r.1 ∷ [])) p k ≡ place_word (state_of g l) p k → ⊥) (append_assoc h (x ∷ []) r.0) r.4,
    ))
    (λ (other : place_word (state_of g (h ++ x ∷ [])) p k ≡ a → ⊥).
    ([], x, es, refl, subst (λ (l : List Entry). place_word (state_of g (l ++ x ∷ [])) p k ≡ place_word (state_of g l) p k → ⊥) (sym (append-nil h)) (λ e. other (e ∙ is))))
    (cases_eq (place_word (state_of g (h ++ x ∷ [])) p k) a)

shown_then : (g : Layout) (h rest : List Entry) (d p k a : ℕ) → IsLegal g (h ++ entry d (Look p k a) ∷ rest) → a ≡ place_word (state_of g h) p k
shown_then g h rest d p k a l = (legal-rest g h (entry d (Look p k a) ∷ rest) l).0.2

pub unlike_looks : (g : Layout) (before between after : List Entry) (first second p k a b : ℕ) → (a ≡ b → ⊥) → IsLegal g (before ++ (entry first (Look p k a) ∷ (between ++ (entry second (Look p k b) ∷ after))))
    → ChangesPlace g (before ++ entry first (Look p k a) ∷ []) p k between
unlike_looks g before between after first second p k a b apart l =
    let one : List Entry = entry first (Look p k a) ∷ [] in
    let rest : List Entry = entry second (Look p k b) ∷ after in
    let h : List Entry = before ++ one in
    let whole : IsLegal g ((h ++ between) ++ rest) = subst (IsLegal g) (sym (append_assoc before one (between ++ rest)) ∙ sym (append_assoc h between rest)) l in
    let was : place_word (state_of g h) p k ≡ a = ap (λ (s : State). place_word s p k) (state_of-append g before one) ∙ sym (shown_then g before (between ++ rest) first p k a l) in
    changes g h p k a between was (λ same. apart (sym same ∙ sym (shown_then g (h ++ between) after second p k b whole)))

cons_nil : (x : Entry) (xs : List Entry) → x ∷ xs ≡ [] → ⊥
cons_nil x xs e = cc

pub none_own : (front back : List Entry) (x : Entry) (d : ℕ) → own (front ++ x ∷ back) d ≡ [] → x.desk ≡ d → ⊥
none_own [] back x d e same = cons_nil x (own back d) (sym (ap (λ (c : Bool). cond c (x ∷ own back d) (own back d)) (eq-eqb x.desk d same)) ∙ e)
none_own (y ∷ ys) back x d e same = go (eqb y.desk d) (λ f. none_own ys back x d f same) e
  where
    go : (c : Bool) → (own (ys ++ x ∷ back) d ≡ [] → ⊥) → cond c (y ∷ own (ys ++ x ∷ back) d) (own (ys ++ x ∷ back) d) ≡ [] → ⊥
    go true rest f = cons_nil y (own (ys ++ x ∷ back) d) f
    go false rest f = rest f
