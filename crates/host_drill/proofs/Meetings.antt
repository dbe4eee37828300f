-- The first desk parts others, and joins them.
use Rattle.std.proofs.Common.{◌≡◌, ◌∙◌, ◌+◌, ◌<◌, ◌≤◌, ◌⊎◌, ⊎_elim, inl, inr, ℕ, suc, List, [], ◌∷◌, ◌++◌, length, refl, sym, ap, subst, arith, append_assoc}
use Rattle.std.specs.List.{AllByRecursion}
use mathlib.Core.List.{IsPrefix}
use Rattle.std.proofs.lemmas.Bool.{cases_eq, cases_lt}
use Rattle.history_model.specs.declared.entry.Entry.{Entry}
use Rattle.history_model.specs.declared.entry.Step.TheVariants.{Met}
use Rattle.history_model.specs.History.{entry, own}
use Rattle.claim_rule.specs.Rule.{DeskView, In}
use Rattle.claim_rule.specs.Desks.{HasMet}
use Rattle.history_model.proofs.ListLemmas.{All-append}
use Rattle.claim_rule.proofs.Views.{each_in}
use Rattle.host_drill.specs.Meeting.{IsFirst, OfWorker, AreAll, AreAnswered}
use Rattle.host_drill.specs.Totals.{times, times_in, refused_line, no_memory_line, busy_line}

mets_after : (old new : List Entry) → AllByRecursion (λ e. e.step ≡ Met) old → new ≡ old ++ entry 0 Met ∷ [] → AllByRecursion (λ e. e.step ≡ Met) new
mets_after old new all is =
    subst (λ (es : List Entry). AllByRecursion (λ e. e.step ≡ Met) es) (sym is) (All-append (λ e. e.step ≡ Met) old (entry 0 Met ∷ []) all (refl, tt))

pub prefix_on : (a b c : List Entry) → IsPrefix a b → IsPrefix b c → IsPrefix a c
prefix_on a b c p q = (p.0 ++ q.0, sym (append_assoc a p.0 q.0) ∙ (ap (λ (l : List Entry). l ++ q.0) p.1 ∙ q.1))

in_front : (j : ℕ) (xs ys : List ℕ) → In j xs → In j (xs ++ ys)
in_front j [] ys found = absurd found
in_front j (x ∷ xs) ys (inl is) = inl is
in_front j (x ∷ xs) ys (inr more) = inr (in_front j xs ys more)

in_last : (j : ℕ) (xs ys : List ℕ) → In j (xs ++ j ∷ ys)
in_last j [] ys = inl refl
in_last j (x ∷ xs) ys = inr (in_last j xs ys)

-- a parting counts one desk more, none of which is joined
pub first_parts : (old new : DeskView) (n : ℕ) → IsFirst old n n → new.number ≡ 0 → new.parted ≡ old.parted + 1
    → own new.seen 0 ≡ own old.seen 0 ++ entry 0 Met ∷ [] → IsFirst new (n + 1) (n + 1)
first_parts old new n first number made met = record {
  number = number;
  parted = made ∙ ap (λ (m : ℕ). m + 1) first.parted;
  mets = mets_after (own old.seen 0) (own new.seen 0) first.mets met;
  joined = λ j more few. absurd (let e : ⊥ = omega (arith, more, few) in e);
}

-- the desk of number k + 1 is joined
pub first_meets : (old other new : DeskView) (n k : ℕ) → IsFirst old n (k + 1) → other.number ≡ k + 1 → HasMet old other new → IsFirst new n k
first_meets old other new n k first number met = record {
  number = met.same.2 ∙ first.number;
  parted = met.same.3 ∙ first.parted;
  mets = mets_after (own old.seen 0) (own new.seen 0) first.mets
      (subst (λ (d : ℕ). own new.seen d ≡ own old.seen d ++ entry d Met ∷ []) first.number met.mine);
  joined = λ j more few. taken j more few;
}
  where
    by : (j : ℕ) → (j ≡ k + 1) ⊎ (k + 1 < j) → j ≤ n → In j (old.joined ++ other.number ∷ other.joined)
    by j (inl is) few = subst (λ (m : ℕ). In j (old.joined ++ m ∷ other.joined)) (is ∙ sym number) (in_last j old.joined other.joined)
    by j (inr more) few = in_front j old.joined (other.number ∷ other.joined) (first.joined j more few)

    cases : (j : ℕ) → k < j → (j ≡ k + 1) ⊎ (k + 1 < j)
    cases j more = ⊎_elim (λ less. absurd (let e : ⊥ = omega (arith, less, more) in e)) at_least (cases_lt j (k + 1))
      where
        at_least : k + 1 ≤ j → (j ≡ k + 1) ⊎ (k + 1 < j)
        at_least e = ⊎_elim inl (λ (other : j ≡ k + 1 → ⊥). inr (let f : k + 1 < j = omega (arith, e, other) in f)) (cases_eq j (k + 1))

    taken : (j : ℕ) → k < j → j ≤ n → In j new.joined
    taken j more few = subst (λ (js : List ℕ). In j js) (sym met.joined) (by j (cases j more) few)

module _ (So : OfWorker) (old other new : DeskView) (n k : ℕ) (first : IsFirst old n (k + 1)) (number : other.number ≡ k + 1) (met : HasMet old other new) where
  stays : (j : ℕ) → k + 1 < j → j ≤ n → own new.seen j ≡ own old.seen j
  stays j more few = each_in (λ j. own new.seen j ≡ own old.seen j) old.joined j met.before (first.joined j more few)

  all_stay : (answered : List (List ℕ)) (l : ℕ) → k + 1 ≤ l → l + length answered ≤ n → AreAll So old.seen l answered → AreAll So new.seen l answered
  all_stay [] l more few all = tt
  all_stay (a ∷ rest) l more few all =
      let one = all.0 in
      let here : own new.seen (l + 1) ≡ own old.seen (l + 1) =
      stays (l + 1) (let e : k + 1 < l + 1 = omega (arith, more) in e) (let e : l + 1 ≤ n = omega (arith, few) in e) in (
        record { desk = one.desk; is = one.is; own = here ∙ one.own; front = prefix_on one.desk.seen old.seen new.seen one.front met.front },
        all_stay rest (l + 1) (let e : k + 1 ≤ l + 1 = omega (arith, more) in e) (let e : l + 1 + length rest ≤ n = omega (arith, few) in e) all.1,
      )

  -- and is counted with those behind it
  pub one_more : (refused busy : ℕ) (answered : List ℕ) → AreAnswered So old.seen n (k + 1) refused busy → So k other answered
      → times no_memory_line answered ≡ 0
      → AreAnswered So new.seen n k (refused + times refused_line answered) (busy + times busy_line answered)
  one_more refused busy answered behind so none = record {
    answered = answered ∷ behind.answered;
    number = (let e : k + suc (length behind.answered) ≡ k + 1 + length behind.answered = omega arith in e) ∙ behind.number;
    each = (
      record { desk = other; is = so; own = subst (λ (d : ℕ). own new.seen d ≡ own other.seen d) number met.theirs.0; front = met.other_front },
      all_stay behind.answered (k + 1) (let e : k + 1 ≤ k + 1 = omega arith in e) (let e : k + 1 + length behind.answered ≤ n = omega (arith, behind.number) in e) behind.each,
    );
    refused_is = (let e : refused + times refused_line answered ≡ times refused_line answered + refused = omega arith in e)
        ∙ ap (λ (m : ℕ). times refused_line answered + m) behind.refused_is;
    busy_is = (let e : busy + times busy_line answered ≡ times busy_line answered + busy = omega arith in e)
        ∙ ap (λ (m : ℕ). times busy_line answered + m) behind.busy_is;
    no_memory = (let e : times no_memory_line answered + times_in no_memory_line behind.answered ≡ 0 = omega (arith, none, behind.no_memory) in e);
  }
