-- Which places a count has seen sold, up to a place.
use Rattle.std.proofs.Common.{◌≡◌, ℕ, suc, ◌+◌, ◌<◌, ◌≤◌, ◌==◌, ◌&&◌, not, Bool, true, false, cond, List, [], ◌∷◌, ◌++◌, length, length-append, map, take, count_by, get_or, refl, sym, ap, ◌∙◌, subst, arith, add-zero}
use Rattle.std.proofs.lemmas.List.{map-append, take_all, take_more}
use Rattle.std.proofs.lemmas.List.Sums.{count_by-le-length, sum_by-append}
use Rattle.history_model.specs.declared.entry.Step.{Step}
use Rattle.history_model.specs.declared.entry.Step.TheVariants.{Look}
use Rattle.history_model.specs.History.{IsLegal}
use Rattle.claim_rule.specs.Rule.{BooksView, DeskView}
use Rattle.claim_rule.specs.Desks.{AddsSteps, IsOf, Stepped}
use Rattle.claim_rule.specs.Calls.{AddsStepsBy}
use Rattle.claim_rule.specs.Out.{AllLooks, IsTidy, KeepsEndings, KeepsHolds}
use Rattle.claim_rule.proofs.Out.{looks_endings, looks_holds}
use Rattle.claim_rule.proofs.Shapes.{shape_none, shape_then, step_shape}
use Rattle.place_map.specs.declared.coach.Class.{Class}
use Rattle.place_map.specs.declared.coach.Class.TheVariants.{First, Second}
use Rattle.place_map.specs.declared.coach.Place.{Place}
use Rattle.row_cuts.specs.declared.sold.SoldCount.{SoldCount}
use Rattle.row_cuts.specs.Sold.{AreFewSold, CountsSold, PlaceSeen, ShowsPlace, is_first, is_sold, places_looks, with_place}
use Rattle.row_cuts.proofs.Writing.{looks_tidy}

looks_more : (place : ℕ) (seen : List PlaceSeen) (s : PlaceSeen)
    → places_looks place (seen ++ s ∷ []) ≡ places_looks place seen ++ Look (place + length seen) 0 s.low ∷ Look (place + length seen) 1 s.high ∷ []
looks_more place [] s = ap (λ (p : ℕ). Look p 0 s.low ∷ Look p 1 s.high ∷ []) (sym (add-zero place))
looks_more place (x ∷ seen) s =
    ap (λ (es : List Step). Look place 0 x.low ∷ Look place 1 x.high ∷ es) (looks_more (suc place) seen s
    ∙ ap (λ (p : ℕ). places_looks (suc place) seen ++ Look p 0 s.low ∷ Look p 1 s.high ∷ []) (moved place (length seen)))
  where
    moved : (p n : ℕ) → suc p + n ≡ p + suc n
    moved p n = omega arith

are_looks : (place : ℕ) (seen : List PlaceSeen) → AllLooks (places_looks place seen)
are_looks place [] = tt
are_looks place (s ∷ seen) = (refl, (refl, are_looks (suc place) seen))

-- one place more

one_place : (is : PlaceSeen → Bool) (seen : List PlaceSeen) (s : PlaceSeen) → count_by is (seen ++ s ∷ []) ≡ count_by is seen + cond (is s) 1 0
one_place is seen s =
    sum_by-append (λ (x : PlaceSeen). cond (is x) 1 0) seen (s ∷ [])
    ∙ ap (λ (n : ℕ). count_by is seen + n) (alone (cond (is s) 1 0))
  where
    alone : (n : ℕ) → 0 + n ≡ n
    alone n = omega arith

yes : (is : PlaceSeen → Bool) (seen : List PlaceSeen) (s : PlaceSeen) (n : ℕ) → is s ≡ true → n ≡ count_by is seen → n + 1 ≡ count_by is (seen ++ s ∷ [])
yes is seen s n so counts = ap (λ (k : ℕ). k + 1) counts ∙ (ap (λ (t : Bool). count_by is seen + cond t 1 0) (sym so) ∙ sym (one_place is seen s))

no : (is : PlaceSeen → Bool) (seen : List PlaceSeen) (s : PlaceSeen) (n : ℕ) → is s ≡ false → n ≡ count_by is seen → n ≡ count_by is (seen ++ s ∷ [])
no is seen s n so counts = counts ∙ (sym (add-zero (count_by is seen)) ∙ (ap (λ (t : Bool). count_by is seen + cond t 1 0) (sym so) ∙ sym (one_place is seen s)))

abbrev pub in_first : PlaceSeen → Bool
in_first s = is_first s.class && is_sold s

abbrev pub in_second : PlaceSeen → Bool
in_second s = not (is_first s.class) && is_sold s

-- the counts of what was seen
pub record IsSoldIn (seen : List PlaceSeen) (n : SoldCount) : Type 0 where
  pub first : n.first ≡ count_by in_first seen
  pub second : n.second ≡ count_by in_second seen

unsold : (t u : Bool) → u ≡ false → (t && u) ≡ false
unsold true u so = so
unsold false u so = refl

count_more : (seen : List PlaceSeen) (s : PlaceSeen) (class : Class) (sold : Bool) (n : SoldCount) → s.class ≡ class → is_sold s ≡ sold → IsSoldIn seen n
    → IsSoldIn (seen ++ s ∷ []) (with_place class sold n)
count_more seen s class false n at so c = record {
  first = no in_first seen s n.first (unsold (is_first s.class) (is_sold s) so) c.first;
  second = no in_second seen s n.second (unsold (not (is_first s.class)) (is_sold s) so) c.second;
}
count_more seen s First true n at so c = record {
  first = yes in_first seen s n.first (λ i. is_first (at i) && so i) c.first;
  second = no in_second seen s n.second (λ i. not (is_first (at i)) && so i) c.second;
}
count_more seen s Second true n at so c = record {
  first = no in_first seen s n.first (λ i. is_first (at i) && so i) c.first;
  second = yes in_second seen s n.second (λ i. not (is_first (at i)) && so i) c.second;
}

-- the places below this one are counted
pub record SoldTo (start now_at : DeskView) (places : List Place) (number : ℕ) (count : SoldCount) : Type 0 where
  pub seen : List PlaceSeen
  pub are : map (λ (s : PlaceSeen). s.class) seen ≡ map (λ (p : Place). p.class) (take number places)
  pub every : length seen ≡ number
  pub steps : AddsSteps start now_at (places_looks 0 seen)
  pub counts : IsSoldIn seen count

pub sold_none : (start : DeskView) (places : List Place) → IsLegal start.layout start.seen → SoldTo start start places 0 (record { first = 0; second = 0 })
sold_none start places legal = record { seen = []; are = refl; every = refl; steps = shape_none start legal; counts = record { first = refl; second = refl } }

pub small_counts : (a b : DeskView) (places : List Place) (number : ℕ) (n : SoldCount) → SoldTo a b places number n → AreFewSold n number
small_counts a b places number n so = (small in_first n.first so.counts.first, small in_second n.second so.counts.second)
  where
    small : (is : PlaceSeen → Bool) (k : ℕ) → k ≡ count_by is so.seen → k ≤ number
    small is k counts =
        let most = count_by-le-length is so.seen in
        let all = so.every in omega (arith, most, counts, all)

pub few_more : (n : SoldCount) (number most : ℕ) → AreFewSold n number → number ≤ most → AreFewSold n most
few_more n number most (a, b) under = (omega arith, omega arith)

pub sold_looks : (a b : DeskView) (places : List Place) (number : ℕ) (n : SoldCount) → SoldTo a b places number n → AddsStepsBy AllLooks a b
sold_looks a b places number n so = (places_looks 0 so.seen, are_looks 0 so.seen, so.steps)

pub sold_tidy : (books : BooksView) (a b : DeskView) (places : List Place) (number : ℕ) (n : SoldCount) → IsOf books b → SoldTo a b places number n → KeepsHolds a b → KeepsEndings a b → IsTidy a → IsTidy b
sold_tidy books a b places number n of so holds endings tidy = looks_tidy books a b of (sold_looks a b places number n so) holds endings tidy

pub sold_more : (a b c : DeskView) (places : List Place) (number : ℕ) (d : Place) (n : SoldCount) (sold : Bool) → number < length places → SoldTo a b places number n → AddsStepsBy (ShowsPlace number sold) b c
    → SoldTo a c places (number + 1) (with_place (get_or places number d).class sold n)
sold_more a b c places number d n sold within so (es, (low, high, is, steps), did) =
    let p = get_or places number d in
    let s : PlaceSeen = record { class = p.class; low = low; high = high } in
    record {
      seen = so.seen ++ s ∷ [];
      are = map-append (λ (x : PlaceSeen). x.class) so.seen (s ∷ [])
          ∙ (ap (λ (cs : List Class). cs ++ p.class ∷ []) so.are
          ∙ (sym (map-append (λ (x : Place). x.class) (take number places) (p ∷ []))
          ∙ ap (λ (ps : List Place). map (λ (x : Place). x.class) ps) (sym (take_more places number d within))));
      every = length-append so.seen (s ∷ []) ∙ ap (λ (k : ℕ). k + 1) so.every;
      steps = subst (AddsSteps a c) (sym (looks_more 0 so.seen s)) (shape_then a b c (places_looks 0 so.seen) _ so.steps
          (subst (AddsSteps b c) (steps ∙ ap (λ (k : ℕ). Look k 0 low ∷ Look k 1 high ∷ []) (first number (length so.seen) so.every)) did));
      counts = count_more so.seen s p.class sold n refl (sym is) so.counts;
    }
  where
    first : (r k : ℕ) → k ≡ r → r ≡ 0 + k
    first r k e = omega arith

pub sold_all : (a b : DeskView) (places : List Place) (number : ℕ) (n : SoldCount) → length places ≤ number → SoldTo a b places number n → AddsStepsBy (CountsSold places n) a b
sold_all a b places number n whole so = (
  places_looks 0 so.seen,
  record {
    seen = so.seen;
    are = so.are ∙ ap (λ (ps : List Place). map (λ (x : Place). x.class) ps) (take_all number places whole);
    steps = refl;
    first = so.counts.first;
    second = so.counts.second;
  },
  so.steps,
)

pub shown_place : (place low high : ℕ) (sold : Bool) (a b c : DeskView) → sold ≡ not ((low == 0) && (high == 0)) → Stepped (Look place 0 low) a b → Stepped (Look place 1 high) b c → AddsStepsBy (ShowsPlace place sold) a c
shown_place place low high sold a b c is did went =
    (Look place 0 low ∷ Look place 1 high ∷ [], (low, high, is, refl), shape_then a b c (Look place 0 low ∷ []) (Look place 1 high ∷ []) (step_shape (Look place 0 low) a b did) (step_shape (Look place 1 high) b c went))

pub look_keeps_holds : (place half n : ℕ) (a b : DeskView) → Stepped (Look place half n) a b → KeepsHolds a b
look_keeps_holds place half n a b did = looks_holds a b (Look place half n ∷ []) (step_shape (Look place half n) a b did) did.same.5 (refl, tt)

pub look_keeps_endings : (place half n : ℕ) (a b : DeskView) → Stepped (Look place half n) a b → KeepsEndings a b
look_keeps_endings place half n a b did = looks_endings a b (Look place half n ∷ []) (step_shape (Look place half n) a b did) (refl, tt)
