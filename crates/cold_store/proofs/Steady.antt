-- What stays so of all bookings of books that began right.
use Rattle.std.proofs.Common.{◌≡◌, ◌≢◌, ◌⊎◌, inl, inr, ⊎_elim, ℕ, zero, suc, ◌+◌, ◌-◌, ◌<◌, ◌≤◌, ℤ, true, false, List, [], ◌∷◌, ◌++◌, map, take, drop, length, Some, refl, sym, ap, ◌∙◌, subst, arith}
use Rattle.std.specs.List.{AllByRecursion, Any}
use Rattle.std.proofs.lemmas.List.{take-append-drop, map-append}
use Rattle.std.proofs.lemmas.List.Elements.{All-from_recursion}
use Rattle.leg_masks.specs.Interval.{Interval}
use Rattle.history_model.specs.declared.booking.BookedItem.{BookedItem}
use Rattle.history_model.specs.declared.booking.End.{End}
use Rattle.history_model.specs.declared.entry.Entry.{Entry}
use Rattle.history_model.specs.declared.entry.Step.{Step}
use Rattle.history_model.specs.declared.entry.Step.TheVariants.{Look, Take, Give, Start, SawRow, Note, Seal, Turn, LostTurn, Close, Met}
use Rattle.history_model.specs.declared.phase.EndKind.{EndKind}
use Rattle.history_model.specs.declared.phase.EndKind.TheVariants.{Release, Expire, Refund, Exchange}
use Rattle.history_model.specs.declared.phase.Phase.{Phase}
use Rattle.history_model.specs.declared.phase.Phase.TheVariants.{Free, Making, Prebooked, Confirmed, Fulfilled, Ending, Ended}
use Rattle.history_model.specs.Allowed.{Blocks, IsAllowedStep, IsBeingEndedBy, IsEndWord, IsMadeBy, IsMakerWord, IsRow, IsSealable, IsSuccessor, MayClose, MayNote, MayGive, MaySealAs, TurnsWith}
use Rattle.history_model.specs.Apply.{apply, apply_step, closed, ended_phase, given, in_phase, items_given, marked, noted, started, item_taken, turned, words_of_row}
use Rattle.history_model.specs.Booking.{Booking, Layout, State, all_items, change, key_of, limit_of, most_items, next_generation, next_in, present, stands_in, successor_word}
use Rattle.history_model.specs.History.{IsLegal, IsLegalFrom, state_after, state_of}
use Rattle.history_model.specs.Laws.{AreClear, AreInRange, IsInRange, IsPresentOrEnded, IsSound, IsWellFormed}
use Rattle.history_model.specs.Lists.{Pairwise}
use Rattle.history_model.specs.Phase.{is_ended, is_turn}
use Rattle.history_model.specs.WholeEnds.{end_at}
use Rattle.history_model.proofs.Generations.{next-push, present_latest, same_key}
use Rattle.history_model.proofs.Keeping.{found, items_around, other_word, turned-key}
use Rattle.history_model.proofs.Legal.{WellFormed-history}
use Rattle.history_model.proofs.Seen.{legal-append, state_of-append}
use Rattle.history_model.proofs.ListLemmas.{All-append, All-both, All-changed, All-found, All-left, All-map, All-right, Across-one, Pairwise-append, Pairwise-left, map-changed}
use Rattle.history_model.proofs.Ranges.{ranges_all}

-- The end of a booking in this row and with this limit is one of its kind. The keys are those of all bookings
abbrev pub IsRightEnd : Layout → List (ℕ × ℕ) → ℕ → ℕ → EndKind → End → Type 0
IsRightEnd g ks row limit Release end = end.successor ≡ 0
IsRightEnd g ks row limit Expire end = (limit < end.moment) × (end.successor ≡ 0)
IsRightEnd g ks row limit Refund end = end.successor ≡ 0
IsRightEnd g ks row limit Exchange end =
    (r j : ℕ) × IsRow g r × (r ≢ row) × (j + 1 ≤ next_in ks r) × (end.successor ≡ successor_word r j)

abbrev pub EndsRight : Layout → List (ℕ × ℕ) → ℕ → ℕ → Phase → End → Type 0
EndsRight g ks row limit (Ending kind) end = IsRightEnd g ks row limit kind end
EndsRight g ks row limit (Ended kind) end = IsRightEnd g ks row limit kind end
EndsRight g ks row limit _ end = Unit {0}

pub record IsSteady (g : Layout) (ks : List (ℕ × ℕ)) (b : Booking) : Type 0 where
  pub apart : Pairwise AreClear b.items
  pub end : EndsRight g ks b.row (limit_of b) b.phase b.end

abbrev pub AreSteady : Layout → State → Type 0
AreSteady g s = AllByRecursion (IsSteady g (map key_of s)) s

-- items

clear_marked : (n : ℕ) (is : List BookedItem) (i : BookedItem) → AllByRecursion (AreClear i) is → AllByRecursion (AreClear i) (marked n is)
clear_marked zero (j ∷ js) i h = (h.0, h.1)
clear_marked (suc n) (j ∷ js) i h = (h.0, clear_marked n js i h.1)
clear_marked n [] i h = h

pairs_marked : (n : ℕ) (is : List BookedItem) → Pairwise AreClear is → Pairwise AreClear (marked n is)
pairs_marked zero (i ∷ is) h = (h.0, h.1)
pairs_marked (suc n) (i ∷ is) h = (clear_marked n is i h.0, pairs_marked n is h.1)
pairs_marked n [] h = h

pairs_given : (ph : Phase) (n : ℕ) (is : List BookedItem) → Pairwise AreClear is → Pairwise AreClear (items_given ph n is)
pairs_given Making n is h = Pairwise-left AreClear (take (length is - 1) is) (drop (length is - 1) is) (rw (take-append-drop (length is - 1) is) h)
pairs_given (Ending kind) n is h = pairs_marked n is h
pairs_given Free n is h = h
pairs_given Prebooked n is h = h
pairs_given Confirmed n is h = h
pairs_given Fulfilled n is h = h
pairs_given (Ended kind) n is h = h

-- ends

more_end : (g : Layout) (ks ls : List (ℕ × ℕ)) → ((r : ℕ) → next_in ks r ≤ next_in ls r) → (row limit : ℕ) (kind : EndKind) (end : End) → IsRightEnd g ks row limit kind end → IsRightEnd g ls row limit kind end
more_end g ks ls more row limit Release end is = is
more_end g ks ls more row limit Expire end is = is
more_end g ks ls more row limit Refund end is = is
more_end g ks ls more row limit Exchange end (r, j, in_row, other, low, word) = (r, j, in_row, other, (let m = more r in omega (arith, m, low)), word)

more_ends : (g : Layout) (ks ls : List (ℕ × ℕ)) → ((r : ℕ) → next_in ks r ≤ next_in ls r) → (row limit : ℕ) (ph : Phase) (end : End) → EndsRight g ks row limit ph end → EndsRight g ls row limit ph end
more_ends g ks ls more row limit (Ending kind) end is = more_end g ks ls more row limit kind end is
more_ends g ks ls more row limit (Ended kind) end is = more_end g ks ls more row limit kind end is
more_ends g ks ls more row limit Free end is = tt
more_ends g ks ls more row limit Making end is = tt
more_ends g ks ls more row limit Prebooked end is = tt
more_ends g ks ls more row limit Confirmed end is = tt
more_ends g ks ls more row limit Fulfilled end is = tt

-- no end is asked before a turn to one
not_turned : (g : Layout) (ks : List (ℕ × ℕ)) (row limit : ℕ) (end : End) (ph : Phase) → (ph ≡ Making) ⊎ ((ph ≡ Prebooked) ⊎ (ph ≡ Confirmed)) → EndsRight g ks row limit ph end
not_turned g ks row limit end ph is = ⊎_elim
    (λ (e : ph ≡ Making). subst (λ p. EndsRight g ks row limit p end) (sym e) tt)
    (⊎_elim
    (λ (e : ph ≡ Prebooked). subst (λ p. EndsRight g ks row limit p end) (sym e) tt)
    (λ (e : ph ≡ Confirmed). subst (λ p. EndsRight g ks row limit p end) (sym e) tt))
    is

closed_ends : (g : Layout) (ks : List (ℕ × ℕ)) (row limit : ℕ) (end : End) (ph : Phase) → EndsRight g ks row limit ph end → EndsRight g ks row limit (ended_phase ph) end
closed_ends g ks row limit end (Ending kind) is = is
closed_ends g ks row limit end (Ended kind) is = is
closed_ends g ks row limit end Free is = is
closed_ends g ks row limit end Making is = is
closed_ends g ks row limit end Prebooked is = is
closed_ends g ks row limit end Confirmed is = is
closed_ends g ks row limit end Fulfilled is = is

-- a change of a row's booking

steady_changed : (g : Layout) (s : State) (row : ℕ) (f : Booking → Booking) (b : Booking) → present s row ≡ Some b → ((x : Booking) → key_of (f x) ≡ key_of x) → AreSteady g s → (IsSteady g (map key_of s) b → IsSteady g (map key_of s) (f b)) → AreSteady g (change s row f)
steady_changed g s row f b e same all keep =
    let ks : List (ℕ × ℕ) = map key_of s in
    let keys : map key_of (change s row f) ≡ ks = map-changed key_of (stands_in s row) f same s in
    rw keys (All-changed (IsSteady g ks) (stands_in s row) f s b e all (keep (All-found (IsSteady g ks) (stands_in s row) s b e all)))

steady_start : (g : Layout) (s : State) (row generation who : ℕ) (words : List ℕ) → AreSteady g s → AreSteady g (s ++ started row generation who words ∷ [])
steady_start g s row generation who words all =
    let new : Booking = started row generation who words in
    let ks : List (ℕ × ℕ) = map key_of s in
    let ls : List (ℕ × ℕ) = ks ++ key_of new ∷ [] in
    let more : (r : ℕ) → next_in ks r ≤ next_in ls r = λ r. let p = next-push ks (key_of new) r in omega (arith, p) in
    rw (map-append key_of s (new ∷ [])) (All-append (IsSteady g ls) s (new ∷ [])
    (All-map (λ b is. record { apart = is.apart; end = more_ends g ks ls more b.row (limit_of b) b.phase b.end is.end }) s all)
    (record { apart = tt; end = tt }, tt))

-- the new item is clear of the others
steady_take : (g : Layout) (s : State) (row place who : ℕ) (span : Interval) (b : Booking) → present s row ≡ Some b → IsMadeBy who b → AllByRecursion (λ i. i.given_back ≡ false) b.items → AllByRecursion (λ i. ¬ Blocks place span i) b.items → AreSteady g s → AreSteady g (change s row (item_taken place span))
steady_take g s row place who span b e made left free all =
    let new : BookedItem = record { place = place; span = span; given_back = false } in
    steady_changed g s row (item_taken place span) b e (λ _. refl) all (λ is. record {
      apart = Pairwise-append AreClear b.items (new ∷ []) is.apart (tt, tt) (Across-one AreClear b.items new
          (All-both {P = λ i. i.given_back ≡ false} {Q = λ i. ¬ Blocks place span i} (λ i here none same meet. none (here, same, meet)) b.items left free));
      end = is.end;
    })

open_items : (s : State) (row place : ℕ) (span : Interval) (b : Booking) → present s row ≡ Some b → AllByRecursion (λ i. ¬ Blocks place span i) (all_items s) → AllByRecursion (λ i. ¬ Blocks place span i) b.items
open_items s row place span b e free =
    let P : BookedItem → Type 0 = λ i. ¬ Blocks place span i in
    let at = items_around s row b e in
    let all : AllByRecursion P (at.before ++ (b.items ++ at.after)) = rw at.is at free in
    All-left P b.items at.after (All-right P at.before (b.items ++ at.after) all)

-- a booking that is ending notes no limit
noted_end : (g : Layout) (ks : List (ℕ × ℕ)) (who w n : ℕ) (b : Booking) → MayNote who w b → EndsRight g ks b.row (limit_of b) b.phase b.end → EndsRight g ks b.row (limit_of (noted w n b)) b.phase b.end
noted_end g ks who w n b may is = ⊎_elim
    (λ (making : IsMadeBy who b × IsMakerWord w). not_turned g ks b.row (limit_of (noted w n b)) b.end b.phase (inl making.0.0))
    (λ (ending : IsBeingEndedBy who b × IsEndWord w). subst (λ (limit : ℕ). EndsRight g ks b.row limit b.phase b.end) (sym (other_word b w n 2 (let l = ending.1.0 in omega (arith, l)))) is)
    may

-- the successor is in another row

any_found : {X : Type 0} (P Q : X → Type 0) (xs : List X) → AllByRecursion P xs → Any Q xs → (x : X) × P x × Q x
any_found P Q xs all (k, x, below, at, q) = (x, subst P at (All-from_recursion P xs all k x below), q)

-- what holds of a booking that may be the successor of the row's present one
record MaySucceed (g : Layout) (s : State) (row : ℕ) (phase : Phase) (b : Booking) : Type 0 where
  in_row : IsRow g b.row
  earlier : IsPresentOrEnded (map key_of s) b
  same : b.row ≡ row → b.generation + 1 ≡ next_generation s row → b.phase ≡ phase

all_follow : (g : Layout) (s : State) (row : ℕ) (b : Booking) → present s row ≡ Some b → IsWellFormed g s → AreInRange g s → AllByRecursion (MaySucceed g s row b.phase) s
all_follow g s row b e good range = All-both {P = λ c. IsInRange g c × IsPresentOrEnded (map key_of s) c} {Q = λ c. c.row ≡ row → c.generation + 1 ≡ next_generation s row → c.phase ≡ b.phase}
    (λ c p q. record { in_row = p.0.row; earlier = p.1; same = q }) s
    (All-both {P = IsInRange g} {Q = IsPresentOrEnded (map key_of s)} (λ c p q. (p, q)) s range good.earlier) (same_key s row b e good.keys)

exchanged_end : (g : Layout) (s : State) (who row limit x : ℕ) (b : Booking) → present s row ≡ Some b → (b.phase ≡ Making → ⊥) → IsWellFormed g s → AreInRange g s → IsSuccessor s who x → (m : ℕ) (a : ℤ)
    → IsRightEnd g (map key_of s) b.row limit Exchange (end_at m a x)
exchanged_end g s who row limit x b e other good range is m a =
    let f = any_found (MaySucceed g s row b.phase) (λ c. IsMadeBy who c × (successor_word c.row c.generation ≡ x)) s (all_follow g s row b e good range) is in
    let c : Booking = f.0 in
    let top : c.generation + 1 ≡ next_in (map key_of s) c.row = ⊎_elim (λ t. t) (λ (ended : is_ended c.phase ≡ true). absurd (let no : is_ended Making ≡ true = rw f.2.0.0 at ended in cc)) f.1.earlier in
    let at = present_latest s row b e in (
      c.row,
      c.generation,
      f.1.in_row,
      (λ (here : c.row ≡ b.row).
          let on : c.row ≡ row = here ∙ at.0 in
          other (sym (f.1.same on (top ∙ ap (λ (r : ℕ). next_generation s r) on)) ∙ f.2.0.0)),
      (let t = top in omega (arith, t)),
      sym f.2.1,
    )

-- each step

live_not_making : (from to : Phase) → is_turn from to ≡ true → from ≡ Making → ⊥
live_not_making from to t e = let no : false ≡ true = rw e at t in cc

turned_end : (g : Layout) (s : State) (who row : ℕ) (from to : Phase) (end : End) (b : Booking) → present s row ≡ Some b → is_turn from to ≡ true → b.phase ≡ from → IsWellFormed g s → AreInRange g s → TurnsWith s who (limit_of b) to end
    → IsSteady g (map key_of s) b → IsSteady g (map key_of s) (turned who to end b)
turned_end g s who row from (Ending Release) end b e t is good range may steady = record { apart = steady.apart; end = may.1 }
turned_end g s who row from (Ending Expire) end b e t is good range may steady = record { apart = steady.apart; end = (may.0, may.2) }
turned_end g s who row from (Ending Refund) end b e t is good range may steady = record { apart = steady.apart; end = may.1 }
turned_end g s who row from (Ending Exchange) end b e t is good range may steady = record {
  apart = steady.apart;
  end = exchanged_end g s who row (limit_of b) end.successor b e (λ making. live_not_making from (Ending Exchange) t (sym is ∙ making)) good range may.1 end.moment end.amount;
}
turned_end g s who row from Confirmed end b e t is good range may steady = record { apart = steady.apart; end = tt }
turned_end g s who row from Fulfilled end b e t is good range may steady = record { apart = steady.apart; end = tt }
turned_end g s who row from Free end b e t is good range may steady = absurd may
turned_end g s who row from Making end b e t is good range may steady = absurd may
turned_end g s who row from Prebooked end b e t is good range may steady = absurd may
turned_end g s who row from (Ended kind) end b e t is good range may steady = absurd may

steady_step : (g : Layout) (s : State) (who : ℕ) (st : Step) → IsWellFormed g s → AreInRange g s → IsAllowedStep g s who st → AreSteady g s → AreSteady g (apply_step s who st)
steady_step g s who (Look p h n) good range may all = all
steady_step g s who (SawRow q w n) good range may all = all
steady_step g s who (LostTurn q wanted shown) good range may all = all
steady_step g s who Met good range may all = all
steady_step g s who (Start q j) good range may all = steady_start g s q j who (words_of_row s q) all
steady_step g s who (Take q p span) good range may all =
    let f = found (present s q) (λ b. IsMadeBy who b × (length b.items < most_items)) may.2 in
    let sound : IsSound g f.0 = All-found (IsSound g) (stands_in s q) s f.0 f.1 good.each in
    steady_take g s q p who span f.0 f.1 f.2.0 (sound.kept (inl f.2.0.0)) (open_items s q p span f.0 f.1 may.6) all
steady_step g s who (Give q k) good range may all =
    let f = found (present s q) (MayGive who k) may.1 in
    steady_changed g s q (given k) f.0 f.1 (λ _. refl) all (λ is. record { apart = pairs_given f.0.phase k f.0.items is.apart; end = is.end })
steady_step g s who (Note q w n) good range may all =
    let f = found (present s q) (MayNote who w) may.1 in
    steady_changed g s q (noted w n) f.0 f.1 (λ _. refl) all (λ is. record { apart = is.apart; end = noted_end g (map key_of s) who w n f.0 f.2 is.end })
steady_step g s who (Seal q ph) good range may all =
    let f = found (present s q) (λ b. IsMadeBy who b × IsSealable b × MaySealAs s who b ph) may.1 in
    steady_changed g s q (in_phase ph) f.0 f.1 (λ _. refl) all (λ is. record {
      apart = is.apart;
      end = not_turned g (map key_of s) f.0.row (limit_of f.0) f.0.end ph (⊎_elim (λ p. inr (inl p)) (λ p. inr (inr p.0)) f.2.2);
    })
steady_step g s who (Turn q from to m a x) good range may all =
    let end : End = end_at m a x in
    let f = found (present s q) (λ b. (b.phase ≡ from) × TurnsWith s who (limit_of b) to end) may.3 in
    steady_changed g s q (turned who to end) f.0 f.1 (turned-key who to end) all (turned_end g s who q from to end f.0 f.1 may.1 f.2.0 good range f.2.1)
steady_step g s who (Close q) good range may all =
    let f = found (present s q) (MayClose who) may.1 in
    steady_changed g s q closed f.0 f.1 (λ _. refl) all (λ is. record { apart = is.apart; end = closed_ends g (map key_of s) f.0.row (limit_of f.0) f.0.end f.0.phase is.end })

steady_after : (g : Layout) (front : List Entry) (s : State) (es : List Entry) → IsLegal g front → s ≡ state_of g front → IsLegalFrom g s es → AreSteady g s → AreSteady g (state_after s es)
steady_after g front s [] legal is may all = all
steady_after g front s (e ∷ es) legal is may all =
    let here : IsWellFormed g s = subst (IsWellFormed g) (sym is) (WellFormed-history g g.opening front legal.0.well_formed legal.1) in
    let range : AreInRange g s = subst (AreInRange g) (sym is) (ranges_all g front legal) in
    steady_after g (front ++ e ∷ []) (apply s e) es
    (legal-append g front (e ∷ []) legal (subst (λ (t : State). IsLegalFrom g t (e ∷ [])) is (may.0, tt)))
    (ap (λ (t : State). apply t e) is ∙ sym (state_of-append g front (e ∷ [])))
    may.1 (steady_step g s e.desk e.step here range may.0 all)

-- the bookings of each legal history are steady where those at its beginning are
pub steady_all : (g : Layout) (history : List Entry) → IsLegal g history → AreSteady g g.opening → AreSteady g (state_of g history)
steady_all g history legal first = steady_after g [] g.opening history (legal.0, tt) refl legal.1 first
