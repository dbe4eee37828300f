-- Items that are taken one by one: the words that they leave, and the least place where one meets an item that was
-- there.
use Rattle.std.proofs.Common.{◌≡◌, ◌≢◌, ◌⊎◌, ⊎_elim, ℕ, ◌+◌, ◌*◌, ◌<◌, ◌≤◌, min, Bool, true, false, bit_and, bit_or, nat_eq, List, [], ◌∷◌, ◌++◌, length, map, append_assoc, append-nil, Option, Some, None, cond, get_or, set, length-set, get_or-set_same, get_or-set_other, IfSome, IfNone, refl, sym, ap, ◌∙◌, subst, arith, slice_index}
use Rattle.std.specs.List.{AllByRecursion}
use Rattle.std.proofs.lemmas.Bool.{cases_eq, cases_lt, cases_Bool, eqb-true, eq-eqb}
use Rattle.std.proofs.lemmas.List.{map-append}
use Rattle.leg_masks.specs.Interval.{Meet, half_of, mask}
use Rattle.leg_masks.specs.Interval.{PlacedSpan as Item}
use Rattle.leg_masks.proofs.HalfLegs.{half_of-lt}
use Rattle.history_model.specs.declared.booking.BookedItem.{BookedItem}
use Rattle.history_model.specs.declared.word.Word.{Word}
use Rattle.history_model.specs.declared.word.Word.TheVariants.{Place}
use Rattle.history_model.specs.Allowed.{Blocks}
use Rattle.history_model.specs.Words.{place_number, place_word}
use Rattle.history_model.specs.Lists.{Across, Pairwise}
use Rattle.history_model.proofs.ListLemmas.{All-append, All-left, All-map, All-of_map, All-right, Pairwise-across}
use Rattle.cold_store.specs.Drafts.{DraftView, MeetsItem, NoneMeet, is_free_for, least_of, took, with_taken, word_of_item}
use Rattle.cold_store.specs.Exports.{IsLeastBelow, NoneBelow}
use Rattle.cold_store.proofs.Pairs.{Pairwise-pushed}
use Rattle.cold_store.proofs.PlaceBits.{IsFit, IsFreeFor, free-from_word, holder, left, word-else, word-from_free, word-here}

-- the least number where something fails, if there is one
pub record IsLeastBad (count : ℕ) (P : ℕ → Type 0) (o : Option ℕ) : Type 0 where
  pub some : IfSome o (IsLeastBelow count (λ at. ¬ P at))
  pub none : IfNone o (NoneBelow count (λ at. ¬ P at))

pub least-kept : (count : ℕ) (P Q : ℕ → Type 0) (o : Option ℕ) → ((n : ℕ) → n < count → P n → Q n) → ((n : ℕ) → Q n → P n) → IsLeastBad count P o → IsLeastBad count Q o
least-kept count P Q None to from h = record { some = tt; none = λ n l no. h.none n l (λ p. no (to n l p)) }
least-kept count P Q (Some q) to from h =
    let below : q < count = h.some.0 in
    record { some = (below, (λ x. h.some.1 (from q x)), λ n l no. h.some.2 n l (λ p. no (to n (let m : n < count = omega arith in m) p))); none = tt }

least_at : (count : ℕ) (P Q : ℕ → Type 0) (at : ℕ) (q : ℕ) → at < count → ¬ Q at → ((n : ℕ) → n < count → n ≢ at → P n → Q n) → ((n : ℕ) → Q n → P n) → IsLeastBelow count (λ n. ¬ P n) q
    → (q < at) ⊎ (at ≤ q) → IsLeastBelow count (λ n. ¬ Q n) (min q at)
least_at count P Q at q below bad to from h = ⊎_elim
    (λ (less : q < at). let is : min q at ≡ q = omega arith in
    rw is (h.0, (λ x. h.1 (from q x)), λ n l no. h.2 n l (λ p. no (to n (let m : n < count = omega arith in m) (λ e. omega arith) p))))
    (λ (more : at ≤ q). let is : min q at ≡ at = omega arith in
    rw is (below, bad, λ n l no. h.2 n (let m : n < q = omega arith in m) (λ p. no (to n (let m : n < count = omega arith in m) (λ e. omega arith) p))))

pub least-failed : (count : ℕ) (P Q : ℕ → Type 0) (o : Option ℕ) (at : ℕ) → at < count → ¬ Q at → ((n : ℕ) → n < count → n ≢ at → P n → Q n) → ((n : ℕ) → Q n → P n) → IsLeastBad count P o → IsLeastBad count Q (Some (least_of o at))
least-failed count P Q None at below bad to from h =
    record { some = (below, bad, λ n l no. h.none n (let m : n < count = omega arith in m) (λ p. no (to n (let m : n < count = omega arith in m) (λ e. omega arith) p))); none = tt }
least-failed count P Q (Some q) at below bad to from h = record { some = least_at count P Q at q below bad to from h.some (cases_lt q at); none = tt }

-- the words are those of the items
pub record Shows (places : ℕ) (items : List BookedItem) (words : List ℕ) : Type 0 where
  pub each : (place half : ℕ) → place < places → half < 2 → slice_index words (place_number place half) ≡ place_word (holder items) place half

-- the item is one of the places
pub record IsIn (places : ℕ) (i : Item) : Type 0 where
  pub place : i.place < places
  pub fit : IsFit i

word-lt : (places : ℕ) (i : Item) → IsIn places i → word_of_item i < 2 * places
word-lt places i is = let h = half_of-lt i.span is.fit.some is.fit.most in let p = is.place in omega arith

pub shows-took : (places : ℕ) (items : List BookedItem) (d : DraftView) (i : Item) → IsIn places i → 2 * places ≤ length d.words → Shows places items d.words → Shows places (items ++ left i ∷ []) (took d i).words
shows-took places items d i is long shows = record { each = each }
  where
    at : ℕ
    at = word_of_item i

    new : ℕ
    new = bit_or (get_or d.words at 0) (mask i.span)

    half-lt : half_of i.span < 2
    half-lt = half_of-lt i.span is.fit.some is.fit.most

    inside : at < length d.words
    inside = let a = word-lt places i is in omega arith

    differs : (q h : ℕ) → h < 2 → (q ≡ i.place → h ≡ half_of i.span → ⊥) → place_number q h ≡ at → ⊥
    differs q h l never e = let k = half-lt in let p : q ≡ i.place = omega arith in never p (omega arith)

    each : (q h : ℕ) → q < places → h < 2 → get_or (set d.words at new) (place_number q h) 0 ≡ place_word (holder (items ++ left i ∷ [])) q h
    each q h p l = ⊎_elim
        (λ (same : q ≡ i.place). ⊎_elim
        (λ (half : h ≡ half_of i.span). subst (λ (x : ℕ × ℕ). get_or (set d.words at new) (place_number x.0 x.1) 0 ≡ place_word (holder (items ++ left i ∷ [])) x.0 x.1) (λ j. (sym same j, sym half j))
        (get_or-set_same d.words at new 0 inside
        ∙ (ap (λ (n : ℕ). bit_or n (mask i.span)) (shows.each i.place (half_of i.span) is.place half-lt) ∙ sym (word-here items i is.fit))))
        (λ (other : h ≢ half_of i.span). apart q h p l (λ _ e. other e))
        (cases_eq h (half_of i.span)))
        (λ (other : q ≢ i.place). apart q h p l (λ e _. other e))
        (cases_eq q i.place)
      where
        apart : (q h : ℕ) → q < places → h < 2 → (q ≡ i.place → h ≡ half_of i.span → ⊥) → get_or (set d.words at new) (place_number q h) 0 ≡ place_word (holder (items ++ left i ∷ [])) q h
        apart q h p l never =
            get_or-set_other d.words at (place_number q h) new 0 (differs q h l never)
            ∙ (shows.each q h p l ∙ sym (word-else items i q h is.fit (λ e. never (place_same e) (half_same e))))
          where
            place_same : {q h r k : ℕ} → Place q h ≡ Place r k → q ≡ r
            place_same e = cc

            half_same : {q h r k : ℕ} → Place q h ≡ Place r k → h ≡ k
            half_same e = cc

pub behind-took : (places : ℕ) (d : DraftView) (i : Item) (n : ℕ) → IsIn places i → 2 * places ≤ n → get_or (took d i).words n 0 ≡ get_or d.words n 0
behind-took places d i n is h = get_or-set_other d.words (word_of_item i) n _ 0 (λ e. let a = word-lt places i is in omega arith)

-- at this place the item meets none of these
abbrev pub IsClearAt : List BookedItem → ℕ → Item → Type 0
IsClearAt items place i = i.place ≡ place → AllByRecursion (λ j. ¬ Blocks place i.span j) items

-- nor does one of the items
abbrev pub AreClearAt : List BookedItem → List Item → ℕ → Type 0
AreClearAt items taken place = AllByRecursion (IsClearAt items place) taken

-- items of one line are free of one another
apart-free : (done : List Item) (i : Item) → AllByRecursion (λ x. ¬ MeetsItem x i) done → IsFreeFor (map left done) i
apart-free [] i h = tt
apart-free (x ∷ xs) i h = ((λ b. h.0 (sym b.1, (b.2.0, b.2.2, b.2.1))), apart-free xs i h.1)

module _ (places : ℕ) (P : ℕ → Type 0) (items : List BookedItem) where
  -- what holds once these items are taken
  pub record Taken (done : List Item) (d : DraftView) : Type 0 where
    pub shows : Shows places (items ++ map left done) d.words
    pub least : IsLeastBad places (λ p. P p × AreClearAt items done p) d.overlap
    pub long : 2 * places ≤ length d.words

  push_items : (done : List Item) (i : Item) → (items ++ map left done) ++ left i ∷ [] ≡ items ++ map left (done ++ i ∷ [])
  push_items done i = append_assoc items (map left done) (left i ∷ []) ∙ ap (λ (xs : List BookedItem). items ++ xs) (sym (map-append left done (i ∷ [])))

  free_least : (done : List Item) (d : DraftView) (i : Item) → IsIn places i → AllByRecursion (λ x. ¬ MeetsItem x i) done → Taken done d
      → (b : Bool) → is_free_for d i ≡ b → IsLeastBad places (λ p. P p × AreClearAt items (done ++ i ∷ []) p) (cond b d.overlap (Some (least_of d.overlap i.place)))
  free_least done d i is apart t true e =
      let zero = eqb-true (bit_and (get_or d.words (word_of_item i) 0) (mask i.span)) 0 e in
      let word = t.shows.each i.place (half_of i.span) is.place (half_of-lt i.span is.fit.some is.fit.most) in
      let all = free-from_word (items ++ map left done) i is.fit (sym (ap (λ (n : ℕ). bit_and n (mask i.span)) word) ∙ zero) in
      let free : IsFreeFor items i = All-left (λ j. ¬ Blocks i.place i.span j) items (map left done) all in
      least-kept places (λ p. P p × AreClearAt items done p) (λ p. P p × AreClearAt items (done ++ i ∷ []) p) d.overlap
      (λ n l h. (h.0, All-append (IsClearAt items n) done (i ∷ []) h.1 ((λ here. subst (λ (p : ℕ). AllByRecursion (λ j. ¬ Blocks p i.span j) items) here free), tt)))
      (λ n h. (h.0, All-left (IsClearAt items n) done (i ∷ []) h.1))
      t.least
  free_least done d i is apart t false e =
      let word = t.shows.each i.place (half_of i.span) is.place (half_of-lt i.span is.fit.some is.fit.most) in
      least-failed places (λ p. P p × AreClearAt items done p) (λ p. P p × AreClearAt items (done ++ i ∷ []) p) d.overlap i.place is.place
      (λ h. let free : IsFreeFor items i = (All-right (IsClearAt items i.place) done (i ∷ []) h.1).0 refl in
      let all : IsFreeFor (items ++ map left done) i = All-append (λ j. ¬ Blocks i.place i.span j) items (map left done) free (apart-free done i apart) in
      let zero : bit_and (get_or d.words (word_of_item i) 0) (mask i.span) ≡ 0 = ap (λ (n : ℕ). bit_and n (mask i.span)) word ∙ word-from_free (items ++ map left done) i is.fit all in
      let bad : false ≡ true = sym e ∙ eq-eqb (bit_and (get_or d.words (word_of_item i) 0) (mask i.span)) 0 zero in absurd cc)
      (λ n l other h. (h.0, All-append (IsClearAt items n) done (i ∷ []) h.1 ((λ here. absurd (other (sym here))), tt)))
      (λ n h. (h.0, All-left (IsClearAt items n) done (i ∷ []) h.1))
      t.least

  taken-one : (done : List Item) (d : DraftView) (i : Item) → IsIn places i → AllByRecursion (λ x. ¬ MeetsItem x i) done → Taken done d → Taken (done ++ i ∷ []) (took d i)
  taken-one done d i is apart t =
      record {
        shows = subst (λ (xs : List BookedItem). Shows places xs (took d i).words) (push_items done i) (shows-took places (items ++ map left done) d i is t.long t.shows);
        least = free_least done d i is apart t (is_free_for d i) refl;
        long = let same = length-set d.words (word_of_item i) (bit_or (get_or d.words (word_of_item i) 0) (mask i.span)) in let l = t.long in subst (λ (n : ℕ). 2 * places ≤ n) (sym same) l;
      }

  pub taken-all : (done rest : List Item) (d : DraftView) → AllByRecursion (IsIn places) rest → NoneMeet (done ++ rest) → Taken done d → Taken (done ++ rest) (with_taken d rest)
  taken-all done [] d in_ none t = subst (λ (xs : List Item). Taken xs d) (sym (append-nil done)) t
  taken-all done (i ∷ is) d in_ none t =
      let shift : (done ++ i ∷ []) ++ is ≡ done ++ i ∷ is = append_assoc done (i ∷ []) is in
      let apart : AllByRecursion (λ x. ¬ MeetsItem x i) done = All-map (λ x h. h.0) done (Pairwise-across (λ x y. ¬ MeetsItem x y) done (i ∷ is) none) in
      subst (λ (xs : List Item). Taken xs (with_taken d (i ∷ is))) shift
      (taken-all (done ++ i ∷ []) is (took d i) in_.1 (subst NoneMeet (sym shift) none) (taken-one done d i in_.0 apart t))

-- what lies behind the words of the places stays
pub behind-taken : (places : ℕ) (is : List Item) (d : DraftView) (n : ℕ) → AllByRecursion (IsIn places) is → 2 * places ≤ n → get_or (with_taken d is).words n 0 ≡ get_or d.words n 0
behind-taken places [] d n in_ h = refl
behind-taken places (i ∷ is) d n in_ h = behind-taken places is (took d i) n in_.1 h ∙ behind-took places d i n in_.0 h
