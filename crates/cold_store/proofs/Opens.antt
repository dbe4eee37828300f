-- Books may open with the bookings of a right export.
use Rattle.std.proofs.Common.{◌≡◌, ◌≢◌, ◌⊎◌, inl, inr, ⊎_elim, ℕ, ◌-◌, ◌<◌, ◌≤◌, Bool, true, false, cond, List, [], ◌∷◌, ◌++◌, map, length, take, drop, replicate, Contains, Option, Some, None, IfSome, refl, sym, ap, ◌∙◌, subst, arith, get_or, length-append}
use Rattle.std.specs.List.{AllByRecursion}
use Rattle.std.specs.Option.{option_map_or}
use Rattle.std.proofs.lemmas.Bool.{cases_lt, eq-eqb, ne_eqb}
use Rattle.std.proofs.lemmas.List.{length-map, length-replicate}
use Rattle.std.proofs.Math.Seq.{drop-append_seam, take-append_seam}
use Rattle.std.proofs.lemmas.List.Elements.{All-from_recursion}
use Rattle.leg_masks.specs.Interval.{item_word, PlacedSpan as Item}
use Rattle.rail_ids.specs.Spelling.{last_generation}
use Rattle.history_model.specs.declared.booking.BookedItem.{BookedItem}
use Rattle.history_model.specs.declared.booking.End.{End}
use Rattle.history_model.specs.declared.phase.EndKind.{EndKind}
use Rattle.history_model.specs.declared.phase.Phase.{Phase}
use Rattle.history_model.specs.declared.phase.Phase.TheVariants.{Free, Making, Prebooked, Confirmed, Fulfilled, Ending, Ended}
use Rattle.history_model.specs.Allowed.{HasEndWords}
use Rattle.history_model.specs.Booking.{Booking, Layout, all_items, amount_word, key_of, last_moment, successor_word}
use Rattle.history_model.specs.Laws.{AreApart, HasAmountFor, IsInRange, IsPresentOrEnded, IsSound as IsSoundBooking, IsSuccessorIn, LiesWithin, is_owners}
use Rattle.history_model.specs.Lists.{Across, Pairwise}
use Rattle.history_model.specs.Phase.{is_ended, is_live}
use Rattle.history_model.proofs.Generations.{present_latest}
use Rattle.history_model.proofs.ListLemmas.{Across-parts, All-both, All-map, All-of_map, Pairwise-append}
use Rattle.claim_rule.specs.Openings.{AreRising, HasOwnEnd, KeptBooking, MayOpen, booked, end_in, end_words, item_words, layout_with, opening_booking, opening_of}
use Rattle.claim_rule.proofs.OpeningKept.{kept_at, present_found}
use Rattle.claim_rule.proofs.OpeningWords.{end_long}
use Rattle.line_text.specs.declared.heads.SaidItem.{SaidItem}
use Rattle.line_text.specs.declared.ends.SaidEnd.{SaidEnd}
use Rattle.line_text.specs.declared.ends.SaidRow.{SaidRow}
use Rattle.line_text.specs.Lines.{HasLetter, IsEndSaid, IsSayable, SaidBooking}
use Rattle.cold_store.specs.Right.{AreClear, AreClearAt, AreRight, HasLine, IsApartAt, IsEndIn, IsRight, IsRightAlone, IsWithin, kept_item, kept_of}

-- keys

all_at : (ks : List KeptBooking) → AreRising ks → AllByRecursion (λ k. kept_at ks k.row ≡ Some k) ks
all_at [] rising = tt
all_at (k ∷ ks) rising = (
  ap (λ t. cond t (Some k) (kept_at ks k.row)) (eq-eqb k.row k.row refl),
  All-both {P = λ j. k.row < j.row} {Q = λ j. kept_at ks j.row ≡ Some j} (λ j less at.
      ap (λ t. cond t (Some k) (kept_at ks j.row)) (ne_eqb k.row j.row (λ e. omega (arith, less, e))) ∙ at) ks rising.0 (all_at ks rising.1),
)

keys_of : (ks : List KeptBooking) → AreRising ks → Pairwise (λ (j k : ℕ × ℕ). j ≢ k) (map key_of (opening_of ks))
keys_of [] rising = tt
keys_of (k ∷ ks) rising = (
  All-of_map (λ (j : ℕ × ℕ). (k.row, k.generation) ≢ j) key_of (opening_of ks) (All-of_map (λ (b : Booking). (k.row, k.generation) ≢ key_of b) opening_booking ks
      (All-map {P = λ j. k.row < j.row} (λ j less e. let same : k.row ≡ j.row = ap (λ (x : ℕ × ℕ). x.0) e in omega (arith, less, same)) ks rising.0)),
  keys_of ks rising.1,
)

all_present : (ks : List KeptBooking) → AreRising ks → AllByRecursion (IsPresentOrEnded (map key_of (opening_of ks))) (opening_of ks)
all_present ks rising = All-of_map (IsPresentOrEnded (map key_of (opening_of ks))) opening_booking ks
    (All-map {P = λ k. kept_at ks k.row ≡ Some k} (λ k at. inl (present_latest (opening_of ks) k.row (opening_booking k) (present_found ks k.row k rising at)).1) ks (all_at ks rising))

-- one booking

within_from : (g : Layout) (given : Bool) (is : List SaidItem) → AllByRecursion (IsWithin g.legs) is → AllByRecursion (LiesWithin g) (map (booked given) (map kept_item is))
within_from g given [] h = tt
within_from g given (i ∷ is) h = (record { place = h.0.place; some = h.0.some; piece = h.0.piece; legs = h.0.within }, within_from g given is h.1)

all_given : (given : Bool) (is : List Item) → AllByRecursion (λ i. i.given_back ≡ given) (map (booked given) is)
all_given given [] = tt
all_given given (i ∷ is) = (refl, all_given given is)

length-booked : (given : Bool) (is : List SaidItem) → length (map (booked given) (map kept_item is)) ≡ length is
length-booked given is = length-map (map kept_item is) (booked given) ∙ length-map is kept_item

live_unended : (ph : Phase) → is_live ph ≡ true → is_ended ph ≡ false
live_unended Prebooked t = refl
live_unended Confirmed t = refl
live_unended Fulfilled t = refl
live_unended Free t = refl
live_unended Making t = refl
live_unended (Ending kind) t = refl
live_unended (Ended kind) t = absurd (let no : false ≡ true = t in cc)

unmade : (ph : Phase) → HasLetter ph → (ph ≢ Free) × (ph ≢ Making) × (is_owners ph ≡ false)
unmade Free h = absurd (h refl)
unmade Making h = absurd (h refl)
unmade Prebooked h = ((λ e. cc), (λ e. cc), refl)
unmade Confirmed h = ((λ e. cc), (λ e. cc), refl)
unmade Fulfilled h = ((λ e. cc), (λ e. cc), refl)
unmade (Ending kind) h = absurd (h refl)
unmade (Ended kind) h = ((λ e. cc), (λ e. cc), refl)

abbrev front : KeptBooking → List ℕ
front k = 0 ∷ k.retailer ∷ k.limit ∷ k.total ∷ length k.items ∷ end_words k.phase k.end

front_long : (k : KeptBooking) → length (front k) ≡ 8
front_long k = let e = end_long k.phase k.end in omega (arith, e)

abbrev word_of : Item → ℕ
word_of i = item_word i.place i.span

booked_words : (given : Bool) (is : List Item) → map word_of is ≡ map (λ (i : BookedItem). item_word i.place i.span) (map (booked given) is)
booked_words given [] = refl
booked_words given (i ∷ is) = ap (λ ws. word_of i ∷ ws) (booked_words given is)

words_long : (k : KeptBooking) → length k.items ≤ 48 → length (opening_booking k).words ≡ 64
words_long k few =
    let all = length-append (front k) (item_words k.items) in
    let back = length-append (map word_of k.items) (replicate (56 - length k.items) 0) in
    let items = length-map k.items word_of in
    let zeros = length-replicate {A = ℕ} (56 - length k.items) 0 in
    omega (arith, few, all, back, items, zeros, front_long k)

noted_items : (k : KeptBooking) → take (length (opening_booking k).items) (drop 8 (opening_booking k).words) ≡ map (λ (i : BookedItem). item_word i.place i.span) (opening_booking k).items
noted_items k =
    let rest : drop 8 (opening_booking k).words ≡ item_words k.items = ap (λ (n : ℕ). drop n (opening_booking k).words) (sym (front_long k)) ∙ drop-append_seam (front k) (item_words k.items) in
    let many : length (opening_booking k).items ≡ length (map word_of k.items) = length-map k.items (booked (is_ended k.phase)) ∙ sym (length-map k.items word_of) in
    ap (take (length (opening_booking k).items)) rest
    ∙ (ap (λ (n : ℕ). take n (item_words k.items)) many
    ∙ (take-append_seam (map word_of k.items) (replicate (56 - length k.items) 0) ∙ booked_words (is_ended k.phase) k.items))

noted_end : (k : KeptBooking) (kind : EndKind) → k.phase ≡ Ended kind → HasEndWords kind (opening_booking k)
noted_end k kind e =
    let w = subst (λ (ph : Phase). let ws : List ℕ = (0 ∷ k.retailer ∷ k.limit ∷ k.total ∷ length k.items ∷ end_words ph k.end) ++ item_words k.items in
    (get_or ws 5 0 ≡ (end_in ph k.end).successor) × (get_or ws 6 0 ≡ amount_word kind (end_in ph k.end).amount) × (get_or ws 7 0 ≡ (end_in ph k.end).moment)) (sym e) (refl, refl, refl) in
    record { successor = w.0; amount = w.1; moment = w.2 }

module _ (legs : List ℕ) (rows : ℕ) (said : List SaidBooking) (right : AreRight legs rows said said) where
  abbrev lay : Layout
  lay = layout_with legs rows (map kept_of said)

  sound_booking : (b : SaidBooking) → IsRight legs rows said b → HasLetter b.phase → IsSoundBooking lay (opening_booking (kept_of b))
  sound_booking b is say =
      let k : KeptBooking = kept_of b in
      let long = length-booked (is_ended b.phase) b.items in
      let made = unmade b.phase say in
      let r = is.alone in
      let head = is.alone.head in
      record {
        started = made.0;
        words = words_long k (let f = r.few in omega (arith, f, length-map b.items kept_item));
        within = within_from lay (is_ended b.phase) b.items r.items;
        generation = head.generation;
        count = (let f = r.few in omega (arith, f, long));
        kept = λ live. let un : is_ended b.phase ≡ false = ⊎_elim (λ (m : b.phase ≡ Making). absurd (made.1 m)) (λ (l : is_live b.phase ≡ true). live_unended b.phase l) live in
            All-map {P = λ i. i.given_back ≡ is_ended b.phase} (λ i e. e ∙ un) (map (booked (is_ended b.phase)) k.items) (all_given (is_ended b.phase) k.items);
        sealed = λ _. record {
          some = (let s = r.some in omega (arith, s, long));
          retailer = head.retailer;
          limit = head.limit;
          total = head.total;
          count = sym (length-map k.items (booked (is_ended b.phase)));
          items = noted_items k;
        };
        ended = λ kind e. (
          All-map {P = λ i. i.given_back ≡ is_ended b.phase} (λ i g. g ∙ ap is_ended e) (map (booked (is_ended b.phase)) k.items) (all_given (is_ended b.phase) k.items),
          noted_end k kind e,
        );
      }

  right_at : (b : SaidBooking) → Contains said b → IsRight legs rows said b
  right_at b (k, below, at) = subst (IsRight legs rows said) at (All-from_recursion (IsRight legs rows said) said right k b below)

  next_in_range : (o : Option SaidRow) → IfSome o (HasLine said) → IsSuccessorIn lay (option_map_or (λ (s : SaidRow). successor_word s.row s.generation) o 0)
  next_in_range None line = inl refl
  next_in_range (Some s) line =
      let there = right_at line.0 line.1 in
      let low : line.0.row < rows = there.alone.head.row in
      let gen : line.0.generation ≤ last_generation = there.alone.head.generation in
      inr (s.row, s.generation, subst (λ (r : ℕ). r < rows) line.2 low, (let most = line.3 in omega (arith, gen, most)), refl)

  range_end : (b : SaidBooking) → IsRight legs rows said b → (ph : Phase) → HasLetter ph → ((kind : EndKind) → ph ≡ Ended kind → IsEndIn kind b.limit b.end)
      → ((end_in ph (kept_of b).end).moment ≤ last_moment) × HasAmountFor ph (end_in ph (kept_of b).end).amount × IsSuccessorIn lay (end_in ph (kept_of b).end).successor
  range_end b is (Ended kind) say end = (let e = end kind refl in (e.moment, e.amount, next_in_range b.end.successor is.successor))
  range_end b is Free say end = absurd (say refl)
  range_end b is Making say end = absurd (say refl)
  range_end b is Prebooked say end = (omega arith, refl, inl refl)
  range_end b is Confirmed say end = (omega arith, refl, inl refl)
  range_end b is Fulfilled say end = (omega arith, refl, inl refl)
  range_end b is (Ending kind) say end = absurd (say refl)

  in_range : (b : SaidBooking) → IsRight legs rows said b → HasLetter b.phase → IsInRange lay (opening_booking (kept_of b))
  in_range b is say = let e = range_end b is b.phase say is.alone.end in record { row = is.alone.head.row; moment = e.0; amount = e.1; successor = e.2 }

kept_end : SaidEnd → End
kept_end e = record { moment = e.moment; amount = e.amount; successor = option_map_or (λ (s : SaidRow). successor_word s.row s.generation) e.successor 0 }

own_end : (b : SaidBooking) (ph : Phase) → IsEndSaid ph b.end → (kept_of b).end ≡ end_in ph (kept_of b).end
unfolding kept_end
own_end b (Ended kind) is = refl
own_end b Free is = ap kept_end is
own_end b Making is = ap kept_end is
own_end b Prebooked is = ap kept_end is
own_end b Confirmed is = ap kept_end is
own_end b Fulfilled is = ap kept_end is
own_end b (Ending kind) is = ap kept_end is

-- items of live bookings are apart, also where that is only not to be denied

stable_all : {X : Type 0} (P : X → Type 0) → ((x : X) → ¬ (¬ P x) → P x) → (xs : List X) → ¬ (¬ AllByRecursion P xs) → AllByRecursion P xs
stable_all P stable [] h = tt
stable_all P stable (x ∷ xs) h = (stable x (λ no. h (λ all. no all.0)), stable_all P stable xs (λ no. h (λ all. no all.1)))

stable_pairs : {X : Type 0} (R : X → X → Type 0) → ((x y : X) → ¬ (¬ R x y) → R x y) → (xs : List X) → ¬ (¬ Pairwise R xs) → Pairwise R xs
stable_pairs R stable [] h = tt
stable_pairs R stable (x ∷ xs) h = (stable_all (R x) (stable x) xs (λ no. h (λ all. no all.0)), stable_pairs R stable xs (λ no. h (λ all. no all.1)))

pub apart_stable : (said : List SaidBooking) (place : ℕ) → ¬ (¬ IsApartAt said place) → IsApartAt said place
apart_stable said place h = stable_pairs (λ (a b : SaidBooking). is_live a.phase ≡ true → is_live b.phase ≡ true → Across (AreClearAt place) a.items b.items) (λ a b. two a b) said h
  where
    two : (a b : SaidBooking) → ¬ (¬ (is_live a.phase ≡ true → is_live b.phase ≡ true → Across (AreClearAt place) a.items b.items)) → is_live a.phase ≡ true → is_live b.phase ≡ true → Across (AreClearAt place) a.items b.items
    two a b h live_a live_b =
        stable_all (λ i. AllByRecursion (AreClearAt place i) b.items) (λ i. stable_all (AreClearAt place i) (λ j no here there meet. no (λ clear. clear here there meet)) b.items) a.items
        (λ no. h (λ across. no (across live_a live_b)))

all_places : {X : Type 0} (P : ℕ → X → Type 0) (xs : List X) → ((p : ℕ) → AllByRecursion (P p) xs) → AllByRecursion (λ x. (p : ℕ) → P p x) xs
all_places P [] h = tt
all_places P (x ∷ xs) h = ((λ p. (h p).0), all_places P xs (λ p. (h p).1))

pairs_places : {X : Type 0} (R : ℕ → X → X → Type 0) (xs : List X) → ((p : ℕ) → Pairwise (R p) xs) → Pairwise (λ x y. (p : ℕ) → R p x y) xs
pairs_places R [] h = tt
pairs_places R (x ∷ xs) h = (all_places (λ p. R p x) xs (λ p. (h p).0), pairs_places R xs (λ p. (h p).1))

pairs_map : {X : Type 0} (R S : X → X → Type 0) → ((x y : X) → R x y → S x y) → (xs : List X) → Pairwise R xs → Pairwise S xs
pairs_map R S each [] h = tt
pairs_map R S each (x ∷ xs) h = (All-map (each x) xs h.0, pairs_map R S each xs h.1)

-- of two bookings
abbrev Clear : ℕ → ℕ → SaidBooking → SaidBooking → Type 0
Clear places p a b = p < places → is_live a.phase ≡ true → is_live b.phase ≡ true → Across (AreClearAt p) a.items b.items

pairs_when : {X : Type 0} (R : X → X → Type 0) (A : Type 0) (xs : List X) → (A ⊎ ¬ A) → (A → Pairwise R xs) → Pairwise (λ x y. A → R x y) xs
pairs_when {X = X} R A xs either h = ⊎_elim
    (λ (a : A). pairs_map R (λ x y. A → R x y) (λ x y r _. r) xs (h a))
    (λ (no : ¬ A). all xs no)
    either
  where
    each : (x : X) (ys : List X) → (¬ A) → AllByRecursion (λ y. A → R x y) ys
    each x [] never = tt
    each x (y ∷ ys) never = ((λ a. absurd (never a)), each x ys never)

    all : (ys : List X) → (¬ A) → Pairwise (λ x y. A → R x y) ys
    all [] never = tt
    all (y ∷ ys) never = (each y ys never, all ys never)

within_places : (places p : ℕ) → (p < places) ⊎ ¬ (p < places)
within_places places p = ⊎_elim (λ (l : p < places). inl l) (λ (g : places ≤ p). inr (λ l. omega arith)) (cases_lt p places)

all_clear : (places : ℕ) (said : List SaidBooking) → ((p : ℕ) → p < places → IsApartAt said p) → Pairwise (λ a b. (p : ℕ) → Clear places p a b) said
all_clear places said apart = pairs_places (Clear places) said (λ p. pairs_when (λ (a b : SaidBooking). is_live a.phase ≡ true → is_live b.phase ≡ true → Across (AreClearAt p) a.items b.items) (p < places) said (within_places places p) (apart p))

-- of the items of two bookings

clear_first : (g h : Bool) (i : SaidItem) (js : List SaidItem) → (g ≡ false → h ≡ false → AllByRecursion (AreClearAt i.place i) js) → AllByRecursion (AreApart (booked g (kept_item i))) (map (booked h) (map kept_item js))
clear_first g h i [] clear = tt
clear_first g h i (j ∷ js) clear = ((λ x y same. (clear x y).0 refl (sym same)), clear_first g h i js (λ x y. (clear x y).1))

clear_items : (legs : List ℕ) (g h : Bool) (is js : List SaidItem) → AllByRecursion (IsWithin legs) is → ((p : ℕ) → p < length legs → g ≡ false → h ≡ false → Across (AreClearAt p) is js) → Across AreApart (map (booked g) (map kept_item is)) (map (booked h) (map kept_item js))
clear_items legs g h [] js within clear = tt
clear_items legs g h (i ∷ is) js within clear = (clear_first g h i js (λ x y. (clear i.place within.0.place x y).0), clear_items legs g h is js within.1 (λ p l x y. (clear p l x y).1))

clear_own : (g : Bool) (i : SaidItem) (js : List SaidItem) → AllByRecursion (AreClear i) js → AllByRecursion (AreApart (booked g (kept_item i))) (map (booked g) (map kept_item js))
clear_own g i [] h = tt
clear_own g i (j ∷ js) h = ((λ _ _. h.0), clear_own g i js h.1)

pairs_own : (g : Bool) (is : List SaidItem) → Pairwise AreClear is → Pairwise AreApart (map (booked g) (map kept_item is))
pairs_own g [] h = tt
pairs_own g (i ∷ is) h = (clear_own g i is h.0, pairs_own g is h.1)

across_none : {X : Type 0} (R : X → X → Type 0) (xs : List X) → Across R xs []
across_none R [] = tt
across_none R (x ∷ xs) = (tt, across_none R xs)

unended_live : (ph : Phase) → HasLetter ph → is_ended ph ≡ false → is_live ph ≡ true
unended_live Free h e = absurd (h refl)
unended_live Making h e = absurd (h refl)
unended_live Prebooked h e = refl
unended_live Confirmed h e = refl
unended_live Fulfilled h e = refl
unended_live (Ending kind) h e = absurd (h refl)
unended_live (Ended kind) h e = absurd (let no : true ≡ false = e in cc)

abbrev items_of : List SaidBooking → List BookedItem
items_of said = all_items (opening_of (map kept_of said))

across_all : (legs : List ℕ) (b : SaidBooking) (cs : List SaidBooking) → AllByRecursion (IsWithin legs) b.items → HasLetter b.phase → AllByRecursion IsSayable cs → AllByRecursion (λ c. (p : ℕ) → Clear (length legs) p b c) cs
    → Across AreApart (opening_booking (kept_of b)).items (items_of cs)
across_all legs b [] within letter say clear = across_none AreApart (opening_booking (kept_of b)).items
across_all legs b (c ∷ cs) within letter say clear = Across-parts AreApart (opening_booking (kept_of b)).items (opening_booking (kept_of c)).items (items_of cs)
    (clear_items legs (is_ended b.phase) (is_ended c.phase) b.items c.items within (λ p l x y. clear.0 p l (unended_live b.phase letter x) (unended_live c.phase say.0.phase y)))
    (across_all legs b cs within letter say.1 clear.1)

apart_all : (legs : List ℕ) (rows : ℕ) (bs : List SaidBooking) → AllByRecursion (IsRightAlone legs rows) bs → AllByRecursion IsSayable bs → Pairwise (λ a b. (p : ℕ) → Clear (length legs) p a b) bs → Pairwise AreApart (items_of bs)
apart_all legs rows [] right say clear = tt
apart_all legs rows (b ∷ bs) right say clear = Pairwise-append AreApart (opening_booking (kept_of b)).items (items_of bs)
    (pairs_own (is_ended b.phase) b.items right.0.apart) (apart_all legs rows bs right.1 say.1 clear.1) (across_all legs b bs right.0.items say.0.phase say.1 clear.0)

-- the whole

rising_kept : (said : List SaidBooking) → Pairwise (λ (a b : SaidBooking). a.row < b.row) said → AreRising (map kept_of said)
rising_kept [] h = tt
rising_kept (b ∷ bs) h = (All-of_map (λ (k : KeptBooking). b.row < k.row) kept_of bs h.0, rising_kept bs h.1)

pub may_open : (legs : List ℕ) (rows : ℕ) (said : List SaidBooking) → AllByRecursion IsSayable said → Pairwise (λ (a b : SaidBooking). a.row < b.row) said → AreRight legs rows said said → ((p : ℕ) → p < length legs → ¬ (¬ IsApartAt said p))
    → MayOpen legs rows (map kept_of said)
may_open legs rows said say rise right apart =
    let ks : List KeptBooking = map kept_of said in
    let rising = rising_kept said rise in
    let both : AllByRecursion (λ b. IsRight legs rows said b × IsSayable b) said = All-both {P = IsRight legs rows said} {Q = IsSayable} (λ b p q. (p, q)) said right say in
    let g : Layout = layout_with legs rows ks in
    record {
      rising = rising;
      ends = All-of_map HasOwnEnd kept_of said (All-map {P = IsSayable} (λ b is. own_end b b.phase is.end) said say);
      opening = record {
        well_formed = record {
          keys = keys_of ks rising;
          earlier = all_present ks rising;
          apart = apart_all legs rows said (All-map {P = IsRight legs rows said} (λ b is. is.alone) said right) say (all_clear (length legs) said (λ p low. apart_stable said p (apart p low)));
          each = All-of_map (IsSoundBooking g) opening_booking ks (All-of_map (λ k. IsSoundBooking g (opening_booking k)) kept_of said
              (All-map {P = λ b. IsRight legs rows said b × IsSayable b} (λ b is. sound_booking legs rows said right b is.0 is.1.phase) said both));
        };
        settled = All-of_map (λ (b : Booking). is_owners b.phase ≡ false) opening_booking ks (All-of_map (λ (k : KeptBooking). is_owners k.phase ≡ false) kept_of said
            (All-map {P = IsSayable} (λ b is. (unmade b.phase is.phase).2) said say));
        owner = All-of_map (λ (b : Booking). b.owner ≡ 0) opening_booking ks (all_first ks);
        in_range = All-of_map (IsInRange g) opening_booking ks (All-of_map (λ k. IsInRange g (opening_booking k)) kept_of said
            (All-map {P = λ b. IsRight legs rows said b × IsSayable b} (λ b is. in_range legs rows said right b is.0 is.1.phase) said both));
      };
    }
  where
    all_first : (ks : List KeptBooking) → AllByRecursion (λ k. (opening_booking k).owner ≡ 0) ks
    all_first [] = tt
    all_first (k ∷ ks) = (refl, all_first ks)
