-- The list of the bookings that an opening keeps follows from its words.
use Rattle.std.proofs.Common.{◌≡◌, ◌≢◌, ℕ, suc, ◌+◌, ◌<◌, ◌≤◌, ◌==◌, ℤ, pos, negsuc, Bool, false, cond, List, [], ◌∷◌, ◌++◌, map, length, get_or, replicate, All, Option, Some, None, refl, sym, ap, ◌∙◌, subst, arith, ◌-◌}
use Rattle.std.specs.List.{AllByRecursion}
use Rattle.std.specs.Option.{option_map_or}
use Rattle.std.proofs.lemmas.List.{get_or-append-add, get_or_append_left, length-map}
use Rattle.std.proofs.lemmas.Bool.{eqb-true, ne_eqb}
use Rattle.leg_masks.specs.Interval.{item_word, most_legs}
use Rattle.leg_masks.specs.Interval.{PlacedSpan as Item}
use Rattle.leg_masks.proofs.Items.{one_item}
use Rattle.history_model.specs.declared.booking.End.{End}
use Rattle.history_model.specs.declared.phase.Phase.{Phase}
use Rattle.history_model.specs.declared.phase.Phase.TheVariants.{Free, Making, Prebooked, Confirmed, Fulfilled, Ending, Ended}
use Rattle.history_model.specs.declared.phase.EndKind.{EndKind}
use Rattle.history_model.specs.declared.phase.EndKind.TheVariants.{Release, Expire, Refund, Exchange}
use Rattle.history_model.specs.declared.word.Word.TheVariants.{Row}
use Rattle.history_model.specs.Phase.{is_ended, row_word_of}
use Rattle.history_model.specs.Booking.{Booking, Layout, amount_word, word_at}
use Rattle.history_model.specs.Allowed.{IsAmountOf}
use Rattle.history_model.specs.Laws.{HasAmountFor, IsInRange, IsSound, LiesWithin}
use Rattle.history_model.specs.Words.{row_word}
use Rattle.history_model.proofs.ListLemmas.{All-found, All-map, All-under_map, split}
use Rattle.history_model.proofs.PhaseWords.{row_word_same}
use Rattle.claim_rule.specs.Openings.{KeptBooking, MayOpen, OpensWith, AreRising, HasOwnEnd, booked, end_in, end_words, item_words, layout_with, opening_booking, opening_of}
use Rattle.claim_rule.proofs.OpeningKept.{IsSettled, all_settled, at_row, kept_at, present_found, present_none, rising_read, rows_within}

-- items

-- the item has a leg, and none past the greatest
abbrev Fits : Item → Type 0
Fits i = (i.span.from < i.span.to) × (i.span.to ≤ most_legs)

abbrev word_of : Item → ℕ
word_of i = item_word i.place i.span

same_item : (i j : Item) → Fits i → Fits j → word_of i ≡ word_of j → i ≡ j
same_item i j f h e =
    let s = one_item i.place j.place i.span j.span f.0 f.1 h.0 h.1 e in λ k. record { place = s.0 k; span = s.1 k }

same_items : (is js : List Item) → AllByRecursion Fits is → AllByRecursion Fits js → length is ≡ length js
    → ((n : ℕ) → n < length is → get_or (map word_of is) n 0 ≡ get_or (map word_of js) n 0) → is ≡ js
same_items [] [] f h long each = refl
same_items [] (j ∷ js) f h long each = absurd (omega arith)
same_items (i ∷ is) [] f h long each = absurd (omega arith)
same_items (i ∷ is) (j ∷ js) f h long each =
    let first = same_item i j f.0 h.0 (each 0 (omega arith)) in
    let rest = same_items is js f.1 h.1 (omega arith) (λ n l. each (suc n) (omega arith)) in
    ap (λ (k : Item). k ∷ is) first ∙ ap (λ ks. j ∷ ks) rest

-- each place has legs, and none past the greatest
abbrev AllLegs : List ℕ → Type 0
AllLegs legs = All (λ n. (0 < n) × (n ≤ most_legs)) legs

all_fit : (g : Layout) → AllLegs g.legs → (given : Bool) (items : List Item) → AllByRecursion (LiesWithin g) (map (booked given) items) → AllByRecursion Fits items
all_fit g legs given items within = All-map {P = λ i. LiesWithin g (booked given i)}
    (λ i lies. let most = (legs i.place 0 lies.place).1 in let end = lies.legs in (lies.some, let fits : i.span.to ≤ most_legs = omega (arith, most, end) in fits)) items
    (All-under_map (LiesWithin g) (booked given) items within)

-- ends

same_amount : (kind : EndKind) (a b : ℤ) → IsAmountOf kind a → IsAmountOf kind b → amount_word kind a ≡ amount_word kind b → a ≡ b
same_amount Release a b p q e = p ∙ sym q
same_amount Expire a b p q e = p ∙ sym q
same_amount Refund (pos m) (pos n) p q e = ap pos e
same_amount Refund (negsuc m) b p q e = absurd (omega (arith, p.0))
same_amount Refund (pos m) (negsuc n) p q e = absurd (omega (arith, q.0))
same_amount Exchange (pos m) (pos n) p q e = let s : m ≡ n = omega arith in ap pos s
same_amount Exchange (negsuc m) (negsuc n) p q e = let s : m ≡ n = omega arith in ap negsuc s
same_amount Exchange (pos m) (negsuc n) p q e = absurd (omega arith)
same_amount Exchange (negsuc m) (pos n) p q e = absurd (omega arith)

same_end : (ph : Phase) (d e : End) → HasAmountFor ph (end_in ph d).amount → HasAmountFor ph (end_in ph e).amount → ((n : ℕ) → n < 3 → get_or (end_words ph d) n 0 ≡ get_or (end_words ph e) n 0) → end_in ph d ≡ end_in ph e
same_end Free d e p q each = refl
same_end Making d e p q each = refl
same_end Prebooked d e p q each = refl
same_end Confirmed d e p q each = refl
same_end Fulfilled d e p q each = refl
same_end (Ending kind) d e p q each = refl
same_end (Ended kind) d e p q each = λ i. record {
  moment = each 2 (omega arith) i;
  amount = same_amount kind d.amount e.amount p q (each 1 (omega arith)) i;
  successor = each 0 (omega arith) i;
}

pub end_long : (ph : Phase) (e : End) → length (end_words ph e) ≡ 3
end_long Free e = refl
end_long Making e = refl
end_long Prebooked e = refl
end_long Confirmed e = refl
end_long Fulfilled e = refl
end_long (Ending kind) e = refl
end_long (Ended kind) e = refl

-- one booking

-- word w of the row of a kept booking
abbrev shown : KeptBooking → ℕ → ℕ
shown k w = cond (w == 0) (row_word_of k.phase k.generation) (word_at (opening_booking k) w)

-- what holds of a booking that opens
record Opens (g : Layout) (k : KeptBooking) : Type 0 where
  settled : IsSettled k.phase
  own : HasOwnEnd k
  sound : IsSound g (opening_booking k)
  range : IsInRange g (opening_booking k)

first_words : KeptBooking → List ℕ
first_words k = 0 ∷ k.retailer ∷ k.limit ∷ k.total ∷ length k.items ∷ end_words k.phase k.end

first_long : (k : KeptBooking) → length (first_words k) ≡ 8
unfolding first_words
first_long k = let e = end_long k.phase k.end in omega (arith, e)

-- the words of the end
end_word : (k : KeptBooking) (n : ℕ) → n < 3 → get_or (opening_booking k).words (5 + n) 0 ≡ get_or (end_words k.phase k.end) n 0
end_word k n l =
    let five : List ℕ = 0 ∷ k.retailer ∷ k.limit ∷ k.total ∷ length k.items ∷ [] in
    let long = end_long k.phase k.end in
    get_or-append-add five (end_words k.phase k.end ++ item_words k.items) n 0
    ∙ get_or_append_left (end_words k.phase k.end) (item_words k.items) 0 n (omega (arith, long))

-- the word of an item
item_at : (k : KeptBooking) (n : ℕ) → n < length k.items → get_or (opening_booking k).words (8 + n) 0 ≡ get_or (map word_of k.items) n 0
unfolding first_words
item_at k n l =
    ap (λ (m : ℕ). get_or (first_words k ++ item_words k.items) (m + n) 0) (sym (first_long k))
    ∙ (get_or-append-add (first_words k) (item_words k.items) n 0
    ∙ get_or_append_left (map word_of k.items) (replicate (56 - length k.items) 0) 0 n (omega (arith, length-map k.items word_of)))

module _ (g h : Layout) (legs : AllLegs g.legs) (legs' : AllLegs h.legs) (j k : KeptBooking) (p : Opens g j) (q : Opens h k) (same : (w : ℕ) → w < 64 → shown j w ≡ shown k w) where
  later : (w : ℕ) → 0 < w → w < 64 → get_or (opening_booking j).words w 0 ≡ get_or (opening_booking k).words w 0
  later w some l =
      let no : (w == 0) ≡ false = ne_eqb w 0 (λ e. omega (arith, some, e)) in
      sym (ap (λ t. cond t (row_word_of j.phase j.generation) (word_at (opening_booking j) w)) no)
      ∙ (same w l ∙ ap (λ t. cond t (row_word_of k.phase k.generation) (word_at (opening_booking k) w)) no)

  head : (j.phase ≡ k.phase) × (j.generation ≡ k.generation)
  head = row_word_same j.phase k.phase j.generation k.generation (same 0 (omega arith))

  count : length j.items ≡ length k.items
  count = later 4 (omega arith) (omega arith)

  items : j.items ≡ k.items
  items =
      let few : length j.items ≤ 48 = let c = p.sound.count in omega (arith, c, length-map j.items (booked (is_ended j.phase))) in
      same_items j.items k.items (all_fit g legs (is_ended j.phase) j.items p.sound.within) (all_fit h legs' (is_ended k.phase) k.items q.sound.within) count
      (λ n l. sym (item_at j n l) ∙ (later (8 + n) (omega arith) (omega arith) ∙ item_at k n (let c = count in omega (arith, c, l))))

  end : j.end ≡ k.end
  end =
      let phase = head.0 in
      let words : (n : ℕ) → n < 3 → get_or (end_words j.phase j.end) n 0 ≡ get_or (end_words j.phase k.end) n 0 = λ n l. sym (end_word j n l)
      ∙ (later (5 + n) (omega arith) (omega arith) ∙ (end_word k n l ∙ ap (λ (ph : Phase). get_or (end_words ph k.end) n 0) (sym phase))) in
      let amount : HasAmountFor j.phase (end_in j.phase k.end).amount = subst (λ (ph : Phase). HasAmountFor ph (end_in ph k.end).amount) (sym phase) q.range.amount in
      p.own ∙ (same_end j.phase j.end k.end p.range.amount amount words ∙ (ap (λ (ph : Phase). end_in ph k.end) phase ∙ sym q.own))

  same_kept : j.row ≡ k.row → j ≡ k
  same_kept row = λ i. record {
    row = row i;
    generation = head.1 i;
    phase = head.0 i;
    retailer = later 1 (omega arith) (omega arith) i;
    limit = later 2 (omega arith) (omega arith) i;
    total = later 3 (omega arith) (omega arith) i;
    items = items i;
    end = end i;
  }

-- the list

all_open : (legs : List ℕ) (rows : ℕ) (kept : List KeptBooking) → MayOpen legs rows kept → (row : ℕ) (k : KeptBooking) → kept_at kept row ≡ Some k → Opens (layout_with legs rows kept) k
all_open legs rows kept may row k e = record {
  settled = All-found (λ k. IsSettled k.phase) (at_row row) kept k e (all_settled legs rows kept may);
  own = All-found HasOwnEnd (at_row row) kept k e may.ends;
  sound = All-found (λ k. IsSound (layout_with legs rows kept) (opening_booking k)) (at_row row) kept k e
      (All-under_map (IsSound (layout_with legs rows kept)) opening_booking kept may.opening.well_formed.each);
  range = All-found (λ k. IsInRange (layout_with legs rows kept) (opening_booking k)) (at_row row) kept k e
      (All-under_map (IsInRange (layout_with legs rows kept)) opening_booking kept may.opening.in_range);
}

-- a booking's own word 0 isn't 0
some_word : (ph : Phase) (generation : ℕ) → ph ≢ Free → row_word_of ph generation ≡ 0 → ⊥
some_word Free n s e = s refl
some_word Making n s e = omega arith
some_word Prebooked n s e = omega arith
some_word Confirmed n s e = omega arith
some_word Fulfilled n s e = omega arith
some_word (Ending Release) n s e = omega arith
some_word (Ending Expire) n s e = omega arith
some_word (Ending Refund) n s e = omega arith
some_word (Ending Exchange) n s e = omega arith
some_word (Ended Release) n s e = omega arith
some_word (Ended Expire) n s e = omega arith
some_word (Ended Refund) n s e = omega arith
some_word (Ended Exchange) n s e = omega arith

word_of_booking : ℕ → Booking → ℕ
word_of_booking w b = cond (w == 0) (row_word_of b.phase b.generation) (word_at b w)

word_none : (kept : List KeptBooking) → AreRising kept → (row w : ℕ) → kept_at kept row ≡ None → row_word (opening_of kept) row w ≡ 0
unfolding word_of_booking
word_none kept rising row w e = ap (λ o. option_map_or (word_of_booking w) o 0) (present_none kept row rising e)

word_some : (kept : List KeptBooking) → AreRising kept → (row w : ℕ) (k : KeptBooking) → kept_at kept row ≡ Some k → row_word (opening_of kept) row w ≡ shown k w
unfolding word_of_booking
word_some kept rising row w k e = ap (λ o. option_map_or (word_of_booking w) o 0) (present_found kept row k rising e)

found_row : (kept : List KeptBooking) (row : ℕ) (k : KeptBooking) → kept_at kept row ≡ Some k → k.row ≡ row
found_row kept row k e = eqb-true k.row row (split (at_row row) kept k e).passes

module _ (legs : List ℕ) (rows : ℕ) (fit : AllLegs legs) (words : List ℕ) (a b : List KeptBooking) (p : OpensWith legs rows words a) (q : OpensWith legs rows words b) where
  shows_same : (row w : ℕ) → row < rows → w < 64 → row_word (opening_of a) row w ≡ row_word (opening_of b) row w
  shows_same row w r l = sym (p.are.each (Row row w) (r, l)) ∙ q.are.each (Row row w) (r, l)

  row_same : (row : ℕ) → row < rows → kept_at b row ≡ kept_at a row
  row_same row r = go (kept_at a row) (kept_at b row) refl refl
    where
      go : (o u : Option KeptBooking) → kept_at a row ≡ o → kept_at b row ≡ u → kept_at b row ≡ kept_at a row
      go None None e f = f ∙ sym e
      go (Some j) None e f = absurd (some_word j.phase j.generation (all_open legs rows a p.may row j e).settled.0
          (sym (word_some a p.may.rising row 0 j e) ∙ (shows_same row 0 r (omega arith) ∙ word_none b q.may.rising row 0 f)))
      go None (Some k) e f = absurd (some_word k.phase k.generation (all_open legs rows b q.may row k f).settled.0
          (sym (word_some b q.may.rising row 0 k f) ∙ (sym (shows_same row 0 r (omega arith)) ∙ word_none a p.may.rising row 0 e)))
      go (Some j) (Some k) e f = f ∙ (ap Some (sym (same_kept (layout_with legs rows a) (layout_with legs rows b) fit fit j k (all_open legs rows a p.may row j e) (all_open legs rows b q.may row k f)
          (λ w l. sym (word_some a p.may.rising row w j e) ∙ (shows_same row w r l ∙ word_some b q.may.rising row w k f))
          (found_row a row j e ∙ sym (found_row b row k f)))) ∙ sym e)

  one : a ≡ b
  one =
      sym (rising_read (kept_at b) a 0 rows p.may.rising (rows_within legs rows a p.may) (λ row lo hi. row_same row (omega arith)))
      ∙ rising_read (kept_at b) b 0 rows q.may.rising (rows_within legs rows b q.may) (λ row lo hi. refl)

pub one_opening : (legs : List ℕ) (rows : ℕ) (words : List ℕ) (a b : List KeptBooking) → All (λ n. (0 < n) × (n ≤ most_legs)) legs → OpensWith legs rows words a → OpensWith legs rows words b → a ≡ b
one_opening legs rows words a b fit p q = one legs rows fit words a b p q
