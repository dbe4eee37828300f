-- A draft with one right booking more.
use Rattle.std.proofs.Common.{◌≡◌, ◌≢◌, ◌⊎◌, ⊎_elim, ℕ, ◌+◌, ◌*◌, ◌<◌, ◌≤◌, Bool, true, false, not, ◌&&◌, ◌||◌, cond, nat_eq, List, [], ◌∷◌, ◌++◌, length, map, append-nil, get_or, refl, sym, ap, ◌∙◌, subst, arith}
use Rattle.std.specs.List.{AllByRecursion, flat_map, list_any}
use Rattle.std.proofs.lemmas.List.{map-append}
use Rattle.leg_masks.specs.Interval.{IsPiece, has_leg}
use Rattle.leg_masks.specs.Interval.{PlacedSpan as Item}
use Rattle.history_model.specs.declared.booking.BookedItem.{BookedItem}
use Rattle.history_model.specs.declared.word.Word.{Word}
use Rattle.history_model.specs.declared.word.Word.TheVariants.{Place, Row}
use Rattle.history_model.specs.Booking.{Booking, State, all_items, is_occupied, occupies}
use Rattle.history_model.specs.Lists.{Pairwise}
use Rattle.history_model.specs.Phase.{is_ended, is_live}
use Rattle.history_model.specs.Words.{AreWordsOf, IsWord, index, place_number, place_word, value}
use Rattle.history_model.proofs.Bits.{place_word-same}
use Rattle.history_model.proofs.Items.{any-append}
use Rattle.history_model.proofs.ListLemmas.{All-append, All-both, All-map, All-of_map, flat_map-append}
use Rattle.claim_rule.specs.Openings.{KeptBooking, booked, layout_with, opening_booking, opening_of}
use Rattle.line_text.specs.declared.heads.SaidItem.{SaidItem}
use Rattle.cold_store.specs.Drafts.{DraftView, IsDrafted, NoneMeet, MeetsItem, drafted, first_word_of, put, with_items, with_taken, with_words, words_of_line}
use Rattle.line_text.specs.Lines.{HasLetter, SaidBooking}
use Rattle.cold_store.specs.Right.{AreClear, IsApartAt, IsRightAlone, IsWithin, head_of, kept_item}
use Rattle.cold_store.proofs.Apart.{apart-ended, apart-more, ended-apart, letter_cases, more-apart, state_said}
use Rattle.cold_store.proofs.LineWords.{length-words, row-put, said_words}
use Rattle.cold_store.proofs.Overlaps.{AreClearAt as AreFreeAt, IsIn, IsLeastBad, Taken, behind-taken, least-kept, taken-all}
use Rattle.cold_store.proofs.Pairs.{Pairwise-of_map, Pairwise-weaker}
use Rattle.cold_store.proofs.PlaceBits.{IsFit, holder, left, word-holder}
use Rattle.cold_store.proofs.Presents.{OtherRows}
use Rattle.cold_store.proofs.Puts.{length-put, put-before}
use Rattle.cold_store.proofs.Taking.{taken-keeps}

-- items that a right booking says don't meet
pub none_meet : (said : List SaidItem) → Pairwise AreClear said → NoneMeet (map kept_item said)
none_meet said apart =
    Pairwise-of_map (λ (i j : Item). ¬ MeetsItem i j) kept_item said
    (Pairwise-weaker AreClear (λ i j. ¬ MeetsItem (kept_item i) (kept_item j)) (λ i j clear meets. clear (sym meets.0) (meets.1.0, meets.1.2, meets.1.1)) said apart)

-- an item of an ended booking occupies nothing
none_occupied : (items : List Item) (place leg : ℕ) → list_any (occupies place leg) (map (booked true) items) ≡ false
none_occupied [] place leg = refl
none_occupied (i ∷ is) place leg = rw (and_none (nat_eq i.place place), none_occupied is place leg) refl
  where
    and_none : (a : Bool) → (a && false) ≡ false
    and_none true = refl
    and_none false = refl

or_false : (a : Bool) → (a || false) ≡ a
or_false true = refl
or_false false = refl

pub state-more : (said : List SaidBooking) (b : SaidBooking) → state_said (said ++ b ∷ []) ≡ state_said said ++ opening_booking (drafted b) ∷ []
state-more said b = ap opening_of (map-append drafted said (b ∷ [])) ∙ map-append opening_booking (map drafted said) (drafted b ∷ [])

items-more : (s : State) (x : Booking) → all_items (s ++ x ∷ []) ≡ all_items s ++ x.items
items-more s x = flat_map-append (λ (y : Booking). y.items) s (x ∷ []) ∙ ap (λ (is : List BookedItem). all_items s ++ is) (append-nil x.items)

module _ (legs : List ℕ) (rows : ℕ) (said : List SaidBooking) (d : DraftView) (b : SaidBooking) (was : IsDrafted legs rows said d)
    (places : d.places ≡ length legs) (others : AllByRecursion (λ (a : SaidBooking). a.row ≢ b.row) said) (letter : HasLetter b.phase) (right : IsRightAlone legs rows b) where
  abbrev old : State
  old = state_said said

  abbrev one : Booking
  one = opening_booking (drafted b)

  abbrev items : List Item
  items = map kept_item b.items

  -- with the words of the line
  abbrev written : DraftView
  written = with_words d b.row (said_words b)

  other_rows : OtherRows b.row old
  other_rows = All-of_map (λ (x : Booking). x.row ≢ b.row) opening_booking (map drafted said) (All-of_map (λ (k : KeptBooking). k.row ≢ b.row) drafted said others)

  first_is : first_word_of d b.row ≡ 2 * length legs + 64 * b.row
  first_is = ap (λ (n : ℕ). 2 * n + 64 * b.row) places

  -- the words of the rows
  rows_written : (q w : ℕ) → q < rows → w < 64 → get_or written.words (2 * length legs + (64 * q + w)) 0 ≡ value (old ++ one ∷ []) (Row q w)
  rows_written q w l k =
      ap (λ (n : ℕ). get_or (put d.words n (said_words b)) (2 * length legs + (64 * q + w)) 0) first_is
      ∙ row-put old b other_rows d.words (length legs) rows was.are.length_is right.few right.head.row (λ q w l k. was.are.each (Row q w) (l, k)) q w l k

  places_written : (q h : ℕ) → q < length legs → h < 2 → get_or written.words (place_number q h) 0 ≡ place_word old q h
  places_written q h l k =
      let at = first_is in
      put-before d.words (first_word_of d b.row) (said_words b) (place_number q h) (let below : place_number q h < 2 * length legs + 64 * b.row = omega arith in subst (λ (n : ℕ). place_number q h < n) (sym at) below)
      ∙ was.are.each (Place q h) (l, k)

  count_written : length written.words ≡ 2 * length legs + 64 * rows
  count_written = length-put d.words (first_word_of d b.row) (said_words b) ∙ was.are.length_is

  was_least : IsLeastBad (length legs) (IsApartAt said) d.overlap
  was_least = record { some = was.overlap; none = was.none }

  words_of : (words : List ℕ) → length words ≡ 2 * length legs + 64 * rows
      → ((q h : ℕ) → q < length legs → h < 2 → get_or words (place_number q h) 0 ≡ place_word (old ++ one ∷ []) q h)
      → ((q w : ℕ) → q < rows → w < 64 → get_or words (2 * length legs + (64 * q + w)) 0 ≡ value (old ++ one ∷ []) (Row q w))
      → AreWordsOf (layout_with legs rows (map drafted (said ++ b ∷ []))) (state_said (said ++ b ∷ [])) words
  words_of words count at_places at_rows =
      subst (λ (s : State). AreWordsOf (layout_with legs rows (map drafted (said ++ b ∷ []))) s words) (sym (state-more said b)) (record { length_is = count; each = each })
    where
      each : (a : Word) → IsWord (layout_with legs rows (map drafted (said ++ b ∷ []))) a → get_or words (index (layout_with legs rows (map drafted (said ++ b ∷ []))) a) 0 ≡ value (old ++ one ∷ []) a
      each (Place q h) is = at_places q h is.0 is.1
      each (Row q w) is = at_rows q w is.0 is.1

  drafted_all : (e : DraftView) → AreWordsOf (layout_with legs rows (map drafted (said ++ b ∷ []))) (state_said (said ++ b ∷ [])) e.words → IsLeastBad (length legs) (IsApartAt (said ++ b ∷ [])) e.overlap
      → IsDrafted legs rows (said ++ b ∷ []) e
  drafted_all e are least =
      record {
        letters = All-append (λ (x : SaidBooking). HasLetter x.phase) said (b ∷ []) was.letters (letter, tt);
        right = All-append (IsRightAlone legs rows) said (b ∷ []) was.right (right, tt);
        are = are;
        overlap = least.some;
        none = least.none;
      }

  -- an ended booking takes nothing
  ended_word : is_ended b.phase ≡ true → (q h : ℕ) → place_word (old ++ one ∷ []) q h ≡ place_word old q h
  ended_word ended q h = place_word-same old (old ++ one ∷ []) q h
      (λ leg. ap (list_any (occupies q leg)) (items-more old one)
      ∙ (any-append (occupies q leg) (all_items old) one.items
      ∙ (ap (λ (t : Bool). list_any (occupies q leg) (all_items old) || list_any (occupies q leg) (map (booked t) items)) ended
      ∙ (ap (λ (t : Bool). list_any (occupies q leg) (all_items old) || t) (none_occupied items q leg) ∙ or_false (is_occupied old q leg)))))

  ended_more : is_live b.phase ≡ false → is_ended b.phase ≡ true → IsDrafted legs rows (said ++ b ∷ []) written
  ended_more dead ended =
      drafted_all written
      (words_of written.words count_written (λ q h l k. places_written q h l k ∙ sym (ended_word ended q h)) rows_written)
      (least-kept (length legs) (IsApartAt said) (IsApartAt (said ++ b ∷ [])) d.overlap (λ n l h. apart-ended n b said dead h) (λ n h. ended-apart n b said h) was_least)

  -- a live one takes its items
  live_word : is_ended b.phase ≡ false → (q h : ℕ) → place_word (old ++ one ∷ []) q h ≡ place_word (holder (all_items old ++ map left items)) q h
  live_word unended q h =
      word-holder (old ++ one ∷ []) q h
      ∙ ap (λ (is : List BookedItem). place_word (holder is) q h) (items-more old one ∙ ap (λ (t : Bool). all_items old ++ map (booked t) items) unended)

  live_more : is_live b.phase ≡ true → is_ended b.phase ≡ false → AllByRecursion (λ (i : Item). i.span.to ≤ 126) items → IsDrafted legs rows (said ++ b ∷ []) (with_taken written items)
  live_more alive unended spans =
      let in_ : AllByRecursion (IsIn (length legs)) items =
      All-both {P = λ (i : Item). i.span.to ≤ 126} {Q = λ (i : Item). (i.place < length legs) × (i.span.from < i.span.to) × IsPiece i.span}
      (λ i to w. record { place = w.0; fit = record { some = w.1; most = to; piece = w.2 } }) items spans
      (All-of_map (λ (i : Item). (i.place < length legs) × (i.span.from < i.span.to) × IsPiece i.span) kept_item b.items (All-map (λ i w. (w.place, w.some, w.piece)) b.items right.items)) in
      let taken = taken-all (length legs) (IsApartAt said) (all_items old) [] items written in_ (none_meet b.items right.apart) (record {
        shows = record { each = λ q h l k. places_written q h l k ∙ (word-holder old q h ∙ ap (λ (is : List BookedItem). place_word (holder is) q h) (sym (append-nil (all_items old)))) };
        least = least-kept (length legs) (IsApartAt said) (λ p. IsApartAt said p × AreFreeAt (all_items old) [] p) d.overlap (λ n l h. (h, tt)) (λ n h. h.0) was_least;
        long = let c = count_written in omega arith;
      }) in
      drafted_all (with_taken written items)
      (words_of (with_taken written items).words ((taken-keeps written items).count ∙ count_written)
      (λ q h l k. taken.shows.each q h l k ∙ sym (live_word unended q h))
      (λ q w l k. behind-taken (length legs) items written (2 * length legs + (64 * q + w)) in_ (omega arith) ∙ rows_written q w l k))
      (least-kept (length legs) (λ p. IsApartAt said p × AreFreeAt (all_items old) items p) (IsApartAt (said ++ b ∷ [])) (with_taken written items).overlap
      (λ n l h. apart-more n b said was.letters h) (λ n h. more-apart n b said was.letters alive h) taken.least)

  pub drafted-more : (is_live b.phase ≡ true → AllByRecursion (λ (i : Item). i.span.to ≤ 126) items) → IsDrafted legs rows (said ++ b ∷ []) (with_items d (head_of b) b.end items)
  drafted-more spans = ⊎_elim
      (λ (l : (is_live b.phase ≡ true) × (is_ended b.phase ≡ false)). subst (λ (t : Bool). IsDrafted legs rows (said ++ b ∷ []) (cond t (with_taken written items) written)) (sym l.0) (live_more l.0 l.1 (spans l.0)))
      (λ (e : (is_live b.phase ≡ false) × (is_ended b.phase ≡ true)). subst (λ (t : Bool). IsDrafted legs rows (said ++ b ∷ []) (cond t (with_taken written items) written)) (sym e.0) (ended_more e.0 e.1))
      (letter_cases b.phase letter)
