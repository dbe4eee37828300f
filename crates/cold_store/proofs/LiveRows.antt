-- The words of the places as row after row of live bookings is added.
use Rattle.std.proofs.Common.{◌≡◌, ◌∙◌, ℕ, zero, suc, ◌+◌, ◌<◌, ◌≤◌, inr, Bool, true, false, ◌&&◌, ◌||◌, cond, IsSomeAnd, List, [], ◌∷◌, map, take, length, replicate, slice_get, refl, sym, ap, subst, Option, Some, arith}
use Rattle.std.specs.List.{AllByRecursion, filter, list_any}
use Rattle.std.specs.Option.{option_map_or}
use Rattle.std.proofs.lemmas.Bool.{le-ltb}
use Rattle.std.proofs.lemmas.List.{length-replicate, take_all}
use Rattle.leg_masks.specs.Interval.{most_legs}
use Rattle.leg_masks.specs.Interval.{PlacedSpan as Item}
use Rattle.history_model.specs.declared.booking.BookedItem.{BookedItem}
use Rattle.history_model.specs.declared.phase.Phase.{Phase}
use Rattle.history_model.specs.declared.phase.Phase.TheVariants.{Free, Making, Prebooked, Confirmed, Fulfilled, Ending, Ended}
use Rattle.history_model.specs.declared.word.Word.TheVariants.{Place}
use Rattle.history_model.specs.Booking.{Booking, State, occupies, phase_of_row}
use Rattle.history_model.specs.Laws.{LiesWithin}
use Rattle.history_model.specs.Phase.{is_live, is_sealed}
use Rattle.history_model.specs.Words.{place_number, place_word, place_words, row_word}
use Rattle.history_model.proofs.Writing.{empty_value, no_word}
use Rattle.claim_rule.specs.Openings.{placed}
use Rattle.claim_rule.specs.Walls.{WallView}
use Rattle.cold_store.specs.Exports.{AreLiveWords, HasItem, IsClosed, IsItemAt, is_live_below, state_on, with_item}
use Rattle.cold_store.proofs.ItemWords.{AreWordsBy, any_more, item_added, or_false, same_words}
use Rattle.cold_store.proofs.LiveBookings.{live_more, live_on, none_more}
use Rattle.cold_store.proofs.OpenRows.{booking_in}
use Rattle.cold_store.proofs.SealedRows.{IsSealedOn, row_items, sealed_at}
use Rattle.cold_store.proofs.WallRows.{get_placed, item_there}

-- the legs taken by the live bookings of the rows below this one, and by its own first items
abbrev pub taken_by : WallView → ℕ → ℕ → ℕ → ℕ → Bool
taken_by w row k place leg = live_on w row place leg || list_any (occupies place leg) (take k (row_items w row))

live_some : (phase : Phase) → is_live phase ≡ true → phase ≡ Free → ⊥
live_some phase live free = let e : is_live Free ≡ true = subst (λ p. is_live p ≡ true) free live in cc

live_sealed : (phase : Phase) → is_live phase ≡ true → is_sealed phase ≡ true
live_sealed Free e = cc
live_sealed Making e = cc
live_sealed Prebooked e = refl
live_sealed Confirmed e = refl
live_sealed Fulfilled e = refl
live_sealed (Ending kind) e = refl
live_sealed (Ended kind) e = cc

-- a row whose booking lives
pub record IsLiveRow (w : WallView) (row : ℕ) (b : Booking) : Type 0 where
  pub on : IsSealedOn w row b
  pub live : is_live b.phase ≡ true

pub row_lives : (w : WallView) (row : ℕ) (phase : Phase) (answer : Bool) → IsClosed w → phase ≡ phase_of_row (state_on w) row → answer ≡ is_live phase → answer ≡ true
    → (b : Booking) × IsLiveRow w row b
row_lives w row phase answer closed is test passed =
    let live : is_live phase ≡ true = sym test ∙ passed in
    let b = booking_in (state_on w) row phase (live_some phase live) is in
    let here : is_live b.0.phase ≡ true = subst (λ p. is_live p ≡ true) (sym b.2) live in
    (b.0, record { on = sealed_at w row b.0 closed b.1 (live_sealed b.0.phase here); live = here })

pub live_ends : (w : WallView) (row : ℕ) (words : List ℕ) → AreWordsBy w (live_on w row) words → AreLiveWords w row words
live_ends w row words are = record { count = are.count; each = are.each }

-- all of its items
pub live_done : (w : WallView) (row k : ℕ) (words : List ℕ) (b : Booking) → IsClosed w → IsLiveRow w row b → row_word (state_on w) row 4 ≤ k → AreWordsBy w (taken_by w row k) words → AreLiveWords w (row + 1) words
live_done w row k words b closed is all are =
    live_ends w (row + 1) words (same_words w (taken_by w row k) (live_on w (row + 1)) words same are)
  where
    items : row_items w row ≡ b.items
    items = ap (λ (o : Option Booking). option_map_or (λ (b : Booking). b.items) o []) is.on.at

    enough : length b.items ≤ k
    enough = omega (arith, all, is.on.count)

    same : (p leg : ℕ) → taken_by w row k p leg ≡ live_on w (row + 1) p leg
    same p leg =
        ap (λ xs. live_on w row p leg || list_any (occupies p leg) xs) (ap (take k) items ∙ take_all k b.items enough)
        ∙ sym (live_more w row p leg b closed is.on.at is.live)

-- a row whose booking doesn't live
pub live_skips : (w : WallView) (row : ℕ) (words : List ℕ) → IsClosed w → is_live (phase_of_row (state_on w) row) ≡ false → AreLiveWords w row words → AreLiveWords w (row + 1) words
live_skips w row words closed dead are =
    live_ends w (row + 1) words (same_words w (live_on w row) (live_on w (row + 1)) words (λ p leg. sym (none_more w row p leg closed dead)) (record { count = are.count; each = are.each }))

-- an item of such a row
at_place : (P : BookedItem → Type 0) (is : List BookedItem) (k : ℕ) (i : BookedItem) → AllByRecursion P is → slice_get is k ≡ Some i → P i
at_place P [] k i all e = absurd cc
at_place P (x ∷ xs) zero i all e = let same : x ≡ i = cc in subst P same all.0
at_place P (x ∷ xs) (suc k) i all e = at_place P xs k i all.1 e

pub record IsLiveItem (w : WallView) (k : ℕ) (b : Booking) (item : Item) (i : BookedItem) : Type 0 where
  pub is : slice_get b.items k ≡ Some i
  pub same : placed i ≡ item
  pub lies : LiesWithin w.layout i
  pub fits : i.span.to ≤ most_legs
  pub left : i.given_back ≡ false

pub live_item : (w : WallView) (row k : ℕ) (b : Booking) (item : Item) → IsClosed w → IsLiveRow w row b → HasItem w row k → IsItemAt w row k item → (i : BookedItem) × IsLiveItem w k b item i
live_item w row k b item closed is has at =
    let x = item_there w row k closed has in
    let one : x.0 ≡ b = same_booking x.0 b (sym x.2.at ∙ is.on.at) in
    let here : slice_get b.items k ≡ Some x.1 = subst (λ (c : Booking). slice_get c.items k ≡ Some x.1) one x.2.is in
    let said : slice_get (map placed b.items) k ≡ Some item = subst (λ (o : Option Booking). IsSomeAnd o (λ b. slice_get (map placed b.items) k ≡ Some item)) is.on.at at in (
      x.1,
      record {
        is = here;
        same = same_item (placed x.1) item (sym (get_placed b.items k x.1 here) ∙ said);
        lies = x.2.lies;
        fits = x.2.word.2;
        left = at_place (λ i. i.given_back ≡ false) b.items k x.1 (is.on.sound.kept (inr is.live)) here;
      },
    )
  where
    same_booking : (x y : Booking) → Some x ≡ Some y → x ≡ y
    same_booking x y e = cc

    same_item : (x y : Item) → Some x ≡ Some y → x ≡ y
    same_item x y e = cc

-- its place is one of the books
pub item_within : (w : WallView) (row k : ℕ) (b : Booking) (item : Item) → IsClosed w → IsLiveRow w row b → HasItem w row k → IsItemAt w row k item → item.place < length w.layout.legs
item_within w row k b item closed is has at =
    let x = live_item w row k b item closed is has at in
    subst (λ (i : Item). i.place < length w.layout.legs) x.1.same x.1.lies.place

-- and one item more
pub live_goes_on : (w : WallView) (row k : ℕ) (words : List ℕ) (b : Booking) (item : Item) → IsClosed w → IsLiveRow w row b → HasItem w row k → IsItemAt w row k item
    → AreWordsBy w (taken_by w row k) words → AreWordsBy w (taken_by w row (k + 1)) (with_item item words)
live_goes_on w row k words b item closed is has at are =
    subst (λ (i : Item). AreWordsBy w (taken_by w row (k + 1)) (with_item i words)) x.1.same
    (same_words w (λ p leg. taken_by w row k p leg || occupies p leg x.0) (taken_by w row (k + 1)) (with_item (placed x.0) words) same
    (item_added w (taken_by w row k) words x.0 x.1.lies x.1.fits x.1.left are))
  where
    x : (i : BookedItem) × IsLiveItem w k b item i
    x = live_item w row k b item closed is has at

    there : slice_get (row_items w row) k ≡ Some x.0
    there = ap (λ (o : Option Booking). slice_get (option_map_or (λ (b : Booking). b.items) o []) k) is.on.at ∙ x.1.is

    or_assoc : (a b c : Bool) → ((a || b) || c) ≡ (a || (b || c))
    or_assoc true b c = refl
    or_assoc false b c = refl

    same : (p leg : ℕ) → (taken_by w row k p leg || occupies p leg x.0) ≡ taken_by w row (k + 1) p leg
    same p leg =
        let next : suc k ≡ k + 1 = omega arith in
        or_assoc (live_on w row p leg) (list_any (occupies p leg) (take k (row_items w row))) (occupies p leg x.0)
        ∙ ap (λ t. live_on w row p leg || t)
        (sym (any_more (occupies p leg) (row_items w row) k x.0 there) ∙ ap (λ (n : ℕ). list_any (occupies p leg) (take n (row_items w row))) next)

-- nothing at first
none_below : (s : State) → filter (is_live_below 0) s ≡ []
none_below [] = refl
none_below (b ∷ bs) =
    let rest = none_below bs in
    let least : 0 ≤ b.row = omega arith in
    λ j. cond (le-ltb b.row 0 least j && is_live b.phase) (b ∷ filter (is_live_below 0) bs) (rest j)

pub live_none : (w : WallView) (n : ℕ) → n ≡ place_words w.layout → AreLiveWords w 0 (replicate n 0)
live_none w n e =
    record {
      count = length-replicate n 0 ∙ e;
      each = λ p h _ _. no_word n (place_number p h) ∙ sym (ap (λ (s : State). place_word s p h) (none_below (state_on w)) ∙ empty_value (Place p h));
    }
