-- Live bookings that are apart at a place, with one more.
use Rattle.std.proofs.Common.{◌≡◌, ◌≢◌, ◌⊎◌, ⊎_elim, inl, inr, ℕ, Bool, true, false, List, [], ◌∷◌, ◌++◌, map, refl, sym, ap, ◌∙◌, subst}
use Rattle.std.specs.List.{AllByRecursion, flat_map}
use Rattle.leg_masks.specs.Interval.{Meet}
use Rattle.leg_masks.specs.Interval.{PlacedSpan as Item}
use Rattle.history_model.specs.declared.booking.BookedItem.{BookedItem}
use Rattle.history_model.specs.declared.phase.Phase.{Phase}
use Rattle.history_model.specs.declared.phase.Phase.TheVariants.{Free, Making, Prebooked, Confirmed, Fulfilled, Ending, Ended}
use Rattle.history_model.specs.Allowed.{Blocks}
use Rattle.history_model.specs.Booking.{Booking, State, all_items}
use Rattle.history_model.specs.Lists.{Across, Pairwise}
use Rattle.history_model.specs.Phase.{is_ended, is_live}
use Rattle.history_model.proofs.ListLemmas.{All-both, All-map, All-of_map, All-under_map}
use Rattle.claim_rule.specs.Openings.{KeptBooking, booked, opening_booking, opening_of}
use Rattle.line_text.specs.declared.heads.SaidItem.{SaidItem}
use Rattle.cold_store.specs.Drafts.{drafted}
use Rattle.line_text.specs.Lines.{HasLetter, SaidBooking}
use Rattle.cold_store.specs.Right.{AreClearAt, IsApartAt, kept_item, span_of}
use Rattle.cold_store.proofs.Overlaps.{AreClearAt as AreFreeAt}
use Rattle.cold_store.proofs.Pairs.{Across-swap, All-joined, All-parts, Pairwise-push, Pairwise-pushed, All-each}

-- a booking with a letter lives or has ended
pub letter_cases : (phase : Phase) → HasLetter phase → ((is_live phase ≡ true) × (is_ended phase ≡ false)) ⊎ ((is_live phase ≡ false) × (is_ended phase ≡ true))
letter_cases Free h = absurd (h refl)
letter_cases Making h = absurd (h refl)
letter_cases Prebooked h = inl (refl, refl)
letter_cases Confirmed h = inl (refl, refl)
letter_cases Fulfilled h = inl (refl, refl)
letter_cases (Ending kind) h = absurd (h refl)
letter_cases (Ended kind) h = inr (refl, refl)

under : {X : Type 0} (A : Type 0) (P : X → Type 0) (xs : List X) → (A → AllByRecursion P xs) → AllByRecursion (λ x. A → P x) xs
under A P [] h = tt
under A P (x ∷ xs) h = ((λ a. (h a).0), under A P xs (λ a. (h a).1))

over : {X : Type 0} (A : Type 0) (P : X → Type 0) (xs : List X) → AllByRecursion (λ x. A → P x) xs → A → AllByRecursion P xs
over A P [] h a = tt
over A P (x ∷ xs) h a = (h.0 a, over A P xs h.1 a)

-- none of the booking's items is in the way of the item at this place
abbrev pub IsFreeOf : ℕ → List Item → BookedItem → Type 0
IsFreeOf place items j = AllByRecursion (λ (i : Item). i.place ≡ place → ¬ Blocks place i.span j) items

abbrev pub items_in : SaidBooking → List BookedItem
items_in a = map (booked (is_ended a.phase)) (map kept_item a.items)

abbrev pub state_said : List SaidBooking → State
state_said said = opening_of (map drafted said)

by_bookings : (place : ℕ) (items : List Item) (said : List SaidBooking) → AreFreeAt (all_items (state_said said)) items place → AllByRecursion (λ a. AllByRecursion (IsFreeOf place items) (items_in a)) said
by_bookings place items said h =
    let all = Across-swap (λ (i : Item) (j : BookedItem). i.place ≡ place → ¬ Blocks place i.span j) items (all_items (state_said said))
    (All-map (λ i k. under (i.place ≡ place) (λ j. ¬ Blocks place i.span j) (all_items (state_said said)) k) items h) in
    let parts = All-parts (IsFreeOf place items) (λ (x : Booking). x.items) (state_said said) all in
    All-under_map (λ (k : KeptBooking). AllByRecursion (IsFreeOf place items) (opening_booking k).items) drafted said
    (All-under_map (λ (x : Booking). AllByRecursion (IsFreeOf place items) x.items) opening_booking (map drafted said) parts)

of_bookings : (place : ℕ) (items : List Item) (said : List SaidBooking) → AllByRecursion (λ a. AllByRecursion (IsFreeOf place items) (items_in a)) said → AreFreeAt (all_items (state_said said)) items place
of_bookings place items said h =
    let parts = All-of_map (λ (x : Booking). AllByRecursion (IsFreeOf place items) x.items) opening_booking (map drafted said)
    (All-of_map (λ (k : KeptBooking). AllByRecursion (IsFreeOf place items) (opening_booking k).items) drafted said h) in
    let all = All-joined (IsFreeOf place items) (λ (x : Booking). x.items) (state_said said) parts in
    All-map (λ i k. over (i.place ≡ place) (λ j. ¬ Blocks place i.span j) (all_items (state_said said)) k) items
    (Across-swap (λ (j : BookedItem) (i : Item). i.place ≡ place → ¬ Blocks place i.span j) (all_items (state_said said)) items all)

module _ (place : ℕ) (b : SaidBooking) where
  abbrev pub IsApartFrom : SaidBooking → Type 0
  IsApartFrom a = is_live a.phase ≡ true → is_live b.phase ≡ true → Across (AreClearAt place) a.items b.items

  apart_of : (a : SaidBooking) → HasLetter a.phase → AllByRecursion (IsFreeOf place (map kept_item b.items)) (items_in a) → IsApartFrom a
  apart_of a letter h live _ = ⊎_elim
      (λ (l : (is_live a.phase ≡ true) × (is_ended a.phase ≡ false)).
      let each = All-under_map (λ (i : Item). IsFreeOf place (map kept_item b.items) (booked (is_ended a.phase) i)) kept_item a.items
      (All-under_map (IsFreeOf place (map kept_item b.items)) (booked (is_ended a.phase)) (map kept_item a.items) h) in
      All-map {P = λ (y : SaidItem). IsFreeOf place (map kept_item b.items) (booked (is_ended a.phase) (kept_item y))} {Q = λ (y : SaidItem). AllByRecursion (AreClearAt place y) b.items}
      (λ (y : SaidItem) k. All-map {P = λ (x : SaidItem). x.place ≡ place → ¬ Blocks place (span_of x) (booked (is_ended a.phase) (kept_item y))} {Q = AreClearAt place y} (λ (x : SaidItem) free at here meet. free here (l.1, at, meet)) b.items
      (All-under_map (λ (i : Item). i.place ≡ place → ¬ Blocks place i.span (booked (is_ended a.phase) (kept_item y))) kept_item b.items k)) a.items each)
      (λ (e : (is_live a.phase ≡ false) × (is_ended a.phase ≡ true)). absurd (let bad : true ≡ false = sym live ∙ e.0 in cc))
      (letter_cases a.phase letter)

  free_of : (a : SaidBooking) → is_live b.phase ≡ true → HasLetter a.phase → IsApartFrom a → AllByRecursion (IsFreeOf place (map kept_item b.items)) (items_in a)
  free_of a alive letter h =
      All-of_map (IsFreeOf place (map kept_item b.items)) (booked (is_ended a.phase)) (map kept_item a.items)
      (All-of_map (λ (i : Item). IsFreeOf place (map kept_item b.items) (booked (is_ended a.phase) i)) kept_item a.items
      (⊎_elim
      (λ (l : (is_live a.phase ≡ true) × (is_ended a.phase ≡ false)).
      All-map {P = λ (y : SaidItem). AllByRecursion (AreClearAt place y) b.items} {Q = λ (y : SaidItem). IsFreeOf place (map kept_item b.items) (booked (is_ended a.phase) (kept_item y))}
      (λ (y : SaidItem) k. All-of_map (λ (i : Item). i.place ≡ place → ¬ Blocks place i.span (booked (is_ended a.phase) (kept_item y))) kept_item b.items
      (All-map {P = AreClearAt place y} {Q = λ (x : SaidItem). x.place ≡ place → ¬ Blocks place (span_of x) (booked (is_ended a.phase) (kept_item y))} (λ (x : SaidItem) clear here blocks. clear blocks.1 here blocks.2) b.items k)) a.items (h l.0 alive))
      (λ (e : (is_live a.phase ≡ false) × (is_ended a.phase ≡ true)).
      All-each (λ (y : SaidItem). IsFreeOf place (map kept_item b.items) (booked (is_ended a.phase) (kept_item y)))
      (λ y. All-each (λ (i : Item). i.place ≡ place → ¬ Blocks place i.span (booked (is_ended a.phase) (kept_item y)))
      (λ i here blocks. let bad : true ≡ false = sym e.1 ∙ blocks.0 in cc) (map kept_item b.items)) a.items)
      (letter_cases a.phase letter)))

  -- with one live booking more
  pub apart-more : (said : List SaidBooking) → AllByRecursion (λ (a : SaidBooking). HasLetter a.phase) said
      → IsApartAt said place × AreFreeAt (all_items (state_said said)) (map kept_item b.items) place → IsApartAt (said ++ b ∷ []) place
  apart-more said letters h =
      Pairwise-push (λ (x y : SaidBooking). is_live x.phase ≡ true → is_live y.phase ≡ true → Across (AreClearAt place) x.items y.items) said b h.0
      (All-both (λ a letter free. apart_of a letter free) said letters (by_bookings place (map kept_item b.items) said h.1))

  pub more-apart : (said : List SaidBooking) → AllByRecursion (λ (a : SaidBooking). HasLetter a.phase) said → is_live b.phase ≡ true
      → IsApartAt (said ++ b ∷ []) place → IsApartAt said place × AreFreeAt (all_items (state_said said)) (map kept_item b.items) place
  more-apart said letters alive h =
      let parts = Pairwise-pushed (λ (x y : SaidBooking). is_live x.phase ≡ true → is_live y.phase ≡ true → Across (AreClearAt place) x.items y.items) said b h in
      (parts.0, of_bookings place (map kept_item b.items) said (All-both (λ a letter apart. free_of a alive letter apart) said letters parts.1))

  -- with one that has ended
  pub apart-ended : (said : List SaidBooking) → is_live b.phase ≡ false → IsApartAt said place → IsApartAt (said ++ b ∷ []) place
  apart-ended said dead h =
      Pairwise-push (λ (x y : SaidBooking). is_live x.phase ≡ true → is_live y.phase ≡ true → Across (AreClearAt place) x.items y.items) said b h
      (All-each (λ a. IsApartFrom a) (λ a _ alive. absurd (let bad : true ≡ false = sym alive ∙ dead in cc)) said)

  pub ended-apart : (said : List SaidBooking) → IsApartAt (said ++ b ∷ []) place → IsApartAt said place
  ended-apart said h = (Pairwise-pushed (λ (x y : SaidBooking). is_live x.phase ≡ true → is_live y.phase ≡ true → Across (AreClearAt place) x.items y.items) said b h).0
