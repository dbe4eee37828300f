-- What a host begins with whose books open with bookings.
use Rattle.std.proofs.Common.{◌≡◌, ◌≢◌, ℕ, ◌+◌, ◌-◌, ◌<◌, max, Bool, true, false, List, [], ◌∷◌, map, filter, find, Option, Some, None, refl, ap, ◌∙◌, arith}
use Rattle.std.specs.List.{AllByRecursion}
use Rattle.std.proofs.lemmas.Bool.{eq-eqb, ne_eqb}
use Rattle.leg_masks.specs.Interval.{PlacedSpan as Item}
use Rattle.history_model.specs.declared.booking.End.{End}
use Rattle.history_model.specs.declared.phase.Phase.{Phase}
use Rattle.history_model.specs.declared.phase.Phase.TheVariants.{Free, Making, Prebooked, Confirmed, Fulfilled, Ending, Ended}
use Rattle.history_model.specs.Lists.{Pairwise}
use Rattle.history_model.specs.Phase.{is_ended, is_sealed}
use Rattle.history_model.specs.Booking.{Booking, State, key_of, next_in, stands_in}
use Rattle.history_model.specs.Laws.{IsSound, is_owners}
use Rattle.history_model.proofs.ListLemmas.{All-both, All-map}
use Rattle.claim_rule.specs.Openings.{KeptBooking, MayOpen, booked, opening_booking, opening_of, layout_with}
use Rattle.claim_rule.specs.Openings.{end_in as kept_end}
use Rattle.plain_host.specs.PlainOf.{end_in, is_in_making, is_standing, item_of, plain_in, plain_kept, row_of, standing_kept, standing_of}

items_kept : (given : Bool) (items : List Item) → map item_of (map (booked given) items) ≡ items
items_kept given [] = refl
items_kept given (i ∷ is) = ap (λ (l : List Item). i ∷ l) (items_kept given is)

end_kept : (phase : Phase) (end : End) → end_in phase (kept_end phase end) ≡ end_in phase end
end_kept Free end = refl
end_kept Making end = refl
end_kept Prebooked end = refl
end_kept Confirmed end = refl
end_kept Fulfilled end = refl
end_kept (Ending kind) end = refl
end_kept (Ended kind) end = refl

one_kept : (k : KeptBooking) → standing_of (opening_booking k) ≡ standing_kept k
one_kept k = λ i. record {
  row = record { row = k.row; generation = k.generation };
  view = record {
    phase = k.phase;
    retailer = k.retailer;
    limit = k.limit;
    total = k.total;
    items = items_kept (is_ended k.phase) k.items i;
    ended = end_kept k.phase k.end i;
  };
}

all_kept : (kept : List KeptBooking) → map standing_of (opening_of kept) ≡ map standing_kept kept
all_kept [] = refl
all_kept (k ∷ ks) = λ i. one_kept k i ∷ all_kept ks i

-- each is its row's one booking
none_in : (row : ℕ) (kept : List KeptBooking) → AllByRecursion (λ (k : KeptBooking). row < k.row) kept → next_in (map key_of (opening_of kept)) row ≡ 0
none_in row [] all = refl
none_in row (k ∷ ks) all = rw (ne_eqb k.row row (λ same. omega (arith, all.0, same)), none_in row ks all.1) refl

only_in : (kept : List KeptBooking) → Pairwise (λ (j k : KeptBooking). j.row < k.row) kept
    → AllByRecursion (λ (k : KeptBooking). next_in (map key_of (opening_of kept)) k.row ≡ k.generation + 1) kept
only_in [] rising = tt
only_in (k ∷ ks) rising = (
  rw (eq-eqb k.row k.row refl, none_in k.row ks rising.0) (let m : max (k.generation + 1) 0 ≡ k.generation + 1 = omega arith in m),
  All-both {R = λ (j : KeptBooking). next_in (map key_of (opening_of (k ∷ ks))) j.row ≡ j.generation + 1}
      (λ (j : KeptBooking) (behind : k.row < j.row) (is : next_in (map key_of (opening_of ks)) j.row ≡ j.generation + 1).
      rw (ne_eqb k.row j.row (λ same. omega (arith, behind, same))) (let m : max 0 (next_in (map key_of (opening_of ks)) j.row) ≡ j.generation + 1 = omega (arith, is) in m))
      ks rising.0 (only_in ks rising.1),
)

sealed_kept : (phase : Phase) → phase ≢ Free → is_owners phase ≡ false → (is_sealed phase ≡ true) × (is_in_making phase ≡ false)
sealed_kept Free started still = absurd (started refl)
sealed_kept Making started still = absurd cc
sealed_kept Prebooked started still = (refl, refl)
sealed_kept Confirmed started still = (refl, refl)
sealed_kept Fulfilled started still = (refl, refl)
sealed_kept (Ending kind) started still = absurd cc
sealed_kept (Ended kind) started still = (refl, refl)

filter_all : (test : Booking → Bool) (s : State) → AllByRecursion (λ b. test b ≡ true) s → filter test s ≡ s
filter_all test [] all = refl
filter_all test (b ∷ bs) all = rw (all.0, filter_all test bs all.1) refl

find_none : (test : Booking → Bool) (s : State) → AllByRecursion (λ b. test b ≡ false) s → find test s ≡ None
find_none test [] all = refl
find_none test (b ∷ bs) all = rw (all.0, find_none test bs all.1) refl

all_of : (P : Booking → Type 0) (kept : List KeptBooking) → AllByRecursion (λ k. P (opening_booking k)) kept → AllByRecursion P (opening_of kept)
all_of P [] all = tt
all_of P (k ∷ ks) all = (all.0, all_of P ks all.1)

module _ (legs : List ℕ) (rows : ℕ) (kept : List KeptBooking) (may : MayOpen legs rows kept) where
  each : AllByRecursion (λ (b : Booking). (is_sealed b.phase ≡ true) × (is_in_making b.phase ≡ false)) (opening_of kept)
  each = All-both {R = λ (b : Booking). (is_sealed b.phase ≡ true) × (is_in_making b.phase ≡ false)}
      (λ (b : Booking) (sound : IsSound (layout_with legs rows kept) b) (still : is_owners b.phase ≡ false). sealed_kept b.phase sound.started still)
      (opening_of kept) may.opening.well_formed.each may.opening.settled

  top : AllByRecursion (λ (b : Booking). stands_in (opening_of kept) b.row b ≡ true) (opening_of kept)
  top = all_of (λ (b : Booking). stands_in (opening_of kept) b.row b ≡ true) kept
      (All-map {Q = λ (k : KeptBooking). stands_in (opening_of kept) k.row (opening_booking k) ≡ true}
      (λ (k : KeptBooking) (is : next_in (map key_of (opening_of kept)) k.row ≡ k.generation + 1).
      rw (is, eq-eqb k.row k.row refl, eq-eqb k.generation (k.generation + 1 - 1) (omega arith)) refl)
      kept (only_in kept may.rising))

  standing : AllByRecursion (λ (b : Booking). is_standing (opening_of kept) b ≡ true) (opening_of kept)
  standing = All-both {R = λ (b : Booking). is_standing (opening_of kept) b ≡ true}
      (λ (b : Booking) (stands : stands_in (opening_of kept) b.row b ≡ true) (sealed : (is_sealed b.phase ≡ true) × (is_in_making b.phase ≡ false)).
      rw (stands, sealed.0) refl)
      (opening_of kept) top each

  unmade : AllByRecursion (λ (b : Booking). is_in_making b.phase ≡ false) (opening_of kept)
  unmade = All-map {Q = λ (b : Booking). is_in_making b.phase ≡ false}
      (λ (b : Booking) (is : (is_sealed b.phase ≡ true) × (is_in_making b.phase ≡ false)). is.1) (opening_of kept) each

  -- these bookings, and no kept row
  pub plain_begun : plain_in (opening_of kept) ≡ plain_kept kept
  plain_begun = λ i. record {
    bookings = (ap (map standing_of) (filter_all (is_standing (opening_of kept)) (opening_of kept) standing) ∙ all_kept kept) i;
    kept = ap (λ (o : Option Booking). elim o [ None ↦ None | Some b ↦ Some (row_of b) ]) (find_none (λ (b : Booking). is_in_making b.phase) (opening_of kept) unmade) i;
  }
