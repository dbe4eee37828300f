-- A place is free in the plain list exactly where no item that is not given back meets the span.
use Rattle.std.proofs.Common.{◌≡◌, ◌≢◌, ℕ, ◌-◌, ◌<◌, Bool, true, false, List, [], ◌∷◌, ◌++◌, map, refl, sym, ap, ◌∙◌, ⊎_elim, inl, inr, arith, Decides, eqb}
use Rattle.std.specs.Prelude.{◌⊎◌, ◌↔◌, ◌&&◌, max, min, not}
use Rattle.std.specs.List.{AllByRecursion, list_any}
use Rattle.std.proofs.lemmas.Bool.{or_parts, or_from, not_from_false, false_from_ne_true, true≢false}
use Rattle.std.proofs.lemmas.Bool.Decides.{Decides-ltb, Decides-eqb, Decides-and, Decides-like, not_from_Decides}
use Rattle.leg_masks.specs.Interval.{Interval, Meet, PlacedSpan as Item}
use Rattle.history_model.specs.declared.booking.BookedItem.{BookedItem}
use Rattle.history_model.specs.declared.phase.Phase.{Phase}
use Rattle.history_model.specs.declared.phase.Phase.TheVariants.{Free, Making, Prebooked, Confirmed, Fulfilled, Ending, Ended}
use Rattle.history_model.specs.declared.phase.EndKind.{EndKind}
use Rattle.history_model.specs.Phase.{is_sealed, is_live, is_ended}
use Rattle.history_model.specs.Allowed.{Blocks, IsOpen}
use Rattle.history_model.specs.Booking.{Booking, Layout, State, key_of, next_generation, all_items}
use Rattle.history_model.specs.Laws.{IsSound, IsPresentOrEnded, IsWellFormed, is_owners}
use Rattle.history_model.proofs.Generations.{test_of_key}
use Rattle.history_model.proofs.ListLemmas.{All-append, All-left, All-map, All-right}
use Rattle.plain_host.specs.Plain.{Standing, meets, blocks, has_place, is_taken, is_free}
use Rattle.plain_host.specs.PlainOf.{item_of, standing_of, standings_of}
use Rattle.plain_host.specs.Settled.{IsStanding}
use Rattle.plain_host.proofs.Standings.{standings_by, is_there, by_around, by_beside, both_true, second_false}

-- ---- items

meets_Decides : (a b : Interval) → Decides (meets a b) (Meet a b)
meets_Decides a b = Decides-like (meets a b)
    (λ (less : max a.from b.from < min a.to b.to). (max a.from b.from, (omega arith, omega (arith, less)), (omega arith, omega (arith, less))))
    (λ (both : Meet a b). omega (arith, both.1.0, both.1.1, both.2.0, both.2.1))
    (Decides-ltb (max a.from b.from) (min a.to b.to))

blocks_Decides : (place : ℕ) (span : Interval) (i : Item) → Decides (blocks place span i) ((i.place ≡ place) × Meet i.span span)
blocks_Decides place span i = Decides-and (eqb i.place place) (meets i.span span) (Decides-eqb i.place place) (meets_Decides i.span span)

abbrev pub IsLeft : BookedItem → Type 0
IsLeft i = i.given_back ≡ false

abbrev pub NoneBlocks : ℕ → Interval → List BookedItem → Type 0
NoneBlocks place span is = AllByRecursion (λ i. ¬ Blocks place span i) is

left_open : (place : ℕ) (span : Interval) (is : List BookedItem) → AllByRecursion IsLeft is → list_any (blocks place span) (map item_of is) ≡ false → NoneBlocks place span is
left_open place span [] left e = tt
left_open place span (i ∷ is) left e =
    let both = or_parts (blocks place span (item_of i)) (list_any (blocks place span) (map item_of is)) e in
    ((λ here. not_from_Decides (blocks place span (item_of i)) (blocks_Decides place span (item_of i)) both.0 (here.1, here.2)), left_open place span is left.1 both.1)

open_left : (place : ℕ) (span : Interval) (is : List BookedItem) → AllByRecursion IsLeft is → NoneBlocks place span is → list_any (blocks place span) (map item_of is) ≡ false
open_left place span [] left none = refl
open_left place span (i ∷ is) left none =
    or_from (blocks place span (item_of i)) (list_any (blocks place span) (map item_of is))
    (false_from_ne_true (blocks place span (item_of i)) (λ e. let at = (blocks_Decides place span (item_of i)).0 e in none.0 (left.0, at.0, at.1)))
    (open_left place span is left.1 none.1)

given_open : (place : ℕ) (span : Interval) (is : List BookedItem) → AllByRecursion (λ i. i.given_back ≡ true) is → NoneBlocks place span is
given_open place span [] given = tt
given_open place span (i ∷ is) given = ((λ here. true≢false (sym given.0 ∙ here.0)), given_open place span is given.1)

-- ---- bookings

-- what stands is live, or ended
live_or_ended : (p : Phase) → is_sealed p ≡ true → is_owners p ≡ false → (is_live p ≡ true) ⊎ ((is_live p ≡ false) × ((kind : EndKind) × (p ≡ Ended kind)))
live_or_ended Free sealed still = absurd (true≢false (sym sealed))
live_or_ended Making sealed still = absurd (true≢false (sym sealed))
live_or_ended Prebooked sealed still = inl refl
live_or_ended Confirmed sealed still = inl refl
live_or_ended Fulfilled sealed still = inl refl
live_or_ended (Ending kind) sealed still = absurd (true≢false still)
live_or_ended (Ended kind) sealed still = inr (refl, (kind, refl))

abbrev IsOpenBy : ℕ → Interval → Booking → Type 0
IsOpenBy place span b = (has_place place span (standing_of b) ≡ false) ↔ NoneBlocks place span b.items

open_by : (g : Layout) (place : ℕ) (span : Interval) (b : Booking) → IsStanding b → IsSound g b → IsOpenBy place span b
open_by g place span b stands sound = ⊎_elim
    (λ (live : is_live b.phase ≡ true).
    let left = sound.kept (inr live) in
    let is : has_place place span (standing_of b) ≡ list_any (blocks place span) (map item_of b.items) =
    ap (λ (t : Bool). t && list_any (blocks place span) (map item_of b.items)) live in
    ((λ e. left_open place span b.items left (sym is ∙ e)), (λ none. is ∙ open_left place span b.items left none)))
    (λ (other : (is_live b.phase ≡ false) × ((kind : EndKind) × (b.phase ≡ Ended kind))).
    let is : has_place place span (standing_of b) ≡ false = ap (λ (t : Bool). t && list_any (blocks place span) (map item_of b.items)) other.0 in
    ((λ e. given_open place span b.items (sound.ended other.1.0 other.1.1).0), (λ none. is)))
    (live_or_ended b.phase stands.sealed stands.still)

-- an ended booking has no item left
ended_kind : (p : Phase) → is_ended p ≡ true → (kind : EndKind) × (p ≡ Ended kind)
ended_kind Free e = absurd (true≢false (sym e))
ended_kind Making e = absurd (true≢false (sym e))
ended_kind Prebooked e = absurd (true≢false (sym e))
ended_kind Confirmed e = absurd (true≢false (sym e))
ended_kind Fulfilled e = absurd (true≢false (sym e))
ended_kind (Ending kind) e = absurd (true≢false (sym e))
ended_kind (Ended kind) e = (kind, refl)

ended_open : (g : Layout) (place : ℕ) (span : Interval) (b : Booking) → is_ended b.phase ≡ true → IsSound g b → NoneBlocks place span b.items
ended_open g place span b ended sound =
    let at = ended_kind b.phase ended in
    given_open place span b.items (sound.ended at.0 at.1).0

-- a hold in progress has items at other places

abbrev pub AreElsewhere : ℕ → List BookedItem → Type 0
AreElsewhere place is = AllByRecursion (λ i. i.place ≢ place) is

elsewhere_open : (place : ℕ) (span : Interval) (is : List BookedItem) → AreElsewhere place is → NoneBlocks place span is
elsewhere_open place span [] other = tt
elsewhere_open place span (i ∷ is) other = ((λ here. other.0 here.1), elsewhere_open place span is other.1)

-- the booking stands, or is in the making without an item at the place
abbrev pub IsQuiet : ℕ → Booking → Type 0
IsQuiet place b = IsStanding b ⊎ ((is_sealed b.phase ≡ false) × AreElsewhere place b.items)

-- a booking that the test leaves out has ended, or isn't sealed
abbrev LeavesOut : (Booking → Bool) → Booking → Type 0
LeavesOut test b = test b ≡ false → is_ended b.phase ≡ true

left_out : (g : Layout) (place : ℕ) (span : Interval) (test : Booking → Bool) (b : Booking) → (test b && is_sealed b.phase) ≡ false → IsQuiet place b → LeavesOut test b → IsSound g b
    → NoneBlocks place span b.items
left_out g place span test b out (inr unsealed) leaves sound = elsewhere_open place span b.items unsealed.1
left_out g place span test b out (inl stands) leaves sound = ended_open g place span b (leaves (by (test b) refl)) sound
  where
    by : (t : Bool) → test b ≡ t → test b ≡ false
    by false is = is
    by true is = absurd (true≢false (sym (both_true (test b) (is_sealed b.phase) is stands.sealed) ∙ out))

stands_in_it : (place : ℕ) (test : Booking → Bool) (b : Booking) → (test b && is_sealed b.phase) ≡ true → IsQuiet place b → IsStanding b
stands_in_it place test b in_it (inl stands) = stands
stands_in_it place test b in_it (inr unsealed) = absurd (true≢false (sym in_it ∙ second_false (test b) (is_sealed b.phase) unsealed.0))

abbrev Taken : (Booking → Bool) → State → ℕ → Interval → Bool
Taken test s place span = is_taken (standings_by test s) span place

open_from : (g : Layout) (place : ℕ) (span : Interval) (test : Booking → Bool) (s : State) → AllByRecursion (IsQuiet place) s → AllByRecursion (LeavesOut test) s → AllByRecursion (IsSound g) s
    → Taken test s place span ≡ false → NoneBlocks place span (all_items s)
open_from g place span test [] quiet leaves sound e = tt
open_from g place span test (b ∷ bs) quiet leaves sound e =
    go (test b && is_sealed b.phase) refl (open_from g place span test bs quiet.1 leaves.1 sound.1)
  where
    go : (t : Bool) → (test b && is_sealed b.phase) ≡ t → (Taken test bs place span ≡ false → NoneBlocks place span (all_items bs)) → NoneBlocks place span (all_items (b ∷ bs))
    go true is rest =
        let shown : Taken test (b ∷ bs) place span ≡ is_taken (standing_of b ∷ standings_by test bs) span place =
        ap (λ (l : List Standing). is_taken l span place) (by_around test [] bs b is) in
        let both = or_parts (has_place place span (standing_of b)) (Taken test bs place span) (sym shown ∙ e) in
        All-append (λ i. ¬ Blocks place span i) b.items (all_items bs) ((open_by g place span b (stands_in_it place test b is quiet.0) sound.0).0 both.0)
        (rest both.1)
    go false is rest =
        let shown : Taken test (b ∷ bs) place span ≡ Taken test bs place span = ap (λ (l : List Standing). is_taken l span place) (by_beside test [] bs b is) in
        All-append (λ i. ¬ Blocks place span i) b.items (all_items bs) (left_out g place span test b is quiet.0 leaves.0 sound.0)
        (rest (sym shown ∙ e))

to_open : (g : Layout) (place : ℕ) (span : Interval) (test : Booking → Bool) (s : State) → AllByRecursion (IsQuiet place) s → AllByRecursion (IsSound g) s
    → NoneBlocks place span (all_items s) → Taken test s place span ≡ false
to_open g place span test [] quiet sound none = refl
to_open g place span test (b ∷ bs) quiet sound none =
    go (test b && is_sealed b.phase) refl (to_open g place span test bs quiet.1 sound.1 (All-right (λ i. ¬ Blocks place span i) b.items (all_items bs) none))
  where
    go : (t : Bool) → (test b && is_sealed b.phase) ≡ t → Taken test bs place span ≡ false → Taken test (b ∷ bs) place span ≡ false
    go true is rest =
        ap (λ (l : List Standing). is_taken l span place) (by_around test [] bs b is)
        ∙ or_from (has_place place span (standing_of b)) (Taken test bs place span)
        ((open_by g place span b (stands_in_it place test b is quiet.0) sound.0).1 (All-left (λ i. ¬ Blocks place span i) b.items (all_items bs) none)) rest
    go false is rest = ap (λ (l : List Standing). is_taken l span place) (by_beside test [] bs b is) ∙ rest

not_back : (x : Bool) → not x ≡ true → x ≡ false
not_back true e = absurd (true≢false (sym e))
not_back false e = refl

-- what isn't its row's present booking has ended
leaves_ended : (g : Layout) (s : State) → IsWellFormed g s → AllByRecursion (LeavesOut (is_there s)) s
leaves_ended g s well = All-map (λ b either. leaves b either) s well.earlier
  where
    leaves : (b : Booking) → IsPresentOrEnded (map key_of s) b → LeavesOut (is_there s) b
    leaves b (inl top) out =
        let here : is_there s b ≡ true = test_of_key b.row (next_generation s b.row - 1) b refl (omega (arith, top)) in
        absurd (true≢false (sym here ∙ out))
    leaves b (inr ended) out = ended

-- A place is free in the list of what stands exactly where no item blocks it.
pub open_is_free : (g : Layout) (s : State) (place : ℕ) (span : Interval) → IsWellFormed g s → AllByRecursion (IsQuiet place) s
    → Decides (is_free (standings_of s) span place) (IsOpen s place span)
open_is_free g s place span well quiet = (
  λ free. open_from g place span (is_there s) s quiet (leaves_ended g s well) well.each (not_back (Taken (is_there s) s place span) free),
  λ none. not_from_false (Taken (is_there s) s place span) (to_open g place span (is_there s) s quiet well.each none),
)

-- what stands is quiet, and so is a row in the making behind it

pub quiet_each : (place : ℕ) (s : State) → AllByRecursion IsStanding s → AllByRecursion (IsQuiet place) s
quiet_each place s each = All-map (λ b stands. inl stands) s each

pub quiet_with : (place : ℕ) (s : State) (b : Booking) → AllByRecursion IsStanding s → is_sealed b.phase ≡ false → AreElsewhere place b.items → AllByRecursion (IsQuiet place) (s ++ b ∷ [])
quiet_with place s b each unsealed other = All-append (IsQuiet place) s (b ∷ []) (quiet_each place s each) (inr (unsealed, other), tt)
