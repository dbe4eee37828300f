-- The numbers of a run's places, from those of each class.
use Rattle.std.proofs.Common.{◌≡◌, ◌∙◌, ℕ, suc, ◌+◌, ◌<◌, ◌==◌, Bool, true, false, List, [], ◌∷◌, ◌++◌, length, get_or, take, drop, refl, sym, ap, subst, arith, if◌then◌else◌, append_assoc}
use Rattle.std.specs.List.{filter}
use Rattle.std.specs.Prelude.{All, bit_and}
use Rattle.std.specs.Int.Bits.{and_zero_r}
use Rattle.std.proofs.lemmas.List.{drop_more, drop-drop, length-map}
use Rattle.leg_masks.specs.Interval.{Interval}
use Rattle.rail_ids.specs.declared.PlaceNo.{PlaceNo}
use Rattle.place_map.specs.declared.coach.Class.{Class}
use Rattle.place_map.specs.declared.coach.Class.TheVariants.{First, Second}
use Rattle.place_map.specs.declared.coach.Place.{Place}
use Rattle.place_map.specs.Places.{places_of}
use Rattle.place_map.specs.Candidates.{is_candidate, numbers_of}
use Rattle.history_model.specs.declared.entry.Step.{Step}
use Rattle.catalogue_contents.specs.Contents.{CatalogueView, place_legs, legs_in}
use Rattle.availability.specs.Looks.{LooksAt}
use Rattle.offer_engine.proofs.Candidates.{numbers_below}
use Rattle.search_service.specs.Numbering.{in_turn}
use Rattle.search_service.specs.Searching.{numbers_on}

abbrev is_of_run : ℕ → Place → Bool
is_of_run run p = p.run.0 == run

-- for each place of the run the next number of its class: just the numbers of the run's places
pub whole : (run k : ℕ) (places : List Place)
    → in_turn (places_of run places) (numbers_of (is_candidate run First 0) k places) (numbers_of (is_candidate run Second 0) k places) ≡ numbers_of (is_of_run run) k places
whole run k [] = refl
whole run k (p ∷ rest) = by_place (p.run.0 == run) p.class refl refl (whole run (k + 1) rest)
  where
    Whole : List Place → ℕ → Type 0
    Whole ps n = in_turn (places_of run ps) (numbers_of (is_candidate run First 0) n ps) (numbers_of (is_candidate run Second 0) n ps) ≡ numbers_of (is_of_run run) n ps

    none : (bit_and p.traits 0 == 0) ≡ true
    none = rw (and_zero_r p.traits) refl

    by_place : (b : Bool) (class : Class) → (p.run.0 == run) ≡ b → p.class ≡ class → Whole rest (k + 1) → Whole (p ∷ rest) k
    by_place false class e c more = rw e more
    by_place true First e c more = rw (e, c, none) (ap (λ (l : List PlaceNo). (record { 0 = k }) ∷ l) more)
    by_place true Second e c more = rw (e, c, none) (ap (λ (l : List PlaceNo). (record { 0 = k }) ∷ l) more)

-- one place more
pub next_first : (places : List Place) (first second numbers all : List PlaceNo) (i f s : ℕ) (d : Place) → i < length places → (get_or places i d).class ≡ First
    → numbers ++ in_turn (drop i places) (drop f first) (drop s second) ≡ all → (numbers ++ take 1 (drop f first)) ++ in_turn (drop (i + 1) places) (drop (f + 1) first) (drop s second) ≡ all
next_first places first second numbers all i f s d h class so =
    append_assoc numbers (take 1 (drop f first)) _
    ∙ (ap (λ (l : List PlaceNo). numbers ++ l) (here ∙ ap (λ (l : List Place). in_turn l (drop f first) (drop s second)) (sym (drop_more places i d h))) ∙ so)
  where
    here : take 1 (drop f first) ++ in_turn (drop (i + 1) places) (drop (f + 1) first) (drop s second) ≡ in_turn (get_or places i d ∷ drop (i + 1) places) (drop f first) (drop s second)
    here = rw (class, drop-drop 1 f first) refl

pub next_second : (places : List Place) (first second numbers all : List PlaceNo) (i f s : ℕ) (d : Place) → i < length places → (get_or places i d).class ≡ Second
    → numbers ++ in_turn (drop i places) (drop f first) (drop s second) ≡ all → (numbers ++ take 1 (drop s second)) ++ in_turn (drop (i + 1) places) (drop f first) (drop (s + 1) second) ≡ all
next_second places first second numbers all i f s d h class so =
    append_assoc numbers (take 1 (drop s second)) _
    ∙ (ap (λ (l : List PlaceNo). numbers ++ l) (here ∙ ap (λ (l : List Place). in_turn l (drop f first) (drop s second)) (sym (drop_more places i d h))) ∙ so)
  where
    here : take 1 (drop s second) ++ in_turn (drop (i + 1) places) (drop f first) (drop (s + 1) second) ≡ in_turn (get_or places i d ∷ drop (i + 1) places) (drop f first) (drop s second)
    here = rw (class, drop-drop 1 s second) refl

-- the books have each of these places
pub of_books : (cat : CatalogueView) (run : ℕ) (legs : List ℕ) (numbers : List PlaceNo) → legs ≡ legs_in cat → numbers ≡ numbers_on cat run → All (λ p. p.0 < length legs) numbers
of_books cat run legs numbers same is =
    let long : length legs ≡ length cat.places = ap length same ∙ length-map cat.places (place_legs cat.runs) in
    subst (λ (l : List PlaceNo). All (λ p. p.0 < length legs) l) (sym is) (numbers_below (is_of_run run) 0 (length legs) cat.places (omega arith))

numbered : (passes : Place → Bool) (k : ℕ) (places : List Place) → length (numbers_of passes k places) ≡ length (filter passes places)
numbered passes k [] = refl
numbered passes k (p ∷ rest) = by_test (passes p) (numbered passes (k + 1) rest)
  where
    by_test : (b : Bool) → length (numbers_of passes (k + 1) rest) ≡ length (filter passes rest)
        → length (if b then (record { 0 = k }) ∷ numbers_of passes (k + 1) rest else numbers_of passes (k + 1) rest) ≡ length (if b then p ∷ filter passes rest else filter passes rest)
    by_test true more = ap suc more
    by_test false more = more

looked : (places : List PlaceNo) (span : Interval) (free : List Bool) (es : List Step) → LooksAt places span free es → length free ≡ length places
looked [] span [] es is = refl
looked (p ∷ places) span (b ∷ free) es is = ap suc (looked places span free is.1 is.3)
looked [] span (b ∷ free) es is = absurd is
looked (p ∷ places) span [] es is = absurd is

-- one answer for each place of the run
pub one_each : (cat : CatalogueView) (run : ℕ) (numbers : List PlaceNo) (span : Interval) (free : List Bool) (es : List Step) → numbers ≡ numbers_on cat run → LooksAt numbers span free es
    → length free ≡ length (places_of run cat.places)
one_each cat run numbers span free es is did = looked numbers span free es did ∙ (ap length is ∙ numbered (is_of_run run) 0 cat.places)
