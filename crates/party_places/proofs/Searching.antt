-- A search of the candidates, one after the other.
use Rattle.std.proofs.Common.{◌≡◌, ◌∙◌, ℕ, ◌+◌, ◌<◌, ◌≤◌, Bool, true, false, ◌&&◌, cond, nat_lt, List, [], ◌∷◌, ◌++◌, length, map, take, drop, get_or, refl, sym, ap, subst, arith, append_assoc, append-nil, length-append, take-append-drop}
use mathlib.Core.List.{map-append}
use Rattle.std.specs.Prelude.{count_by}
use Rattle.std.proofs.lemmas.Bool.{and_parts, and_from, lt-ltb, ltb-true}
use Rattle.std.proofs.lemmas.List.{take_all, take_more, length-map, length-take-le}
use Rattle.leg_masks.specs.Interval.{Interval, pieces}
use Rattle.rail_ids.specs.declared.PlaceNo.{PlaceNo}
use Rattle.place_map.specs.declared.coach.Place.{Place}
use Rattle.history_model.specs.declared.entry.Step.{Step}
use Rattle.history_model.specs.History.{IsLegal}
use Rattle.claim_rule.specs.Rule.{DeskView}
use Rattle.claim_rule.specs.Calls.{AddsStepsBy}
use Rattle.claim_rule.proofs.Shapes.{shape_then, shape_none}
use Rattle.hold_core.specs.Tries.{place_number}
use Rattle.availability.specs.Looks.{LooksPieces, CountsFree}
use Rattle.party_places.specs.Stretches.{is_beside}
use Rattle.party_places.specs.Searches.{Looked, places_looked, LooksAtEach, EndsFree, ShowsNone, FindsAt, FindsNothing, next_together}
use Rattle.party_places.proofs.Rows.{same_last}
use Rattle.party_places.proofs.Sides.{Running, running_none, running_next, shows_none_more, shows_none_first}

-- the looks at one place, as they are counted

counts_one : (free : Bool) (count : ℕ) → count ≡ count_by (λ (state : Bool). state) (free ∷ []) → count ≡ cond free 1 0
counts_one true count e = e
counts_one false count e = e

pub free_is : (free : Bool) (count : ℕ) → count ≡ cond free 1 0 → nat_lt 0 count ≡ free
free_is true count e = ap (nat_lt 0) e
free_is false count e = ap (nat_lt 0) e

-- one more look

looks_more : (span : Interval) (looked : List Looked) (l : Looked) (es looks : List Step) → LooksAtEach span looked es → LooksPieces l.place (pieces span) l.free looks
    → LooksAtEach span (looked ++ l ∷ []) (es ++ looks)
looks_more span [] l es looks at one = (looks, [], one, refl, ap (λ (x : List Step). x ++ looks) at ∙ sym (append-nil looks))
looks_more span (x ∷ looked) l es looks (mine, more, first, rest, is) one =
    (mine, more ++ looks, first, looks_more span looked l more looks rest one, ap (λ (y : List Step). y ++ looks) is ∙ append_assoc mine more looks)

-- the search so far: so many candidates looked at, so many of the last side by side and free, and the last of all
pub record Searched (places : List Place) (count : ℕ) (span : Interval) (cs : List PlaceNo) (start now : DeskView) (at together : ℕ) (before : PlaceNo) : Type 0 where
  pub looked : List Looked
  pub are : places_looked looked ≡ map place_number (take at cs)
  pub none : ShowsNone places count looked
  pub run : Running places looked together
  pub last : (front : List Looked) (q : Looked) → looked ≡ front ++ q ∷ [] → q.place ≡ before.0
  pub seen : AddsStepsBy (LooksAtEach span looked) start now

pub searched_none : (places : List Place) (count : ℕ) (span : Interval) (cs : List PlaceNo) (start : DeskView) (before : PlaceNo) → 1 ≤ count → IsLegal start.layout start.seen
    → Searched places count span cs start start 0 0 before
searched_none places count span cs start before some legal = record {
  looked = [];
  are = refl;
  none = shows_none_first places count some;
  run = running_none places;
  last = λ front q is. absurd (let both = length-append front (q ∷ []) in let all = ap length is in omega (arith, both, all));
  seen = ([], refl, shape_none start legal);
}

module _ (places : List Place) (count : ℕ) (span : Interval) (cs : List PlaceNo) (a b c : DeskView) (at together : ℕ) (before place d : PlaceNo) (free : Bool)
    (so : Searched places count span cs a b at together before) (inside : at < length cs) (is : place ≡ get_or cs at d)
    (look : AddsStepsBy (LooksPieces place.0 (pieces span) free) b c) where
  abbrev one : Looked
  one = record { place = place.0; free = free }

  abbrev all : List Looked
  all = so.looked ++ one ∷ []

  abbrev follows : Bool
  follows = nat_lt 0 together && is_beside places before.0 place.0

  are_more : places_looked all ≡ map place_number (take (at + 1) cs)
  are_more =
      map-append (λ (l : Looked). l.place) so.looked (one ∷ [])
      ∙ (ap (λ (ps : List ℕ). ps ++ place.0 ∷ []) so.are
      ∙ sym (ap (map place_number) (take_more cs at d inside) ∙ (map-append place_number (take at cs) (get_or cs at d ∷ [])
      ∙ ap (λ (p : PlaceNo). map place_number (take at cs) ++ p.0 ∷ []) (sym is))))

  looks : AddsStepsBy (LooksAtEach span all) a c
  looks = (so.seen.0 ++ look.0, looks_more span so.looked one so.seen.0 look.0 so.seen.1 look.1, shape_then a b c so.seen.0 look.0 so.seen.2 look.2)

  run : Running places all (next_together together free follows)
  run = running_next places so.looked one together so.run follows joins no_more
    where
      joins : follows ≡ true → (1 ≤ together) × ((front : List Looked) → (q : Looked) → so.looked ≡ front ++ q ∷ [] → is_beside places q.place place.0 ≡ true)
      joins e =
          let both = and_parts (nat_lt 0 together) (is_beside places before.0 place.0) e in
          (ltb-true 0 together both.0, λ front q at. ap (λ (p : ℕ). is_beside places p place.0) (so.last front q at) ∙ both.1)

      no_more : follows ≡ false → 1 ≤ together → (front : List Looked) (q : Looked) → so.looked ≡ front ++ q ∷ [] → is_beside places q.place place.0 ≡ true → ⊥
      no_more e some front q at beside =
          let here : is_beside places before.0 place.0 ≡ true = sym (ap (λ (p : ℕ). is_beside places p place.0) (so.last front q at)) ∙ beside in
          let both = and_from (nat_lt 0 together) (is_beside places before.0 place.0) (lt-ltb 0 together some) here in
          let f : false ≡ true = sym e ∙ both in cc

  -- the last `count` of them are a stretch and free
  pub found : next_together together free follows ≡ count → AddsStepsBy (FindsAt places count span (map place_number cs) (at + 1)) a c
  found many = (
    looks.0,
    (
      all,
      looks.1,
      record {
        before = so.looked;
        last = one;
        are = refl;
        none = so.none;
        ends = subst (λ (n : ℕ). EndsFree places n all) many run.is;
        left = map place_number (drop (at + 1) cs);
        candidates_are = ap (map place_number) (sym (take-append-drop (at + 1) cs))
            ∙ (map-append place_number (take (at + 1) cs) (drop (at + 1) cs) ∙ ap (λ (ps : List ℕ). ps ++ map place_number (drop (at + 1) cs)) (sym are_more));
      },
      length_all,
    ),
    looks.2,
  )
    where
      length_all : length all ≡ at + 1
      length_all =
          let ls = ap length are_more in
          let ms = length-map all (λ (l : Looked). l.place) in
          let ts = length-map (take (at + 1) cs) place_number in
          let taken = length-take-le (at + 1) cs (let e : at + 1 ≤ length cs = omega (arith, inside) in e) in
          sym ms ∙ (ls ∙ (ts ∙ taken))

  -- or it goes on
  pub goes_on : next_together together free follows < count → Searched places count span cs a c (at + 1) (next_together together free follows) place
  goes_on few = record {
    looked = all;
    are = are_more;
    none = shows_none_more places count so.looked one so.none (λ ends. let long = run.longest count ends in omega (arith, long, few));
    run = run;
    last = λ front q e. sym (ap (λ (l : Looked). l.place) (same_last so.looked front one q e).1);
    seen = looks;
  }

  pub few_more : together < count → next_together together free follows ≤ count
  few_more few = by free follows
    where
      by : (free follows : Bool) → next_together together free follows ≤ count
      by true true = omega (arith, few)
      by true false = omega (arith, few)
      by false follows = omega arith

-- how many candidates a search that finds looks at
pub found_within : (places : List Place) (count : ℕ) (span : Interval) (cs : List PlaceNo) (n : ℕ) (a b : DeskView) → AddsStepsBy (FindsAt places count span (map place_number cs) n) a b
    → (count ≤ n) × (n ≤ length cs)
found_within places count span cs n a b (es, (looked, at, finds, many), did) =
    let ends = finds.ends in
    let size = ends.many in
    let both = ap length ends.are ∙ length-append ends.front ends.stretch in
    let seen = length-map looked (λ (l : Looked). l.place) in
    let all = sym (length-map cs place_number) ∙ (ap length finds.candidates_are ∙ length-append (places_looked looked) finds.left) in
    (omega (arith, many, both, size), omega (arith, many, seen, all))
