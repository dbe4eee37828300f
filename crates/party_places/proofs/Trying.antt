-- The tries of a call, one after the other.
use Rattle.std.proofs.Common.{◌≡◌, ◌∙◌, ℕ, ◌+◌, ◌-◌, ◌≤◌, List, [], ◌∷◌, ◌++◌, length, map, take, drop, get_or, refl, sym, ap, subst, arith, append_assoc, length-append, take-append-drop}
use mathlib.Core.List.{map-append}
use Rattle.std.proofs.lemmas.List.{drop-drop, length-drop, length-map, length-take-le}
use Rattle.leg_masks.specs.Interval.{Interval, PlacedSpan as Item}
use Rattle.rail_ids.specs.declared.PlaceNo.{PlaceNo}
use Rattle.place_map.specs.declared.coach.Place.{Place}
use Rattle.history_model.specs.declared.entry.Step.{Step}
use Rattle.history_model.specs.History.{IsLegal}
use Rattle.claim_rule.specs.Rule.{DeskView}
use Rattle.claim_rule.specs.Desks.{AddsSteps}
use Rattle.claim_rule.specs.Calls.{AddsStepsBy}
use Rattle.claim_rule.proofs.Shapes.{shape_then, shape_none}
use Rattle.hold_core.specs.Tries.{place_number}
use Rattle.hold_core.specs.declared.adds.Added.{Added}
use Rattle.hold_core.specs.declared.adds.Added.TheVariants as added
use Rattle.hold_core.specs.Places.{Adds}
use Rattle.party_places.specs.declared.party.PartyAdded.{PartyAdded}
use Rattle.party_places.specs.declared.party.PartyAdded.TheVariants.{Together}
use Rattle.party_places.specs.Searches.{Looked, places_looked, Finds, FindsAt, FindsNothing}
use Rattle.party_places.specs.Parties.{Party, EndsTries, Fails, GivesUpAt, Loses, SeatsFrom, SitsApart, TakesEach, answer_apart}
use Rattle.party_places.proofs.Rows.{same_parts}

-- the tries that failed so far, of which the last left these candidates: what follows from these on is what follows
-- from the first
pub record Tried (g : Party) (start now : DeskView) (here : List ℕ) : Type 0 where
  pub steps : List Step
  pub seen : AddsSteps start now steps
  pub goes_on : (answer : PartyAdded) → (won : List Item) → (rest : List Step) → SeatsFrom g here answer won rest → SeatsFrom g g.candidates answer won (steps ++ rest)

pub tried_none : (g : Party) (start : DeskView) → IsLegal start.layout start.seen → Tried g start start g.candidates
tried_none g start legal = record { steps = []; seen = shape_none start legal; goes_on = λ answer won rest from. from }

pub tried_more : (g : Party) (a b c : DeskView) (here left : List ℕ) → Tried g a b here → AddsStepsBy (Fails g here left) b c → Tried g a c left
tried_more g a b c here left so did = record {
  steps = so.steps ++ did.0;
  seen = shape_then a b c so.steps did.0 so.seen did.2;
  goes_on = λ answer won rest from.
      subst (SeatsFrom g g.candidates answer won) (sym (append_assoc so.steps did.0 rest))
      (so.goes_on answer won (did.0 ++ rest) (left ∷ from.0, (did.0, rest, did.1, from.1, refl)));
}

pub tried_all : (g : Party) (a b c : DeskView) (here : List ℕ) (answer : PartyAdded) (won : List Item) → Tried g a b here → AddsStepsBy (SeatsFrom g here answer won) b c
    → AddsStepsBy (SeatsFrom g g.candidates answer won) a c
tried_all g a b c here answer won so did = (so.steps ++ did.0, so.goes_on answer won did.0 did.1, shape_then a b c so.steps did.0 so.seen did.2)

-- the places of the stretch that a search ends in are the last that it looked at

stretch_places : (places : List Place) (count n : ℕ) (here : List ℕ) (looked : List Looked) (found : Finds places count here looked) (front stretch behind : List ℕ)
    → length looked ≡ n → here ≡ front ++ (stretch ++ behind) → length front + count ≡ n → length stretch ≡ count
    → (places_looked found.ends.stretch ≡ stretch) × (found.left ≡ behind)
stretch_places places count n here looked found front stretch behind many is at size =
    let ends = found.ends in
    let ls : List ℕ = places_looked ends.front in
    let rs : List ℕ = places_looked ends.stretch in
    let looks : places_looked looked ≡ ls ++ rs = ap places_looked ends.are ∙ map-append (λ (l : Looked). l.place) ends.front ends.stretch in
    let whole : ls ++ (rs ++ found.left) ≡ front ++ (stretch ++ behind) =
    sym (append_assoc ls rs found.left) ∙ (ap (λ (x : List ℕ). x ++ found.left) (sym looks) ∙ (sym found.candidates_are ∙ is)) in
    let l1 : length ls ≡ length ends.front = length-map ends.front (λ (l : Looked). l.place) in
    let l2 : length rs ≡ length ends.stretch = length-map ends.stretch (λ (l : Looked). l.place) in
    let both : length looked ≡ length ends.front + length ends.stretch = ap length ends.are ∙ length-append ends.front ends.stretch in
    let same_front : length ls ≡ length front = let c = ends.many in omega (arith, l1, both, many, at, c) in
    let one = same_parts ls (rs ++ found.left) front (stretch ++ behind) whole same_front in
    let same_size : length rs ≡ length stretch = let c = ends.many in omega (arith, l2, c, size) in
    same_parts rs found.left stretch behind one.1 same_size

-- the candidates, by the stretch among them
pub parts_at : (cs : List PlaceNo) (n count : ℕ) → count ≤ n → n ≤ length cs
    → map place_number cs ≡ map place_number (take (n - count) cs) ++ (map place_number (take count (drop (n - count) cs)) ++ map place_number (drop n cs))
parts_at cs n count low high = by cs (n - count) count n (omega (arith, low)) high
  where
    by : (cs : List PlaceNo) (k count n : ℕ) → k + count ≡ n → n ≤ length cs
        → map place_number cs ≡ map place_number (take k cs) ++ (map place_number (take count (drop k cs)) ++ map place_number (drop n cs))
    by cs k count n e high =
        let rest : drop n cs ≡ drop count (drop k cs) = ap (λ (m : ℕ). drop m cs) (sym e) ∙ sym (drop-drop count k cs) in
        ap (map place_number) (sym (take-append-drop k cs))
        ∙ (map-append place_number (take k cs) (drop k cs)
        ∙ ap (λ (ps : List ℕ). map place_number (take k cs) ++ ps)
        (ap (map place_number) (sym (take-append-drop count (drop k cs)))
        ∙ (map-append place_number (take count (drop k cs)) (drop count (drop k cs))
        ∙ ap (λ (ps : List PlaceNo). map place_number (take count (drop k cs)) ++ map place_number ps) (sym rest))))

-- what was lost, of an equal stretch
loses_of : (row k : ℕ) (span : Interval) (a b : List ℕ) (won : List Item) (es : List Step) → b ≡ a → Loses row k span a won es → Loses row k span b won es
loses_of row k span a b won es same l = record {
  before = l.before;
  place = l.place;
  behind = l.behind;
  stretch_is = same ∙ l.stretch_is;
  answer = l.answer;
  stopped = l.stopped;
  takes = l.takes;
  last = l.last;
  takes_are = l.takes_are;
  last_are = l.last_are;
  are = l.are;
}

-- what is behind the one that was lost
left_behind : (cs : List PlaceNo) (front before : List ℕ) (place : ℕ) (lost behind : List ℕ) (n : ℕ) → map place_number cs ≡ front ++ ((before ++ place ∷ lost) ++ behind)
    → length front + (length before + 1) ≡ n → n ≤ length cs → map place_number (drop n cs) ≡ lost ++ behind
left_behind cs front before place lost behind n is at high =
    let taken : List ℕ = front ++ (before ++ place ∷ []) in
    let parts : map place_number (take n cs) ++ map place_number (drop n cs) ≡ taken ++ (lost ++ behind) =
    sym (map-append place_number (take n cs) (drop n cs)) ∙ (ap (map place_number) (take-append-drop n cs) ∙ (is
    ∙ (ap (λ (x : List ℕ). front ++ x) (append_assoc before (place ∷ lost) behind ∙ sym (append_assoc before (place ∷ []) (lost ++ behind)))
    ∙ sym (append_assoc front (before ++ place ∷ []) (lost ++ behind))))) in
    let l1 = length-append front (before ++ place ∷ []) in
    let l2 = length-append before (place ∷ []) in
    let l3 = length-map (take n cs) place_number ∙ length-take-le n cs high in
    (same_parts (map place_number (take n cs)) (map place_number (drop n cs)) taken (lost ++ behind) parts (omega (arith, l1, l2, l3, at))).1

-- a stretch that was found and its places lost: the try failed
pub failed : (g : Party) (a b c : DeskView) (cs left : List PlaceNo) (n k : ℕ) → 1 ≤ g.count → g.count ≤ n → n ≤ length cs → AddsStepsBy (FindsAt g.places g.count g.span (map place_number cs) n) a b
    → AddsStepsBy (GivesUpAt g.row g.items g.span (map place_number (take g.count (drop (n - g.count) cs))) k) b c → left ≡ drop (n - g.count + k + 1) cs
    → AddsStepsBy (Fails g (map place_number cs) (map place_number left)) a c
unfolding loses_of
failed g a b c cs left n k some low high found gave left_is =
    let (looks, (looked, at, finds, many), did) = found in
    let (steps, (won, tries, (loses, nth), are), gives) = gave in
    let m : ℕ = n - g.count in
    let front : List ℕ = map place_number (take m cs) in
    let stretch : List ℕ = map place_number (take g.count (drop m cs)) in
    let behind : List ℕ = map place_number (drop n cs) in
    let l1 : length (drop m cs) ≡ length cs - m = length-drop m cs in
    let size : length stretch ≡ g.count = length-map (take g.count (drop m cs)) place_number ∙ length-take-le g.count (drop m cs) (omega (arith, l1, low, high)) in
    let at_front : length front + g.count ≡ n = let l = length-map (take m cs) place_number ∙ length-take-le m cs (omega (arith, low, high)) in omega (arith, l, low) in
    let same = stretch_places g.places g.count n (map place_number cs) looked finds front stretch behind many (parts_at cs n g.count low high) at_front size in
    let few = ap length loses.stretch_is ∙ length-append loses.before (loses.place ∷ loses.behind) in
    let whole : map place_number cs ≡ front ++ ((loses.before ++ loses.place ∷ loses.behind) ++ behind) =
    parts_at cs n g.count low high ∙ ap (λ (ps : List ℕ). front ++ (ps ++ behind)) loses.stretch_is in (
      looks ++ steps,
      record {
        looked = looked;
        found = finds;
        won = won;
        looks = looks;
        tries = tries;
        looks_are = at;
        loses = loses_of g.row g.items g.span stretch (places_looked finds.ends.stretch) won tries same.0 loses;
        left_is = ap (map place_number) left_is ∙ (left_behind cs front loses.before loses.place loses.behind behind (n - g.count + k + 1) whole (omega (arith, at_front, nth, low)) (omega (arith, nth, few, size, low, high))
            ∙ ap (λ (ps : List ℕ). loses.behind ++ ps) (sym same.1));
        are = ap (λ (l : List Step). looks ++ l) are;
      },
      shape_then a b c looks steps did gives,
    )

-- or taken: the party sits together
pub together : (g : Party) (a b c : DeskView) (cs : List PlaceNo) (n : ℕ) (first d : PlaceNo) (won : List Item) → 1 ≤ g.count → g.count ≤ n → n ≤ length cs
    → AddsStepsBy (FindsAt g.places g.count g.span (map place_number cs) n) a b
    → AddsStepsBy (TakesEach g.row g.items g.span (map place_number (take g.count (drop (n - g.count) cs))) won) b c → first ≡ get_or (take g.count (drop (n - g.count) cs)) 0 d
    → AddsStepsBy (SeatsFrom g (map place_number cs) (Together first) won) a c
together g a b c cs n first d won some low high found took is =
    let (looks, (looked, at, finds, many), did) = found in
    let (steps, takes, took_did) = took in
    let m : ℕ = n - g.count in
    let s : List PlaceNo = take g.count (drop m cs) in
    let front : List ℕ = map place_number (take m cs) in
    let l1 : length (drop m cs) ≡ length cs - m = length-drop m cs in
    let long : length s ≡ g.count = length-take-le g.count (drop m cs) (omega (arith, l1, low, high)) in
    let size : length (map place_number s) ≡ g.count = length-map s place_number ∙ long in
    let at_front : length front + g.count ≡ n = let l = length-map (take m cs) place_number ∙ length-take-le m cs (omega (arith, low, high)) in omega (arith, l, low) in
    let same = stretch_places g.places g.count n (map place_number cs) looked finds front (map place_number s) (map place_number (drop n cs)) many (parts_at cs n g.count low high) at_front size in
    let begins = first_of s first d is (omega (arith, long, some)) in (
      looks ++ steps,
      (
        [],
        record {
          looked = looked;
          found = finds;
          others = begins.0;
          stretch_is = same.0 ∙ begins.1;
          looks = looks;
          takes = steps;
          looks_are = at;
          takes_are = subst (λ (ps : List ℕ). TakesEach g.row g.items g.span ps won steps) (sym same.0) takes;
          are = refl;
        },
      ),
      shape_then a b c looks steps did took_did,
    )
  where
    first_of : (s : List PlaceNo) (first d : PlaceNo) → first ≡ get_or s 0 d → 1 ≤ length s → (others : List ℕ) × (map place_number s ≡ first.0 ∷ others)
    first_of [] first d is some = absurd (omega (arith, some))
    first_of (p ∷ s) first d is some = (map place_number s, ap (λ (q : PlaceNo). q.0 ∷ map place_number s) (sym is))

-- at the list's end
pub apart : (g : Party) (a b c : DeskView) (here : List ℕ) (answer : Added) (won : List Item) → AddsStepsBy (FindsNothing g.places g.count g.span here) a b
    → AddsStepsBy (Adds g.row g.items g.span g.count g.candidates answer won) b c → AddsStepsBy (SeatsFrom g here (answer_apart answer) won) a c
apart g a b c here answer won found adds =
    let (looks, (looked, at, none), did) = found in (
      looks ++ adds.0,
      (
        [],
        ends answer (record {
          looked = looked;
          none = none;
          added = answer;
          is = refl;
          looks = looks;
          adds = adds.0;
          looks_are = at;
          adds_are = adds.1;
          are = refl;
        }),
      ),
      shape_then a b c looks adds.0 did adds.2,
    )
  where
    ends : (o : Added) → SitsApart g here (answer_apart o) won (found.0 ++ adds.0) → EndsTries g here (answer_apart o) won (found.0 ++ adds.0)
    ends added.All is = is
    ends (added.NoPlace n) is = is
    ends (added.Contended p) is = is
