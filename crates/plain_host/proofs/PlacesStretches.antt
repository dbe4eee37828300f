-- What a search of candidates finds is the first stretch of them that is free.
use Rattle.std.proofs.Common.{◌≡◌, ℕ, zero, suc, ◌+◌, ◌≤◌, Bool, true, false, cond, eq-eqb, List, [], ◌∷◌, ◌++◌, length, take, drop, Option, Some, None, refl, sym, ap, ◌∙◌, subst, arith, append_assoc, length-append}
use Rattle.std.specs.Prelude.{◌&&◌, ◌==◌, find}
use Rattle.std.specs.List.{AllByRecursion, list_all}
use Rattle.std.proofs.lemmas.Bool.{and_parts, and_from, eqb-true, false_from_ne_true}
use Rattle.std.proofs.lemmas.List.{length-map, take-append-drop, take-append-le, take-map}
use Rattle.std.proofs.Math.Seq.{take-append_seam}
use mathlib.Core.List.{map-append}
use Rattle.history_model.proofs.ListLemmas.{All-left, All-right}
use Rattle.place_map.specs.declared.coach.Place.{Place}
use Rattle.party_places.specs.Stretches.{is_beside, AreSideBySide}
use Rattle.party_places.specs.Searches.{Looked, places_looked, ShowsNone, Finds}
use Rattle.plain_host.specs.Plain.{are_beside, is_free_stretch, neighbours}

-- a candidate showed what the test says of its place
abbrev pub ShowsBy : (ℕ → Bool) → Looked → Type 0
ShowsBy free l = l.free ≡ free l.place

abbrev pub ShowsFree : Looked → Type 0
ShowsFree l = l.free ≡ true

-- ---- the tests of a stretch

beside_all : (places : List Place) (ps : List ℕ) → AreSideBySide places ps → are_beside places ps ≡ true
beside_all places [] are = refl
beside_all places (p ∷ []) are = refl
beside_all places (p ∷ q ∷ rest) are = and_from (is_beside places p q) (are_beside places (q ∷ rest)) are.0 (beside_all places (q ∷ rest) are.1)

all_beside : (places : List Place) (ps : List ℕ) → are_beside places ps ≡ true → AreSideBySide places ps
all_beside places [] e = tt
all_beside places (p ∷ []) e = tt
all_beside places (p ∷ q ∷ rest) e =
    let both = and_parts (is_beside places p q) (are_beside places (q ∷ rest)) e in
    (both.0, all_beside places (q ∷ rest) both.1)

clear_free : (free : ℕ → Bool) (ls : List Looked) → AllByRecursion (ShowsBy free) ls → AllByRecursion ShowsFree ls → list_all free (places_looked ls) ≡ true
clear_free free [] shown clear = refl
clear_free free (l ∷ ls) shown clear = and_from (free l.place) (list_all free (places_looked ls)) (sym shown.0 ∙ clear.0) (clear_free free ls shown.1 clear.1)

free_clear : (free : ℕ → Bool) (ls : List Looked) → AllByRecursion (ShowsBy free) ls → list_all free (places_looked ls) ≡ true → AllByRecursion ShowsFree ls
free_clear free [] shown e = tt
free_clear free (l ∷ ls) shown e =
    let both = and_parts (free l.place) (list_all free (places_looked ls)) e in
    (shown.0 ∙ both.0, free_clear free ls shown.1 both.1)

-- the places of a stretch that showed free are free
pub stretch_free : (free : ℕ → Bool) (ls : List Looked) → AllByRecursion (ShowsBy free) ls → AllByRecursion ShowsFree ls → AllByRecursion (λ p. free p ≡ true) (places_looked ls)
stretch_free free [] shown clear = tt
stretch_free free (l ∷ ls) shown clear = (sym shown.0 ∙ clear.0, stretch_free free ls shown.1 clear.1)

-- ---- searches

-- the candidates of a search that found are its front, its stretch, and those left
pub found_around : (places : List Place) (count : ℕ) (here : List ℕ) (looked : List Looked) → (f : Finds places count here looked)
    → here ≡ places_looked f.ends.front ++ (places_looked f.ends.stretch ++ f.left)
found_around places count here looked f =
    f.candidates_are ∙ (ap (λ (ls : List Looked). places_looked ls ++ f.left) f.ends.are
    ∙ (ap (λ (ps : List ℕ). ps ++ f.left) (map-append (λ (l : Looked). l.place) f.ends.front f.ends.stretch)
    ∙ append_assoc (places_looked f.ends.front) (places_looked f.ends.stretch) f.left))

-- the last of some is the last of what is behind their front
last_behind : (front stretch before : List Looked) (last : Looked) → before ++ last ∷ [] ≡ front ++ stretch → 1 ≤ length stretch
    → (init : List Looked) × (stretch ≡ init ++ last ∷ []) × (before ≡ front ++ init)
last_behind [] stretch before last is some = (before, sym is, refl)
last_behind (x ∷ front) stretch [] last is some = absurd (omega (arith, some, ap length is, length-append front stretch))
last_behind (x ∷ front) stretch (b ∷ before) last is some =
    let here : b ≡ x = cc in
    let rest : before ++ last ∷ [] ≡ front ++ stretch = cc in
    let more = last_behind front stretch before last rest some in
    (more.0, more.1, ap (λ (l : Looked). l ∷ before) here ∙ ap (λ (ls : List Looked). x ∷ ls) more.2)

module _ (places : List Place) (count : ℕ) (free : ℕ → Bool) where
  abbrev Passes : List ℕ → Bool
  Passes = is_free_stretch places free count

  passes : (ls : List Looked) → length ls ≡ count → AllByRecursion (ShowsBy free) ls → AllByRecursion ShowsFree ls → AreSideBySide places (places_looked ls)
      → Passes (places_looked ls) ≡ true
  passes ls many shown clear beside =
      and_from (length (places_looked ls) == count) (are_beside places (places_looked ls) && list_all free (places_looked ls))
      (eq-eqb (length (places_looked ls)) count (length-map ls (λ (l : Looked). l.place) ∙ many))
      (and_from (are_beside places (places_looked ls)) (list_all free (places_looked ls)) (beside_all places (places_looked ls) beside) (clear_free free ls shown clear))

  none_behind : (l : Looked) (ls : List Looked) → ShowsNone places count (l ∷ ls) → ShowsNone places count ls
  none_behind l ls none = λ front back is ends.
      none (l ∷ front) back (ap (λ (m : List Looked). l ∷ m) is) (record {
        front = l ∷ ends.front;
        stretch = ends.stretch;
        are = ap (λ (m : List Looked). l ∷ m) ends.are;
        many = ends.many;
        free = ends.free;
        beside = ends.beside;
      })

  -- where no front was a free stretch, the first so many aren't
  first_fails : (ls : List Looked) → ShowsNone places count ls → AllByRecursion (ShowsBy free) ls → Passes (places_looked (take count ls)) ≡ false
  first_fails ls none shown =
      let first : List Looked = take count ls in
      let back : List Looked = drop count ls in
      let whole : first ++ back ≡ ls = take-append-drop count ls in
      let mine : AllByRecursion (ShowsBy free) first = All-left (ShowsBy free) first back (subst (AllByRecursion (ShowsBy free)) (sym whole) shown) in
      let ps = places_looked first in
      false_from_ne_true (Passes ps)
      (λ e.
      let many = and_parts (length ps == count) (are_beside places ps && list_all free ps) e in
      let both = and_parts (are_beside places ps) (list_all free ps) many.1 in
      none first back (sym whole) (record {
        front = [];
        stretch = first;
        are = refl;
        many = sym (length-map first (λ (l : Looked). l.place)) ∙ eqb-true (length ps) count many.0;
        free = free_clear free first mine both.1;
        beside = all_beside places ps both.0;
      }))

  -- nor with others behind, where there are so many
  first_short : (ls : List Looked) (rest : List ℕ) → count ≤ length ls → ShowsNone places count ls → AllByRecursion (ShowsBy free) ls
      → Passes (take count (places_looked ls ++ rest)) ≡ false
  first_short ls rest enough none shown =
      ap Passes (take-append-le count (places_looked ls) rest (omega (arith, enough, length-map ls (λ (l : Looked). l.place))) ∙ take-map (λ (l : Looked). l.place) count ls)
      ∙ first_fails ls none shown

  -- so the search passes over those from which none begins
  past : (front init : List Looked) (rest : List ℕ) → count ≤ length init + 1 → ShowsNone places count (front ++ init) → AllByRecursion (ShowsBy free) (front ++ init)
      → find Passes (neighbours count (places_looked front ++ (places_looked init ++ rest))) ≡ find Passes (neighbours count (places_looked init ++ rest))
  past [] init rest enough none shown = refl
  past (l ∷ front) init rest enough none shown =
      let others : List ℕ = places_looked front ++ (places_looked init ++ rest) in
      let all : l.place ∷ others ≡ places_looked (l ∷ (front ++ init)) ++ rest =
      ap (λ (ps : List ℕ). l.place ∷ ps)
      (sym (append_assoc (places_looked front) (places_looked init) rest) ∙ ap (λ (ps : List ℕ). ps ++ rest) (sym (map-append (λ (k : Looked). k.place) front init))) in
      ap (λ (t : Bool). cond t (Some (take count (l.place ∷ others))) (find Passes (neighbours count others)))
      (ap (λ (ps : List ℕ). Passes (take count ps)) all ∙ first_short (l ∷ (front ++ init)) rest (omega (arith, enough, length-append front init)) none shown)
      ∙ past front init rest enough (none_behind l (front ++ init) none) shown.1

  at_stretch : (ls : List Looked) (left : List ℕ) → 1 ≤ length ls → length ls ≡ count → AllByRecursion (ShowsBy free) ls → AllByRecursion ShowsFree ls
      → AreSideBySide places (places_looked ls) → find Passes (neighbours count (places_looked ls ++ left)) ≡ Some (places_looked ls)
  at_stretch [] left some many shown clear beside = absurd (omega (arith, some))
  at_stretch (l ∷ ls) left some many shown clear beside =
      let mine : List ℕ = places_looked (l ∷ ls) in
      let same : take count (mine ++ left) ≡ mine =
      ap (λ (n : ℕ). take n (mine ++ left)) (sym (length-map (l ∷ ls) (λ (k : Looked). k.place) ∙ many)) ∙ take-append_seam mine left in
      ap (λ (t : Bool). cond t (Some (take count (mine ++ left))) (find Passes (neighbours count (places_looked ls ++ left))))
      (ap Passes same ∙ passes (l ∷ ls) many shown clear beside)
      ∙ ap (λ (ps : List ℕ). Some ps) same

  -- at least one is wanted, since a stretch of none would have been found at once
  some_wanted : (ls : List Looked) → ShowsNone places count ls → 1 ≤ count
  some_wanted ls none = by count refl
    where
      by : (n : ℕ) → count ≡ n → 1 ≤ n
      by zero is = absurd (none [] ls refl (record { front = []; stretch = []; are = refl; many = sym is; free = tt; beside = tt }))
      by (suc n) is = omega arith

  pub finds_first_stretch : (here : List ℕ) (looked : List Looked) → AllByRecursion (ShowsBy free) looked → (f : Finds places count here looked)
      → find Passes (neighbours count here) ≡ Some (places_looked f.ends.stretch)
  finds_first_stretch here looked shown f =
      let front = f.ends.front in
      let stretch = f.ends.stretch in
      let all : AllByRecursion (ShowsBy free) (front ++ stretch) = subst (AllByRecursion (ShowsBy free)) f.ends.are shown in
      let least = some_wanted f.before f.none in
      let some : 1 ≤ length stretch = omega (arith, least, f.ends.many) in
      let split = last_behind front stretch f.before f.last (sym f.are ∙ f.ends.are) some in
      let init : List Looked = split.0 in
      let tail : List ℕ = f.last.place ∷ f.left in
      let behind : places_looked stretch ++ f.left ≡ places_looked init ++ tail =
      ap (λ (ls : List Looked). places_looked ls ++ f.left) split.1
      ∙ (ap (λ (ps : List ℕ). ps ++ f.left) (map-append (λ (l : Looked). l.place) init (f.last ∷ [])) ∙ append_assoc (places_looked init) (f.last.place ∷ []) f.left) in
      let many : length init + 1 ≡ length stretch = sym (length-append init (f.last ∷ [])) ∙ sym (ap length split.1) in
      let early : AllByRecursion (ShowsBy free) (front ++ init) =
      subst (AllByRecursion (ShowsBy free)) split.2 (All-left (ShowsBy free) f.before (f.last ∷ []) (subst (AllByRecursion (ShowsBy free)) f.are shown)) in
      ap (λ (ps : List ℕ). find Passes (neighbours count ps)) (found_around places count here looked f ∙ ap (λ (ps : List ℕ). places_looked front ++ ps) behind)
      ∙ (past front init tail (omega (arith, many, f.ends.many)) (subst (ShowsNone places count) split.2 f.none) early
      ∙ (ap (λ (ps : List ℕ). find Passes (neighbours count ps)) (sym behind)
      ∙ at_stretch stretch f.left some f.ends.many (All-right (ShowsBy free) front stretch all) f.ends.free f.ends.beside))

  pub finds_no_stretch : (looked : List Looked) → ShowsNone places count looked → AllByRecursion (ShowsBy free) looked
      → find Passes (neighbours count (places_looked looked)) ≡ None
  finds_no_stretch [] none shown = refl
  finds_no_stretch (l ∷ ls) none shown =
      ap (λ (t : Bool). cond t (Some (take count (places_looked (l ∷ ls)))) (find Passes (neighbours count (places_looked ls))))
      (ap Passes (take-map (λ (k : Looked). k.place) count (l ∷ ls)) ∙ first_fails (l ∷ ls) none shown)
      ∙ finds_no_stretch ls (none_behind l ls none) shown.1

  -- the stretch found has so many places, of the candidates
  pub stretch_found : (P : ℕ → Type 0) (cs stretch : List ℕ) → AllByRecursion P cs → find Passes (neighbours count cs) ≡ Some stretch
      → (length stretch ≡ count) × AllByRecursion P stretch
  stretch_found P [] stretch all found = absurd (let none : ◌≡◌ {A = Option (List ℕ)} None (Some stretch) = found in cc)
  stretch_found P (p ∷ cs) stretch all found = by (Passes first) refl (stretch_found P cs stretch all.1)
    where
      first : List ℕ
      first = take count (p ∷ cs)

      by : (t : Bool) → Passes first ≡ t → (find Passes (neighbours count cs) ≡ Some stretch → (length stretch ≡ count) × AllByRecursion P stretch)
          → (length stretch ≡ count) × AllByRecursion P stretch
      by true is rest =
          let here : Some first ≡ Some stretch = sym (ap (λ (t : Bool). cond t (Some first) (find Passes (neighbours count cs))) is) ∙ found in
          let same : first ≡ stretch = cc in
          let mine : AllByRecursion P first = All-left P first (drop count (p ∷ cs)) (subst (AllByRecursion P) (sym (take-append-drop count (p ∷ cs))) all) in
          subst (λ (ps : List ℕ). (length ps ≡ count) × AllByRecursion P ps) same
          (eqb-true (length first) count (and_parts (length first == count) (are_beside places first && list_all free first) is).0, mine)
      by false is rest = rest (sym (ap (λ (t : Bool). cond t (Some first) (find Passes (neighbours count cs))) is) ∙ found)
