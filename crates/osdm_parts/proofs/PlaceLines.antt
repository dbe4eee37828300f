-- The text of a place is its pieces, and the text of a list that of its places.
use Rattle.std.proofs.Common.{◌≡◌, ◌∙◌, ℕ, ◌+◌, ◌<◌, ◌≤◌, ◌||◌, Bool, true, false, List, [], ◌∷◌, ◌++◌, codes, decimal, length, drop, get_or, add-one, refl, sym, ap, append_assoc, if◌then◌else◌}
use Rattle.std.proofs.Math.Seq.{drop-cons}
use Rattle.std.proofs.lemmas.List.{drop_all}
use Rattle.json.specs.Print.{escape_byte, quoted}
use Rattle.serde_json.specs.Data.{Data, string}
use Rattle.serde_json.specs.View.{items_of}
use Rattle.serde_json.specs.Written.{compact_text, items_text, comma_if}
use Rattle.place_map.specs.declared.coach.Class.{Class}
use Rattle.place_map.specs.declared.coach.Class.TheVariants.{First, Second}
use Rattle.place_map.specs.declared.coach.Place.{Place}
use Rattle.osdm_parts.specs.Places.{trait_trees, place_tree, place_trees, place_list_tree}
use Rattle.osdm_parts.specs.PlaceTexts.{class_line, first_line, free_line, front_line, last_line, named_line, has_trait, traits_text}

named : (later given : Bool) (name : List ℕ) (ds : List Data)
    → items_text later (items_of ((if given then string name ∷ [] else []) ++ ds)) ≡ named_line later given (quoted name) ++ items_text (later || given) (items_of ds)
named true true name ds = refl
named true false name ds = refl
named false true name ds = refl
named false false name ds = refl

last_named : (later given : Bool) (name : List ℕ)
    → items_text later (items_of (if given then string name ∷ [] else [])) ≡ named_line later given (quoted name) ++ 93 ∷ []
last_named true true name = refl
last_named true false name = refl
last_named false true name = refl
last_named false false name = refl

-- the traits of a place, with the brackets that end the list and the place
traits_line : (traits : ℕ) → codes ",\"traits\":[" ++ (items_text false (items_of (trait_trees traits)) ++ 125 ∷ []) ≡ traits_text traits
unfolding escape_byte
traits_line traits =
    let a = has_trait traits 1 in
    let b = has_trait traits 2 in
    let c = has_trait traits 4 in
    let d = has_trait traits 8 in
    let e = has_trait traits 16 in
    let all : items_text false (items_of (trait_trees traits)) ≡ named_line false a (quoted (codes "WINDOW")) ++ (named_line a b (quoted (codes "AISLE"))
    ++ (named_line (a || b) c (quoted (codes "TABLE")) ++ (named_line ((a || b) || c) d (quoted (codes "QUIET")) ++ (named_line (((a || b) || c) || d) e (quoted (codes "POWER")) ++ 93 ∷ [])))) =
    rw (named false a (codes "WINDOW") _, named a b (codes "AISLE") _, named (a || b) c (codes "TABLE") _, named ((a || b) || c) d (codes "QUIET") _, last_named (((a || b) || c) || d) e (codes "POWER")) refl in
    rw all (simp append_assoc)

pub place_line : (later : Bool) (p : Place) (free : Bool)
    → comma_if later ++ compact_text (place_tree p free) ≡ class_line later p.class ++ (decimal p.coach ++ (free_line free ++ (decimal p.number ++ traits_text p.traits)))
unfolding escape_byte
place_line later p free = by_class p.class free
  where
    by_class : (class : Class) (free : Bool) → comma_if later ++ compact_text (place_tree (record p { class = class }) free)
        ≡ class_line later class ++ (decimal p.coach ++ (free_line free ++ (decimal p.number ++ traits_text p.traits)))
    by_class First true = rw (← traits_line p.traits) (simp append_assoc)
    by_class First false = rw (← traits_line p.traits) (simp append_assoc)
    by_class Second true = rw (← traits_line p.traits) (simp append_assoc)
    by_class Second false = rw (← traits_line p.traits) (simp append_assoc)

-- three pieces, each put behind those before
pub put_three : (t0 t1 t2 t3 p1 p2 p3 : List ℕ) → t1 ≡ t0 ++ p1 → t2 ≡ t1 ++ p2 → t3 ≡ t2 ++ p3 → t3 ≡ t0 ++ (p1 ++ (p2 ++ p3))
put_three t0 t1 t2 t3 p1 p2 p3 e1 e2 e3 = rw (e3, e2, e1) (simp append_assoc)

-- a place's text behind its front
pub framed_line : (later : Bool) (p : Place) (free : Bool) → front_line later p.class p.coach free ++ (decimal p.number ++ traits_text p.traits) ≡ comma_if later ++ compact_text (place_tree p free)
framed_line later p free = sym (place_line later p free ∙ framed)
  where
    framed : class_line later p.class ++ (decimal p.coach ++ (free_line free ++ (decimal p.number ++ traits_text p.traits)))
        ≡ front_line later p.class p.coach free ++ (decimal p.number ++ traits_text p.traits)
    framed = simp append_assoc

-- likewise where the front is given by other terms
pub framed_is : (is_later : Bool) (class : Class) (coach : ℕ) (end : List ℕ) (later : Bool) (p : Place) (free : Bool) → is_later ≡ later → class ≡ p.class → coach ≡ p.coach
    → end ≡ traits_text p.traits → front_line is_later class coach free ++ (decimal p.number ++ end) ≡ comma_if later ++ compact_text (place_tree p free)
framed_is is_later class coach end later p free same_later same_class same_coach same_end =
    rw (same_later, same_class, same_coach, same_end) (framed_line later p free)

pub put_traits : (traits : ℕ) (t0 t1 t2 : List ℕ) (later : Bool) → later ≡ ((has_trait traits 1 || has_trait traits 2) || has_trait traits 4)
    → t1 ≡ t0 ++ first_line (has_trait traits 1) (has_trait traits 2) (has_trait traits 4) → t2 ≡ t1 ++ last_line later (has_trait traits 8) (has_trait traits 16) → t2 ≡ t0 ++ traits_text traits
put_traits traits t0 t1 t2 later f e1 e2 = rw (e2, e1, f) (simp append_assoc)

pub first_listed : (places : List Place) (free : List Bool) (i : ℕ) (p : Place) (f : Bool) → i < length places → i < length free
    → place_trees (drop i places) (drop i free) ≡ place_tree (get_or places i p) (get_or free i f) ∷ place_trees (drop (i + 1) places) (drop (i + 1) free)
first_listed places free i p f small within = rw (drop-cons places i p, drop-cons free i f, add-one) refl

pub none_listed : (places : List Place) (free : List Bool) (i : ℕ) → length places ≤ i → place_trees (drop i places) (drop i free) ≡ []
none_listed places free i all = rw (drop_all i places all) refl

-- one value more is written of those that are left
pub item_turned : (old new whole : List ℕ) (later : Bool) (d : Data) (ds next : List Data) → ds ≡ d ∷ next → old ++ items_text later (items_of ds) ≡ whole
    → new ≡ old ++ (comma_if later ++ compact_text d) → new ++ items_text true (items_of next) ≡ whole
item_turned old new whole later d ds next left before now = rw (now, ← before, left) (simp append_assoc)

pub list_text : (old whole text : List ℕ) (places : List Place) (free : List Bool) → whole ≡ codes "{\"places\":[" ++ items_text false (items_of (place_trees places free)) → old ++ 93 ∷ [] ≡ whole
    → text ≡ old ++ codes "]}" → text ≡ compact_text (place_list_tree places free)
unfolding escape_byte
list_text old whole text places free is before now =
    now ∙ (sym (append_assoc old (93 ∷ []) (125 ∷ [])) ∙ (ap (λ (l : List ℕ). l ++ 125 ∷ []) (before ∙ is) ∙ append_assoc (codes "{\"places\":[") (items_text false (items_of (place_trees places free))) (125 ∷ [])))
