-- An offer is found from the numbers of its text.
use Rattle.std.proofs.Common.{◌≡◌, ℕ, suc, ◌<◌, ◌≤◌, ◌^◌, ◌+◌, ◌*◌, List, [], ◌∷◌, length, Option, Some, None, Bool, true, false, ◌&&◌, map, refl, sym, ap, ◌∙◌, arith, codes, true≢false, nat_le, nat_lt}
use Rattle.std.proofs.lemmas.List.{length-map}
use Rattle.std.specs.List.{list_all}
use Rattle.std.proofs.lemmas.Bool.Decides.{nat_tests}
use Rattle.place_map.specs.declared.coach.Class.{Class}
use Rattle.place_map.specs.declared.coach.Class.TheVariants.{First, Second}
use Rattle.offer_codes.specs.Marked.{numbers_in}
use Rattle.offer_codes.specs.Offers.{OfferView, is_segment, is_offer, is_party, segments_marks, offer_marks, offer_text, class_number}
use Rattle.offer_codes.specs.Found.{segments_from, offer_from, class_from}
use Rattle.train_runs.specs.declared.segment.Segment.{Segment}
use Rattle.offer_codes.proofs.Runs.{IsMark, AreMarks, numbers_in-marked}

pub both : (a b : Bool) → (a && b) ≡ true → (a ≡ true) × (b ≡ true)
both true b h = (refl, h)
both false b h = absurd (true≢false (sym h))

pub segments_from-marks : (mark : List ℕ) (segments : List Segment) → list_all is_segment segments ≡ true → segments_from (map (λ m. m.1) (segments_marks mark segments)) ≡ Some segments
segments_from-marks mark [] h = refl
segments_from-marks mark (s ∷ rest) h =
    let parts = both (is_segment s) (list_all is_segment rest) h in
    rw (segments_from-marks (codes "_") rest parts.1, parts.0) refl

-- the parts of an offer's range
record Ranges (o : OfferView) : Type 0 where
  made : o.made < 2 ^ 64
  adults : o.adults < 2 ^ 64
  children : o.children < 2 ^ 64
  wanted : o.wanted < 2 ^ 64
  few : length o.segments ≤ 3
  some : 1 ≤ length o.segments
  all : list_all is_segment o.segments ≡ true

ranges : (o : OfferView) → is_offer o ≡ true → Ranges o
ranges o h =
    let a = both (nat_le o.made 4_102_444_799) _ h in
    let b = both (is_party o.adults o.children) _ a.1 in
    let c = both (nat_le o.wanted 31) _ b.1 in
    let d = both (nat_le 1 (length o.segments)) _ c.1 in
    let e = both (nat_le (length o.segments) 3) _ d.1 in
    record {
      made = grind (arith, nat_tests, a.0);
      adults = grind (arith, nat_tests, b.0);
      children = grind (arith, nat_tests, b.0);
      wanted = grind (arith, nat_tests, c.0);
      few = grind (arith, nat_tests, e.0);
      some = grind (arith, nat_tests, d.0);
      all = e.1;
    }

run_small : (s : Segment) → is_segment s ≡ true → s.run.0 < 2 ^ 64
run_small s h = grind (arith, nat_tests)

from_small : (s : Segment) → is_segment s ≡ true → s.span.from < 2 ^ 64
from_small s h = grind (arith, nat_tests)

to_small : (s : Segment) → is_segment s ≡ true → s.span.to < 2 ^ 64
to_small s h = grind (arith, nat_tests)

class_back : (class : Class) → class_from (class_number class) ≡ Some class
class_back First = refl
class_back Second = refl

class_small : (class : Class) → class_number class < 2 ^ 64
class_small First = omega arith
class_small Second = omega arith

length_segments_marks : (mark : List ℕ) (segments : List Segment) → length (segments_marks mark segments) ≡ 3 * length segments
length_segments_marks mark [] = refl
length_segments_marks mark (s ∷ rest) = omega (arith, length_segments_marks (codes "_") rest)

pub count_offer_marks : (mark : List ℕ) (o : OfferView) → length (map (λ m. m.1) (offer_marks mark o)) ≡ 5 + 3 * length o.segments
count_offer_marks mark o =
    let count = length-map (offer_marks mark o) (λ (m : List ℕ × ℕ). m.1) in
    let marks = length_segments_marks (codes "-") o.segments in
    rw count (omega arith)

-- there are at most 14 numbers
pub length_offer_marks : (mark : List ℕ) (o : OfferView) → is_offer o ≡ true → length (map (λ m. m.1) (offer_marks mark o)) ≤ 14
length_offer_marks mark o h =
    let r = ranges o h in
    let count = length-map (offer_marks mark o) (λ (m : List ℕ × ℕ). m.1) in
    let marks = length_segments_marks (codes "-") o.segments in
    let few = r.few in
    rw count (omega arith)

five_up : (n : ℕ) → nat_lt (suc (suc (suc (suc (suc n))))) 5 ≡ false
five_up n = grind (arith, nat_tests)

not_more : (n : ℕ) → n ≤ 14 → nat_lt 14 n ≡ false
not_more n h = grind (arith, nat_tests)

pub offer_from-marks : (mark : List ℕ) (o : OfferView) → is_offer o ≡ true → offer_from (map (λ m. m.1) (offer_marks mark o)) ≡ Some o
offer_from-marks mark o h =
    let r = ranges o h in
    let most = not_more _ (length_offer_marks mark o h) in
    rw (five_up _, most, class_back o.class, segments_from-marks (codes "-") o.segments r.all, h) refl

are_segments_marks : (mark : List ℕ) (segments : List Segment) → IsMark mark → list_all is_segment segments ≡ true → AreMarks (segments_marks mark segments)
are_segments_marks mark [] m h = tt
are_segments_marks mark (s ∷ rest) m h =
    let parts = both (is_segment s) (list_all is_segment rest) h in
    ((m, run_small s parts.0), (((refl, tt), from_small s parts.0), (((refl, tt), to_small s parts.0), are_segments_marks (codes "_") rest (refl, tt) parts.1)))

pub are_offer_marks : (mark : List ℕ) (o : OfferView) → IsMark mark → is_offer o ≡ true → AreMarks (offer_marks mark o)
are_offer_marks mark o m h =
    let r = ranges o h in
    ((m, r.made), (((refl, tt), r.adults), (((refl, tt), r.children), (((refl, tt), class_small o.class), (((refl, tt), r.wanted), are_segments_marks (codes "-") o.segments (refl, tt) r.all)))))

pub numbers_in-offer_text : (o : OfferView) → is_offer o ≡ true → numbers_in None (offer_text o) ≡ map (λ m. m.1) (offer_marks (codes "O") o)
numbers_in-offer_text o h = numbers_in-marked (offer_marks (codes "O") o) (are_offer_marks (codes "O") o (refl, tt) h)

-- what is found from the numbers of an offer's text
pub found : (text ns : List ℕ) (r : Option OfferView) → ns ≡ numbers_in None text → r ≡ offer_from ns → (o : OfferView) → is_offer o ≡ true → text ≡ offer_text o → r ≡ Some o
found text ns r are from o h is =
    from ∙ ap offer_from (are ∙ ap (numbers_in None) is ∙ numbers_in-offer_text o h) ∙ offer_from-marks (codes "O") o h

-- its numbers are not too many
pub not_too_many : (text : List ℕ) → 18 < length (numbers_in None text) → (o : OfferView) → is_offer o ≡ true → text ≡ offer_text o → ⊥
not_too_many text many o h is =
    let few : length (numbers_in None text) ≤ 14 = rw (is, numbers_in-offer_text o h) (length_offer_marks (codes "O") o h) in
    omega arith

pub none_some : {A B : Type 0} (x : A) → None ≡ Some x → B
none_some x e = absurd cc
