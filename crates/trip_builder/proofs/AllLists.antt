-- Which lists of segments are among all lists of one to three known segments: each once.
use Rattle.std.proofs.Common.{◌≡◌, ◌∙◌, ℕ, zero, suc, ◌+◌, ◌<◌, ◌≤◌, ◌⊎◌, inl, inr, List, [], ◌∷◌, ◌++◌, length, length-append, append_assoc, append-nil, Some, None, refl, sym, ap, subst, arith, get_or}
use Rattle.std.specs.Prelude.{slice_get, Option}
use Rattle.std.specs.Option.{option_map_or}
use Rattle.std.specs.List.{flat_map, AllByRecursion}
use Rattle.std.proofs.Math.Seq.{get_or-append_seam}
use Rattle.train_runs.specs.declared.segment.Segment.{Segment}
use Rattle.train_runs.specs.declared.run.Stop.{Stop}
use Rattle.train_runs.specs.Stops.{RunView}
use Rattle.train_runs.specs.Runs.{RunsView, stops_of}
use Rattle.trip_builder.specs.Segments.{IsKnown, segment, segments_to, segments_from, segments_of, all_segments, no_segment}
use Rattle.trip_builder.specs.Trips.{longer, all_lists}
use Rattle.trip_builder.specs.Best.{IsAmong, AreApart}
use Rattle.trip_builder.proofs.Members.{among_append, append_among, among_pieces, pieces_among, apart_append, apart_pieces}
use Rattle.trip_builder.proofs.StrictOrder.{three_ways}

-- ---- segments

among_to : (run from to n : ℕ) (s : Segment) → IsAmong (segments_to run from to n) s
    → (s.run.0 ≡ run) × ((s.span.from ≡ from) × ((to ≤ s.span.to) × (s.span.to < to + n)))
among_to run from to zero s is = absurd is
among_to run from to (suc n) s (inl e) =
    let at : s.span.to ≡ to = ap (λ (x : Segment). x.span.to) (sym e) in
    (ap (λ (x : Segment). x.run.0) (sym e), (ap (λ (x : Segment). x.span.from) (sym e), (omega (arith, at), omega (arith, at))))
among_to run from to (suc n) s (inr is) =
    let more = among_to run from (to + 1) n s is in
    (more.0, (more.1.0, (omega (arith, more.1.1.0), omega (arith, more.1.1.1))))

to_among : (run from to n k : ℕ) → to ≤ k → k < to + n → IsAmong (segments_to run from to n) (segment run from k)
to_among run from to zero k low high = absurd (omega (arith, low, high))
to_among run from to (suc n) k low high = by_place (three_ways to k) (λ h. to_among run from (to + 1) n k (omega (arith, h)) (omega (arith, high)))
  where
    by_place : (to ≡ k) ⊎ ((to < k) ⊎ (k < to)) → (to < k → IsAmong (segments_to run from (to + 1) n) (segment run from k))
        → IsAmong (segment run from to ∷ segments_to run from (to + 1) n) (segment run from k)
    by_place (inl e) more = inl (ap (segment run from) e)
    by_place (inr (inl h)) more = inr (more h)
    by_place (inr (inr h)) more = absurd (omega (arith, h, low))

apart_to : (run from to n : ℕ) → AreApart (segments_to run from to n)
apart_to run from to zero = tt
apart_to run from to (suc n) =
    (λ is. (let more = among_to run from (to + 1) n (segment run from to) is in absurd (omega (arith, more.1.1.0))), apart_to run from (to + 1) n)

among_from : (run from n : ℕ) (s : Segment) → IsAmong (segments_from run from n) s
    → (s.run.0 ≡ run) × ((from ≤ s.span.from) × ((s.span.from < s.span.to) × (s.span.to < from + n)))
among_from run from zero s is = absurd is
among_from run from (suc n) s is = by_part (among_append (segments_to run from (from + 1) n) (segments_from run (from + 1) n) s is) (among_from run (from + 1) n s)
  where
    by_part : IsAmong (segments_to run from (from + 1) n) s ⊎ IsAmong (segments_from run (from + 1) n) s
        → (IsAmong (segments_from run (from + 1) n) s → (s.run.0 ≡ run) × ((from + 1 ≤ s.span.from) × ((s.span.from < s.span.to) × (s.span.to < from + 1 + n))))
        → (s.run.0 ≡ run) × ((from ≤ s.span.from) × ((s.span.from < s.span.to) × (s.span.to < from + suc n)))
    by_part (inl here) more =
        let it = among_to run from (from + 1) n s here in
        (it.0, (omega (arith, it.1.0), (omega (arith, it.1.0, it.1.1.0), omega (arith, it.1.1.1))))
    by_part (inr there) more =
        let it = more there in
        (it.0, (omega (arith, it.1.0), (it.1.1.0, omega (arith, it.1.1.1))))

from_among : (run from n a b : ℕ) → from ≤ a → a < b → b < from + n → IsAmong (segments_from run from n) (segment run a b)
from_among run from zero a b low rise high = absurd (omega (arith, low, rise, high))
from_among run from (suc n) a b low rise high = by_place (three_ways from a) (λ h. from_among run (from + 1) n a b (omega (arith, h)) rise (omega (arith, high)))
  where
    by_place : (from ≡ a) ⊎ ((from < a) ⊎ (a < from)) → (from < a → IsAmong (segments_from run (from + 1) n) (segment run a b))
        → IsAmong (segments_to run from (from + 1) n ++ segments_from run (from + 1) n) (segment run a b)
    by_place (inl e) more =
        append_among (segments_to run from (from + 1) n) (segments_from run (from + 1) n) (segment run a b)
        (inl (subst (λ k. IsAmong (segments_to run from (from + 1) n) (segment run k b)) e (to_among run from (from + 1) n b (omega (arith, e, rise)) (omega (arith, high)))))
    by_place (inr (inl h)) more = append_among (segments_to run from (from + 1) n) (segments_from run (from + 1) n) (segment run a b) (inr (more h))
    by_place (inr (inr h)) more = absurd (omega (arith, h, low))

apart_from : (run from n : ℕ) → AreApart (segments_from run from n)
apart_from run from zero = tt
apart_from run from (suc n) =
    apart_append (segments_to run from (from + 1) n) (segments_from run (from + 1) n) (apart_to run from (from + 1) n) (apart_from run (from + 1) n)
    (λ s here there. (let a = among_to run from (from + 1) n s here in let b = among_from run (from + 1) n s there in omega (arith, a.1.0, b.1.0)))

-- the segment is of one of these runs, of which the first has this number
pub record IsOf (number : ℕ) (its : List RunView) (s : Segment) : Type 0 where
  pub place : ℕ
  pub it : RunView
  pub found : slice_get its place ≡ Some it
  pub run : s.run.0 ≡ number + place
  pub rises : s.span.from < s.span.to
  pub ends : s.span.to < length it.stops

among_of : (number : ℕ) (its : List RunView) (s : Segment) → IsAmong (segments_of number its) s → IsOf number its s
among_of number [] s is = absurd is
among_of number (it ∷ its) s is = by_part (among_append (segments_from number 0 (length it.stops)) (segments_of (number + 1) its) s is) (among_of (number + 1) its s)
  where
    by_part : IsAmong (segments_from number 0 (length it.stops)) s ⊎ IsAmong (segments_of (number + 1) its) s → (IsAmong (segments_of (number + 1) its) s → IsOf (number + 1) its s)
        → IsOf number (it ∷ its) s
    by_part (inl here) more =
        let one = among_from number 0 (length it.stops) s here in
        record { place = 0; it = it; found = refl; run = omega (arith, one.0); rises = one.1.1.0; ends = omega (arith, one.1.1.1) }
    by_part (inr there) more =
        let one = more there in
        record { place = suc one.place; it = one.it; found = one.found; run = omega (arith, one.run); rises = one.rises; ends = one.ends }

of_among : (number : ℕ) (its : List RunView) (place : ℕ) (it : RunView) (a b : ℕ) → slice_get its place ≡ Some it → a < b → b < length it.stops
    → IsAmong (segments_of number its) (segment (number + place) a b)
of_among number [] place it a b found rise high = absurd (none place found)
  where
    none : (k : ℕ) → slice_get [] k ≡ Some it → ⊥
    none k e = cc
of_among number (first ∷ its) zero it a b found rise high =
    let same : first ≡ it = some_is first it found in
    append_among (segments_from number 0 (length first.stops)) (segments_of (number + 1) its) (segment (number + 0) a b)
    (inl (subst (λ k. IsAmong (segments_from number 0 (length first.stops)) (segment k a b)) (omega arith)
    (from_among number 0 (length first.stops) a b (omega arith) rise (subst (λ (x : RunView). b < 0 + length x.stops) (sym same) (omega (arith, high))))))
  where
    some_is : (x y : RunView) → Some x ≡ Some y → x ≡ y
    some_is x y e = cc
of_among number (first ∷ its) (suc place) it a b found rise high =
    append_among (segments_from number 0 (length first.stops)) (segments_of (number + 1) its) (segment (number + suc place) a b)
    (inr (subst (λ k. IsAmong (segments_of (number + 1) its) (segment k a b)) (omega arith) (of_among (number + 1) its place it a b found rise high)))

apart_of : (number : ℕ) (its : List RunView) → AreApart (segments_of number its)
apart_of number [] = tt
apart_of number (it ∷ its) =
    apart_append (segments_from number 0 (length it.stops)) (segments_of (number + 1) its) (apart_from number 0 (length it.stops)) (apart_of (number + 1) its)
    (λ s here there. (let a = among_from number 0 (length it.stops) s here in let b = among_of (number + 1) its s there in omega (arith, a.0, b.run)))

known_among : (r : RunsView) (s : Segment) → IsKnown r s → IsAmong (all_segments r) s
known_among r s known = by_run (slice_get r.runs s.run.0) refl
  where
    by_run : (o : Option RunView) → slice_get r.runs s.run.0 ≡ o → IsAmong (all_segments r) s
    by_run None e = absurd (let none : length (stops_of r s.run.0) ≡ 0 = ap (λ (o : Option RunView). length (option_map_or (λ (x : RunView). x.stops) o [])) e in omega (arith, none, known.ends))
    by_run (Some it) e =
        let stops : stops_of r s.run.0 ≡ it.stops = ap (λ (o : Option RunView). option_map_or (λ (x : RunView). x.stops) o []) e in
        subst (λ k. IsAmong (all_segments r) (segment k s.span.from s.span.to)) (omega arith)
        (of_among 0 r.runs s.run.0 it s.span.from s.span.to e known.rises (subst (λ (xs : List Stop). s.span.to < length xs) stops known.ends))

among_known : (r : RunsView) (s : Segment) → IsAmong (all_segments r) s → IsKnown r s
among_known r s is =
    let one = among_of 0 r.runs s is in
    let here : slice_get r.runs s.run.0 ≡ Some one.it = ap (slice_get r.runs) (omega (arith, one.run)) ∙ one.found in
    let stops : stops_of r s.run.0 ≡ one.it.stops = ap (λ (o : Option RunView). option_map_or (λ (x : RunView). x.stops) o []) here in
    record { rises = one.rises; ends = subst (λ (xs : List Stop). s.span.to < length xs) (sym stops) one.ends }

-- ---- lists of them

among_longer : (segments : List Segment) (n : ℕ) (before t : List Segment) → IsAmong (longer segments n before) t
    → (rest : List Segment) × ((before ++ rest ≡ t) × ((length rest ≤ n) × AllByRecursion (IsAmong segments) rest))
among_longer segments zero before t (inl e) = ([], (append-nil before ∙ e, (omega arith, tt)))
among_longer segments zero before t (inr is) = absurd is
among_longer segments (suc n) before t (inl e) = ([], (append-nil before ∙ e, (omega arith, tt)))
among_longer segments (suc n) before t (inr is) =
    let one = among_pieces (λ s. longer segments n (before ++ s ∷ [])) segments t is in
    let more = among_longer segments n (before ++ one.0 ∷ []) t one.1.1 in
    (one.0 ∷ more.0, (sym (append_assoc before (one.0 ∷ []) more.0) ∙ more.1.0, (omega (arith, more.1.1.0), (one.1.0, more.1.1.1))))

longer_among : (segments : List Segment) (n : ℕ) (before rest : List Segment) → length rest ≤ n → AllByRecursion (IsAmong segments) rest → IsAmong (longer segments n before) (before ++ rest)
longer_among segments zero before [] few all = inl (sym (append-nil before))
longer_among segments (suc n) before [] few all = inl (sym (append-nil before))
longer_among segments zero before (s ∷ rest) few all = absurd (omega (arith, few))
longer_among segments (suc n) before (s ∷ rest) few all =
    inr (subst (IsAmong (flat_map (λ s. longer segments n (before ++ s ∷ [])) segments)) (append_assoc before (s ∷ []) rest)
    (pieces_among (λ s. longer segments n (before ++ s ∷ [])) segments s ((before ++ s ∷ []) ++ rest) all.0 (longer_among segments n (before ++ s ∷ []) rest (omega (arith, few)) all.1)))

-- the first that comes after `before` tells the pieces apart
next_is : (segments : List Segment) (n : ℕ) (before t : List Segment) (s : Segment) → IsAmong (longer segments n (before ++ s ∷ [])) t → get_or t (length before) no_segment ≡ s
next_is segments n before t s is =
    let more = among_longer segments n (before ++ s ∷ []) t is in
    let whole : before ++ s ∷ more.0 ≡ t = sym (append_assoc before (s ∷ []) more.0) ∙ more.1.0 in
    ap (λ (l : List Segment). get_or l (length before) no_segment) (sym whole) ∙ get_or-append_seam before s more.0 no_segment

apart_longer : (segments : List Segment) → AreApart segments → (n : ℕ) (before : List Segment) → AreApart (longer segments n before)
apart_longer segments apart zero before = ((λ is. is), tt)
apart_longer segments apart (suc n) before = (
  λ is. (let one = among_pieces (λ s. longer segments n (before ++ s ∷ [])) segments before is in
      let more = among_longer segments n (before ++ one.0 ∷ []) before one.1.1 in
      let long : length ((before ++ one.0 ∷ []) ++ more.0) ≡ length before = ap (λ (l : List Segment). length l) more.1.0 in
      let parts = length-append (before ++ one.0 ∷ []) more.0 in
      let part = length-append before (one.0 ∷ []) in
      omega (arith, long, parts, part)),
  apart_pieces (λ s. longer segments n (before ++ s ∷ [])) segments (λ s. apart_longer segments apart n (before ++ s ∷ []))
      (λ x y t here there. sym (next_is segments n before t x here) ∙ next_is segments n before t y there) apart,
)

pub apart_lists : (r : RunsView) → AreApart (all_lists (all_segments r))
apart_lists r =
    let segments = all_segments r in
    let apart : AreApart segments = apart_of 0 r.runs in
    apart_pieces (λ s. longer segments 2 (s ∷ [])) segments (λ s. apart_longer segments apart 2 (s ∷ []))
    (λ x y t here there. sym (next_is segments 2 [] t x here) ∙ next_is segments 2 [] t y there) apart

all_among : (r : RunsView) (ts : List Segment) → AllByRecursion (IsKnown r) ts → AllByRecursion (IsAmong (all_segments r)) ts
all_among r [] all = tt
all_among r (s ∷ ts) all = (known_among r s all.0, all_among r ts all.1)

all_known : (r : RunsView) (ts : List Segment) → AllByRecursion (IsAmong (all_segments r)) ts → AllByRecursion (IsKnown r) ts
all_known r [] all = tt
all_known r (s ∷ ts) all = (among_known r s all.0, all_known r ts all.1)

pub lists_have : (r : RunsView) (t : List Segment) → 1 ≤ length t → length t ≤ 3 → AllByRecursion (IsKnown r) t → IsAmong (all_lists (all_segments r)) t
lists_have r [] some few known = absurd (omega (arith, some))
lists_have r (s ∷ rest) some few known =
    let segments = all_segments r in
    pieces_among (λ s. longer segments 2 (s ∷ [])) segments s (s ∷ rest) (known_among r s known.0) (longer_among segments 2 (s ∷ []) rest (omega (arith, few)) (all_among r rest known.1))

pub have_lists : (r : RunsView) (t : List Segment) → IsAmong (all_lists (all_segments r)) t → (1 ≤ length t) × ((length t ≤ 3) × AllByRecursion (IsKnown r) t)
have_lists r t is =
    let segments = all_segments r in
    let one = among_pieces (λ s. longer segments 2 (s ∷ [])) segments t is in
    let more = among_longer segments 2 (one.0 ∷ []) t one.1.1 in
    let whole : one.0 ∷ more.0 ≡ t = more.1.0 in
    subst (λ (l : List Segment). (1 ≤ length l) × ((length l ≤ 3) × AllByRecursion (IsKnown r) l)) whole
    (omega arith, (omega (arith, more.1.1.0), (among_known r one.0 one.1.0, all_known r more.0 more.1.1.1)))
