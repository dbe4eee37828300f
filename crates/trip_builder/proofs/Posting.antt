-- A board of departures: what is put behind the others, what each is told of the later ones, and what a search in it
-- finds.
use Rattle.std.proofs.Common.{◌≡◌, ◌∙◌, ℕ, ◌+◌, ◌-◌, ◌<◌, ◌≤◌, ◌⊎◌, inl, inr, List, [], ◌∷◌, ◌++◌, length, length-append, refl, sym, ap, subst, arith, get_or, set, length-set, All}
use Rattle.std.specs.List.{AllWithin}
use Rattle.std.proofs.lemmas.Bool.{cases_lt}
use Rattle.std.proofs.lemmas.List.{get_or_default, get_or_append_left, get_or-set_same, get_or-set_other}
use Rattle.std.proofs.Math.Seq.{get_or-append_seam}
use Rattle.trip_builder.specs.declared.board.Useful.{Useful}
use Rattle.trip_builder.specs.declared.ranks.FirstTwo.{FirstTwo}
use Rattle.trip_builder.specs.Bounds.{unknown, Precede, IsNoted, IsPosted, Rises, Follows, BoundsWindow}

at_end : (board : List Useful) (e : Useful) (k : ℕ) (none : Useful) → k ≡ length board → get_or (board ++ e ∷ []) k none ≡ e
at_end board e k none is = ap (λ n. get_or (board ++ e ∷ []) n none) is ∙ get_or-append_seam board e [] none

count_one : (board : List Useful) (e : Useful) → length (board ++ e ∷ []) ≡ length board + 1
count_one board e = length-append board (e ∷ [])

-- ---- one departure more

rises_more : (board : List Useful) (e : Useful) → Rises board → All (λ u. u.moment ≤ e.moment) board
    → ((none : Useful) → 0 < length board → (get_or board (length board - 1) none).block ≤ e.block) → Rises (board ++ e ∷ [])
rises_more board e rises all block j k none low high = by_place (cases_lt k (length board)) (cases_lt j (length board))
  where
    by_place : (k < length board) ⊎ (length board ≤ k) → (j < length board) ⊎ (length board ≤ j)
        → ((get_or (board ++ e ∷ []) j none).moment ≤ (get_or (board ++ e ∷ []) k none).moment) × ((get_or (board ++ e ∷ []) j none).block ≤ (get_or (board ++ e ∷ []) k none).block)
    by_place (inl in_k) (inl in_j) =
        subst (λ (x : Useful). ((get_or (board ++ e ∷ []) j none).moment ≤ x.moment) × ((get_or (board ++ e ∷ []) j none).block ≤ x.block)) (sym (get_or_append_left board (e ∷ []) none k in_k))
        (subst (λ (x : Useful). (x.moment ≤ (get_or board k none).moment) × (x.block ≤ (get_or board k none).block)) (sym (get_or_append_left board (e ∷ []) none j in_j)) (rises j k none low in_k))
    by_place (inl in_k) (inr out_j) = absurd (omega (arith, in_k, out_j, low))
    by_place (inr out_k) (inl in_j) =
        let count = count_one board e in
        let m = all j none in_j in
        let up = (rises j (length board - 1) none (omega (arith, in_j)) (omega (arith, in_j))).1 in
        let last = block none (omega (arith, in_j)) in
        subst (λ (x : Useful). ((get_or (board ++ e ∷ []) j none).moment ≤ x.moment) × ((get_or (board ++ e ∷ []) j none).block ≤ x.block)) (sym (at_end board e k none (omega (arith, high, out_k, count))))
        (subst (λ (x : Useful). (x.moment ≤ e.moment) × (x.block ≤ e.block)) (sym (get_or_append_left board (e ∷ []) none j in_j)) (m, omega (arith, up, last)))
    by_place (inr out_k) (inr out_j) =
        let count = count_one board e in
        subst (λ (x : Useful). ((get_or (board ++ e ∷ []) j none).moment ≤ x.moment) × ((get_or (board ++ e ∷ []) j none).block ≤ x.block)) (sym (at_end board e k none (omega (arith, high, out_k, count))))
        (subst (λ (x : Useful). (x.moment ≤ e.moment) × (x.block ≤ e.block)) (sym (at_end board e j none (omega (arith, low, high, out_j, count)))) (omega arith, omega arith))

pub rises_on : (board : List Useful) (e : Useful) (moment : ℕ) (least : FirstTwo) → e.moment ≡ moment → Follows board least e → Rises board → All (λ u. u.moment ≤ moment) board → Rises (board ++ e ∷ [])
rises_on board e moment least at follows rises all = rises_more board e rises (λ k none h. (let old = all k none h in omega (arith, old, at))) follows.block

pub noted_on : (board : List Useful) (e : Useful) (least : FirstTwo) (depart arrival : ℕ) → Rises board → Follows board least e → IsNoted board depart arrival → IsNoted (board ++ e ∷ []) depart arrival
noted_on board e least depart arrival rises follows is = record {
  place = is.place;
  within = let h = is.within in let count = count_one board e in omega (arith, h, count);
  moment = λ none. ap (λ (u : Useful). u.moment) (get_or_append_left board (e ∷ []) none is.place is.within) ∙ is.moment none;
  here = λ none. subst (λ (u : Useful). Precede u.onward arrival) (sym (get_or_append_left board (e ∷ []) none is.place is.within)) (is.here none);
  later = λ k none low high same. by_place k none low high same (cases_lt k (length board));
}
  where
    by_place : (k : ℕ) (none : Useful) → is.place ≤ k → k < length (board ++ e ∷ []) → (get_or (board ++ e ∷ []) k none).block ≡ (get_or (board ++ e ∷ []) is.place none).block
        → (k < length board) ⊎ (length board ≤ k) → Precede (get_or (board ++ e ∷ []) k none).so_far arrival
    by_place k none low high same (inl less) =
        let a = ap (λ (u : Useful). u.block) (get_or_append_left board (e ∷ []) none k less) in
        let b = ap (λ (u : Useful). u.block) (get_or_append_left board (e ∷ []) none is.place is.within) in
        subst (λ (u : Useful). Precede u.so_far arrival) (sym (get_or_append_left board (e ∷ []) none k less)) (is.later k none low less (sym a ∙ (same ∙ b)))
    by_place k none low high same (inr past) =
        let count = count_one board e in
        let within = is.within in
        let at = at_end board e k none (omega (arith, high, past, count)) in
        let a = ap (λ (u : Useful). u.block) at in
        let b = ap (λ (u : Useful). u.block) (get_or_append_left board (e ∷ []) none is.place is.within) in
        let up = (rises is.place (length board - 1) none (omega (arith, within)) (omega (arith, within))).1 in
        let last = follows.block none (omega (arith, within)) in
        let as_last : (get_or board (length board - 1) none).block ≡ e.block = omega (arith, up, last, a, b, same) in
        let as_place : (get_or board (length board - 1) none).block ≡ (get_or board is.place none).block = omega (arith, up, last, a, b, same) in
        subst (λ (u : Useful). Precede u.so_far arrival) (sym at)
        (follows.same none arrival (omega (arith, within)) as_last (is.later (length board - 1) none (omega (arith, within)) (omega (arith, within)) as_place))

pub noted_last : (board : List Useful) (e : Useful) (least : FirstTwo) (depart arrival : ℕ) → e.moment ≡ depart → Follows board least e → Precede least arrival → IsNoted (board ++ e ∷ []) depart arrival
noted_last board e least depart arrival is follows bound = record {
  place = length board;
  within = let count = count_one board e in omega (arith, count);
  moment = λ none. ap (λ (u : Useful). u.moment) (at_end board e (length board) none refl) ∙ is;
  here = λ none. subst (λ (u : Useful). Precede u.onward arrival) (sym (at_end board e (length board) none refl)) (follows.onward arrival bound);
  later = λ k none low high same. subst (λ (u : Useful). Precede u.so_far arrival) (sym (at_end board e k none (let count = count_one board e in omega (arith, low, high, count)))) (follows.so_far arrival bound);
}

-- ---- what each departure is told of the later ones, from the last one back

-- those from `settled` on know of what their block has further on
pub record IsHalf (settled : ℕ) (board : List Useful) (depart arrival : ℕ) : Type 0 where
  pub place : ℕ
  pub within : place < length board
  pub moment : (none : Useful) → (get_or board place none).moment ≡ depart
  pub here : (none : Useful) → place < settled → Precede (get_or board place none).onward arrival
  pub earlier : (k : ℕ) (none : Useful) → settled ≤ k → k ≤ place → (get_or board k none).block ≡ (get_or board place none).block → Precede (get_or board k none).onward arrival
  pub later : (k : ℕ) (none : Useful) → place ≤ k → k < length board → (get_or board k none).block ≡ (get_or board place none).block → Precede (get_or board k none).so_far arrival

-- the departure before `next` is told of it
pub record IsTold (next : ℕ) (old new : List Useful) : Type 0 where
  pub size : length new ≡ length old
  pub moments : (k : ℕ) (none : Useful) → (get_or new k none).moment ≡ (get_or old k none).moment
  pub blocks : (k : ℕ) (none : Useful) → (get_or new k none).block ≡ (get_or old k none).block
  pub so_far : (k : ℕ) (none : Useful) → (get_or new k none).so_far ≡ (get_or old k none).so_far
  pub others : (k : ℕ) (none : Useful) → (k + 1 < next) ⊎ (next ≤ k) → (get_or new k none).onward ≡ (get_or old k none).onward
  pub own : (none : Useful) (arrival : ℕ) → Precede (get_or old (next - 1) none).onward arrival → Precede (get_or new (next - 1) none).onward arrival
  pub told : (none : Useful) (arrival : ℕ) → (get_or old (next - 1) none).block ≡ (get_or old next none).block → Precede (get_or old next none).onward arrival
      → Precede (get_or new (next - 1) none).onward arrival

pub half_noted : (board : List Useful) (depart arrival : ℕ) → IsNoted board depart arrival → IsHalf (length board - 1) board depart arrival
half_noted board depart arrival is = record {
  place = is.place;
  within = is.within;
  moment = is.moment;
  here = λ none less. is.here none;
  earlier = λ k none low high same. (let within = is.within in let at : is.place ≡ k = omega (arith, within, low, high) in subst (λ n. Precede (get_or board n none).onward arrival) at (is.here none));
  later = is.later;
}

pub half_posted : (board : List Useful) (settled depart arrival : ℕ) → settled ≡ 0 → IsHalf settled board depart arrival → IsPosted board depart arrival
half_posted board settled depart arrival all is = record {
  place = is.place;
  within = is.within;
  moment = is.moment;
  earlier = λ k none low same. is.earlier k none (omega (arith, all)) low same;
  later = is.later;
}

pub half_on : (next : ℕ) (old new : List Useful) (depart arrival : ℕ) → 0 < next → next < length old → Rises old → IsTold next old new → IsHalf next old depart arrival → IsHalf (next - 1) new depart arrival
half_on next old new depart arrival some inside rises told is = record {
  place = is.place;
  within = let h = is.within in let size = told.size in omega (arith, h, size);
  moment = λ none. told.moments is.place none ∙ is.moment none;
  here = λ none less. subst (λ (n : FirstTwo). Precede n arrival) (sym (told.others is.place none (inl (omega (arith, less, some))))) (is.here none (omega (arith, less)));
  earlier = λ k none low high same. by_place k none low high (sym (told.blocks k none) ∙ (same ∙ told.blocks is.place none)) (cases_lt k next) (cases_lt is.place next);
  later = λ k none low high same. (let size = told.size in
      subst (λ (n : FirstTwo). Precede n arrival) (sym (told.so_far k none)) (is.later k none low (omega (arith, high, size)) (sym (told.blocks k none) ∙ (same ∙ told.blocks is.place none))));
}
  where
    by_place : (k : ℕ) (none : Useful) → next - 1 ≤ k → k ≤ is.place → (get_or old k none).block ≡ (get_or old is.place none).block → (k < next) ⊎ (next ≤ k) → (is.place < next) ⊎ (next ≤ is.place)
        → Precede (get_or new k none).onward arrival
    by_place k none low high same (inl less) (inl last) =
        let at : next - 1 ≡ k = omega (arith, low, less, some) in
        let there : is.place ≡ next - 1 = omega (arith, low, high, last, some) in
        subst (λ n. Precede (get_or new n none).onward arrival) at (told.own none arrival (subst (λ n. Precede (get_or old n none).onward arrival) there (is.here none last)))
    by_place k none low high same (inl less) (inr past) =
        let at : next - 1 ≡ k = omega (arith, low, less, some) in
        let one = (rises k next none (omega (arith, less)) inside).1 in
        let two = (rises next is.place none past is.within).1 in
        let as_next : (get_or old k none).block ≡ (get_or old next none).block = omega (arith, one, two, same) in
        let as_place : (get_or old next none).block ≡ (get_or old is.place none).block = omega (arith, one, two, same) in
        subst (λ n. Precede (get_or new n none).onward arrival) at
        (told.told none arrival (ap (λ n. (get_or old n none).block) at ∙ as_next) (is.earlier next none (omega arith) past as_place))
    by_place k none low high same (inr after) place = subst (λ (n : FirstTwo). Precede n arrival) (sym (told.others k none (inr after))) (is.earlier k none after high same)

pub told_set : (next : ℕ) (board : List Useful) (here there e : Useful) → 0 < next → next < length board → here ≡ get_or board (next - 1) here → there ≡ get_or board next there
    → e.moment ≡ here.moment → e.block ≡ here.block → e.so_far ≡ here.so_far → ((arrival : ℕ) → Precede here.onward arrival → Precede e.onward arrival)
    → ((arrival : ℕ) → here.block ≡ there.block → Precede there.onward arrival → Precede e.onward arrival) → IsTold next board (set board (next - 1) e)
told_set next board here there e some inside a b moment block so_far own told = record {
  size = length-set board (next - 1) e;
  moments = λ k none. at_moment k none (cases_lt k (next - 1)) (cases_lt (next - 1) k);
  blocks = λ k none. at_block k none (cases_lt k (next - 1)) (cases_lt (next - 1) k);
  so_far = λ k none. at_so_far k none (cases_lt k (next - 1)) (cases_lt (next - 1) k);
  others = λ k none where_it. ap (λ (u : Useful). u.onward) (get_or-set_other board (next - 1) k e none (apart k where_it));
  own = λ none arrival is. subst (λ (u : Useful). Precede u.onward arrival) (sym (now none)) (own arrival (subst (λ (u : Useful). Precede u.onward arrival) (sym (was none)) is));
  told = λ none arrival same is. subst (λ (u : Useful). Precede u.onward arrival) (sym (now none))
      (told arrival (ap (λ (u : Useful). u.block) (was none) ∙ (same ∙ sym (ap (λ (u : Useful). u.block) (next_is none)))) (subst (λ (u : Useful). Precede u.onward arrival) (sym (next_is none)) is));
}
  where
    now : (none : Useful) → get_or (set board (next - 1) e) (next - 1) none ≡ e
    now none = get_or-set_same board (next - 1) e none (omega (arith, inside))

    was : (none : Useful) → here ≡ get_or board (next - 1) none
    was none = a ∙ get_or_default board (next - 1) here none (omega (arith, inside))

    next_is : (none : Useful) → there ≡ get_or board next none
    next_is none = b ∙ get_or_default board next there none inside

    apart : (k : ℕ) → (k + 1 < next) ⊎ (next ≤ k) → ¬ (k ≡ next - 1)
    apart k (inl low) is = omega (arith, low, is)
    apart k (inr high) is = omega (arith, high, is, some)

    at_moment : (k : ℕ) (none : Useful) → (k < next - 1) ⊎ (next - 1 ≤ k) → (next - 1 < k) ⊎ (k ≤ next - 1) → (get_or (set board (next - 1) e) k none).moment ≡ (get_or board k none).moment
    at_moment k none (inl low) other = ap (λ (u : Useful). u.moment) (get_or-set_other board (next - 1) k e none (λ is. omega (arith, low, is)))
    at_moment k none (inr other) (inl high) = ap (λ (u : Useful). u.moment) (get_or-set_other board (next - 1) k e none (λ is. omega (arith, high, is)))
    at_moment k none (inr low) (inr high) =
        let at : k ≡ next - 1 = omega (arith, low, high) in
        subst (λ n. (get_or (set board (next - 1) e) n none).moment ≡ (get_or board n none).moment) (sym at) (ap (λ (u : Useful). u.moment) (now none) ∙ (moment ∙ ap (λ (u : Useful). u.moment) (was none)))

    at_block : (k : ℕ) (none : Useful) → (k < next - 1) ⊎ (next - 1 ≤ k) → (next - 1 < k) ⊎ (k ≤ next - 1) → (get_or (set board (next - 1) e) k none).block ≡ (get_or board k none).block
    at_block k none (inl low) other = ap (λ (u : Useful). u.block) (get_or-set_other board (next - 1) k e none (λ is. omega (arith, low, is)))
    at_block k none (inr other) (inl high) = ap (λ (u : Useful). u.block) (get_or-set_other board (next - 1) k e none (λ is. omega (arith, high, is)))
    at_block k none (inr low) (inr high) =
        let at : k ≡ next - 1 = omega (arith, low, high) in
        subst (λ n. (get_or (set board (next - 1) e) n none).block ≡ (get_or board n none).block) (sym at) (ap (λ (u : Useful). u.block) (now none) ∙ (block ∙ ap (λ (u : Useful). u.block) (was none)))

    at_so_far : (k : ℕ) (none : Useful) → (k < next - 1) ⊎ (next - 1 ≤ k) → (next - 1 < k) ⊎ (k ≤ next - 1) → (get_or (set board (next - 1) e) k none).so_far ≡ (get_or board k none).so_far
    at_so_far k none (inl low) other = ap (λ (u : Useful). u.so_far) (get_or-set_other board (next - 1) k e none (λ is. omega (arith, low, is)))
    at_so_far k none (inr other) (inl high) = ap (λ (u : Useful). u.so_far) (get_or-set_other board (next - 1) k e none (λ is. omega (arith, high, is)))
    at_so_far k none (inr low) (inr high) =
        let at : k ≡ next - 1 = omega (arith, low, high) in
        subst (λ n. (get_or (set board (next - 1) e) n none).so_far ≡ (get_or board n none).so_far) (sym at) (ap (λ (u : Useful). u.so_far) (now none) ∙ (so_far ∙ ap (λ (u : Useful). u.so_far) (was none)))

pub told_rises : (next : ℕ) (old new : List Useful) → IsTold next old new → Rises old → Rises new
told_rises next old new told rises j k none low high =
    let size = told.size in
    let up = rises j k none low (omega (arith, high, size)) in
    let a = told.moments j none in
    let b = told.moments k none in
    let c = told.blocks j none in
    let d = told.blocks k none in
    (omega (arith, a, b, up.0), omega (arith, c, d, up.1))

-- ---- a search

pub below_side : (board : List Useful) (t mid : ℕ) (none : Useful) → Rises board → mid < length board → (get_or board mid none).moment < t
    → (k : ℕ) (d : Useful) → k ≤ mid → (get_or board k d).moment < t
below_side board t mid none rises within less k d low =
    let up = (rises k mid none low within).0 in
    let same : (get_or board k d).moment ≡ (get_or board k none).moment = ap (λ (u : Useful). u.moment) (get_or_default board k d none (omega (arith, low, within))) in
    omega (arith, up, same, less)

-- one that leaves within the window has its place between both ends
place_between : (board : List Useful) (from to first count depart arrival : ℕ) → AllWithin (λ (u : Useful). u.moment < from) board 0 first
    → AllWithin (λ (u : Useful). to + 1 ≤ u.moment) board count (length board) → (is : IsPosted board depart arrival) → from ≤ depart → depart ≤ to → (first ≤ is.place) × (is.place < count)
place_between board from to first count depart arrival earlier later is low high = (at_first (cases_lt is.place first), at_last (cases_lt is.place count))
  where
    none : Useful
    none = record { moment = 0; block = 0; onward = unknown; so_far = unknown }

    at_first : (is.place < first) ⊎ (first ≤ is.place) → first ≤ is.place
    at_first (inl less) = let at = is.moment none in let early = earlier is.place none (omega arith) less in absurd (omega (arith, at, early, low))
    at_first (inr past) = past

    at_last : (is.place < count) ⊎ (count ≤ is.place) → is.place < count
    at_last (inl less) = less
    at_last (inr past) = let at = is.moment none in let late = later is.place none past is.within in absurd (omega (arith, at, late, high))

pub none_found : (board : List Useful) (from to first count : ℕ) (bound : FirstTwo) → AllWithin (λ (u : Useful). u.moment < from) board 0 first
    → AllWithin (λ (u : Useful). to + 1 ≤ u.moment) board count (length board) → count ≤ first → BoundsWindow board from to bound
none_found board from to first count bound earlier later none depart arrival posted low high =
    let place = place_between board from to first count depart arrival earlier later posted low high in
    absurd (omega (arith, place.0, place.1, none))

-- where the first and the last within the window are of one block
pub one_block : (board : List Useful) (from to first count : ℕ) (a z : Useful) (two : FirstTwo) → Rises board → count ≤ length board → AllWithin (λ (u : Useful). u.moment < from) board 0 first
    → AllWithin (λ (u : Useful). to + 1 ≤ u.moment) board count (length board) → first < count → a ≡ get_or board first a → z ≡ get_or board (count - 1) z → a.block ≡ z.block
    → ((rank : ℕ) → Precede a.onward rank → Precede z.so_far rank → Precede two rank) → BoundsWindow board from to two
one_block board from to first count a z two rises inside earlier later some is_a is_z same both depart arrival posted low high =
    let place = place_between board from to first count depart arrival earlier later posted low high in
    let up = (rises first posted.place a place.0 posted.within).1 in
    let down = (rises posted.place (count - 1) a (omega (arith, place.1)) (omega (arith, some, inside))).1 in
    let at_a : a.block ≡ (get_or board first a).block = ap (λ (u : Useful). u.block) is_a in
    let at_z : z.block ≡ (get_or board (count - 1) a).block = ap (λ (u : Useful). u.block) (is_z ∙ get_or_default board (count - 1) z a (omega (arith, some, inside))) in
    both arrival
    (subst (λ (u : Useful). Precede u.onward arrival) (sym is_a) (posted.earlier first a place.0 (omega (arith, up, down, at_a, at_z, same))))
    (subst (λ (u : Useful). Precede u.so_far arrival) (sym (is_z ∙ get_or_default board (count - 1) z a (omega (arith, some, inside))))
    (posted.later (count - 1) a (omega (arith, place.1)) (omega (arith, some, inside)) (omega (arith, up, down, at_a, at_z, same))))

-- where they are of two neighbouring blocks
pub two_blocks : (board : List Useful) (from to first count : ℕ) (a z : Useful) (two : FirstTwo) → Rises board → count ≤ length board → AllWithin (λ (u : Useful). u.moment < from) board 0 first
    → AllWithin (λ (u : Useful). to + 1 ≤ u.moment) board count (length board) → first < count → a ≡ get_or board first a → z ≡ get_or board (count - 1) z → z.block ≤ a.block + 1
    → ((rank : ℕ) → Precede a.onward rank → Precede two rank) → ((rank : ℕ) → Precede z.so_far rank → Precede two rank) → BoundsWindow board from to two
two_blocks board from to first count a z two rises inside earlier later some is_a is_z near left right depart arrival posted low high = by_block (cases_lt a.block (get_or board posted.place a).block)
  where
    place : (first ≤ posted.place) × (posted.place < count)
    place = place_between board from to first count depart arrival earlier later posted low high

    up : (get_or board first a).block ≤ (get_or board posted.place a).block
    up = (rises first posted.place a place.0 posted.within).1

    down : (get_or board posted.place a).block ≤ (get_or board (count - 1) a).block
    down = let before = place.1 in (rises posted.place (count - 1) a (omega (arith, before)) (omega (arith, some, inside))).1

    at_a : a.block ≡ (get_or board first a).block
    at_a = ap (λ (u : Useful). u.block) is_a

    at_z : z ≡ get_or board (count - 1) a
    at_z = is_z ∙ get_or_default board (count - 1) z a (omega (arith, some, inside))

    by_block : (a.block < (get_or board posted.place a).block) ⊎ ((get_or board posted.place a).block ≤ a.block) → Precede two arrival
    by_block (inl more) =
        let before = place.1 in
        let last : z.block ≡ (get_or board (count - 1) a).block = ap (λ (u : Useful). u.block) at_z in
        let high_block = down in
        right arrival (subst (λ (u : Useful). Precede u.so_far arrival) (sym at_z)
        (posted.later (count - 1) a (omega (arith, before)) (omega (arith, some, inside)) (omega (arith, more, near, last, high_block))))
    by_block (inr less) =
        let low_block = up in
        let here = at_a in
        left arrival (subst (λ (u : Useful). Precede u.onward arrival) (sym is_a) (posted.earlier first a place.0 (omega (arith, less, low_block, here))))
