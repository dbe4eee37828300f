-- The boards of all stations in one list: each stays what it is while others are put behind it.
use Rattle.std.proofs.Common.{◌≡◌, ◌∙◌, ℕ, suc, ◌+◌, ◌-◌, ◌<◌, ◌≤◌, ◌⊎◌, inl, inr, List, [], ◌∷◌, ◌++◌, length, length-append, length-drop, map, take, drop, refl, sym, ap, subst, arith, get_or, slice_range}
use Rattle.std.proofs.lemmas.Bool.{cases_lt}
use Rattle.std.proofs.lemmas.List.{get_or_append_left, get_or-append-add, get_or_push, get_or-map, map_push, length_push, drop-append-le, take-append-le, drop_at, take_all}
use Rattle.trip_builder.specs.declared.board.Useful.{Useful}
use Rattle.trip_builder.specs.declared.boards.Head.{Head}
use Rattle.trip_builder.specs.declared.ranks.FirstTwo.{FirstTwo}
use Rattle.trip_builder.specs.Bounds.{unknown, Precede, Rises, IsPosted}
use Rattle.trip_builder.specs.Boards.{part_at, AreHints, rest_in, no_head, board_of, board_at, boards_at, IsHead, AreHeads, IsHeadOf}
use Rattle.trip_builder.proofs.Resting.{nothing, part_up}

-- ---- a part of a longer list

part_kept : (xs ys : List Useful) (a b : ℕ) → a ≤ b → b ≤ length xs → slice_range (xs ++ ys) a b ≡ slice_range xs a b
part_kept xs ys a b up within =
    let size = length-drop a xs in
    ap (λ (l : List Useful). take (b - a) l) (drop-append-le a xs ys (omega (arith, up, within))) ∙ take-append-le (b - a) (drop a xs) ys (omega (arith, size, up, within))

part_new : (xs ys : List Useful) (a b : ℕ) → a ≡ length xs → b ≡ length (xs ++ ys) → slice_range (xs ++ ys) a b ≡ ys
part_new xs ys a b low high =
    let size = length-append xs ys in
    ap (λ (l : List Useful). take (b - a) l) (drop_at xs ys a (sym low)) ∙ take_all (b - a) ys (omega (arith, low, high, size))

-- ---- a head

head_kept : (useful more : List Useful) (rests : List FirstTwo) (h : Head) → IsHead useful rests h → IsHead (useful ++ more) rests h
head_kept useful more rests h is =
    let same : board_of (useful ++ more) h ≡ board_of useful h = part_kept useful more h.begin h.end is.begins is.ends in
    record {
      begins = is.begins;
      ends = let size = length-append useful more in let h = is.ends in omega (arith, size, h);
      rises = subst Rises (sym same) is.rises;
      hinted = subst (λ (b : List Useful). AreHints b h.parts h.last (length rests - h.hints) (rest_in rests h)) (sym same) is.hinted;
    }

rests_kept : (useful : List Useful) (rests others : List FirstTwo) (h : Head) → IsHead useful rests h → IsHead useful (rests ++ others) h
rests_kept useful rests others h is = record {
  begins = is.begins;
  ends = is.ends;
  rises = is.rises;
  hinted = record {
    stops = is.hinted.stops;
    few = λ j none inside. (let size = length-append rests others in let low = is.hinted.few j none inside in omega (arith, size, low));
    rests = λ j n rank none inside low has. (let few = is.hinted.few j none inside in
        subst (λ (x : FirstTwo). Precede x rank) (sym (get_or_append_left rests others unknown (h.hints + n) (omega (arith, few, low)))) (is.hinted.rests j n rank none inside low has));
  };
}

-- that of a board which is put behind the others, with its hints
pub head_new : (useful board : List Useful) (rests own : List FirstTwo) (h : Head) → h.begin ≡ length useful → h.end ≡ length (useful ++ board) → h.hints ≡ length rests
    → Rises board → AreHints board h.parts h.last (length own) (λ n. get_or own n unknown) → IsHead (useful ++ board) (rests ++ own) h
head_new useful board rests own h begin end hints rises hinted =
    let same : board_of (useful ++ board) h ≡ board = part_new useful board h.begin h.end begin end in
    let size = length-append useful board in
    let long = length-append rests own in
    record {
      begins = omega (arith, begin, end, size);
      ends = omega (arith, end);
      rises = subst Rises (sym same) rises;
      hinted = subst (λ (b : List Useful). AreHints b h.parts h.last (length (rests ++ own) - h.hints) (rest_in (rests ++ own) h)) (sym same)
          (record {
            stops = hinted.stops;
            few = λ j none inside. (let low = hinted.few j none inside in omega (arith, low, long, hints));
            rests = λ j n rank none inside low has.
                subst (λ (x : FirstTwo). Precede x rank) (sym (ap (λ m. get_or (rests ++ own) (m + n) unknown) hints ∙ get_or-append-add rests own n unknown)) (hinted.rests j n rank none inside low has);
          });
    }

-- ---- all heads

pub heads_kept : (heads : List Head) (useful more : List Useful) (rests : List FirstTwo) (numbers : List ℕ) → AreHeads heads useful rests numbers → AreHeads heads (useful ++ more) rests numbers
heads_kept heads useful more rests numbers are = record {
  some = are.some;
  nothing = let first = are.each 0 are.some in part_kept useful more (get_or heads 0 no_head).begin (get_or heads 0 no_head).end first.begins first.ends ∙ are.nothing;
  each = λ k inside. head_kept useful more rests (get_or heads k no_head) (are.each k inside);
  numbered = are.numbered;
}

pub heads_rests : (heads : List Head) (useful : List Useful) (rests others : List FirstTwo) (numbers : List ℕ) → AreHeads heads useful rests numbers → AreHeads heads useful (rests ++ others) numbers
heads_rests heads useful rests others numbers are = record {
  some = are.some;
  nothing = are.nothing;
  each = λ k inside. rests_kept useful rests others (get_or heads k no_head) (are.each k inside);
  numbered = are.numbered;
}

pub heads_more : (heads : List Head) (useful : List Useful) (rests : List FirstTwo) (numbers : List ℕ) (h : Head) → IsHead useful rests h → AreHeads heads useful rests numbers → AreHeads (heads ++ h ∷ []) useful rests numbers
heads_more heads useful rests numbers h is are = record {
  some = omega (arith, size);
  nothing = ap (board_of useful) (get_or_append_left heads (h ∷ []) no_head 0 are.some) ∙ are.nothing;
  each = λ k inside. by_place k inside (cases_lt k (length heads));
  numbered = λ k inside. (let low = are.numbered k inside in omega (arith, low, size));
}
  where
    size : length (heads ++ h ∷ []) ≡ length heads + 1
    size = length_push heads h

    by_place : (k : ℕ) → k < length (heads ++ h ∷ []) → (k < length heads) ⊎ (length heads ≤ k) → IsHead useful rests (get_or (heads ++ h ∷ []) k no_head)
    by_place k inside (inl less) = subst (λ (x : Head). IsHead useful rests x) (sym (get_or_append_left heads (h ∷ []) no_head k less)) (are.each k less)
    by_place k inside (inr past) = subst (λ (x : Head). IsHead useful rests x) (sym (get_or_push heads h no_head k (omega (arith, inside, past, size)))) is

pub numbers_more : (heads : List Head) (useful : List Useful) (rests : List FirstTwo) (numbers : List ℕ) (n : ℕ) → n < length heads → AreHeads heads useful rests numbers → AreHeads heads useful rests (numbers ++ n ∷ [])
numbers_more heads useful rests numbers n fits are = record {
  some = are.some;
  nothing = are.nothing;
  each = are.each;
  numbered = λ k inside. by_place k inside (cases_lt k (length numbers));
}
  where
    by_place : (k : ℕ) → k < length (numbers ++ n ∷ []) → (k < length numbers) ⊎ (length numbers ≤ k) → get_or (numbers ++ n ∷ []) k 0 < length heads
    by_place k inside (inl less) = subst (λ m. m < length heads) (sym (get_or_append_left numbers (n ∷ []) 0 k less)) (are.numbered k less)
    by_place k inside (inr past) = let size = length_push numbers n in subst (λ m. m < length heads) (sym (get_or_push numbers n 0 k (omega (arith, inside, past, size)))) fits

-- ---- what they are seen as

maps_same : (f g : ℕ → List Useful) (xs : List ℕ) → ((k : ℕ) → k < length xs → f (get_or xs k 0) ≡ g (get_or xs k 0)) → map f xs ≡ map g xs
maps_same f g [] same = refl
maps_same f g (x ∷ xs) same = ap (λ (y : List Useful). y ∷ map f xs) (same 0 (omega arith)) ∙ ap (λ (ys : List (List Useful)). g x ∷ ys) (maps_same f g xs (λ k inside. same (suc k) (omega (arith, inside))))

boards_kept : (heads : List Head) (useful more : List Useful) (rests : List FirstTwo) (numbers : List ℕ) (h : Head) → AreHeads heads useful rests numbers
    → boards_at (heads ++ h ∷ []) (useful ++ more) numbers ≡ boards_at heads useful numbers
boards_kept heads useful more rests numbers h are = maps_same (board_at (heads ++ h ∷ []) (useful ++ more)) (board_at heads useful) numbers same
  where
    same : (k : ℕ) → k < length numbers → board_at (heads ++ h ∷ []) (useful ++ more) (get_or numbers k 0) ≡ board_at heads useful (get_or numbers k 0)
    same k inside =
        let number = get_or numbers k 0 in
        let known = are.numbered k inside in
        let is = are.each number known in
        ap (board_of (useful ++ more)) (get_or_append_left heads (h ∷ []) no_head number known) ∙ part_kept useful more (get_or heads number no_head).begin (get_or heads number no_head).end is.begins is.ends

-- one board more
pub boards_more : (heads : List Head) (useful board : List Useful) (rests : List FirstTwo) (numbers : List ℕ) (n : ℕ) (h : Head) → AreHeads heads useful rests numbers → n ≡ length heads
    → h.begin ≡ length useful → h.end ≡ length (useful ++ board) → boards_at (heads ++ h ∷ []) (useful ++ board) (numbers ++ n ∷ []) ≡ boards_at heads useful numbers ++ board ∷ []
boards_more heads useful board rests numbers n h are number begin end =
    let f = board_at (heads ++ h ∷ []) (useful ++ board) in
    let last : f n ≡ board = ap (board_of (useful ++ board)) (get_or_push heads h no_head n (sym number)) ∙ part_new useful board h.begin h.end begin end in
    map_push f numbers n
    ∙ (ap (λ (l : List (List Useful)). l ++ f n ∷ []) (boards_kept heads useful board rests numbers h are) ∙ ap (λ (b : List Useful). boards_at heads useful numbers ++ b ∷ []) last)

-- ---- the board of a station

pub head_there : (heads seen : List Head) (useful : List Useful) (rests : List FirstTwo) (numbers read : List ℕ) (station : ℕ) (h : Head) → AreHeads heads useful rests numbers → read ≡ numbers → seen ≡ heads
    → IsHeadOf read seen station h → IsHead useful rests h
head_there heads seen useful rests numbers read station h are as_numbers as_heads of =
    let its = subst (λ (l : List Head). IsHeadOf numbers l station h) as_heads (subst (λ (l : List ℕ). IsHeadOf l seen station h) as_numbers of) in
    subst (λ (x : Head). IsHead useful rests x) (sym its.is) (are.each (get_or numbers station 0) its.within)

pub board_there : (heads seen : List Head) (useful : List Useful) (numbers read : List ℕ) (now : List (List Useful)) (station : ℕ) (h : Head) (none : List Useful) → boards_at heads useful numbers ≡ now → read ≡ numbers → seen ≡ heads
    → IsHeadOf read seen station h → get_or now station none ≡ board_of useful h
board_there heads seen useful numbers read now station h none view as_numbers as_heads of =
    let its = subst (λ (l : List Head). IsHeadOf numbers l station h) as_heads (subst (λ (l : List ℕ). IsHeadOf l seen station h) as_numbers of) in
    ap (λ (l : List (List Useful)). get_or l station none) (sym view) ∙ (get_or-map (board_at heads useful) numbers station 0 none its.known ∙ ap (board_of useful) (sym its.is))

-- ---- what leaves a board from a moment on

pub past_found : (useful : List Useful) (rests : List FirstTwo) (h : Head) (from : ℕ) (two : FirstTwo) → IsHead useful rests h → h.last < from
    → (depart rank : ℕ) → IsPosted (board_of useful h) depart rank → from ≤ depart → Precede two rank
past_found useful rests h from two is past depart rank posted low =
    let at = posted.moment nothing in
    let stops = is.hinted.stops posted.place nothing posted.within in
    absurd (omega (arith, at, stops, past, low))

pub rest_found : (useful : List Useful) (rests : List FirstTwo) (h : Head) (from : ℕ) (two rest : FirstTwo) → IsHead useful rests h → rest ≡ rest_in rests h (part_at h.parts from)
    → ((rank : ℕ) → Precede rest rank → Precede two rank) → (depart rank : ℕ) → IsPosted (board_of useful h) depart rank → from ≤ depart → Precede two rank
rest_found useful rests h from two rest is value all depart rank posted low =
    let at = posted.moment nothing in
    let up = part_up h.parts from (get_or (board_of useful h) posted.place nothing).moment (omega (arith, at, low)) in
    all rank (subst (λ (x : FirstTwo). Precede x rank) (sym value) (is.hinted.rests posted.place (part_at h.parts from) rank nothing posted.within up (posted.earlier posted.place nothing (omega arith) refl)))
