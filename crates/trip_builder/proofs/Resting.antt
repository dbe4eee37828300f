-- Parts of the time: what is told in one of them, and what each knows of the later ones.
use Rattle.std.proofs.Common.{◌≡◌, ◌∙◌, ℕ, ◌+◌, ◌-◌, ◌/◌, ◌%◌, ◌^◌, ◌<◌, ◌≤◌, ◌⊎◌, inl, inr, min, List, length, refl, sym, ap, subst, arith, get_or, set, length-set}
use Rattle.std.proofs.Math.Nat.{div-mul-le_self}
use Rattle.std.proofs.lemmas.Bool.{cases_lt, cases_eq}
use Rattle.std.proofs.lemmas.List.{get_or_default, get_or-set_same, get_or-set_other}
use Rattle.std.proofs.lemmas.Nat.{le-div, pow_pos}
use Rattle.trip_builder.specs.declared.board.Useful.{Useful}
use Rattle.trip_builder.specs.declared.ranks.FirstTwo.{FirstTwo}
use Rattle.trip_builder.specs.declared.rests.Parts.{Parts}
use Rattle.trip_builder.specs.Bounds.{unknown, Precede, Rises}
use Rattle.trip_builder.specs.Boards.{part_at, KeepsBy, IsTold, AreSettled, AreTold, AreRestsIn, AreHints}

-- what is read where a board has no place
abbrev pub nothing : Useful
nothing = record { moment = 0; block = 0; onward = unknown; so_far = unknown }

quotient_up : (x y k : ℕ) → 0 < k → x ≤ y → x / k ≤ y / k
quotient_up x y k some up = let low = div-mul-le_self x k in le-div (x / k) y k some (omega (arith, low, up))

-- later moments lie in later parts
pub part_up : (parts : Parts) (a b : ℕ) → a ≤ b → part_at parts a ≤ part_at parts b
part_up parts a b up = quotient_up (a - parts.start) (b - parts.start) (2 ^ (parts.shift % 64)) (pow_pos (parts.shift % 64)) (omega (arith, up))

-- ---- what is told

pub told_set : (rests : List FirstTwo) (place part : ℕ) (new : FirstTwo) (rank : ℕ) → place < length rests → place ≡ min part (length rests - 1) → Precede new rank → IsTold (set rests place new) part rank
told_set rests place part new rank within is has n low inside =
    let size = length-set rests place new in
    record {
      place = place;
      from = omega (arith, is, low, inside, size);
      within = omega (arith, within, size);
      precedes = subst (λ (x : FirstTwo). Precede x rank) (sym (get_or-set_same rests place new unknown within)) has;
    }

-- what the two precede that are put in a part's place stays
pub kept_by_set : (rests : List FirstTwo) (place : ℕ) (two : FirstTwo) → place < length rests → KeepsBy two rests (set rests place two)
kept_by_set rests place two within n rank both has = by_place (cases_eq n place)
  where
    by_place : (n ≡ place) ⊎ (n ≡ place → ⊥) → Precede (get_or (set rests place two) n unknown) rank
    by_place (inl here) =
        subst (λ m. Precede (get_or (set rests place two) m unknown) rank) (sym here) (subst (λ (x : FirstTwo). Precede x rank) (sym (get_or-set_same rests place two unknown within)) both)
    by_place (inr apart) = subst (λ (x : FirstTwo). Precede x rank) (sym (get_or-set_other rests place n two unknown apart)) has

pub told_kept_by : (two : FirstTwo) (old new : List FirstTwo) (part rank : ℕ) → length new ≡ length old → KeepsBy two old new → Precede two rank → IsTold old part rank → IsTold new part rank
told_kept_by two old new part rank size keeps both told n low inside =
    let it = told n low (omega (arith, inside, size)) in
    record {
      place = it.place;
      from = it.from;
      within = let h = it.within in omega (arith, h, size);
      precedes = keeps it.place rank both it.precedes;
    }

-- ---- what is told of a board, from its last departure back

abbrev pub IsRestBack : ℕ → List Useful → FirstTwo → Type 0
IsRestBack back board rest = (j rank : ℕ) (none : Useful) → length board ≤ j + back → j < length board → Precede (get_or board j none).onward rank → Precede rest rank

abbrev pub AreToldBack : ℕ → List Useful → Parts → List FirstTwo → Type 0
AreToldBack back board parts rests = (j rank : ℕ) (none : Useful) → length board ≤ j + back → j < length board → Precede (get_or board j none).onward rank
    → IsTold rests (part_at parts (get_or board j none).moment) rank

same_place : (board : List Useful) (j place : ℕ) (none : Useful) → j ≡ place → place < length board → get_or board j none ≡ get_or board place nothing
same_place board j place none here within = ap (λ m. get_or board m none) here ∙ get_or_default board place none nothing within

-- one departure more
pub rest_back : (board : List Useful) (back place : ℕ) (rest e : FirstTwo) → back < length board → place ≡ length board - 1 - back → ((rank : ℕ) → Precede rest rank → Precede e rank)
    → ((rank : ℕ) → Precede (get_or board place nothing).onward rank → Precede e rank) → IsRestBack back board rest → IsRestBack (back + 1) board e
rest_back board back place rest e some at left right was j rank none low inside has = by_place (cases_lt place j)
  where
    by_place : (place < j) ⊎ (j ≤ place) → Precede e rank
    by_place (inl past) = left rank (was j rank none (omega (arith, past, at)) inside has)
    by_place (inr less) = right rank (subst (λ (x : Useful). Precede x.onward rank) (same_place board j place none (omega (arith, less, low, at, some)) (omega (arith, at, some))) has)

pub told_back : (board : List Useful) (parts : Parts) (old new : List FirstTwo) (back place : ℕ) (e : FirstTwo) → back < length board → place ≡ length board - 1 - back → length new ≡ length old → KeepsBy e old new
    → ((rank : ℕ) → Precede e rank → IsTold new (part_at parts (get_or board place nothing).moment) rank) → IsRestBack (back + 1) board e → AreToldBack back board parts old → AreToldBack (back + 1) board parts new
told_back board parts old new back place e some at size keeps own rest was j rank none low inside has = by_place (cases_lt place j)
  where
    by_place : (place < j) ⊎ (j ≤ place) → IsTold new (part_at parts (get_or board j none).moment) rank
    by_place (inl past) = told_kept_by e old new (part_at parts (get_or board j none).moment) rank size keeps (rest j rank none low inside has) (was j rank none (omega (arith, past, at)) inside has)
    by_place (inr less) =
        subst (λ (x : Useful). IsTold new (part_at parts x.moment) rank) (sym (same_place board j place none (omega (arith, less, low, at, some)) (omega (arith, at, some)))) (own rank (rest j rank none low inside has))

-- ---- what each part knows of the later ones, from the last one back

-- the last parts know, and the first two of them all come next
pub record IsSettling (first rests : List FirstTwo) (back : ℕ) (next : FirstTwo) : Type 0 where
  pub size : length rests ≡ length first
  pub before : (n : ℕ) → n + back < length first → get_or rests n unknown ≡ get_or first n unknown
  pub done : (n m rank : ℕ) → n ≤ m → length first ≤ n + back → m < length first → Precede (get_or first m unknown) rank → Precede (get_or rests n unknown) rank
  pub further : (m rank : ℕ) → length first ≤ m + back → m < length first → Precede (get_or first m unknown) rank → Precede next rank

pub settling_none : (first : List FirstTwo) (next : FirstTwo) → IsSettling first first 0 next
settling_none first next = record {
  size = refl;
  before = λ n low. refl;
  done = λ n m rank up low inside has. absurd (omega (arith, up, low, inside));
  further = λ m rank low inside has. absurd (omega (arith, low, inside));
}

pub settling_on : (first rests : List FirstTwo) (back part : ℕ) (next e : FirstTwo) → back < length first → part ≡ length first - 1 - back → ((rank : ℕ) → Precede next rank → Precede e rank)
    → ((rank : ℕ) → Precede (get_or rests part unknown) rank → Precede e rank) → IsSettling first rests back next → IsSettling first (set rests part e) (back + 1) e
settling_on first rests back part next e some at left right was = record {
  size = length-set rests part e ∙ was.size;
  before = λ n low. get_or-set_other rests part n e unknown (λ same. omega (arith, same, low, at)) ∙ was.before n (omega (arith, low));
  done = λ n m rank up low inside has. at_place n m rank up low inside has (cases_lt part n);
  further = more;
}
  where
    more : (m rank : ℕ) → length first ≤ m + (back + 1) → m < length first → Precede (get_or first m unknown) rank → Precede e rank
    more m rank low inside has = by_place (cases_lt part m)
      where
        by_place : (part < m) ⊎ (m ≤ part) → Precede e rank
        by_place (inl past) = left rank (was.further m rank (omega (arith, past, at)) inside has)
        by_place (inr less) =
            let here : m ≡ part = omega (arith, less, low, at, some) in
            let same : get_or first m unknown ≡ get_or rests part unknown = ap (λ k. get_or first k unknown) here ∙ sym (was.before part (omega (arith, at, some))) in
            right rank (subst (λ (x : FirstTwo). Precede x rank) same has)

    at_place : (n m rank : ℕ) → n ≤ m → length first ≤ n + (back + 1) → m < length first → Precede (get_or first m unknown) rank → (part < n) ⊎ (n ≤ part) → Precede (get_or (set rests part e) n unknown) rank
    at_place n m rank up low inside has (inl past) =
        subst (λ (x : FirstTwo). Precede x rank) (sym (get_or-set_other rests part n e unknown (λ same. omega (arith, same, past)))) (was.done n m rank up (omega (arith, past, at)) inside has)
    at_place n m rank up low inside has (inr less) =
        let here : n ≡ part = omega (arith, less, low, at, some) in
        let size = was.size in
        subst (λ k. Precede (get_or (set rests part e) k unknown) rank) (sym here)
        (subst (λ (x : FirstTwo). Precede x rank) (sym (get_or-set_same rests part e unknown (omega (arith, at, some, size)))) (more m rank (omega (arith, up, low)) inside has))

pub settling_all : (first rests : List FirstTwo) (back : ℕ) (next : FirstTwo) → length first ≤ back → IsSettling first rests back next → AreSettled first rests
settling_all first rests back next all was n m rank up inside has = was.done n m rank up (omega (arith, all)) inside has

-- what was told, each part up to there knows
pub settled_told : (old new : List FirstTwo) (part n rank : ℕ) → AreSettled old new → IsTold old part rank → n ≤ part → n < length old → Precede (get_or new n unknown) rank
settled_told old new part n rank settled told low inside = let it = told n low inside in settled n it.place rank it.from it.within it.precedes

-- ---- a board's hints

pub rests_made : (board : List Useful) (parts : Parts) (told rests : List FirstTwo) → length rests ≡ length told → AreTold board parts told → AreSettled told rests → AreRestsIn board parts rests
rests_made board parts told rests size are settled j n rank none inside low few has =
    settled_told told rests (part_at parts (get_or board j none).moment) n rank settled (are j rank none inside has) low (omega (arith, few, size))

pub hints_made : (board : List Useful) (parts : Parts) (last : ℕ) (rests : List FirstTwo) → 0 < length board → Rises board → last ≡ (get_or board (length board - 1) nothing).moment → part_at parts last < length rests → AreRestsIn board parts rests → AreHints board parts last (length rests) (λ n. get_or rests n unknown)
hints_made board parts last rests some rises end count are = record {
  stops = stops;
  few = few;
  rests = λ j n rank none inside low has. are j n rank none inside low (below n (part_at parts (get_or board j none).moment) low (few j none inside)) has;
}
  where
    below : (a b : ℕ) → a ≤ b → b < length rests → a < length rests
    below a b low high = omega (arith, low, high)

    stops : (j : ℕ) (none : Useful) → j < length board → (get_or board j none).moment ≤ last
    stops j none inside =
        let up = (rises j (length board - 1) none (omega (arith, inside)) (omega (arith, some))).0 in
        let same = ap (λ (u : Useful). u.moment) (get_or_default board (length board - 1) nothing none (omega (arith, some))) in
        omega (arith, up, same, end)

    few : (j : ℕ) (none : Useful) → j < length board → part_at parts (get_or board j none).moment < length rests
    few j none inside = below (part_at parts (get_or board j none).moment) (part_at parts last) (part_up parts (get_or board j none).moment last (stops j none inside)) count
