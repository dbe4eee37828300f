-- The departures of a station, put on its board one after the other.
use Rattle.std.proofs.Common.{◌≡◌, ◌∙◌, ℕ, ◌+◌, ◌<◌, ◌≤◌, ◌⊎◌, inl, inr, List, [], ◌∷◌, ◌++◌, length, length-append, sym, ap, subst, arith, get_or, All}
use Rattle.std.proofs.lemmas.Bool.{cases_lt}
use Rattle.std.proofs.lemmas.List.{get_or_default, get_or_append_left}
use Rattle.std.proofs.Math.Seq.{get_or-append_seam}
use Rattle.train_runs.specs.declared.departure.Departure.{Departure}
use Rattle.trip_builder.specs.declared.board.Useful.{Useful}
use Rattle.trip_builder.specs.declared.ranks.FirstTwo.{FirstTwo}
use Rattle.trip_builder.specs.Bounds.{unknown, Precede, HasPosted, IsNoted}
use Rattle.trip_builder.specs.Boards.{InOrder}
use Rattle.trip_builder.proofs.Posting.{noted_on, noted_last}

-- what is read where a list has no place
abbrev pub no_departure : Departure
no_departure = record { moment = 0; run = record { 0 = 0 }; stop = 0 }

-- the departures from `index` on leave no earlier than those of the board
abbrev pub AreBehind : List Departure → List Useful → ℕ → Type 0
AreBehind ds board index = (k : ℕ) (none : Departure) → index ≤ k → k < length ds → All (λ u. u.moment ≤ (get_or ds k none).moment) board

-- those before `index` are noted, where they don't lead to the destination too late
abbrev pub AreNotedBelow : ℕ → List Departure → List FirstTwo → ℕ → List Useful → Type 0
AreNotedBelow index ds twos late board = (k rank : ℕ) (none : Departure) → k < index → k < length ds → k < length twos → Precede (get_or twos k unknown) rank → rank < late → IsNoted board (get_or ds k none).moment rank

pub behind_skip : (ds : List Departure) (board : List Useful) (index : ℕ) → AreBehind ds board index → AreBehind ds board (index + 1)
behind_skip ds board index behind k none low high = behind k none (omega (arith, low)) high

pub behind_post : (ds : List Departure) (board new : List Useful) (index moment : ℕ) (least : FirstTwo) → InOrder ds → index < length ds → moment ≡ (get_or ds index no_departure).moment → HasPosted board moment least new
    → AreBehind ds board index → AreBehind ds new (index + 1)
behind_post ds board new index moment least order fits at has behind k none low high j u below = by_place (cases_lt j (length board))
  where
    by_place : (j < length board) ⊎ (length board ≤ j) → (get_or new j u).moment ≤ (get_or ds k none).moment
    by_place (inl less) =
        let same : (get_or new j u).moment ≡ (get_or board j u).moment =
        ap (λ (l : List Useful). (get_or l j u).moment) has.is ∙ ap (λ (x : Useful). x.moment) (get_or_append_left board (has.it ∷ []) u j less) in
        let old = behind k none (omega (arith, low)) high j u less in
        omega (arith, same, old)
    by_place (inr past) =
        let count : length new ≡ length board + 1 = ap (λ (l : List Useful). length l) has.is ∙ length-append board (has.it ∷ []) in
        let here : j ≡ length board = omega (arith, past, below, count) in
        let same : (get_or new j u).moment ≡ moment =
        ap (λ (l : List Useful). (get_or l j u).moment) has.is
        ∙ (ap (λ n. (get_or (board ++ has.it ∷ []) n u).moment) here ∙ (ap (λ (x : Useful). x.moment) (get_or-append_seam board has.it [] u) ∙ has.moment_is)) in
        let rise = order index k none (omega (arith, low)) high in
        let first : (get_or ds index none).moment ≡ moment = ap (λ (x : Departure). x.moment) (get_or_default ds index none no_departure fits) ∙ sym at in
        omega (arith, same, rise, first)

noted_more : (ds : List Departure) (twos : List FirstTwo) (late : ℕ) (board new : List Useful) (index : ℕ) → index < length ds → AreNotedBelow index ds twos late board
    → ((depart rank : ℕ) → IsNoted board depart rank → IsNoted new depart rank) → ((rank : ℕ) → Precede (get_or twos index unknown) rank → rank < late → IsNoted new (get_or ds index no_departure).moment rank)
    → AreNotedBelow (index + 1) ds twos late new
noted_more ds twos late board new index fits noted old here k rank none low high within has early = by_place (cases_lt k index)
  where
    by_place : (k < index) ⊎ (index ≤ k) → IsNoted new (get_or ds k none).moment rank
    by_place (inl less) = old (get_or ds k none).moment rank (noted k rank none less high within has early)
    by_place (inr past) =
        let at : k ≡ index = omega (arith, low, past) in
        let same : get_or ds k none ≡ get_or ds index no_departure = ap (λ n. get_or ds n none) at ∙ get_or_default ds index none no_departure fits in
        subst (λ (x : Departure). IsNoted new x.moment rank) (sym same) (here rank (subst (λ n. Precede (get_or twos n unknown) rank) at has) early)

pub noted_post : (ds : List Departure) (twos : List FirstTwo) (late : ℕ) (board new : List Useful) (index moment : ℕ) → index < length ds → moment ≡ (get_or ds index no_departure).moment
    → HasPosted board moment (get_or twos index unknown) new → AreNotedBelow index ds twos late board → AreNotedBelow (index + 1) ds twos late new
noted_post ds twos late board new index moment fits at has noted =
    let least = get_or twos index unknown in
    noted_more ds twos late board new index fits noted
    (λ depart rank is. subst (λ (l : List Useful). IsNoted l depart rank) (sym has.is) (noted_on board has.it least depart rank has.rises has.follows is))
    (λ rank precedes early. subst (λ (l : List Useful). IsNoted l (get_or ds index no_departure).moment rank) (sym has.is) (noted_last board has.it least (get_or ds index no_departure).moment rank (has.moment_is ∙ at) has.follows precedes))

pub noted_skip : (ds : List Departure) (twos : List FirstTwo) (late : ℕ) (board : List Useful) (index : ℕ) → index < length ds → late ≤ (get_or twos index unknown).first
    → AreNotedBelow index ds twos late board → AreNotedBelow (index + 1) ds twos late board
noted_skip ds twos late board index fits past noted =
    noted_more ds twos late board board index fits noted (λ depart rank is. is) (λ rank precedes early. (let low = precedes.1.0 in absurd (omega (arith, early, low, past))))
