-- What the steps of requests take, seal and start.
use Rattle.std.proofs.Common.{◌≡◌, ◌∙◌, ◌+◌, ◌≤◌, ℕ, suc, List, [], ◌∷◌, ◌++◌, Bool, true, false, ◌==◌, ◌&&◌, map, length, refl, sym, ap, subst, arith}
use Rattle.std.specs.List.{AllByRecursion}
use Rattle.history_model.specs.declared.entry.Entry.{Entry}
use Rattle.history_model.specs.declared.entry.Step.{Step}
use Rattle.history_model.specs.declared.entry.Step.TheVariants.{Look, Take, Give, Start, SawRow, Note, Seal, Turn, LostTurn, Close, Met}
use Rattle.history_model.specs.declared.phase.Phase.TheVariants.{Prebooked}
use Rattle.history_model.specs.Booking.{Layout}
use Rattle.history_model.specs.History.{entry}
use Rattle.history_model.proofs.ListLemmas.{All-append}
use Rattle.host_drill.specs.Generator.{drill_leg}
use Rattle.host_drill.specs.Totals.{one_if}
use Rattle.host_drill.specs.Parts.Outcome.{Sold, TurnedAway, Busy, WithoutRow}
use Rattle.host_drill.specs.Parts.{Outcome, AllMinor, AreParts, IsPart, IsSale, is_minor, is_start, on_leg, outcomes_in, starts_in}
use Rattle.host_drill.proofs.Effects.{IsOfDrill, takes_leg, is_seal}
use Rattle.host_drill.proofs.Occupancy.{steps_in}

abbrev pub is_sold : Outcome → Bool
is_sold Sold = true
is_sold _ = false

-- how many of a list of steps pass
abbrev pub steps_of : (Step → Bool) → List Step → ℕ
steps_of test [] = 0
steps_of test (st ∷ sts) = one_if (test st) + steps_of test sts

pub of_entries : (test : Step → Bool) (d : ℕ) (sts : List Step) → steps_in test (map (entry d) sts) ≡ steps_of test sts
of_entries test d [] = refl
of_entries test d (st ∷ sts) = ap (λ (n : ℕ). one_if (test st) + n) (of_entries test d sts)

steps_append : (test : Step → Bool) (xs ys : List Step) → steps_of test (xs ++ ys) ≡ steps_of test xs + steps_of test ys
steps_append test [] ys = let e : steps_of test ys ≡ 0 + steps_of test ys = omega arith in e
steps_append test (x ∷ xs) ys =
    let rest = steps_append test xs ys in
    let e : one_if (test x) + steps_of test (xs ++ ys) ≡ (one_if (test x) + steps_of test xs) + steps_of test ys = omega (arith, rest) in e

starts_same : (sts : List Step) → steps_of is_start sts ≡ starts_in sts
starts_same [] = refl
starts_same (st ∷ sts) = ap (λ (n : ℕ). one_if (is_start st) + n) (starts_same sts)

-- a minor step takes and seals nothing, and is one of a drill

record IsMinorStep (st : Step) : Type 0 where
  takes : (l : ℕ) → takes_leg l st ≡ false
  seals : is_seal st ≡ false
  drill : IsOfDrill st

minor_step : (st : Step) → is_minor st ≡ true → IsMinorStep st
minor_step (Take row place span) is = absurd cc
minor_step (Give row item) is = absurd cc
minor_step (Seal row phase) is = absurd cc
minor_step (Turn row from to moment amount successor) is = absurd cc
minor_step (Close row) is = absurd cc
minor_step (Look place half shown) is = record { takes = λ l. refl; seals = refl; drill = tt }
minor_step (SawRow row w value) is = record { takes = λ l. refl; seals = refl; drill = tt }
minor_step (Note row w value) is = record { takes = λ l. refl; seals = refl; drill = tt }
minor_step (Start row generation) is = record { takes = λ l. refl; seals = refl; drill = tt }
minor_step (LostTurn row wanted shown) is = record { takes = λ l. refl; seals = refl; drill = tt }
minor_step Met is = record { takes = λ l. refl; seals = refl; drill = tt }

none_of : (test : Step → Bool) (sts : List Step) → ((st : Step) → is_minor st ≡ true → test st ≡ false) → AllMinor sts → steps_of test sts ≡ 0
none_of test [] none minor = refl
none_of test (st ∷ sts) none minor =
    let here = ap one_if (none st minor.0) in
    let rest = none_of test sts none minor.1 in
    let e : one_if (test st) + steps_of test sts ≡ 0 = omega (arith, here, rest) in e

drill_of : (sts : List Step) → AllMinor sts → AllByRecursion IsOfDrill sts
drill_of [] minor = tt
drill_of (st ∷ sts) minor = ((minor_step st minor.0).drill, drill_of sts minor.1)

-- what the steps of one request for a leg come to
pub record PartCounts (leg : ℕ) (o : Outcome) (sts : List Step) : Type 0 where
  pub takes : (l : ℕ) → steps_of (takes_leg l) sts ≡ one_if (is_sold o && (leg == l))
  pub seals : steps_of is_seal sts ≡ one_if (is_sold o)
  pub starts : steps_of is_start sts ≤ 1
  pub drill : AllByRecursion IsOfDrill sts

minor_counts : (leg : ℕ) (o : Outcome) (sts : List Step) → is_sold o ≡ false → AllMinor sts → starts_in sts ≤ 1 → PartCounts leg o sts
minor_counts leg o sts none minor starts = record {
  takes = λ l. none_of (takes_leg l) sts (λ st is. (minor_step st is).takes l) minor ∙ sym (ap (λ (c : Bool). one_if (c && (leg == l))) none);
  seals = none_of is_seal sts (λ st is. (minor_step st is).seals) minor ∙ sym (ap one_if none);
  starts = subst (λ (n : ℕ). n ≤ 1) (sym (starts_same sts)) starts;
  drill = drill_of sts minor;
}

sale_counts : (places leg : ℕ) (sts : List Step) → IsSale places leg sts → PartCounts leg Sold sts
sale_counts places leg sts sale = record {
  takes = takes;
  seals = seals;
  starts = subst (λ (n : ℕ). n ≤ 1) (sym (starts_same sts)) sale.starts;
  drill = subst (AllByRecursion IsOfDrill) (sym sale.are)
      (All-append IsOfDrill sale.front (take ∷ (sale.middle ++ seal ∷ [])) (drill_of sale.front sale.minor.0)
      (refl, All-append IsOfDrill sale.middle (seal ∷ []) (drill_of sale.middle sale.minor.1) (refl, tt)));
}
  where
    take : Step
    take = Take sale.row sale.place (on_leg leg)

    seal : Step
    seal = Seal sale.row Prebooked

    parts : (test : Step → Bool) → ((st : Step) → is_minor st ≡ true → test st ≡ false) → steps_of test sts ≡ one_if (test take) + one_if (test seal)
    parts test none =
        let whole = ap (steps_of test) sale.are ∙ steps_append test sale.front (take ∷ (sale.middle ++ seal ∷ [])) in
        let back = steps_append test sale.middle (seal ∷ []) in
        let front = none_of test sale.front none sale.minor.0 in
        let middle = none_of test sale.middle none sale.minor.1 in
        let e : steps_of test sts ≡ one_if (test take) + one_if (test seal) = omega (arith, whole, back, front, middle) in e

    takes : (l : ℕ) → steps_of (takes_leg l) sts ≡ one_if (leg == l)
    takes l = parts (takes_leg l) (λ st is. (minor_step st is).takes l) ∙ (let e : one_if (leg == l) + 0 ≡ one_if (leg == l) = omega arith in e)

    seals : steps_of is_seal sts ≡ 1
    seals = parts is_seal (λ st is. (minor_step st is).seals)

part_counts : (g : Layout) (history : List Entry) (places leg : ℕ) (o : Outcome) (sts : List Step) → IsPart g history places leg o sts → PartCounts leg o sts
part_counts g history places leg Sold sts part = sale_counts places leg sts part
part_counts g history places leg TurnedAway sts part = minor_counts leg TurnedAway sts refl part.minor part.starts
part_counts g history places leg Busy sts part = minor_counts leg Busy sts refl part.minor part.starts
part_counts g history places leg WithoutRow sts part = minor_counts leg WithoutRow sts refl part.minor part.starts

-- how many outcomes that pass are of requests for the leg, from the k-th request on
abbrev pub on_leg_in : (Outcome → Bool) → ℕ → ℕ → ℕ → List Outcome → ℕ
on_leg_in test seed l k [] = 0
on_leg_in test seed l k (o ∷ os) = one_if (test o && (drill_leg seed k == l)) + on_leg_in test seed l (k + 1) os

-- what the steps of requests come to
pub record Counts (seed k : ℕ) (os : List Outcome) (sts : List Step) : Type 0 where
  pub takes : (l : ℕ) → steps_of (takes_leg l) sts ≡ on_leg_in is_sold seed l k os
  pub seals : steps_of is_seal sts ≡ outcomes_in is_sold os
  pub starts : steps_of is_start sts ≤ length os
  pub drill : AllByRecursion IsOfDrill sts

no_counts : (seed k : ℕ) → Counts seed k [] []
no_counts seed k = record { takes = λ l. refl; seals = refl; starts = (let e : 0 ≤ 0 = omega arith in e); drill = tt }

more_counts : (seed k : ℕ) (o : Outcome) (os : List Outcome) (mine rest : List Step) → PartCounts (drill_leg seed k) o mine → Counts seed (k + 1) os rest → Counts seed k (o ∷ os) (mine ++ rest)
more_counts seed k o os mine rest one more = record {
  takes = λ l. steps_append (takes_leg l) mine rest ∙ (ap (λ (n : ℕ). n + steps_of (takes_leg l) rest) (one.takes l) ∙ ap (λ (n : ℕ). one_if (is_sold o && (drill_leg seed k == l)) + n) (more.takes l));
  seals = steps_append is_seal mine rest ∙ (ap (λ (n : ℕ). n + steps_of is_seal rest) one.seals ∙ ap (λ (n : ℕ). one_if (is_sold o) + n) more.seals);
  starts = (let both = steps_append is_start mine rest in let a = one.starts in let b = more.starts in let e : steps_of is_start (mine ++ rest) ≤ suc (length os) = omega (arith, both, a, b) in e);
  drill = All-append IsOfDrill mine rest one.drill more.drill;
}

pub parts_counts : (g : Layout) (history : List Entry) (places seed k : ℕ) (os : List Outcome) (sts : List Step) → AreParts g history places seed k os sts → Counts seed k os sts
parts_counts g history places seed k [] sts are = subst (λ (s : List Step). Counts seed k [] s) (sym are) (no_counts seed k)
parts_counts g history places seed k (o ∷ os) sts (mine, rest, is, part, more) =
    subst (λ (s : List Step). Counts seed k (o ∷ os) s) (sym is)
    (more_counts seed k o os mine rest (part_counts g history places (drill_leg seed k) o mine part) (parts_counts g history places seed (k + 1) os rest more))
