-- What the coach is read as.
use Rattle.std.proofs.Common.{◌≡◌, ◌∙◌, ℕ, ◌+◌, ◌-◌, ◌≤◌, true, List, [], ◌∷◌, nat_le, Ok, Result, ap, arith, append-nil}
use Rattle.std.proofs.lemmas.Bool.Decides.{nat_tests}
use Rattle.serde_json.specs.Data.{unsigned}
use Rattle.place_map.specs.declared.coach.Class.TheVariants.{Second}
use Rattle.place_map.specs.declared.coach.Place.{Place}
use Rattle.place_map.specs.declared.coach.PlaceFault.{PlaceFault}
use Rattle.place_map.specs.Seats.{Seats}
use Rattle.place_map.specs.Places.{coach_places, with_places}
use Rattle.rail_catalogue.specs.Coaches.{CoachView, group_at, coach_at, coaches_from, placed}
use Rattle.rail_catalogue.specs.Faults.{Fault, after}
use Rattle.host_drill.proofs.Places.{group_from, with_places-group_from}
use Rattle.host_drill.proofs.Value.{group_data, coach_data}

abbrev group : ℕ → Seats
group places = record { first = 1; last = places; traits = 0 }

abbrev coach : List Seats → CoachView
coach groups = record { number = 1; class = Second; groups = groups }

group_at-group_data : (places : ℕ) → 1 ≤ places → places ≤ 9_999 → group_at 0 0 0 (group_data (unsigned places)) ≡ Ok (group places)
group_at-group_data places some few =
    let least : nat_le 1 places ≡ true = grind (arith, nat_tests) in
    let most : nat_le places 9_999 ≡ true = grind (arith, nat_tests) in
    rw (least, most)

coach_at-coach_data : (places : ℕ) → 1 ≤ places → places ≤ 9_999 → coach_at 0 0 (coach_data (unsigned places)) ≡ Ok (coach (group places ∷ []))
coach_at-coach_data places some few = ap (λ (r : Result Seats Fault). after (after r (λ g. Ok (g ∷ []))) (λ groups. Ok (coach groups))) (group_at-group_data places some few)

coach_places-group : (places : ℕ) → coach_places 0 1 Second (group places ∷ []) ≡ group_from 1 places
coach_places-group places = let size : places + 1 - 1 ≡ places = omega arith in append-nil (group_from 1 (places + 1 - 1)) ∙ ap (group_from 1) size

pub coaches_from-coach_data : (places : ℕ) → 1 ≤ places → places ≤ 1_200 → coaches_from 0 0 [] (coach_data (unsigned places) ∷ []) ≡ Ok (group_from 1 places)
coaches_from-coach_data places some few =
    ap (λ (r : Result CoachView Fault). after r (λ c. after (placed (with_places 0 [] (coach_places 0 c.number c.class c.groups))) (λ more. Ok more))) (coach_at-coach_data places some (omega arith))
    ∙ ap (λ (l : List Place). after (placed (with_places 0 [] l)) (λ more. Ok more)) (coach_places-group places)
    ∙ ap (λ (r : Result (List Place) PlaceFault). after (placed r) (λ more. Ok more)) (with_places-group_from places few)
