use Rattle.std.proofs.Common.{◌≡◌, ℕ, drop, take, length, List, ◌-◌, ◌++◌, min, sum_by, sym, ap, ◌∙◌, Some, None, Ok}
use Rattle.std.proofs.lemmas.List.{take_rest}
use Rattle.place_map.specs.declared.coach.Class.{Class}
use Rattle.place_map.specs.declared.coach.Place.{Place}
use Rattle.place_map.specs.Seats.{Seats}
use Rattle.place_map.specs.Places.{coach_places, group_size, first_repeat}
use Rattle.place_map.proofs.Adding.{StandLast-from_split, AreOfRun-coach_places, length-coach_places, too_many, repeated, within_all}
use Rattle.place_map.proofs.map.fresh_places.Goals as goal

sized : (run coach : ℕ) (class : Class) (groups seen : List Seats) (more : ℕ) → more ≡ min (sum_by group_size seen) 4_194_305 → seen ≡ groups → more ≡ min (length (coach_places run coach class groups)) 4_194_305
sized run coach class groups seen more is same =
    is ∙ ap (λ (gs : List Seats). min (sum_by group_size gs) 4_194_305) same ∙ ap (λ (n : ℕ). min n 4_194_305) (sym (length-coach_places run coach class groups))

pub returns-then-are_too_many-clause-fault : goal.returns-then-are_too_many-clause-fault
returns-then-are_too_many-clause-fault c = λ _.
    let coach = c.args.coach.now in
    let last = StandLast-from_split c.args.run.0 c.first_of_run.result c.args.places.now c.first_of_run.ensures.within c.requires.no_later_run c.first_of_run.ensures.splits in
    too_many c.args.run.0 c.first_of_run.result c.size_of_groups-more.result c.args.places.now _ (coach_places c.args.run.0 coach.number coach.class coach.groups.items) last
    (AreOfRun-coach_places c.args.run.0 coach.number coach.class coach.groups.items) (take_rest c.args.places.now c.first_of_run.result)
    (sized c.args.run.0 coach.number coach.class coach.groups.items _ _ c.size_of_groups-more.ensures c.as_slice.ensures.value)
    (sym c.are_too_many.ensures ∙ c.if-are_too_many.true)

pub returns-in-Some-clause-fault : goal.returns-in-Some-clause-fault
returns-in-Some-clause-fault c = λ _.
    let coach = c.args.coach.now in
    let fresh = coach_places c.args.run.0 coach.number coach.class coach.groups.items in
    let last = StandLast-from_split c.args.run.0 c.first_of_run.result c.args.places.now c.first_of_run.ensures.within c.requires.no_later_run c.first_of_run.ensures.splits in
    let made : c.as_slice-2.result.now ≡ fresh = c.as_slice-2.ensures.value ∙ c.in-Ok.ensures.places in
    repeated c.args.run.0 c.first_of_run.result c.size_of_groups-more.result c.args.places.now _ fresh (Some c.in-Some.place) last
    (AreOfRun-coach_places c.args.run.0 coach.number coach.class coach.groups.items) (take_rest c.args.places.now c.first_of_run.result)
    (sized c.args.run.0 coach.number coach.class coach.groups.items _ _ c.size_of_groups-more.ensures c.as_slice.ensures.value)
    (sym c.are_too_many.ensures ∙ c.if-are_too_many.false)
    (ap (λ (l : List Place). first_repeat (take (length c.args.places.now - c.first_of_run.result) (drop c.first_of_run.result c.args.places.now)) l) (sym made) ∙ sym c.first_repeat.ensures ∙ c.in-Some.is)

pub returns-in-None-clause-few : goal.returns-in-None-clause-few
returns-in-None-clause-few c =
    let coach = c.args.coach.now in
    within_all (length (take (length c.args.places.now - c.first_of_run.result) (drop c.first_of_run.result c.args.places.now))) (length c.args.places.now) c.size_of_groups-more.result (length c.in-Ok.fresh.items)
    (sized c.args.run.0 coach.number coach.class coach.groups.items _ _ c.size_of_groups-more.ensures c.as_slice.ensures.value ∙ ap (λ (l : List Place). min (length l) 4_194_305) (sym c.in-Ok.ensures.places))
    (sym c.are_too_many.ensures ∙ c.if-are_too_many.false)

pub returns-in-None-clause-added : goal.returns-in-None-clause-added
returns-in-None-clause-added c =
    let coach = c.args.coach.now in
    let fresh = coach_places c.args.run.0 coach.number coach.class coach.groups.items in
    let last = StandLast-from_split c.args.run.0 c.first_of_run.result c.args.places.now c.first_of_run.ensures.within c.requires.no_later_run c.first_of_run.ensures.splits in
    let made : c.as_slice-2.result.now ≡ fresh = c.as_slice-2.ensures.value ∙ c.in-Ok.ensures.places in
    repeated c.args.run.0 c.first_of_run.result c.size_of_groups-more.result c.args.places.now _ fresh None last
    (AreOfRun-coach_places c.args.run.0 coach.number coach.class coach.groups.items) (take_rest c.args.places.now c.first_of_run.result)
    (sized c.args.run.0 coach.number coach.class coach.groups.items _ _ c.size_of_groups-more.ensures c.as_slice.ensures.value)
    (sym c.are_too_many.ensures ∙ c.if-are_too_many.false)
    (ap (λ (l : List Place). first_repeat (take (length c.args.places.now - c.first_of_run.result) (drop c.first_of_run.result c.args.places.now)) l) (sym made) ∙ sym c.first_repeat.ensures ∙ c.in-None.is)
    ∙ ap (λ (l : List Place). Ok (c.args.places.now ++ l)) (sym c.in-Ok.ensures.places)
