use Rattle.std.proofs.Common.{◌-◌, length, take, drop, List, subst, sym, ap, ◌∙◌}
use Rattle.std.specs.List.{AllByRecursion}
use Rattle.std.proofs.lemmas.List.{take_rest}
use Rattle.rail_ids.specs.declared.PlaceNo.{PlaceNo}
use Rattle.place_map.specs.declared.coach.Place.{Place}
use Rattle.place_map.specs.Candidates.{is_class, is_of_class, class_places_of, numbers_of, IsOfRun, AreRising}
use Rattle.place_map.proofs.Numbers.{numbers_rise, candidates_of_run}
use Rattle.place_map.proofs.Classes.{class_places_is, class_places_untraited}
use Rattle.place_map.proofs.map.PlaceMap.class_places.Goals as goal

pub numbers_between-requires : goal.numbers_between-requires
numbers_between-requires c =
    let kept = c.self.inside.places.items in
    subst (λ (l : List PlaceNo). AreRising 0 l) (sym (c.of.ensures ∙ c.self.invariant.2 c.args.class)) (numbers_rise (λ p. is_class p.class c.args.class) 0 kept)

pub returns-clause-places : goal.returns-clause-places
returns-clause-places c =
    let places = c.as_slice-places.result.now in
    let first = c.first_of_run-first.result in
    let all = c.of.ensures ∙ c.self.invariant.2 c.args.class ∙ ap (λ (l : List Place). numbers_of (λ p. is_class p.class c.args.class) 0 l) (sym c.as_slice-places.ensures.value) in
    c.numbers_between.ensures
    ∙ class_places_is c.args.run.0 first c.end_of_run.result c.args.class places (take (length places - first) (drop first places)) c.of.result.now (take_rest places first) c.first_of_run-first.ensures.within
    c.first_of_run-first.ensures.splits c.end_of_run.ensures.splits all
    ∙ ap (class_places_of c.args.run.0 c.args.class) (c.as_slice-places.ensures.value ∙ c.self.view_is)

pub returns-clause-untraited : goal.returns-clause-untraited
returns-clause-untraited c = returns-clause-places c ∙ class_places_untraited c.args.run.0 c.args.class c.args.self.now

pub returns-clause-of_run : goal.returns-clause-of_run
returns-clause-of_run c = subst (λ (l : List PlaceNo). AllByRecursion (IsOfRun c.args.run.0 c.args.self.now) l) (sym (returns-clause-untraited c)) (candidates_of_run c.args.run.0 c.args.class 0 c.args.self.now)

pub returns-clause-rising : goal.returns-clause-rising
returns-clause-rising c = subst (λ (l : List PlaceNo). AreRising 0 l) (sym (returns-clause-places c)) (numbers_rise (is_of_class c.args.run.0 c.args.class) 0 c.args.self.now)
