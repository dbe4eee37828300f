use Rattle.std.proofs.Common.{List, sym, ap, subst, length, ◌∙◌, ◌<◌, refl}
use Rattle.std.specs.Prelude.{All}
use Rattle.std.specs.List.{filter}
use Rattle.std.proofs.lemmas.Result.{IfOk-weaker}
use Rattle.rail_ids.specs.declared.PlaceNo.{PlaceNo}
use Rattle.place_map.specs.declared.coach.Place.{Place}
use Rattle.place_map.specs.ByClass.{has_traits}
use Rattle.place_map.proofs.Numbers.{are_of_run, candidates_rise}
use Rattle.place_map.proofs.Classes.{numbers_within, with_traits_is}
use Rattle.place_map.proofs.map.PlaceMap.candidates.Goals as goal

pub with_traits-requires : goal.with_traits-requires
with_traits-requires c =
    subst (λ (l : List Place). All (λ n. n.0 < length l) c.class_places-numbers.result.now) (sym (c.as_slice.ensures.value ∙ c.self.view_is))
    (numbers_within c.args.run.0 c.args.self.now c.class_places-numbers.result.now c.class_places-numbers.ensures.of_run)

pub returns-clause-candidates : goal.returns-clause-candidates
returns-clause-candidates c =
    IfOk-weaker c.with_traits.result _ _
    (λ v e. e ∙ ap (λ (l : List Place). filter (has_traits c.args.wanted l) c.class_places-numbers.result.now) (c.as_slice.ensures.value ∙ c.self.view_is)
    ∙ ap (λ (l : List PlaceNo). filter (has_traits c.args.wanted c.args.self.now) l) c.class_places-numbers.ensures.places
    ∙ with_traits_is c.args.run.0 c.args.class c.args.wanted c.args.self.now)
    c.with_traits.ensures

pub returns-clause-of_run : goal.returns-clause-of_run
returns-clause-of_run c =
    IfOk-weaker c.with_traits.result _ _
    (λ v e. are_of_run c.args.run.0 c.args.class c.args.wanted v.items c.args.self.now c.args.self.now e refl)
    (returns-clause-candidates c)

pub returns-clause-rising : goal.returns-clause-rising
returns-clause-rising c =
    IfOk-weaker c.with_traits.result _ _ (λ v e. rw e (candidates_rise c.args.run.0 c.args.class c.args.wanted c.args.self.now)) (returns-clause-candidates c)
