use Rattle.std.proofs.Common.{◌≡◌, ◌∙◌, ◌<◌, List, length, ap, sym, subst, arith}
use Rattle.std.specs.Prelude.{All}
use Rattle.std.specs.List.{filter}
use Rattle.rail_ids.specs.declared.PlaceNo.{PlaceNo}
use Rattle.place_map.specs.declared.coach.Place.{Place}
use Rattle.place_map.specs.ByClass.{has_traits}
use Rattle.place_map.specs.Candidates.{candidates_of}
use Rattle.place_map.proofs.Classes.{numbers_within, with_traits_is}
use Rattle.claim_rule.specs.Calls.{AddsStepsBy}
use Rattle.availability.specs.Looks.{CountsFree}
use Rattle.offer_engine.proofs.Candidates.{candidates_few}
use Rattle.offer_engine.proofs.counts.count_segment.Goals as goal

pub count_all-requires-clause-few : goal.count_all-requires-clause-few
count_all-requires-clause-few c =
    let few = candidates_few c.class_places-numbers.result.now c.args.segment.now.run.0 0 c.args.wish.now.class c.places-map.result.now c.class_places-numbers.ensures.untraited in
    let most = c.all-places.ensures.most in
    let same : length c.all-places.result.now ≡ length c.places-map.result.now = ap length c.all-places.ensures.places in
    omega (arith, few, most, same)

pub count_with_traits-requires-clause-few : goal.count_with_traits-requires-clause-few
count_with_traits-requires-clause-few c =
    let few = candidates_few c.class_places-numbers.result.now c.args.segment.now.run.0 0 c.args.wish.now.class c.places-map.result.now c.class_places-numbers.ensures.untraited in
    let most = c.all-places.ensures.most in
    let same : length c.all-places.result.now ≡ length c.places-map.result.now = ap length c.all-places.ensures.places in
    omega (arith, few, most, same)

pub count_with_traits-requires-clause-numbers : goal.count_with_traits-requires-clause-numbers
count_with_traits-requires-clause-numbers c =
    subst (λ (l : List Place). All (λ n. n.0 < length l) c.class_places-numbers.result.now) (sym c.all-places.ensures.places)
    (numbers_within c.args.segment.now.run.0 c.places-map.result.now c.class_places-numbers.result.now c.class_places-numbers.ensures.of_run)

pub returns-clause-entries : goal.returns-clause-entries
returns-clause-entries c =
    let run = c.args.segment.now.run.0 in
    let w = c.args.wish.now in
    let numbers = c.class_places-numbers.result.now in
    let is : filter (has_traits w.wanted c.all-places.result.now) numbers ≡ candidates_of run w.class w.wanted c.args.cat.now.places =
    ap (λ (l : List Place). filter (has_traits w.wanted l) numbers) c.all-places.ensures.places
    ∙ (ap (filter (has_traits w.wanted c.places-map.result.now)) c.class_places-numbers.ensures.places
    ∙ (with_traits_is run w.class w.wanted c.places-map.result.now ∙ ap (candidates_of run w.class w.wanted) c.places-map.ensures.value)) in
    subst (λ (l : List PlaceNo). AddsStepsBy (CountsFree l c.args.segment.now.span c.count_with_traits.result) c.args.desk.now c.count_with_traits.new.desk) is c.count_with_traits.ensures.entries
