use Rattle.std.proofs.Common.{◌≡◌, ◌∙◌, ◌<◌, ◌≤◌, List, [], length, inl, inr, sym, ap, subst, arith, get_or, ltb-true}
use Rattle.std.proofs.lemmas.Bool.Decides.{nat_tests}
use Rattle.std.proofs.lemmas.List.{get_or_default}
use Rattle.train_runs.specs.declared.segment.Segment.{Segment}
use Rattle.trip_builder.specs.Order.{last_arrival}
use Rattle.trip_builder.specs.Keeping.{sixteenth, BeginsBehind}
use Rattle.trip_builder.proofs.Keeping.{all_before_late}
use Rattle.trip_builder.proofs.best.Best.outdo.Goals as goal

pub returns-then-bound-self : goal.returns-then-bound-self
returns-then-bound-self c =
    λ w kept e.
    (let at = c.args.self.now.limit in
    let high = c.ranges.bound.fits in
    let late : at < c.args.bound = grind (arith, nat_tests) in
    inl (all_before_late c.args.runs.now c.args.self.now.trips.items at c.args.bound kept.are.order kept.limit (omega (arith, high)) late))

pub returns-in-Some : goal.returns-in-Some
returns-in-Some c =
    λ w kept e.
    (let r = c.args.runs.now in
    let best = c.args.self.now.trips.items in
    let seen = c.deref.result.now in
    let last = c.in-Some.last.now in
    let fits : 15 < length seen = ltb-true 15 (length seen) (sym c.in-Some.ensures.lookup.0) in
    let size = ap (λ (l : List (List Segment)). length l) c.deref.ensures.value in
    let few = kept.are.few in
    let is : c.segments.result.now ≡ sixteenth best =
    c.segments.ensures.value ∙ (c.in-Some.ensures.lookup.1 ∙ (get_or_default seen 15 last [] fits ∙ ap (λ (l : List (List Segment)). get_or l 15 []) c.deref.ensures.value)) in
    inr (record {
      full = omega (arith, fits, size, few);
      some = let none = c.if-is_empty.ensures in grind (arith, nat_tests);
      arrival = subst (λ (t : List Segment). last_arrival r t ≤ c.args.bound) is (c.begins_behind.ensures.arrival e);
      key = subst (λ (t : List Segment). BeginsBehind r t c.args.begun.now c.args.more) is (c.begins_behind.ensures.key e);
    }))
