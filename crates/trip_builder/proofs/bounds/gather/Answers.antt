use Rattle.std.proofs.Common.{◌≡◌, ◌∙◌, ◌+◌, ◌<◌, ℕ, List, ◌∷◌, [], ◌++◌, length, length-append, get_or, sym, ap, subst, arith}
use Rattle.std.proofs.lemmas.List.{get_or_append_left}
use Rattle.std.proofs.lemmas.List.Elements.{at_read}
use Rattle.std.proofs.Math.Seq.{get_or-append_seam}
use Rattle.train_runs.specs.declared.departure.Departure.{Departure}
use Rattle.train_runs.specs.Runs.{RunsView}
use Rattle.train_runs.specs.declared.wish.TripWish.{TripWish}
use Rattle.trip_builder.specs.declared.ranks.FirstTwo.{FirstTwo}
use Rattle.trip_builder.specs.Bounds.{RanksView, FirstsOfRide}
use Rattle.trip_builder.proofs.Deciding.{one_further}
use Rattle.trip_builder.proofs.bounds.gather.Goals as goal

abbrev FirstsAt : RunsView → TripWish → RanksView → ℕ → List Departure → List FirstTwo → ℕ → Type 0
FirstsAt r w v changes ds twos k = (d : Departure) (two : FirstTwo) → FirstsOfRide r w v changes (get_or ds k d).run.0 (get_or ds k d).stop (get_or twos k two)

-- those of one departure more
firsts_pushed : (r : RunsView) (w : TripWish) (v : RanksView) (changes : ℕ) (ds : List Departure) (old new : List FirstTwo) (it : FirstTwo) (n : ℕ) → new ≡ old ++ it ∷ [] → length old ≡ n
    → ((k : ℕ) → k < n → FirstsAt r w v changes ds old k) → ((d : Departure) → FirstsOfRide r w v changes (get_or ds n d).run.0 (get_or ds n d).stop it) → (k : ℕ) → k < n + 1 → FirstsAt r w v changes ds new k
firsts_pushed r w v changes ds old new it n is size was own =
    one_further (FirstsAt r w v changes ds new) n
    (λ k less d two.
    (let same : get_or new k two ≡ get_or old k two = ap (λ (l : List FirstTwo). get_or l k two) is ∙ get_or_append_left old (it ∷ []) two k (omega (arith, less, size)) in
    subst (FirstsOfRide r w v changes (get_or ds k d).run.0 (get_or ds k d).stop) (sym same) (was k less d two)))
    (λ d two.
    (let same : get_or new n two ≡ it = ap (λ (l : List FirstTwo). get_or l n two) is ∙ ap (λ (m : ℕ). get_or (old ++ it ∷ []) m two) (sym size) ∙ get_or-append_seam old it [] two in
    subst (FirstsOfRide r w v changes (get_or ds n d).run.0 (get_or ds n d).stop) (sym same) (own d)))

pub loop-departure-preserved : goal.loop-departure-preserved
loop-departure-preserved c =
    let v = c.args.ranks.now in
    let ds = c.args.departures.now in
    let n = c.loop-departure.departure-index in
    let old = c.loop-departure.twos.items in
    let new = c.push.new.self.items in
    let it = c.firsts_of.result in
    let was = c.loop-departure.invariant in
    let is : new ≡ old ++ it ∷ [] = c.in_ok-push.ensures.items in
    let more : length new ≡ length old + 1 = ap (λ (l : List FirstTwo). length l) is ∙ length-append old (it ∷ []) in
    record {
      count = more ∙ ap (λ (m : ℕ). m + 1) was.count;
      each = λ r w ranks rides k d two less.
          firsts_pushed r w v c.args.changes ds old new it n is was.count (λ m low e first. was.each r w ranks rides m e first low)
          (λ e. at_read ds (λ (x : Departure). FirstsOfRide r w v c.args.changes x.run.0 x.stop it) n c.departure-item.result c.loop-departure-test.true c.departure-item.is (c.firsts_of.ensures r w ranks rides) e) k less d two;
    }

pub returns : goal.returns
returns c =
    let was = c.loop-departure.invariant in
    let high = c.loop-departure.auto.departure-index-end in
    let over = c.loop-departure-test.false in
    let all : c.loop-departure.departure-index ≡ length c.args.departures.now = omega (arith, high, over) in
    λ r w ranks rides. record {
      count = was.count ∙ all;
      each = λ k d two less. was.each r w ranks rides k d two (omega (arith, less, all));
    }
