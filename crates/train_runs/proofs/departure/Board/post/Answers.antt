use Rattle.std.proofs.Common.{rules, tests, leb, sym, subst, List, ◌≡◌, true, false}
use Rattle.std.specs.Prelude.{All}
use Rattle.std.specs.List.{AllPairs}
use Rattle.std.specs.List.Sorted.{IsPartitionPoint}
use Rattle.std.proofs.lemmas.List.Sorted.{IsPartitionPoint-from_clause}
use Rattle.train_runs.specs.declared.departure.Departure.{Departure}
use Rattle.train_runs.specs.Departures.{IsBefore}
use Rattle.train_runs.proofs.Departing.{split_by_moment, stays_in_order, either_in_order}
use Rattle.train_runs.proofs.departure.Board.post.Goals as goal

pub returns-clause-in_order : goal.returns-clause-in_order
returns-clause-in_order c =
    let y = c.args.departure in
    let kept = c.self.inside.departures.items in
    let was : kept ≡ c.args.self.now = c.self.view_is in
    let ordered = subst (λ (l : List Departure). AllPairs IsBefore l) (sym was) c.requires.in_order in
    let behind = subst (λ (l : List Departure). All (λ d. d.moment ≡ y.moment → IsBefore d y) l) (sym was) c.requires.behind in
    let seen = c.deref.result.now in
    let found = IsPartitionPoint-from_clause (λ (d : Departure). leb d.moment c.seconds-seconds.result) seen _ c.partition_point-place.ensures.partitioned
    (split_by_moment seen c.seconds-seconds.result (subst (λ (l : List Departure). AllPairs IsBefore l) (sym c.deref.ensures.value) ordered)) (λ a r f' k. search (rules, tests)) in
    let split = subst (λ (l : List Departure). IsPartitionPoint (λ (d : Departure). leb d.moment y.moment ≡ true) (λ (d : Departure). leb d.moment y.moment ≡ false) l c.partition_point-place.result) c.deref.ensures.value
    (subst (λ n. IsPartitionPoint (λ (d : Departure). leb d.moment n ≡ true) (λ (d : Departure). leb d.moment n ≡ false) seen c.partition_point-place.result) c.seconds-seconds.ensures.value found) in
    either_in_order _ kept c.insert.new.self.items c.partition_point-place.result y c.insert.ensures.items ordered (stays_in_order kept c.partition_point-place.result y ordered behind split)
