use Rattle.std.proofs.Common.{◌≡◌, ◌+◌, ◌-◌, ◌<◌, ◌≤◌, List, length, take, drop, arith, sym, ap, ◌∙◌, subst}
use Rattle.std.specs.List.{AllPairs}
use Rattle.std.specs.List.Sorted.{IsPartitionPoint}
use Rattle.std.proofs.lemmas.List.{take_rest, length-drop}
use Rattle.train_runs.specs.declared.departure.Departure.{Departure}
use Rattle.train_runs.specs.Departures.{IsBefore}
use Rattle.train_runs.specs.Boards.{IsWindow}
use Rattle.train_runs.proofs.Departing.{rest_in_order, window_between, digits_rise}
use Rattle.train_runs.proofs.departure.Board.between.Goals as goal

pub first_from-requires-2 : goal.first_from-requires-2
first_from-requires-2 g c =
    let all = c.as_slice-departures.result.now in
    record {
      in_order = subst (λ (l : List Departure). AllPairs IsBefore l) (sym (take_rest all c.first_from.result))
          (rest_in_order all c.first_from.result (subst (λ (l : List Departure). AllPairs IsBefore l) (sym (c.as_slice-departures.ensures.value ∙ c.self.view_is)) c.requires.in_order));
    }

pub returns-clause-window : goal.returns-clause-window
returns-clause-window g c =
    let all = c.as_slice-departures.result.now in
    let same = c.as_slice-departures.ensures.value ∙ c.self.view_is in
    subst (λ (l : List Departure). IsWindow c.args.from c.args.to l (take c.first_from-2.result (take (length all - c.first_from.result) (drop c.first_from.result all)))) same
    (window_between all (take (length all - c.first_from.result) (drop c.first_from.result all)) c.args.from c.args.to c.first_from.result c.first_from-2.result
    (take_rest all c.first_from.result) c.first_from.ensures.within c.first_from-2.ensures.within
    c.first_from.ensures.splits
    c.first_from-2.ensures.splits)

pub returns-clause-cost : goal.returns-clause-cost
returns-clause-cost g c =
    let all = c.as_slice-departures.result.now in
    let rest = take (length all - c.first_from.result) (drop c.first_from.result all) in
    let same : length all ≡ length c.args.self.now = ap length (c.as_slice-departures.ensures.value ∙ c.self.view_is) in
    let size : length rest ≡ length all - c.first_from.result = ap length (take_rest all c.first_from.result) ∙ length-drop c.first_from.result all in
    let one = digits_rise (length all) (length c.args.self.now) (omega (arith, same)) in
    let two = digits_rise (length rest) (length c.args.self.now) (omega (arith, same, size)) in
    omega (arith, c.first_from.ensures.cost, c.first_from-2.ensures.cost, one, two)
