use Rattle.std.proofs.Common.{◌≡◌, ◌∙◌, length, List, sym, ap, arith, get_or}
use Rattle.trip_builder.specs.declared.ranks.Arrival.{Arrival}
use Rattle.trip_builder.specs.Bounds.{RanksView}
use Rattle.trip_builder.proofs.Ranking.{ranked_time, first_fresh, second_fresh}
use Rattle.trip_builder.proofs.ranks.Ranks.arrival.Goals as goal

pub returns-in_default : goal.returns-in_default
returns-in_default c =
    λ r w are s rest leads precede apart.
    (let at = (ranked_time r w c.args.self.now are s rest leads c.args.two.first precede.1.0 (record { run = record { 0 = 0 }; stop = 0; arrive = 0 })).0 in
    let size : length c.deref.result.now ≡ length c.args.self.now.order = ap (λ (l : List Arrival). length l) (c.deref.ensures.value ∙ ap (λ (v : RanksView). v.order) c.self.view_is) in
    let none = c.in_default.ensures.lookup in
    absurd (omega (arith, at, size, none, c.from.ensures)))

pub returns-then-has_run : goal.returns-then-has_run
returns-then-has_run c =
    λ r w are.
    (let v = c.args.self.now in
    let first = c.in-Some.first.now in
    let is : first ≡ get_or v.order c.args.two.first first =
    c.in-Some.ensures.lookup.1 ∙ (ap (λ n. get_or c.deref.result.now n first) c.from.ensures ∙ ap (λ (l : List Arrival). get_or l c.args.two.first first) (c.deref.ensures.value ∙ ap (λ (x : RanksView). x.order) c.self.view_is)) in
    second_fresh r w v c.args.two c.args.way.now first c.time.result is (sym c.has_run.ensures ∙ c.if-has_run.true) c.time.ensures are)

pub returns : goal.returns
returns c =
    λ r w are.
    (let v = c.args.self.now in
    let first = c.in-Some.first.now in
    let is : first ≡ get_or v.order c.args.two.first first =
    c.in-Some.ensures.lookup.1 ∙ (ap (λ n. get_or c.deref.result.now n first) c.from.ensures ∙ ap (λ (l : List Arrival). get_or l c.args.two.first first) (c.deref.ensures.value ∙ ap (λ (x : RanksView). x.order) c.self.view_is)) in
    first_fresh r w v c.args.two c.args.way.now first is are)
