use Rattle.std.proofs.Common.{◌∙◌, ◌+◌, ◌<◌, ◌≤◌, List, length, sym, ap, subst, arith, get_or, All}
use Rattle.std.proofs.lemmas.List.{get_or_default}
use Rattle.train_runs.specs.declared.departure.Departure.{Departure}
use Rattle.trip_builder.specs.declared.board.Useful.{Useful}
use Rattle.trip_builder.proofs.Adding.{no_departure, AreBehind, AreNotedBelow, behind_skip, behind_post, noted_post, noted_skip}
use Rattle.trip_builder.proofs.board.Board.post_all.Goals as goal
use Rattle.trip_builder.proofs.board.Board.post_all.Goals.{then-two-late+in_ok-post, else-two-late}

pub loop-n-init : goal.loop-n-init
loop-n-init c = record {
  behind = λ k none low high. subst (λ (b : List Useful). All (λ u. u.moment ≤ (get_or c.args.departures.now k none).moment) b) (sym c.requires.none) (λ j u below. absurd (omega (arith, below)));
  noted = λ k rank none low high within has early. absurd (omega (arith, low));
}

pub post-requires : goal.post-requires
post-requires c =
    let ds = c.args.departures.now in
    let n = c.loop-n.n in
    let test = c.loop-n-test.true in
    let least = c.min-n-end.ensures in
    let fits : n < length ds = omega (arith, test, least) in
    let d = c.index-departures-n.result in
    let at = c.seconds.ensures.value ∙ ap (λ (x : Departure). x.moment) (c.index-departures-n.is ∙ get_or_default ds n d no_departure fits) in
    record { later = λ k u below. (let old = c.loop-n.invariant.behind n no_departure (omega arith) fits k u below in omega (arith, old, at)) }

pub loop-n-preserved : goal.loop-n-preserved
loop-n-preserved c =
    let ds = c.args.departures.now in
    let twos = c.args.twos.now in
    let late = c.args.late in
    let board = c.loop-n.self in
    let n = c.loop-n.n in
    let test = c.loop-n-test.true in
    let least = c.min-n-end.ensures in
    let fits : n < length ds = omega (arith, test, least) in
    let d = c.index-departures-n.result in
    let was = c.loop-n.invariant in
    elim c.if-two-late.branch [
      | then-two-late+in_ok-post w ↦
          let made = w.in_ok-post.ensures in
          let at = w.seconds.ensures.value ∙ ap (λ (x : Departure). x.moment) (c.index-departures-n.is ∙ get_or_default ds n d no_departure fits) in
          record {
            behind = subst (λ (l : List Useful). AreBehind ds l (n + 1)) (sym w.self-is) (behind_post ds board _ n w.seconds.result _ c.requires.order fits at made was.behind);
            noted = subst (λ (l : List Useful). AreNotedBelow (n + 1) ds twos late l) (sym w.self-is) (noted_post ds twos late board _ n w.seconds.result fits at made was.noted);
          }
      | else-two-late w ↦
          record {
            behind = subst (λ (l : List Useful). AreBehind ds l (n + 1)) (sym w.self-is) (behind_skip ds board n was.behind);
            noted = subst (λ (l : List Useful). AreNotedBelow (n + 1) ds twos late l) (sym w.self-is) (noted_skip ds twos late board n fits w.if-two-late.false was.noted);
          }
    ]

pub returns : goal.returns
returns c = λ k rank none high within has early.
    (let ended = c.loop-n-test.false in let least = c.min-n-end.ensures in c.loop-n.invariant.noted k rank none (omega (arith, ended, least, high, within)) high within has early)
