use Rattle.std.proofs.Common.{◌≡◌, ◌∙◌, [], List, length, sym, subst, get_or, eqb-true}
use Rattle.std.proofs.lemmas.List.{nil_from_length}
use Rattle.std.proofs.lemmas.Result.{on_ok_weaker}
use Rattle.trip_builder.specs.declared.board.Useful.{Useful}
use Rattle.trip_builder.specs.Boards.{ArePosted}
use Rattle.trip_builder.proofs.boards.Draft.add.Goals as goal

pub returns-then-is_empty : goal.returns-then-is_empty
returns-then-is_empty c =
    let ds = c.args.departures.now in
    let board = c.finish.new.self in
    let posted : ArePosted ds c.args.twos.now c.args.late board = λ k rank none high within has early. c.finish.ensures (get_or ds k none).moment rank (c.in_ok-post_all.ensures k rank none high within has early) in
    let none : board ≡ [] = sym c.all-useful.ensures.value ∙ nil_from_length c.all-useful.result.now (eqb-true (length c.all-useful.result.now) 0 (sym c.if-is_empty.ensures)) in
    on_ok_weaker c.skip.result (λ is. record { board = []; is = is; posted = subst (λ (b : List Useful). ArePosted ds c.args.twos.now c.args.late b) none posted }) c.skip.ensures

pub returns : goal.returns
returns c =
    let ds = c.args.departures.now in
    let board = c.finish.new.self in
    let seen = c.all-useful.result.now in
    let posted : ArePosted ds c.args.twos.now c.args.late board = λ k rank none high within has early. c.finish.ensures (get_or ds k none).moment rank (c.in_ok-post_all.ensures k rank none high within has early) in
    on_ok_weaker c.keep.result
    (λ is. record { board = seen; is = is; posted = subst (λ (b : List Useful). ArePosted ds c.args.twos.now c.args.late b) (sym c.all-useful.ensures.value) posted })
    c.keep.ensures
