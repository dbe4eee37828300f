use Rattle.std.proofs.Common.{◌≤◌, List, All, sym, subst}
use Rattle.trip_builder.specs.declared.board.Useful.{Useful}
use Rattle.trip_builder.specs.Bounds.{Rises, Follows}
use Rattle.trip_builder.proofs.Posting.{rises_on}
use Rattle.trip_builder.proofs.board.Board.post.Goals as goal

pub invariant_of-self-2 : goal.invariant_of-self-2
invariant_of-self-2 c =
    let items = c.self.inside.useful.items in
    let e = c.following-useful.result in
    subst (λ (l : List Useful). Rises l) (sym c.in_ok-push.ensures.items)
    (rises_on items e c.args.moment c.args.least c.following-useful.ensures.moment (subst (λ (l : List Useful). Follows l c.args.least e) c.as_slice.ensures.value c.following-useful.ensures.follows)
    c.self.invariant (subst (λ (l : List Useful). All (λ u. u.moment ≤ c.args.moment) l) (sym c.self.view_is) c.requires.later))
