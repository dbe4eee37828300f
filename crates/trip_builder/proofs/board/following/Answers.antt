use Rattle.std.proofs.Common.{◌≡◌, ◌∙◌, ◌-◌, length, sym, ap, subst, arith, get_or}
use Rattle.std.proofs.lemmas.List.{get_or_default}
use Rattle.trip_builder.specs.declared.board.Useful.{Useful}
use Rattle.trip_builder.specs.Bounds.{Precede}
use Rattle.trip_builder.proofs.board.following.Goals as goal

pub returns-then-block-last-clause-follows : goal.returns-then-block-last-clause-follows
returns-then-block-last-clause-follows c =
    let board = c.args.board.now in
    let it = c.in-Some.last.now in
    let is : it ≡ get_or board (length board - 1) it = c.in-Some.ensures.item.1 in
    record {
      block = λ none some. (let at = ap (λ (u : Useful). u.block) (is ∙ get_or_default board (length board - 1) it none (omega (arith, some))) in let same = c.if-block-last.true in omega (arith, at, same));
      onward = λ rank is. is;
      so_far = c.join-so_far.ensures.left;
      same = λ none rank some here said. c.join-so_far.ensures.right rank (subst (λ (u : Useful). Precede u.so_far rank) (sym (is ∙ get_or_default board (length board - 1) it none (omega (arith, some)))) said);
    }
