use Rattle.std.proofs.Common.{refl}
use Rattle.journal_text.proofs.CutRead.{cut_read, no_body, no_feed, no_opening, no_sum, no_word}
use Rattle.journal_text.proofs.reader.Reader.cut.Goals as goal

pub returns-in_err-opening : goal.returns-in_err-opening
returns-in_err-opening c = rw c.from_residual.ensures (no_opening c.in_err-opening.ensures)

pub returns-in_err-body : goal.returns-in_err-body
returns-in_err-body c = rw c.from_residual-in_err-body.ensures (no_body c.in_ok-opening.ensures c.in_err-body.ensures)

pub returns-then-not-eat : goal.returns-then-not-eat
returns-then-not-eat c =
    no_word c.in_ok-opening.ensures _ _ _ c.in_ok-body.ensures.0 c.in_ok-body.ensures.1 c.front-summed.ensures c.if-not-eat.ensures

pub returns-then-not-eat-2 : goal.returns-then-not-eat-2
returns-then-not-eat-2 c =
    no_sum c.in_ok-opening.ensures _ _ _ c.in_ok-body.ensures.0 c.in_ok-body.ensures.1 c.front-summed.ensures
    _ _ c.if-not-eat.ensures c.of-sum.ensures c.if-not-eat-2.ensures

pub returns-then-not-eat-3 : goal.returns-then-not-eat-3
returns-then-not-eat-3 c =
    no_feed c.in_ok-opening.ensures _ _ _ c.in_ok-body.ensures.0 c.in_ok-body.ensures.1 c.front-summed.ensures
    _ _ c.if-not-eat.ensures c.of-sum.ensures _ _ c.if-not-eat-2.ensures c.if-not-eat-3.ensures

pub returns : goal.returns
returns c =
    cut_read c.in_ok-opening.ensures _ _ _ c.in_ok-body.ensures.0 c.in_ok-body.ensures.1 c.front-summed.ensures
    _ _ c.if-not-eat.ensures c.of-sum.ensures _ _ c.if-not-eat-2.ensures c.if-not-eat-3.ensures _ refl refl
