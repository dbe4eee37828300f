use Rattle.std.proofs.Common.{◌≡◌, ap, ◌∙◌, arith, None}
use Rattle.json.proofs.Grammar.{read_key-shorter}
use Rattle.json_text.specs.Outlines.{behind_so_many}
use Rattle.json_text.proofs.Passed.{so_many_more, so_many_no_key, so_many_no_value, so_many_none}
use Rattle.json_text.proofs.passing.pass_so_many.Goals as goal

pub returns-in_err-next_key-clause-value : goal.returns-in_err-next_key-clause-value
returns-in_err-next_key-clause-value c =
    let l = c.loop-left in
    let none : behind_so_many c.args.depth c.args.count c.args.reader.now ≡ None = l.invariant.0 ∙ so_many_no_key c.args.depth l.left l.reader (omega arith) c.in_err-next_key.ensures.value in
    grind (arith, none)

pub returns-in_err-skip_value-clause-value : goal.returns-in_err-skip_value-clause-value
returns-in_err-skip_value-clause-value c =
    let l = c.loop-left in
    let none : behind_so_many c.args.depth c.args.count c.args.reader.now ≡ None =
    l.invariant.0 ∙ so_many_no_value c.args.depth l.left l.reader c.next_key.new.self _ (omega arith) c.in_ok-next_key.ensures.value c.in_err-skip_value.ensures.value in
    grind (arith, none)

pub loop-left-preserved : goal.loop-left-preserved
loop-left-preserved c =
    let l = c.loop-left in
    let s = c.next_key.new.self in
    let key = c.in_ok-next_key.ensures.value in (
      l.invariant.0 ∙ so_many_more c.args.depth l.left l.reader s _ _ (omega arith) key c.in_ok-skip_value.ensures.value,
      omega (arith, l.invariant.1, read_key-shorter l.reader _ s key, c.in_ok-skip_value.ensures.shorter),
    )

pub returns-clause-value : goal.returns-clause-value
returns-clause-value c =
    let l = c.loop-left in
    let over : l.left ≡ 0 = omega arith in
    l.invariant.0 ∙ ap (λ n. behind_so_many c.args.depth n l.reader) over ∙ so_many_none c.args.depth l.reader
