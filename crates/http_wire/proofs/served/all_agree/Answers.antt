use Rattle.std.proofs.Common.{◌≤◌, List, length, refl, subst, arith}
use Rattle.std.specs.Prelude.{All}
use Rattle.std.proofs.lemmas.List.{take_all}
use Rattle.std.proofs.lemmas.List.Elements.{All-more}
use Rattle.httparse.specs.declared.spans.HeaderSpan.{HeaderSpan}
use Rattle.http_wire.specs.ServedLines.{Agrees}
use Rattle.http_wire.proofs.ServedLemmas.{agree_from, agree_all}
use Rattle.http_wire.proofs.served.all_agree.Goals as goal

pub returns-then-not-agrees : goal.returns-then-not-agrees
returns-then-not-agrees c = (
  λ f. absurd cc,
  λ all.
      let yes = c.agrees.ensures.1 (agree_all c.args.head.now c.args.number c.args.lines.now all c.loop-line.line-index _ (omega arith)) in
      absurd cc,
)

pub loop-line-preserved : goal.loop-line-preserved
loop-line-preserved c =
    All-more (Agrees c.args.head.now c.args.number) c.args.lines.now c.loop-line.line-index _ (omega arith) c.loop-line.invariant
    (c.agrees.ensures.0 c.if-not-agrees.false)

pub returns : goal.returns
returns c =
    let past : length c.args.lines.now ≤ c.loop-line.line-index = omega arith in (
      λ t. agree_from c.args.head.now c.args.number c.args.lines.now
          (subst (λ (ls : List HeaderSpan). All (Agrees c.args.head.now c.args.number) ls) (take_all c.loop-line.line-index c.args.lines.now past) c.loop-line.invariant),
      λ all. refl,
    )
