use Rattle.std.proofs.Common.{refl}
use Rattle.std.proofs.lemmas.Bool.{false≢true}
use Rattle.journal_text.proofs.Scanned.{at_end, at_start, empty, found_some, none_read, step}
use Rattle.journal_text.proofs.cut.holds_cut.Goals as goal

pub loop-reader-init : goal.loop-reader-init
loop-reader-init c = at_start c.args.text.now

pub returns-then-is_some : goal.returns-then-is_some
returns-then-is_some c = (λ is. found_some c.args.text.now c.loop-reader.invariant c.cut.ensures c.if-is_some.ensures, λ h. refl)

pub returns-in_default : goal.returns-in_default
returns-in_default c =
    let none = none_read c.cut.ensures c.if-is_some.ensures in
    (λ is. absurd (false≢true is), λ h. absurd (at_end c.args.text.now (empty c.loop-reader.reader.rest.now c.in_default.ensures.cases) c.loop-reader.invariant none h))

pub loop-reader-preserved : goal.loop-reader-preserved
loop-reader-preserved c =
    step c.args.text.now c.in-Some.field-0-0.now c.in-Some.more.now c.in-Some.ensures.cases.0 c.loop-reader.invariant (none_read c.cut.ensures c.if-is_some.ensures)
