use Rattle.std.proofs.Common.{◌≡◌, ◌≢◌, ℕ, List, ◌^◌, ◌<◌, [], arith, length, ap}
use Rattle.std.proofs.lemmas.Bool.Decides.{nat_tests}
use Rattle.journal_text.specs.Reads.{said_cut}
use Rattle.journal_text.proofs.Putting.{all_put, at_start, no_line, put_step, too_many}
use Rattle.journal_text.proofs.Scanned.{empty}
use Rattle.journal_text.proofs.lines.put_lines.Goals as goal

pub loop-count-init : goal.loop-count-init
loop-count-init c = at_start c.args.lasts.now (said_cut c.args.cut.now)

pub returns-in_default-clause-err : goal.returns-in_default-clause-err
returns-in_default-clause-err c =
    let all : length c.args.lasts.now < 2 ^ 64 = search in
    rw c.wrong.ensures
    (no_line c.args.lasts.now c.loop-count.lasts (said_cut c.args.cut.now) _ _ _ _ c.loop-count.invariant all
    c.loop-count-test.true c.in_default.ensures)

pub loop-count-preserved : goal.loop-count-preserved
loop-count-preserved c =
    let h = c.in-Some.ensures.found in
    put_step c.args.lasts.now c.loop-count.lasts (said_cut c.args.cut.now) _ _ _ _ c.in-Some.line c.loop-count.invariant
    c.requires.said.size c.loop-count-test.true h.0 h.1 h.2 h.3 h.4 h.5

pub wrong-requires-then-not-is_empty : goal.wrong-requires-then-not-is_empty
wrong-requires-then-not-is_empty c =
    let room = c.loop-count.invariant.room in
    let counted = c.loop-count.invariant.counted in
    let size = c.requires.said.size in
    omega arith

pub returns-then-not-is_empty-clause-err : goal.returns-then-not-is_empty-clause-err
returns-then-not-is_empty-clause-err c =
    let test = c.if-not-is_empty.ensures in
    let some : length c.loop-count.reader.rest.now ≢ 0 = λ z. grind (arith, nat_tests) in
    let over : c.loop-count.count < c.args.cut.now.count → ⊥ = λ h. let f = c.loop-count-test.false in omega arith in
    let full : c.loop-count.reader.rest.now ≢ [] = λ none. some (ap (λ (x : List ℕ). length x) none) in
    rw c.wrong-then-not-is_empty.ensures
    (too_many c.args.lasts.now c.loop-count.lasts (said_cut c.args.cut.now) _ _ _ c.loop-count.invariant over full)

pub returns-clause-ok : goal.returns-clause-ok
returns-clause-ok c =
    let test = c.if-not-is_empty.ensures in
    let none : length c.loop-count.reader.rest.now ≡ 0 = grind (arith, nat_tests) in
    let over : c.loop-count.count < c.args.cut.now.count → ⊥ = λ h. let f = c.loop-count-test.false in omega arith in
    all_put c.args.lasts.now c.loop-count.lasts (said_cut c.args.cut.now) _ _ _ c.loop-count.invariant over
    (empty c.loop-count.reader.rest.now none)
