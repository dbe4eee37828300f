use Rattle.std.proofs.Common.{subst}
use Rattle.leg_masks.specs.Interval.{Interval}
use Rattle.claim_rule.specs.Calls.{AddsStepsBy}
use Rattle.availability.specs.Looks.{CountsFree, row_from}
use Rattle.availability.proofs.Looking.{counted_tidy}
use Rattle.availability.proofs.looks.free_in_row.Goals as goal

singly : goal.returns-then-is_some-clause-entries
singly c =
    let did = c.free_one_by_one in
    subst (λ (s : Interval). AddsStepsBy (CountsFree (row_from c.args.first.0 c.args.count) s did.result) c.args.desk.now did.new.desk) c.of-parts.ensures did.ensures.entries

pub returns-then-is_some-clause-entries : goal.returns-then-is_some-clause-entries
returns-then-is_some-clause-entries c = singly c

pub returns-then-is_some-clause-tidy : goal.returns-then-is_some-clause-tidy
returns-then-is_some-clause-tidy c =
    let did = c.free_one_by_one in
    counted_tidy c.args.books.now c.args.desk.now did.new.desk (row_from c.args.first.0 c.args.count) c.args.span did.result did.ensures.own (singly c) did.ensures.holds did.ensures.endings

by_fours : goal.returns-clause-entries
by_fours c =
    let did = c.free_by_fours in
    subst (λ (s : Interval). AddsStepsBy (CountsFree (row_from c.args.first.0 c.args.count) s did.result) c.args.desk.now did.new.desk) c.of-parts.ensures did.ensures.entries

pub returns-clause-entries : goal.returns-clause-entries
returns-clause-entries c = by_fours c

pub returns-clause-tidy : goal.returns-clause-tidy
returns-clause-tidy c =
    let did = c.free_by_fours in
    counted_tidy c.args.books.now c.args.desk.now did.new.desk (row_from c.args.first.0 c.args.count) c.args.span did.result did.ensures.own (by_fours c) did.ensures.holds did.ensures.endings
