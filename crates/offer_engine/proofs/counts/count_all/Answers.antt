use Rattle.std.proofs.Common.{List, length, sym, subst}
use Rattle.rail_ids.specs.declared.PlaceNo.{PlaceNo}
use Rattle.claim_rule.specs.Calls.{AddsStepsBy}
use Rattle.availability.specs.Looks.{CountsFree}
use Rattle.offer_engine.proofs.InRow.{row_within}
use Rattle.offer_engine.proofs.counts.count_all.Goals as goal

pub free_in_row-requires-clause-places : goal.free_in_row-requires-clause-places
free_in_row-requires-clause-places c =
    row_within c.in-Some.first.0 (length c.args.books.now.layout.legs) c.args.numbers.now c.in-Some.ensures.row c.in-Some.ensures.some c.requires.places

pub returns-in-Some-clause-entries : goal.returns-in-Some-clause-entries
returns-in-Some-clause-entries c =
    subst (λ (l : List PlaceNo). AddsStepsBy (CountsFree l c.args.span c.free_in_row.result) c.args.desk.now c.free_in_row.new.desk) (sym c.in-Some.ensures.row) c.free_in_row.ensures.entries
