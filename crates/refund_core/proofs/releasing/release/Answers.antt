use Rattle.std.proofs.Common.{Some, refl, subst, ◌+◌, ◌*◌}
use Rattle.history_model.specs.Booking.{most_items}
use Rattle.history_model.specs.declared.phase.Phase.{Phase as PhaseShown}
use Rattle.history_model.specs.declared.phase.Phase.TheVariants.{Prebooked as IsPrebooked}
use Rattle.history_model.specs.declared.phase.EndKind.TheVariants.{Release}
use Rattle.booking_rows.specs.declared.turns.Aim.TheVariants as aim
use Rattle.claim_rule.specs.Calls.{AddsStepsBy}
use Rattle.claim_rule.proofs.Out.{holds_then}
use Rattle.confirm_core.specs.RowEnds.{EndsBooking}
use Rattle.confirm_core.proofs.Deciding.{by_length}
use Rattle.refund_core.specs.Releasing.{Releases}
use Rattle.refund_core.specs.declared.releasing.Released.TheVariants as released
use Rattle.refund_core.proofs.ReleaseSteps.{wrong_at_look, releases, gives_away, loses, releases_length}
use Rattle.refund_core.proofs.releasing.release.Goals as goal

pub returns-in_default-clause-none : goal.returns-in_default-clause-none
returns-in_default-clause-none c = c.find_owned.ensures.endings.none c.requires.none

pub returns-in_default-shown-clause-entries : goal.returns-in_default-shown-clause-entries
returns-in_default-shown-clause-entries c =
    wrong_at_look c.args.books.now.layout.rows c.args.row c.args.retailer.0 c.args.now c.in-Some.shown c.args.desk.now c.find_owned.new.desk c.in_default-shown.not-Prebooked c.in-Some.ensures.entries

pub returns-in_default-shown-clause-none : goal.returns-in_default-shown-clause-none
returns-in_default-shown-clause-none c = c.find_owned.ensures.endings.none c.requires.none

pub returns-in_default-shown-clause-bound : goal.returns-in_default-shown-clause-bound
returns-in_default-shown-clause-bound c =
    let answer = released.WrongState c.in-Some.shown in
    by_length (Releases c.args.books.now.layout.rows c.args.row c.args.retailer.0 c.args.now answer) (2 * most_items + 9) c.args.desk.now c.find_owned.new.desk (releases_length c.args.books.now.layout.rows c.args.row c.args.retailer.0 c.args.now answer) (returns-in_default-shown-clause-entries c)

pub end_row-requires-clause-none : goal.end_row-requires-clause-none
end_row-requires-clause-none c = c.find_owned.ensures.endings.none c.requires.none

pub returns-in_default-end_row-clause-entries : goal.returns-in_default-end_row-clause-entries
returns-in_default-end_row-clause-entries c =
    releases c.args.books.now.layout.rows c.args.row c.args.retailer.0 c.args.now c.in-Some.shown c.args.desk.now c.find_owned.new.desk c.end_row.new.desk c.in-Prebooked.is c.in-Some.ensures.entries (c.in_default-end_row.ensures.entries Release refl)

pub returns-in_default-end_row-clause-released : goal.returns-in_default-end_row-clause-released
returns-in_default-end_row-clause-released c = c.in_default-end_row.ensures.ended Release refl

pub returns-in_default-end_row-clause-holds : goal.returns-in_default-end_row-clause-holds
returns-in_default-end_row-clause-holds c = holds_then c.args.desk.now c.find_owned.new.desk c.end_row.new.desk c.find_owned.ensures.holds c.end_row.ensures.holds

pub returns-in_default-end_row-clause-bound : goal.returns-in_default-end_row-clause-bound
returns-in_default-end_row-clause-bound c =
    by_length (Releases c.args.books.now.layout.rows c.args.row c.args.retailer.0 c.args.now released.Done) (2 * most_items + 9) c.args.desk.now c.end_row.new.desk (releases_length c.args.books.now.layout.rows c.args.row c.args.retailer.0 c.args.now released.Done) (returns-in_default-end_row-clause-entries c)

pub returns-in-Free-clause-entries : goal.returns-in-Free-clause-entries
returns-in-Free-clause-entries c =
    gives_away c.args.books.now.layout.rows c.args.row c.args.retailer.0 c.args.now c.in-Some.shown c.args.desk.now c.find_owned.new.desk c.end_row.new.desk c.in-Prebooked.is c.in-Some.ensures.entries
    (subst (λ (p : PhaseShown). AddsStepsBy (EndsBooking c.args.row IsPrebooked Release (aim.Release c.args.now) (Some p)) c.find_owned.new.desk c.end_row.new.desk) c.in-Free.is (c.in-Some-end_row.ensures.entries Release refl))

pub returns-in-Free-clause-holds : goal.returns-in-Free-clause-holds
returns-in-Free-clause-holds c = holds_then c.args.desk.now c.find_owned.new.desk c.end_row.new.desk c.find_owned.ensures.holds c.end_row.ensures.holds

pub returns-in-Free-clause-bound : goal.returns-in-Free-clause-bound
returns-in-Free-clause-bound c =
    by_length (Releases c.args.books.now.layout.rows c.args.row c.args.retailer.0 c.args.now released.Unknown) (2 * most_items + 9) c.args.desk.now c.end_row.new.desk (releases_length c.args.books.now.layout.rows c.args.row c.args.retailer.0 c.args.now released.Unknown) (returns-in-Free-clause-entries c)

pub returns-clause-entries : goal.returns-clause-entries
returns-clause-entries c =
    loses c.args.books.now.layout.rows c.args.row c.args.retailer.0 c.args.now c.in-Some.shown c.in-Some-end_row.found c.args.desk.now c.find_owned.new.desk c.end_row.new.desk c.in-Prebooked.is c.in_default-found.not-Free c.in-Some.ensures.entries (c.in-Some-end_row.ensures.entries Release refl)

pub returns-clause-holds : goal.returns-clause-holds
returns-clause-holds c = holds_then c.args.desk.now c.find_owned.new.desk c.end_row.new.desk c.find_owned.ensures.holds c.end_row.ensures.holds

pub returns-clause-bound : goal.returns-clause-bound
returns-clause-bound c =
    let answer = released.WrongState c.in-Some-end_row.found in
    by_length (Releases c.args.books.now.layout.rows c.args.row c.args.retailer.0 c.args.now answer) (2 * most_items + 9) c.args.desk.now c.end_row.new.desk (releases_length c.args.books.now.layout.rows c.args.row c.args.retailer.0 c.args.now answer) (returns-clause-entries c)
