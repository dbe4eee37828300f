use Rattle.std.proofs.Common.{◌≡◌, ◌≤◌, ◌∙◌, refl, sym, ap, ℕ, length, arith}
use Rattle.history_model.specs.Booking.{Layout}
use Rattle.claim_rule.proofs.Out.{endings_same, endings_then}
use Rattle.booking_rows.specs.Starts.{search_steps}
use Rattle.booking_rows.proofs.StartLemmas.{passed_none, passed_more, started_again}
use Rattle.booking_rows.proofs.holds.start_again.Goals as goal

pub loop-row-init : goal.loop-row-init
loop-row-init c = record {
  own = c.requires.own;
  alone = c.requires.alone;
  none = c.requires.none;
  endings = endings_same c.args.desk.now;
  passed = passed_none c.args.desk.now c.requires.own.legal;
  past = refl;
}

pub loop-row-preserved : goal.loop-row-preserved
loop-row-preserved c =
    let n = c.in_default.ensures.none in record {
      own = c.restart_row.ensures.own;
      alone = c.in_default.ensures.kept;
      none = n.1;
      endings = endings_then c.args.desk.now c.loop-row.desk c.restart_row.new.desk c.loop-row.invariant.endings c.restart_row.ensures.endings;
      passed = passed_more c.args.desk.now c.loop-row.desk c.restart_row.new.desk c.loop-row.row c.loop-row.invariant.passed n.0;
      past = c.restart_row.ensures.past ∙ c.loop-row.invariant.past;
    }

pub returns-in-Some-clause-found : goal.returns-in-Some-clause-found
returns-in-Some-clause-found c =
    let e = c.in-Some.ensures.some in
    (e.1, e.2, c.restart_row.ensures.past ∙ c.loop-row.invariant.past, started_again c.args.desk.now c.loop-row.desk c.restart_row.new.desk c.loop-row.row c.in-Some.hold.row c.loop-row.invariant.passed e.0)

pub returns-in-Some-clause-endings : goal.returns-in-Some-clause-endings
returns-in-Some-clause-endings c = endings_then c.args.desk.now c.loop-row.desk c.restart_row.new.desk c.loop-row.invariant.endings c.restart_row.ensures.endings

at_last : (many row last rows : ℕ) → many ≡ row → row ≤ last → last ≤ row → last ≡ rows → many ≡ rows
at_last many row last rows a b c d = omega (arith, a, b, c, d)

pub returns-clause-found : goal.returns-clause-found
returns-clause-found c =
    let so = c.loop-row.invariant in
    let all = c.rows-row-end.ensures.count ∙ ap (λ (l : Layout). l.rows) (sym c.requires.own.layout) in (
      so.none,
      so.past,
      (
        search_steps 0 so.passed.passed,
        (so.passed.passed, at_last (length so.passed.passed) c.loop-row.row c.rows-row-end.result c.args.desk.now.layout.rows so.passed.many c.loop-row.auto.row-end c.loop-row-test.false all, so.passed.all, refl),
        so.passed.seen,
      ),
    )
