use Rattle.std.proofs.Common.{◌≡◌, ℕ, ◌+◌, ◌<◌, ◌≤◌, [], ◌∷◌, ◌++◌, length, Some, None, refl, ap, sym, ◌∙◌, subst, arith}
use Rattle.history_model.specs.declared.entry.Step.TheVariants.{Start}
use Rattle.history_model.specs.Booking.{Layout}
use Rattle.claim_rule.specs.Rule.{DeskView}
use Rattle.claim_rule.specs.Desks.{AddsSteps}
use Rattle.claim_rule.specs.Holds.{HoldView, empty_hold}
use Rattle.claim_rule.specs.Out.{KeepsEndings}
use Rattle.claim_rule.proofs.Shapes.{step_shape, shape_then, shape_past, shape_none}
use Rattle.claim_rule.proofs.Out.{endings_same, endings_then}
use Rattle.booking_rows.specs.Starts.{row_looks, Finds}
use Rattle.booking_rows.proofs.StartLemmas.{SeenTaken, taken_none, taken_more, started_taken, holding_past, endings_beside}
use Rattle.booking_rows.proofs.holds.start_free.Goals as goal

pub loop-row-init : goal.loop-row-init
loop-row-init c = record {
  own = c.requires.own;
  alone = c.requires.alone;
  none = c.requires.none;
  endings = endings_same c.args.desk.now;
  taken = subst (SeenTaken c.args.desk.now c.args.desk.now) (sym c.past-first.ensures) (taken_none c.args.desk.now (shape_none c.args.desk.now c.requires.own.legal) c.requires.own.past);
  past = refl;
}

pub loop-row-preserved : goal.loop-row-preserved
loop-row-preserved c =
    let n = c.in_default.ensures.none in record {
      own = c.start_row.ensures.own;
      alone = n.2.same.5 ∙ c.loop-row.invariant.alone;
      none = n.3;
      endings = endings_then c.args.desk.now c.loop-row.desk c.start_row.new.desk c.loop-row.invariant.endings c.start_row.ensures.endings;
      taken = taken_more c.args.desk.now c.loop-row.desk c.start_row.new.desk c.loop-row.row n.0 c.loop-row.invariant.taken n.1 n.2;
      past = n.2.same.6 ∙ c.loop-row.invariant.past;
    }

-- the rows known to be taken end where the search began, or before the row
not_past : (now past first row many : ℕ) → now ≡ past → past ≡ first → first + many ≡ row → now ≤ row + 1
not_past now past first row many e f g = omega arith

began_before : (first row many : ℕ) → first + many ≡ row → first ≤ row + 1
began_before first row many e = omega arith

pub pass-requires : goal.pass-requires
pass-requires c =
    let e = c.in-Some.ensures.some in
    record {
      further = not_past c.start_row.new.desk.past c.loop-row.desk.past c.args.desk.now.past c.loop-row.row (length c.loop-row.invariant.taken.shown) e.0.same.6 c.loop-row.invariant.past c.loop-row.invariant.taken.many;
      taken = started_taken c.args.desk.now c.loop-row.desk c.start_row.new.desk c.loop-row.row c.loop-row.invariant.taken e.0 c.in-Some.hold e.2 e.1.of.0;
      within = subst (λ (h : HoldView). h.row.row + 1 ≤ c.start_row.new.desk.layout.rows) e.2 (next c.in-Some.hold.row.row c.start_row.new.desk.layout.rows e.1.of.0.row);
    }
  where
    next : (n m : ℕ) → n < m → n + 1 ≤ m
    next n m l = omega arith

pub returns-in-Some-clause-own : goal.returns-in-Some-clause-own
returns-in-Some-clause-own c = c.pass.ensures.own c.args.books.now c.start_row.ensures.own

pub returns-in-Some-clause-endings : goal.returns-in-Some-clause-endings
returns-in-Some-clause-endings c =
    let new = c.start_row.new.desk in
    subst (KeepsEndings c.args.desk.now) (sym c.pass.ensures.past)
    (endings_beside c.args.desk.now new new.kept (c.loop-row.row + 1) (endings_then c.args.desk.now c.loop-row.desk new c.loop-row.invariant.endings c.start_row.ensures.endings))

pub returns-in-Some-clause-found : goal.returns-in-Some-clause-found
returns-in-Some-clause-found c =
    let e = c.in-Some.ensures.some in
    let so = c.loop-row.invariant.taken in
    let hold = c.in-Some.hold in
    let first = c.args.desk.now.past in
    let row_is : hold.row.row ≡ c.loop-row.row = ap (λ (h : HoldView). h.row.row) e.2 in
    let did = subst (λ (r : ℕ). AddsSteps c.args.desk.now c.start_row.new.desk (row_looks first so.shown ++ Start r 0 ∷ [])) (sym row_is)
    (shape_then c.args.desk.now c.loop-row.desk c.start_row.new.desk (row_looks first so.shown) (Start c.loop-row.row 0 ∷ []) so.seen (step_shape (Start c.loop-row.row 0) c.loop-row.desk c.start_row.new.desk e.0)) in
    subst (λ (d : DeskView). Finds c.args.desk.now d (Some hold)) (sym c.pass.ensures.past) (
      holding_past c.start_row.new.desk hold (c.loop-row.row + 1) e.1,
      e.2 ∙ ap empty_hold (sym (ap (λ (h : HoldView). h.row) e.2)),
      ap (λ (h : HoldView). h.row.generation) e.2,
      ap (λ (n : ℕ). n + 1) (sym row_is),
      (so.shown, so.many ∙ sym row_is, so.some, shape_past c.args.desk.now c.start_row.new.desk (row_looks first so.shown ++ Start hold.row.row 0 ∷ []) (c.loop-row.row + 1) (began_before first c.loop-row.row (length so.shown) so.many) did),
    )

pub returns-clause-endings : goal.returns-clause-endings
returns-clause-endings c =
    let d = c.loop-row.desk in
    subst (KeepsEndings c.args.desk.now) (sym c.pass-2.ensures.past) (endings_beside c.args.desk.now d d.kept c.rows.result c.loop-row.invariant.endings)

pub returns-clause-own : goal.returns-clause-own
returns-clause-own c = c.pass-2.ensures.own c.args.books.now c.loop-row.invariant.own

at_last : (past first row last rows all many : ℕ) → first ≡ past → past ≤ all → all ≡ rows → last ≡ rows → (first ≤ last → row ≤ last) → last ≤ row → past + many ≡ row → past + many ≡ all
at_last past first row last rows all many a b c d e f g = omega (arith, a, b, c, d, e, f, g)

before_last : (past all last rows : ℕ) → past ≤ all → all ≡ rows → last ≡ rows → past ≤ last
before_last past all last rows a b c = omega (arith, a, b, c)

pub returns-clause-found : goal.returns-clause-found
returns-clause-found c =
    let old = c.args.desk.now in
    let d = c.loop-row.desk in
    let so = c.loop-row.invariant.taken in
    let rows = c.args.books.now.layout.rows in
    let all : old.layout.rows ≡ rows = ap (λ (l : Layout). l.rows) c.requires.own.layout in
    subst (λ (d : DeskView). Finds old d None) (sym c.pass-2.ensures.past) (
      c.loop-row.invariant.none,
      c.rows.ensures.count ∙ sym all,
      (
        so.shown,
        at_last old.past c.past-first.result c.loop-row.row c.rows-row-end.result rows old.layout.rows (length so.shown) c.past-first.ensures c.requires.own.within all c.rows-row-end.ensures.count c.loop-row.auto.row-end c.loop-row-test.false so.many,
        so.some,
        shape_past old d (row_looks old.past so.shown) c.rows.result (before_last old.past old.layout.rows c.rows.result rows c.requires.own.within all c.rows.ensures.count) so.seen,
      ),
    )
