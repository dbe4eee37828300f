use Rattle.std.proofs.Common.{◌≡◌, ◌≤◌, ◌-◌, ◌*◌, ℕ, Option, Some, None, sym, ap, ◌∙◌, subst, option_map, arith}
use Rattle.rail_ids.specs.declared.RowNo.{RowNo}
use Rattle.history_model.specs.Booking.{Layout}
use Rattle.claim_rule.specs.Rule.{DeskView}
use Rattle.claim_rule.specs.Desks.{AddsAtMost}
use Rattle.claim_rule.specs.Holds.{HoldView}
use Rattle.claim_rule.specs.Calls.{AddsStepsBy}
use Rattle.claim_rule.specs.Out.{HoldsNone, KeepsEndings}
use Rattle.claim_rule.proofs.Out.{endings_same, endings_then}
use Rattle.booking_rows.specs.Starts.{StartsHold}
use Rattle.booking_rows.proofs.StartLemmas.{kept_entries, found_entries, again_entries, learns_full, found_bound, again_bound, within_rows, within_both, endings_beside}
use Rattle.booking_rows.proofs.holds.start_hold.Goals as goal

-- the desk as it was, where it keeps no row
same_desk : (old now : DeskView) → now ≡ record old { kept = None } → old.kept ≡ None → now ≡ old
same_desk old now is none = is ∙ (λ i. record old { kept = sym none i })

-- on the kept row

pub returns-in-Some-clause-entries : goal.returns-in-Some-clause-entries
returns-in-Some-clause-entries c =
    let old = c.args.desk.now in
    let row = c.in-Some.hold.row in
    subst (λ (d : DeskView). AddsStepsBy (StartsHold old d (Some row)) old d) (sym c.kept.ensures.kept) (kept_entries c.args.books.now old row c.requires.own c.in-Some.ensures.some.0)

pub returns-in-Some-clause-hold : goal.returns-in-Some-clause-hold
returns-in-Some-clause-hold c = (c.in-Some.ensures.holding c.args.books.now c.requires.own c.requires.none, ap (λ (h : HoldView). h.items) c.in-Some.ensures.some.1)

pub returns-in-Some-clause-own : goal.returns-in-Some-clause-own
returns-in-Some-clause-own c = c.kept.ensures.own c.args.books.now c.requires.own

pub returns-in-Some-clause-endings : goal.returns-in-Some-clause-endings
returns-in-Some-clause-endings c = let old = c.args.desk.now in subst (KeepsEndings old) (sym c.kept.ensures.kept) (endings_beside old old None old.past (endings_same old))

pub returns-in-Some-clause-learns : goal.returns-in-Some-clause-learns
returns-in-Some-clause-learns c = λ none _.
    let no : ◌≡◌ {A = Option RowNo} None (Some c.in-Some.hold.row) = sym none ∙ c.in-Some.ensures.some.0 in cc

-- on a free row

pub start_free-requires-clause-none : goal.start_free-requires-clause-none
start_free-requires-clause-none c = subst HoldsNone (sym (same_desk c.args.desk.now c.kept.new.self c.kept.ensures.kept c.in_default.ensures.none)) c.requires.none

pub returns-in-Some-start_free-clause-endings : goal.returns-in-Some-start_free-clause-endings
returns-in-Some-start_free-clause-endings c =
    let s = c.start_free in
    subst (λ (d : DeskView). KeepsEndings d s.new.desk) (same_desk c.args.desk.now c.kept.new.self c.kept.ensures.kept c.in_default.ensures.none) s.ensures.endings

pub returns-in-Some-start_free-clause-entries : goal.returns-in-Some-start_free-clause-entries
returns-in-Some-start_free-clause-entries c =
    let old = c.args.desk.now in
    let s = c.start_free in
    let hold = c.in-Some-start_free.hold in
    let same = same_desk old c.kept.new.self c.kept.ensures.kept c.in_default.ensures.none in
    subst (λ (d : DeskView). AddsStepsBy (StartsHold d s.new.desk (Some hold.row)) d s.new.desk) same
    (found_entries c.kept.new.self s.new.desk hold (subst HoldsNone (sym same) c.requires.none) (ap (λ (d : DeskView). d.kept) same ∙ c.in_default.ensures.none) s.ensures.own.past c.in-Some-start_free.ensures.found)

pub returns-in-Some-start_free-clause-remembers : goal.returns-in-Some-start_free-clause-remembers
returns-in-Some-start_free-clause-remembers c = λ _.
    let old = c.args.desk.now in
    let s = c.start_free in
    let same = same_desk old c.kept.new.self c.kept.ensures.kept c.in_default.ensures.none in
    subst (λ (d : DeskView). AddsAtMost (s.new.desk.past - d.past) d s.new.desk) same (found_bound c.kept.new.self s.new.desk (Some c.in-Some-start_free.hold) c.in-Some-start_free.ensures.found)

pub returns-in-Some-start_free-clause-bound : goal.returns-in-Some-start_free-clause-bound
returns-in-Some-start_free-clause-bound c =
    let old = c.args.desk.now in
    let s = c.start_free in
    let same = same_desk old c.kept.new.self c.kept.ensures.kept c.in_default.ensures.none in
    within_rows old s.new.desk old.past s.new.desk.past c.args.books.now.layout.rows
    (subst (λ (d : DeskView). AddsAtMost (s.new.desk.past - d.past) d s.new.desk) same (found_bound c.kept.new.self s.new.desk (Some c.in-Some-start_free.hold) c.in-Some-start_free.ensures.found))
    (subst (λ (l : Layout). s.new.desk.past ≤ l.rows) s.ensures.own.layout s.ensures.own.within)

pub returns-in-Some-start_free-clause-learns : goal.returns-in-Some-start_free-clause-learns
returns-in-Some-start_free-clause-learns c = λ _ later. absurd (first c.in-Some-start_free.hold.row.generation c.in-Some-start_free.ensures.found.2 later)
  where
    first : (n : ℕ) → n ≡ 0 → 1 ≤ n → ⊥
    first n e l = omega (arith, e, l)

-- on a row whose booking has ended, or none

pub returns-clause-learns : goal.returns-clause-learns
returns-clause-learns c =
    let s = c.start_free in
    let t = c.start_again in
    let same = same_desk c.args.desk.now c.kept.new.self c.kept.ensures.kept c.in_default.ensures.none in
    let back : c.args.books.now.layout ≡ c.kept.new.self.layout = sym c.requires.own.layout ∙ sym (ap (λ (d : DeskView). d.layout) same) in
    learns_full c.kept.new.self s.new.desk t.new.desk t.result (s.ensures.own.layout ∙ back) (t.ensures.own.layout ∙ back) c.in_default-start_free.ensures.found t.ensures.found c.args.desk.now

pub returns-clause-endings : goal.returns-clause-endings
returns-clause-endings c =
    let s = c.start_free in
    endings_then c.args.desk.now s.new.desk c.start_again.new.desk
    (subst (λ (d : DeskView). KeepsEndings d s.new.desk) (same_desk c.args.desk.now c.kept.new.self c.kept.ensures.kept c.in_default.ensures.none) s.ensures.endings) c.start_again.ensures.endings

pub returns-clause-entries : goal.returns-clause-entries
returns-clause-entries c =
    let old = c.args.desk.now in
    let s = c.start_free in
    let t = c.start_again in
    let same = same_desk old c.kept.new.self c.kept.ensures.kept c.in_default.ensures.none in
    let back : c.args.books.now.layout ≡ c.kept.new.self.layout = sym c.requires.own.layout ∙ sym (ap (λ (d : DeskView). d.layout) same) in
    subst (λ (d : DeskView). AddsStepsBy (StartsHold d t.new.desk (option_map (λ (h : HoldView). h.row) t.result)) d t.new.desk) same
    (again_entries c.kept.new.self s.new.desk t.new.desk t.result (subst HoldsNone (sym same) c.requires.none) (ap (λ (d : DeskView). d.kept) same ∙ c.in_default.ensures.none)
    t.ensures.own.past (s.ensures.own.layout ∙ back) (t.ensures.own.layout ∙ back) c.in_default-start_free.ensures.found t.ensures.found)

pub returns-clause-bound : goal.returns-clause-bound
returns-clause-bound c =
    let old = c.args.desk.now in
    let s = c.start_free in
    let t = c.start_again in
    let same = same_desk old c.kept.new.self c.kept.ensures.kept c.in_default.ensures.none in
    let rows = c.args.books.now.layout.rows in
    let first = subst (λ (d : DeskView). AddsAtMost (s.new.desk.past - d.past) d s.new.desk) same (found_bound c.kept.new.self s.new.desk None c.in_default-start_free.ensures.found) in
    let second = subst (λ (l : Layout). AddsAtMost (2 * l.rows) s.new.desk t.new.desk) s.ensures.own.layout (again_bound s.new.desk t.new.desk t.result (t.ensures.own.layout ∙ sym s.ensures.own.layout) t.ensures.found) in
    within_both old s.new.desk t.new.desk old.past s.new.desk.past rows (c.in_default-start_free.ensures.found.2.3.same.2 ∙ ap (λ (d : DeskView). d.number) same) first (subst (λ (l : Layout). s.new.desk.past ≤ l.rows) s.ensures.own.layout s.ensures.own.within) second
