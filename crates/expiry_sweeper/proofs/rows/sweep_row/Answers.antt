use Rattle.std.proofs.Common.{◌≡◌, ℕ, ◌<◌, ◌≤◌, refl, sym, ◌∙◌, subst, arith, pos}
use Rattle.rail_ids.specs.declared.RowNo.{RowNo}
use Rattle.history_model.specs.declared.phase.Phase.TheVariants.{Prebooked, Ending}
use Rattle.history_model.specs.declared.phase.EndKind.TheVariants.{Expire}
use Rattle.history_model.specs.WholeEnds.{end_at}
use Rattle.claim_rule.proofs.Out.{holds_then}
use Rattle.booking_rows.proofs.ViewLemmas.{sealed_of}
use Rattle.confirm_core.proofs.Deciding.{can_turn_by, last_look}
use Rattle.confirm_core.proofs.Seeing.{limit_kept, read_holds, read_endings}
use Rattle.expiry_sweeper.specs.OneRow.{SeenPrebooked}
use Rattle.expiry_sweeper.proofs.Sweeping.{other_phase, no_phase, first_look, passes, all_looks, three_holds, gives_away, waits, expires, loses}
use Rattle.expiry_sweeper.proofs.rows.sweep_row.Goals as goal

late : (n m a : ℕ) → a ≡ n → m < a → m < n
late n m a e l = omega arith

soon : (n m a : ℕ) → a ≡ n → a ≤ m → n ≤ m
soon n m a e l = omega arith

-- it isn't prebooked

pub returns-in_default : goal.returns-in_default
returns-in_default c =
    let w = c.step_read-word in
    record {
      own = w.ensures.own;
      entries = passes c.args.now c.args.row w.result c.args.desk.now w.new.desk (no_phase c.args.row w.result c.args.desk.now w.new.desk w.ensures.look c.in_default.ensures.none) w.ensures.look;
      none = (read_endings c.args.row 0 w.result c.args.desk.now w.new.desk w.ensures.look).none c.requires.none;
      holds = read_holds c.args.row 0 w.result c.args.desk.now w.new.desk w.ensures.look;
    }

pub returns-in_default-shown : goal.returns-in_default-shown
returns-in_default-shown c =
    let w = c.step_read-word in
    let other = other_phase c.args.row w.result c.in-Some.generation c.in-Some.shown c.args.desk.now w.new.desk w.ensures.look c.in-Some.ensures.found c.in_default-shown.not-Prebooked in
    record {
      own = w.ensures.own;
      entries = passes c.args.now c.args.row w.result c.args.desk.now w.new.desk other w.ensures.look;
      none = (read_endings c.args.row 0 w.result c.args.desk.now w.new.desk w.ensures.look).none c.requires.none;
      holds = read_holds c.args.row 0 w.result c.args.desk.now w.new.desk w.ensures.look;
    }

pub look_word-limit-requires-clause-sealed : goal.look_word-limit-requires-clause-sealed
look_word-limit-requires-clause-sealed c =
    let w = c.step_read-word in
    let g = c.in-Some.generation in
    let f = first_look c.args.row g w.result c.in-Some.shown c.args.desk.now w.new.desk w.ensures.look c.in-Prebooked.is c.in-Some.ensures.found in
    sealed_of w.new.desk (record { row = c.args.row; generation = g }) Prebooked f.0

-- its row was given away

pub returns-in-Free-clause-entries : goal.returns-in-Free-clause-entries
returns-in-Free-clause-entries c =
    let w = c.step_read-word in
    let l = c.look_word-limit in
    let e = c.look_phase-last in
    let g = c.in-Some.generation in
    let row : RowNo = record { row = c.args.row; generation = g } in
    let f = first_look c.args.row g w.result c.in-Some.shown c.args.desk.now w.new.desk w.ensures.look c.in-Prebooked.is c.in-Some.ensures.found in
    let z = last_look l.new.desk e.new.desk row e.result e.ensures.entries in
    let s : SeenPrebooked = record { generation = g; limit = l.result; last = z.0 } in
    let seen = all_looks c.args.row s c.args.desk.now w.new.desk l.new.desk e.new.desk f.1 l.ensures.entries z.2 in
    gives_away c.args.now c.args.row s c.args.desk.now e.new.desk (z.1 ∙ c.in-Free.is) seen

pub returns-in-Free-clause-none : goal.returns-in-Free-clause-none
returns-in-Free-clause-none c =
    let w = c.step_read-word in
    let l = c.look_word-limit in
    let e = c.look_phase-last in
    e.ensures.endings.none (l.ensures.endings.none ((read_endings c.args.row 0 w.result c.args.desk.now w.new.desk w.ensures.look).none c.requires.none))

pub returns-in-Free-clause-holds : goal.returns-in-Free-clause-holds
returns-in-Free-clause-holds c =
    let w = c.step_read-word in
    let l = c.look_word-limit in
    let e = c.look_phase-last in
    three_holds c.args.desk.now w.new.desk l.new.desk e.new.desk (read_holds c.args.row 0 w.result c.args.desk.now w.new.desk w.ensures.look) l.ensures.holds e.ensures.holds

-- it waits

pub returns-then-seconds-limit : goal.returns-then-seconds-limit
returns-then-seconds-limit c =
    let w = c.step_read-word in
    let l = c.look_word-limit in
    let e = c.look_phase-last in
    let g = c.in-Some.generation in
    let row : RowNo = record { row = c.args.row; generation = g } in
    let f = first_look c.args.row g w.result c.in-Some.shown c.args.desk.now w.new.desk w.ensures.look c.in-Prebooked.is c.in-Some.ensures.found in
    let z = last_look l.new.desk e.new.desk row e.result e.ensures.entries in
    let s : SeenPrebooked = record { generation = g; limit = l.result; last = z.0 } in
    let seen = all_looks c.args.row s c.args.desk.now w.new.desk l.new.desk e.new.desk f.1 l.ensures.entries z.2 in
    record {
      own = e.ensures.own;
      entries = waits c.args.now c.args.row s c.args.desk.now e.new.desk (λ q. c.in_default-last.not-Free (sym z.1 ∙ q))
          (soon c.args.now l.result c.seconds.result c.seconds.ensures.value c.if-seconds-limit.true) seen;
      none = e.ensures.endings.none (l.ensures.endings.none ((read_endings c.args.row 0 w.result c.args.desk.now w.new.desk w.ensures.look).none c.requires.none));
      holds = three_holds c.args.desk.now w.new.desk l.new.desk e.new.desk (read_holds c.args.row 0 w.result c.args.desk.now w.new.desk w.ensures.look) l.ensures.holds e.ensures.holds;
    }

-- its limit has passed

pub end_row-requires : goal.end_row-requires
end_row-requires c =
    let w = c.step_read-word in
    let l = c.look_word-limit in
    let e = c.look_phase-last in
    let g = c.in-Some.generation in
    let row : RowNo = record { row = c.args.row; generation = g } in
    let f = first_look c.args.row g w.result c.in-Some.shown c.args.desk.now w.new.desk w.ensures.look c.in-Prebooked.is c.in-Some.ensures.found in
    let has = limit_kept row l.result l.new.desk e.new.desk e.ensures.entries.0 l.ensures.own.legal e.ensures.entries.2 (sealed_of l.new.desk row Prebooked (l.ensures.sealed Prebooked f.0)) l.ensures.word (e.ensures.present c.in_default-last.not-Free) in
    record {
      own = e.ensures.own;
      turn = can_turn_by c.args.books.now.layout e.new.desk row l.result Prebooked (Ending Expire) (end_at c.args.now (pos 0) 0) e.ensures.own.layout c.requires.row refl
          (subst (λ (n : ℕ). n ≤ 4102444799) c.seconds.ensures.value c.seconds.ensures.in_years) (late c.args.now l.result c.seconds.result c.seconds.ensures.value c.if-seconds-limit.false, refl, refl) has.1;
      generation = tt;
      ends = (Expire, refl);
      none = e.ensures.endings.none (l.ensures.endings.none ((read_endings c.args.row 0 w.result c.args.desk.now w.new.desk w.ensures.look).none c.requires.none));
    }

pub returns-in-None : goal.returns-in-None
returns-in-None c =
    let w = c.step_read-word in
    let l = c.look_word-limit in
    let e = c.look_phase-last in
    let g = c.in-Some.generation in
    let row : RowNo = record { row = c.args.row; generation = g } in
    let f = first_look c.args.row g w.result c.in-Some.shown c.args.desk.now w.new.desk w.ensures.look c.in-Prebooked.is c.in-Some.ensures.found in
    let z = last_look l.new.desk e.new.desk row e.result e.ensures.entries in
    let s : SeenPrebooked = record { generation = g; limit = l.result; last = z.0 } in
    let seen = all_looks c.args.row s c.args.desk.now w.new.desk l.new.desk e.new.desk f.1 l.ensures.entries z.2 in
    record {
      own = c.end_row.ensures.own;
      entries = expires c.args.now c.args.row s c.args.desk.now e.new.desk c.end_row.new.desk (λ q. c.in_default-last.not-Free (sym z.1 ∙ q))
          (late c.args.now l.result c.seconds.result c.seconds.ensures.value c.if-seconds-limit.false) seen (c.in-None.ensures.entries Expire refl) (c.in-None.ensures.ended Expire refl);
      none = c.end_row.ensures.none;
      holds = holds_then c.args.desk.now e.new.desk c.end_row.new.desk (three_holds c.args.desk.now w.new.desk l.new.desk e.new.desk (read_holds c.args.row 0 w.result c.args.desk.now w.new.desk w.ensures.look) l.ensures.holds e.ensures.holds) c.end_row.ensures.holds;
    }

pub returns-in-Some-end_row : goal.returns-in-Some-end_row
returns-in-Some-end_row c =
    let w = c.step_read-word in
    let l = c.look_word-limit in
    let e = c.look_phase-last in
    let g = c.in-Some.generation in
    let row : RowNo = record { row = c.args.row; generation = g } in
    let f = first_look c.args.row g w.result c.in-Some.shown c.args.desk.now w.new.desk w.ensures.look c.in-Prebooked.is c.in-Some.ensures.found in
    let z = last_look l.new.desk e.new.desk row e.result e.ensures.entries in
    let s : SeenPrebooked = record { generation = g; limit = l.result; last = z.0 } in
    let seen = all_looks c.args.row s c.args.desk.now w.new.desk l.new.desk e.new.desk f.1 l.ensures.entries z.2 in
    record {
      own = c.end_row.ensures.own;
      entries = loses c.args.now c.args.row s c.in-Some-end_row._shown c.args.desk.now e.new.desk c.end_row.new.desk (λ q. c.in_default-last.not-Free (sym z.1 ∙ q))
          (late c.args.now l.result c.seconds.result c.seconds.ensures.value c.if-seconds-limit.false) seen (c.in-Some-end_row.ensures.entries Expire refl);
      none = c.end_row.ensures.none;
      holds = holds_then c.args.desk.now e.new.desk c.end_row.new.desk (three_holds c.args.desk.now w.new.desk l.new.desk e.new.desk (read_holds c.args.row 0 w.result c.args.desk.now w.new.desk w.ensures.look) l.ensures.holds e.ensures.holds) c.end_row.ensures.holds;
    }
