use Rattle.std.proofs.Common.{◌≡◌, ℕ, ◌<◌, ◌∙◌, true, [], ◌∷◌, rules, refl, subst, sym}
use Rattle.history_model.specs.declared.entry.Step.TheVariants.{SawRow}
use Rattle.history_model.specs.Phase.{is_sealed as sealed_phase}
use Rattle.claim_rule.specs.Desks.{AddsSteps}
use Rattle.claim_rule.proofs.Out.{holds_then, endings_then}
use Rattle.booking_rows.proofs.ViewLemmas.{sealed_of, sealed_on}
use Rattle.confirm_core.specs.Looks.{saw_owner}
use Rattle.confirm_core.proofs.Deciding.{anothers, given_away, owner_seen, last_look}
use Rattle.confirm_core.proofs.looks.find_owned.Goals as goal

pub look_word-owner-requires-clause-sealed : goal.look_word-owner-requires-clause-sealed
look_word-owner-requires-clause-sealed c =
    let p = c.look_phase-shown in
    let is_so : sealed_phase p.result ≡ true = search rules in
    sealed_of p.new.desk c.args.row p.result (p.ensures.sealed is_so)

-- the row was given away

pub returns-in-Free-clause-entries : goal.returns-in-Free-clause-entries
returns-in-Free-clause-entries c =
    let p = c.look_phase-shown in
    let o = c.look_word-owner in
    let l = c.look_phase-last in
    let row = c.args.row in
    let is_so : sealed_phase p.result ≡ true = search rules in
    let here : row.row < c.args.books.now.layout.rows = subst (λ (n : ℕ). row.row < n) c.rows.ensures.count c.if-row-rows.false in
    let z = last_look o.new.desk l.new.desk row l.result l.ensures.entries in
    given_away c.args.books.now.layout.rows row c.args.retailer.0 o.result z.0 (λ shown who last es'. es' ≡ saw_owner row shown who last) p.result (saw_owner row p.result o.result z.0) c.args.desk.now l.new.desk here is_so (z.1 ∙ c.in-Free.is) refl
    (owner_seen c.args.desk.now p.new.desk o.new.desk l.new.desk row o.result z.0 p.result (p.ensures.word is_so) o.ensures.entries z.2)

pub returns-in-Free-clause-holds : goal.returns-in-Free-clause-holds
returns-in-Free-clause-holds c =
    holds_then c.args.desk.now c.look_phase-shown.new.desk c.look_phase-last.new.desk c.look_phase-shown.ensures.holds
    (holds_then c.look_phase-shown.new.desk c.look_word-owner.new.desk c.look_phase-last.new.desk c.look_word-owner.ensures.holds c.look_phase-last.ensures.holds)

pub returns-in-Free-clause-endings : goal.returns-in-Free-clause-endings
returns-in-Free-clause-endings c =
    endings_then c.args.desk.now c.look_phase-shown.new.desk c.look_phase-last.new.desk c.look_phase-shown.ensures.endings
    (endings_then c.look_phase-shown.new.desk c.look_word-owner.new.desk c.look_phase-last.new.desk c.look_word-owner.ensures.endings c.look_phase-last.ensures.endings)

-- it is another retailer's

pub returns-then-owner-from-clause-entries : goal.returns-then-owner-from-clause-entries
returns-then-owner-from-clause-entries c =
    let p = c.look_phase-shown in
    let o = c.look_word-owner in
    let l = c.look_phase-last in
    let row = c.args.row in
    let is_so : sealed_phase p.result ≡ true = search rules in
    let here : row.row < c.args.books.now.layout.rows = subst (λ (n : ℕ). row.row < n) c.rows.ensures.count c.if-row-rows.false in
    let z = last_look o.new.desk l.new.desk row l.result l.ensures.entries in
    anothers c.args.books.now.layout.rows row c.args.retailer.0 o.result z.0 (λ shown who last es'. es' ≡ saw_owner row shown who last) p.result (saw_owner row p.result o.result z.0) c.args.desk.now l.new.desk here is_so (λ e. c.if-owner-from.true (e ∙ sym c.from.ensures)) refl
    (owner_seen c.args.desk.now p.new.desk o.new.desk l.new.desk row o.result z.0 p.result (p.ensures.word is_so) o.ensures.entries z.2)

pub returns-then-owner-from-clause-holds : goal.returns-then-owner-from-clause-holds
returns-then-owner-from-clause-holds c =
    holds_then c.args.desk.now c.look_phase-shown.new.desk c.look_phase-last.new.desk c.look_phase-shown.ensures.holds
    (holds_then c.look_phase-shown.new.desk c.look_word-owner.new.desk c.look_phase-last.new.desk c.look_word-owner.ensures.holds c.look_phase-last.ensures.holds)

pub returns-then-owner-from-clause-endings : goal.returns-then-owner-from-clause-endings
returns-then-owner-from-clause-endings c =
    endings_then c.args.desk.now c.look_phase-shown.new.desk c.look_phase-last.new.desk c.look_phase-shown.ensures.endings
    (endings_then c.look_phase-shown.new.desk c.look_word-owner.new.desk c.look_phase-last.new.desk c.look_word-owner.ensures.endings c.look_phase-last.ensures.endings)

-- it is this retailer's

pub returns-clause-entries : goal.returns-clause-entries
returns-clause-entries c =
    let p = c.look_phase-shown in
    let o = c.look_word-owner in
    let l = c.look_phase-last in
    let row = c.args.row in
    let is_so : sealed_phase p.result ≡ true = search rules in
    let here : row.row < c.args.books.now.layout.rows = subst (λ (n : ℕ). row.row < n) c.rows.ensures.count c.if-row-rows.false in
    let z = last_look o.new.desk l.new.desk row l.result l.ensures.entries in (
      saw_owner row p.result c.args.retailer.0 z.0,
      (here, is_so, (z.0, (λ e. c.in_default.not-Free (sym z.1 ∙ e)), refl)),
      subst (λ (n : ℕ). AddsSteps c.args.desk.now l.new.desk (saw_owner row p.result n z.0)) (c.if-owner-from.false ∙ c.from.ensures)
          (owner_seen c.args.desk.now p.new.desk o.new.desk l.new.desk row o.result z.0 p.result (p.ensures.word is_so) o.ensures.entries z.2),
    )

pub returns-clause-sealed : goal.returns-clause-sealed
returns-clause-sealed c =
    let p = c.look_phase-shown in
    let o = c.look_word-owner in
    let l = c.look_phase-last in
    let row = c.args.row in
    let is_so : sealed_phase p.result ≡ true = search rules in
    let z = last_look o.new.desk l.new.desk row l.result l.ensures.entries in
    sealed_on o.new.desk l.new.desk (SawRow row.row 0 z.0 ∷ []) row z.2 (sealed_of o.new.desk row p.result (o.ensures.sealed p.result (p.ensures.sealed is_so)))

pub returns-clause-holds : goal.returns-clause-holds
returns-clause-holds c =
    holds_then c.args.desk.now c.look_phase-shown.new.desk c.look_phase-last.new.desk c.look_phase-shown.ensures.holds
    (holds_then c.look_phase-shown.new.desk c.look_word-owner.new.desk c.look_phase-last.new.desk c.look_word-owner.ensures.holds c.look_phase-last.ensures.holds)

pub returns-clause-endings : goal.returns-clause-endings
returns-clause-endings c =
    endings_then c.args.desk.now c.look_phase-shown.new.desk c.look_phase-last.new.desk c.look_phase-shown.ensures.endings
    (endings_then c.look_phase-shown.new.desk c.look_word-owner.new.desk c.look_phase-last.new.desk c.look_word-owner.ensures.endings c.look_phase-last.ensures.endings)
