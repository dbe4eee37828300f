use Rattle.std.proofs.Common.{◌≡◌, ℕ, ◌<◌, ◌∙◌, true, rules, refl, subst, sym}
use Rattle.history_model.specs.Phase.{is_sealed as sealed_phase}
use Rattle.claim_rule.specs.Desks.{AddsSteps}
use Rattle.booking_rows.proofs.ViewLemmas.{sealed_of}
use Rattle.confirm_core.specs.Looks.{HasLimit, saw_terms}
use Rattle.confirm_core.proofs.Deciding.{anothers, given_away, terms_seen, last_look}
use Rattle.confirm_core.proofs.Seeing.{limit_kept, limit_is, no_years}
use Rattle.confirm_core.specs.Confirming.{SawTerms}
use Rattle.confirm_core.proofs.Terms.{four_holds, four_endings}
use Rattle.confirm_core.proofs.confirming.find_terms.Goals as goal

pub look_word-owner-requires-clause-sealed : goal.look_word-owner-requires-clause-sealed
look_word-owner-requires-clause-sealed c =
    let p = c.look_phase-shown in
    let is_so : sealed_phase p.result ≡ true = search rules in
    sealed_of p.new.desk c.args.row p.result (p.ensures.sealed is_so)

pub look_word-limit-requires-clause-sealed : goal.look_word-limit-requires-clause-sealed
look_word-limit-requires-clause-sealed c =
    let p = c.look_phase-shown in
    let o = c.look_word-owner in
    let is_so : sealed_phase p.result ≡ true = search rules in
    sealed_of o.new.desk c.args.row p.result (o.ensures.sealed p.result (p.ensures.sealed is_so))

pub unreachable-requires : goal.unreachable-requires
unreachable-requires c =
    let p = c.look_phase-shown in
    let o = c.look_word-owner in
    let l = c.look_word-limit in
    let e = c.look_phase-last in
    let row = c.args.row in
    let is_so : sealed_phase p.result ≡ true = search rules in
    let has = limit_kept row l.result l.new.desk e.new.desk e.ensures.entries.0 l.ensures.own.legal e.ensures.entries.2 (sealed_of l.new.desk row p.result (l.ensures.sealed p.result (o.ensures.sealed p.result (p.ensures.sealed is_so)))) l.ensures.word (e.ensures.present c.in_default.not-Free) in
    no_years l.result has.0 c.in-None.ensures

-- the row was given away

pub returns-in-Free-clause-entries : goal.returns-in-Free-clause-entries
returns-in-Free-clause-entries c =
    let p = c.look_phase-shown in
    let o = c.look_word-owner in
    let l = c.look_word-limit in
    let e = c.look_phase-last in
    let row = c.args.row in
    let is_so : sealed_phase p.result ≡ true = search rules in
    let here : row.row < c.args.books.now.layout.rows = subst (λ (n : ℕ). row.row < n) c.rows.ensures.count c.if-row-rows.false in
    let z = last_look l.new.desk e.new.desk row e.result e.ensures.entries in
    let seen = terms_seen c.args.desk.now p.new.desk o.new.desk l.new.desk e.new.desk row o.result l.result z.0 p.result (p.ensures.word is_so) o.ensures.entries l.ensures.entries z.2 in
    given_away c.args.books.now.layout.rows row c.args.retailer.0 o.result z.0 (SawTerms row) p.result (saw_terms row p.result o.result l.result z.0) c.args.desk.now e.new.desk here is_so (z.1 ∙ c.in-Free.is) (l.result, refl) seen

pub returns-in-Free-clause-holds : goal.returns-in-Free-clause-holds
returns-in-Free-clause-holds c =
    let p = c.look_phase-shown in
    let o = c.look_word-owner in
    let l = c.look_word-limit in
    let e = c.look_phase-last in
    four_holds c.args.desk.now p.new.desk o.new.desk l.new.desk e.new.desk p.ensures.holds o.ensures.holds l.ensures.holds e.ensures.holds

pub returns-in-Free-clause-endings : goal.returns-in-Free-clause-endings
returns-in-Free-clause-endings c =
    let p = c.look_phase-shown in
    let o = c.look_word-owner in
    let l = c.look_word-limit in
    let e = c.look_phase-last in
    four_endings c.args.desk.now p.new.desk o.new.desk l.new.desk e.new.desk p.ensures.endings o.ensures.endings l.ensures.endings e.ensures.endings

-- it is another retailer's

pub returns-then-owner-from-clause-entries : goal.returns-then-owner-from-clause-entries
returns-then-owner-from-clause-entries c =
    let p = c.look_phase-shown in
    let o = c.look_word-owner in
    let l = c.look_word-limit in
    let e = c.look_phase-last in
    let row = c.args.row in
    let is_so : sealed_phase p.result ≡ true = search rules in
    let here : row.row < c.args.books.now.layout.rows = subst (λ (n : ℕ). row.row < n) c.rows.ensures.count c.if-row-rows.false in
    let z = last_look l.new.desk e.new.desk row e.result e.ensures.entries in
    let seen = terms_seen c.args.desk.now p.new.desk o.new.desk l.new.desk e.new.desk row o.result l.result z.0 p.result (p.ensures.word is_so) o.ensures.entries l.ensures.entries z.2 in
    anothers c.args.books.now.layout.rows row c.args.retailer.0 o.result z.0 (SawTerms row) p.result (saw_terms row p.result o.result l.result z.0) c.args.desk.now e.new.desk here is_so (λ q. c.if-owner-from.true (q ∙ sym c.from.ensures)) (l.result, refl) seen

pub returns-then-owner-from-clause-holds : goal.returns-then-owner-from-clause-holds
returns-then-owner-from-clause-holds c =
    let p = c.look_phase-shown in
    let o = c.look_word-owner in
    let l = c.look_word-limit in
    let e = c.look_phase-last in
    four_holds c.args.desk.now p.new.desk o.new.desk l.new.desk e.new.desk p.ensures.holds o.ensures.holds l.ensures.holds e.ensures.holds

pub returns-then-owner-from-clause-endings : goal.returns-then-owner-from-clause-endings
returns-then-owner-from-clause-endings c =
    let p = c.look_phase-shown in
    let o = c.look_word-owner in
    let l = c.look_word-limit in
    let e = c.look_phase-last in
    four_endings c.args.desk.now p.new.desk o.new.desk l.new.desk e.new.desk p.ensures.endings o.ensures.endings l.ensures.endings e.ensures.endings

-- it is this retailer's

pub returns-clause-entries : goal.returns-clause-entries
returns-clause-entries c =
    let p = c.look_phase-shown in
    let o = c.look_word-owner in
    let l = c.look_word-limit in
    let e = c.look_phase-last in
    let row = c.args.row in
    let is_so : sealed_phase p.result ≡ true = search rules in
    let here : row.row < c.args.books.now.layout.rows = subst (λ (n : ℕ). row.row < n) c.rows.ensures.count c.if-row-rows.false in
    let z = last_look l.new.desk e.new.desk row e.result e.ensures.entries in
    let seen = terms_seen c.args.desk.now p.new.desk o.new.desk l.new.desk e.new.desk row o.result l.result z.0 p.result (p.ensures.word is_so) o.ensures.entries l.ensures.entries z.2 in
    let has = limit_kept row l.result l.new.desk e.new.desk e.ensures.entries.0 l.ensures.own.legal e.ensures.entries.2 (sealed_of l.new.desk row p.result (l.ensures.sealed p.result (o.ensures.sealed p.result (p.ensures.sealed is_so)))) l.ensures.word (e.ensures.present c.in_default.not-Free) in
    let same : c.in-Some.limit ≡ l.result = limit_is l.result c.in-Some.limit has.0 c.in-Some.ensures in (
      saw_terms row p.result c.args.retailer.0 c.in-Some.limit z.0,
      (here, is_so, (z.0, (λ q. c.in_default.not-Free (sym z.1 ∙ q)), refl)),
      subst (λ (n : ℕ). AddsSteps c.args.desk.now e.new.desk (saw_terms row p.result c.args.retailer.0 n z.0)) (sym same)
          (subst (λ (n : ℕ). AddsSteps c.args.desk.now e.new.desk (saw_terms row p.result n l.result z.0)) (c.if-owner-from.false ∙ c.from.ensures) seen),
    )

pub returns-clause-limit : goal.returns-clause-limit
returns-clause-limit c =
    let p = c.look_phase-shown in
    let o = c.look_word-owner in
    let l = c.look_word-limit in
    let e = c.look_phase-last in
    let row = c.args.row in
    let is_so : sealed_phase p.result ≡ true = search rules in
    let has = limit_kept row l.result l.new.desk e.new.desk e.ensures.entries.0 l.ensures.own.legal e.ensures.entries.2 (sealed_of l.new.desk row p.result (l.ensures.sealed p.result (o.ensures.sealed p.result (p.ensures.sealed is_so)))) l.ensures.word (e.ensures.present c.in_default.not-Free) in
    subst (HasLimit e.new.desk row) (sym (limit_is l.result c.in-Some.limit has.0 c.in-Some.ensures)) has.1

pub returns-clause-holds : goal.returns-clause-holds
returns-clause-holds c =
    let p = c.look_phase-shown in
    let o = c.look_word-owner in
    let l = c.look_word-limit in
    let e = c.look_phase-last in
    four_holds c.args.desk.now p.new.desk o.new.desk l.new.desk e.new.desk p.ensures.holds o.ensures.holds l.ensures.holds e.ensures.holds

pub returns-clause-endings : goal.returns-clause-endings
returns-clause-endings c =
    let p = c.look_phase-shown in
    let o = c.look_word-owner in
    let l = c.look_word-limit in
    let e = c.look_phase-last in
    four_endings c.args.desk.now p.new.desk o.new.desk l.new.desk e.new.desk p.ensures.endings o.ensures.endings l.ensures.endings e.ensures.endings
