use Rattle.std.proofs.Common.{◌≡◌, ◌∙◌, ℕ, Bool, true, List, Option, ap, subst, sym}
use Rattle.host_journal.specs.Left.{IsHeadFor}
use Rattle.host_journal.specs.Logs.{BeginsAnew, log_end}
use Rattle.host_journal.specs.declared.log.Head.{Head}
use Rattle.host_journal.proofs.Left.{head_for}
use Rattle.host_journal.proofs.keeping.open_journal.Goals as goal

pub returns-clause-ok : goal.returns-clause-ok
returns-clause-ok g c =
    let told = g.J.Journal.told in
    let old = c.of-log.result in
    let new = c.begin.new.self in
    let lines = c.in_ok-opened.field-0.lines in
    let same : told old.journal ≡ told c.args.journal = ap told c.of-log.ensures.journal ∙ c.open-was.ensures.same in
    let did = subst (λ (b : Bool). BeginsAnew (told old.journal) (told new.journal) old.head lines (log_end new) b) c.if-not-begin.false c.begin.ensures.begins in
    let on = subst (λ (o : Option (List ℕ)). BeginsAnew o (told new.journal) old.head lines (log_end new) true) same did in (
      lines,
      c.in_ok-opened.ensures.ok (told c.args.journal) c.open-was.ensures.opens,
      subst (λ (h : Head). BeginsAnew (told c.args.journal) (told new.journal) h lines (log_end new) true) (sym c.begin.ensures.head) on,
    )

pub returns-clause-head : goal.returns-clause-head
returns-clause-head g c =
    let cat = c.args.cat.now in
    let opened = c.in_ok-opened.field-0.opened in
    let leaves = c.in_ok-opened.ensures.ok (g.J.Journal.told c.args.journal) c.open-was.ensures.opens in
    subst (λ (h : Head). IsHeadFor cat h) (sym (c.begin.ensures.head ∙ c.of-log.ensures.head))
    (head_for cat leaves.0 opened.books opened.first _ leaves.2 c.places.ensures.count c.rows.ensures.count c.in_ok-print_of.ensures)
