use Rattle.std.proofs.Common.{◌≡◌, ◌<◌, ℕ, sym, ◌∙◌, subst}
use Rattle.history_model.specs.declared.entry.Step.TheVariants.{Note, Close}
use Rattle.history_model.specs.Booking.{Layout}
use Rattle.history_model.specs.Allowed.{OnRow, MayClose}
use Rattle.history_model.specs.History.{state_of}
use Rattle.claim_rule.specs.Rule.{DeskView}
use Rattle.claim_rule.specs.Desks.{Stepped}
use Rattle.claim_rule.specs.Endings.{EndingView, end_word}
use Rattle.booking_rows.proofs.Ended.{has_ended}
use Rattle.booking_rows.proofs.CloseLemmas.{may_close, closing, closed_all, closing_holds}
use Rattle.booking_rows.proofs.turns.close_end.Goals as goal

-- a note of an end word, as the ending at the beginning has it
as_first : (a b : DeskView) (e f : EndingView) (w n : ℕ) → f ≡ e → n ≡ end_word f.kind f.end w → Stepped (Note f.row.row w n) a b → Stepped (Note e.row.row w (end_word e.kind e.end w)) a b
as_first a b e f w n same is did = subst (λ (v : EndingView). Stepped (Note v.row.row w (end_word v.kind v.end w)) a b) same (subst (λ (m : ℕ). Stepped (Note f.row.row w m) a b) is did)

pub step_close-requires-clause-ready : goal.step_close-requires-clause-ready
step_close-requires-clause-ready c =
    let e = c.args.ending in
    let s1 = c.step_end.ensures.ending.1 in
    let s2 = c.step_end-2.ensures.ending.1 ∙ s1 in
    let s3 = c.step_end-3.ensures.ending.1 ∙ s2 in
    let d = c.step_end-3.new.desk in
    let lay = c.args.books.now.layout in
    let may = may_close c.args.desk.now c.step_end.new.desk c.step_end-2.new.desk d e c.requires.own.legal c.requires.ending.of c.requires.read c.requires.all
    (as_first c.args.desk.now c.step_end.new.desk e e 5 c.end_word-successor.result (λ i. e) c.end_word-successor.ensures c.step_end.ensures.noted)
    (as_first c.step_end.new.desk c.step_end-2.new.desk e c.step_end.new.ending 6 c.end_word-amount.result s1 c.end_word-amount.ensures c.step_end-2.ensures.noted)
    (as_first c.step_end-2.new.desk d e c.step_end-2.new.ending 7 c.end_word-moment.result s2 c.end_word-moment.ensures c.step_end-3.ensures.noted) in (
      subst (λ (x : EndingView × Layout). x.0.row.row < x.1.rows) (λ i. (sym s3 i, c.requires.own.layout i)) c.requires.ending.of.row,
      subst (λ (x : EndingView × Layout). OnRow (state_of x.1 d.seen) x.0.row.row (MayClose d.number)) (λ i. (sym s3 i, c.step_end-3.ensures.own.layout i)) may,
    )

pub returns-clause-entries : goal.returns-clause-entries
returns-clause-entries c =
    let e = c.args.ending in
    let s1 = c.step_end.ensures.ending.1 in
    let s2 = c.step_end-2.ensures.ending.1 ∙ s1 in
    let s3 = c.step_end-3.ensures.ending.1 ∙ s2 in
    let d = c.step_end-3.new.desk in
    closing c.args.desk.now c.step_end.new.desk c.step_end-2.new.desk d c.step_close.new.desk e
    (as_first c.args.desk.now c.step_end.new.desk e e 5 c.end_word-successor.result (λ i. e) c.end_word-successor.ensures c.step_end.ensures.noted)
    (as_first c.step_end.new.desk c.step_end-2.new.desk e c.step_end.new.ending 6 c.end_word-amount.result s1 c.end_word-amount.ensures c.step_end-2.ensures.noted)
    (as_first c.step_end-2.new.desk d e c.step_end-2.new.ending 7 c.end_word-moment.result s2 c.end_word-moment.ensures c.step_end-3.ensures.noted)
    (subst (λ (v : EndingView). Stepped (Close v.row.row) d c.step_close.new.desk) s3 c.step_close.ensures.closed)

pub returns-clause-none : goal.returns-clause-none
returns-clause-none c =
    let e = c.args.ending in
    let s1 = c.step_end.ensures.ending.1 in
    let s2 = c.step_end-2.ensures.ending.1 ∙ s1 in
    let s3 = c.step_end-3.ensures.ending.1 ∙ s2 in
    let d = c.step_end-3.new.desk in
    closed_all c.args.desk.now c.step_end.new.desk c.step_end-2.new.desk d c.step_close.new.desk e c.requires.ending
    (as_first c.args.desk.now c.step_end.new.desk e e 5 c.end_word-successor.result (λ i. e) c.end_word-successor.ensures c.step_end.ensures.noted)
    (as_first c.step_end.new.desk c.step_end-2.new.desk e c.step_end.new.ending 6 c.end_word-amount.result s1 c.end_word-amount.ensures c.step_end-2.ensures.noted)
    (as_first c.step_end-2.new.desk d e c.step_end-2.new.ending 7 c.end_word-moment.result s2 c.end_word-moment.ensures c.step_end-3.ensures.noted)
    (subst (λ (v : EndingView). Stepped (Close v.row.row) d c.step_close.new.desk) s3 c.step_close.ensures.closed)

pub returns-clause-ended : goal.returns-clause-ended
returns-clause-ended c = has_ended c.args.desk.now c.step_close.new.desk _ c.args.ending c.requires.ending (returns-clause-entries c) (returns-clause-none c)

pub returns-clause-holds : goal.returns-clause-holds
returns-clause-holds c =
    closing_holds c.args.desk.now c.step_close.new.desk c.args.ending
    (c.step_close.ensures.closed.same.5 ∙ (c.step_end-3.ensures.noted.same.5 ∙ (c.step_end-2.ensures.noted.same.5 ∙ c.step_end.ensures.noted.same.5))) c.requires.ending (returns-clause-entries c)
