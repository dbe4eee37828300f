use Rattle.std.proofs.Common.{◌≡◌, ◌^◌, ◌<◌, length, refl, sym, ap, subst, ◌∙◌}
use Rattle.std.proofs.lemmas.Bool.{false≢true}
use Rattle.journal_text.specs.Reads.{said_head_text}
use Rattle.journal_text.specs.Rooms.{table_text}
use Rattle.journal_text.specs.Texts.{sum_of}
use Rattle.journal_text.specs.declared.head.Head.{Head}
use Rattle.journal_text.proofs.Folding.{broken, cut_fault, folded}
use Rattle.journal_text.specs.Faults.{IsJournalFault}
use Rattle.journal_text.proofs.Given.{handed_on}
use Rattle.journal_text.proofs.Splits.{before_rest}
use Rattle.journal_text.proofs.folded.fold.Goals as goal

pub returns-in_default-clause-err : goal.returns-in_default-clause-err
returns-in_default-clause-err c = λ h rest is at.
    let said : Head = record { places = h.places; rows = h.rows; print = record { digits = h.print } } in
    absurd (let e = (c.in_default.ensures.only said rest is at).0 in cc)

pub returns-in_err-cuts-clause-err : goal.returns-in_err-cuts-clause-err
returns-in_err-cuts-clause-err c =
    let f = c.in-Some.ensures.found in
    let bound : length c.args.text.now < 2 ^ 64 = search in
    let sum = c.of-first.ensures ∙ ap sum_of (c.front.ensures ∙ before_rest c.args.text.now (said_head_text c.in-Some.head) c.head.new.self.rest.now f.1) in
    let many : length c.as_mut_slice-table.result.now ≡ c.in-Some.head.rows = c.as_mut_slice-table.ensures.len ∙ c.in_ok-lasts.ensures.len in
    let fault = cut_fault c.args.text.now c.head.new.self.rest.now c.in-Some.head f.0 f.1 c.of-first.result.digits sum _ many bound _ c.in_err-cuts.ensures.err in
    handed_on c.from_residual-in_err-cuts.result c.from_residual-in_err-cuts.ensures.1 (λ e given. subst (λ x. IsJournalFault c.args.text.now x) (sym given) fault)

pub returns-then-holds_cut-clause-err : goal.returns-then-holds_cut-clause-err
returns-then-holds_cut-clause-err c =
    let f = c.in-Some.ensures.found in
    let bound : length c.args.text.now < 2 ^ 64 = search in
    let sum = c.of-first.ensures ∙ ap sum_of (c.front.ensures ∙ before_rest c.args.text.now (said_head_text c.in-Some.head) c.head.new.self.rest.now f.1) in
    let many : length c.as_mut_slice-table.result.now ≡ c.in-Some.head.rows = c.as_mut_slice-table.ensures.len ∙ c.in_ok-lasts.ensures.len in
    broken c.args.text.now c.head.new.self.rest.now c.in-Some.head f.0 f.1 c.of-first.result.digits sum _ many bound c.in_ok-cuts.ensures.ok
    (c.holds_cut.ensures.0 c.if-holds_cut.true)

pub returns-clause-ok : goal.returns-clause-ok
returns-clause-ok c =
    let f = c.in-Some.ensures.found in
    let bound : length c.args.text.now < 2 ^ 64 = search in
    let sum = c.of-first.ensures ∙ ap sum_of (c.front.ensures ∙ before_rest c.args.text.now (said_head_text c.in-Some.head) c.head.new.self.rest.now f.1) in
    let many : length c.as_mut_slice-table.result.now ≡ c.in-Some.head.rows = c.as_mut_slice-table.ensures.len ∙ c.in_ok-lasts.ensures.len in
    let same : length c.read_cuts.new.lasts ≡ length c.as_mut_slice-table.result.now = search in
    let made : c.in_ok-export_of.field-0.items ≡ table_text c.in-Some.head.places c.in-Some.head.rows c.read_cuts.new.lasts = c.in_ok-export_of.ensures in
    folded c.args.text.now c.head.new.self.rest.now c.in-Some.head f.0 f.1 c.of-first.result.digits sum _ many bound c.in_ok-cuts.ensures.ok
    (λ h. absurd (false≢true (sym c.if-holds_cut.false ∙ c.holds_cut.ensures.1 h))) same _ made _ refl _ refl
