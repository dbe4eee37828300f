use Rattle.std.proofs.Common.{◌≡◌, ◌≤◌, ℕ, List, Option, Some, refl, sym, ◌∙◌, ap, subst, inl, inr}
use Rattle.rail_io.specs.Told.{with_end}
use Rattle.host_words.specs.Options.{words_texts}
use Rattle.host_catalogue.specs.Files.{Files}
use Rattle.host_catalogue.specs.Opening.{HasNoBooks}
use Rattle.host_catalogue.specs.Ends.{status_of}
use Rattle.host_replay.specs.Settle.{RanSettle}
use Rattle.host_replay.proofs.Settling.{ends_without, few, front_table, missed, same_catalogue, same_export, whole_table, without}
use Rattle.host_replay.proofs.settle.run_settle.Goals as goal

pub returns-clause-refused_words : goal.returns-clause-refused_words
returns-clause-refused_words g c none = absurd (none _ _ c.in-Some.ensures.some)

pub returns-clause-few : goal.returns-clause-few
returns-clause-few g c = subst (λ (n : ℕ). n ≤ 5) (sym (c.end_command-2.ensures.status ∙ ap status_of c.command_end.ensures)) (few c.settle-end.result)

pub returns-clause-settled : goal.returns-clause-settled
returns-clause-settled g c before shown zero =
    let status = sym (c.end_command-2.ensures.status ∙ ap status_of c.command_end.ensures) ∙ zero in
    let found = whole_table _ _ _ _ _ c.settle-end.result c.settle-end.ensures.ends status in
    (found.0, found.2 ∙ ap (λ (o : Option (List ℕ)). with_end o found.0) shown, record { catalogue = _; export = _; said = c.in-Some.ensures.some; is = found.1 })

pub returns-clause-write_fault : goal.returns-clause-write_fault
returns-clause-write_fault g c before shown four =
    let status = sym (c.end_command-2.ensures.status ∙ ap status_of c.command_end.ensures) ∙ four in
    let found = front_table _ _ _ _ _ c.settle-end.result c.settle-end.ensures.ends status in (
      found.0,
      found.1,
      found.3 ∙ ap (λ (o : Option (List ℕ)). with_end o found.0) shown,
      record { catalogue = _; export = _; said = c.in-Some.ensures.some; is = found.2 },
    )

pub returns-clause-without : goal.returns-clause-without
returns-clause-without g c one =
    let status = sym (c.end_command-2.ensures.status ∙ ap status_of c.command_end.ensures) ∙ one in
    record { catalogue = _; export = _; said = c.in-Some.ensures.some; is = without _ _ _ _ _ c.settle-end.result c.settle-end.ensures.ends status }

pub returns-clause-missed : goal.returns-clause-missed
returns-clause-missed g c one =
    let status = sym (c.end_command-2.ensures.status ∙ ap status_of c.command_end.ensures) ∙ one in
    elim (missed _ _ _ _ _ c.settle-end.result _ _ _ _ c.settle-end.ensures.ends c.settle-end.ensures.cause status) [
      | inl rose ↦ inl rose
      | inr text ↦ inr (record { catalogue = _; export = _; said = c.in-Some.ensures.some; is = text })
    ]

pub returns-clause-no_books : goal.returns-clause-no_books
returns-clause-no_books g c told is catalogue export asked none =
    let output = g.K.Sink.told c.args.output.now in
    let sent = g.K.Sink.told c.settle-end.new.output in
    let said = c.in-Some.said in
    let words = words_texts c.args.words.now in
    let status = c.end_command-2.ensures.status ∙ ap status_of c.command_end.ensures in
    let one = same_catalogue words catalogue export said.catalogue.now said.export.now asked c.in-Some.ensures.some in
    let other = same_export words catalogue export said.catalogue.now said.export.now asked c.in-Some.ensures.some in
    let none_said = subst (λ (e : List ℕ). HasNoBooks told said.catalogue.now (Some e)) other
    (subst (λ (n : List ℕ). HasNoBooks told n (Some export)) one none) in
    elim (ends_without told said.catalogue.now said.export.now output sent none_said c.settle-end.result
    (subst (λ (files : Files). RanSettle files said.catalogue.now said.export.now output sent c.settle-end.result) is c.settle-end.ensures.ends)) [
      | inl h ↦ inl (status ∙ h)
      | inr more ↦ elim more [ inl h ↦ inr (inl (status ∙ h)) | inr h ↦ inr (inr (status ∙ h)) ]
    ]
