use Rattle.std.proofs.Common.{◌≤◌, ℕ, List, Option, sym, ◌∙◌, ap, subst, inl, inr}
use Rattle.rail_io.specs.Told.{with_end}
use Rattle.host_words.specs.Options.{words_texts}
use Rattle.host_catalogue.specs.Files.{Files}
use Rattle.host_catalogue.specs.Journals.{HasNoRecovery}
use Rattle.host_catalogue.specs.Ends.{status_of}
use Rattle.host_replay.specs.Recover.{RanRecover}
use Rattle.host_replay.proofs.Recovering.{ends_without, few, front_export, missed_source, same_catalogue, same_journal, whole_export, without}
use Rattle.host_replay.proofs.recover.run_recover.Goals as goal

pub returns-clause-refused_words : goal.returns-clause-refused_words
returns-clause-refused_words g c none = absurd (none _ _ c.in-Some.ensures.some)

pub returns-clause-few : goal.returns-clause-few
returns-clause-few g c = subst (λ (n : ℕ). n ≤ 5) (sym (c.end_command-2.ensures.status ∙ ap status_of c.command_end.ensures)) (few c.recover-end.result)

pub returns-clause-recovered : goal.returns-clause-recovered
returns-clause-recovered g c before shown zero =
    let status = sym (c.end_command-2.ensures.status ∙ ap status_of c.command_end.ensures) ∙ zero in
    let found = whole_export _ _ _ _ _ c.recover-end.result c.recover-end.ensures.ends status in
    (found.0, found.2 ∙ ap (λ (o : Option (List ℕ)). with_end o found.0) shown, record { catalogue = _; journal = _; said = c.in-Some.ensures.some; is = found.1 })

pub returns-clause-write_fault : goal.returns-clause-write_fault
returns-clause-write_fault g c before shown four =
    let status = sym (c.end_command-2.ensures.status ∙ ap status_of c.command_end.ensures) ∙ four in
    let found = front_export _ _ _ _ _ c.recover-end.result c.recover-end.ensures.ends status in (
      found.0,
      found.1,
      found.3 ∙ ap (λ (o : Option (List ℕ)). with_end o found.0) shown,
      record { catalogue = _; journal = _; said = c.in-Some.ensures.some; is = found.2 },
    )

pub returns-clause-without : goal.returns-clause-without
returns-clause-without g c one =
    let status = sym (c.end_command-2.ensures.status ∙ ap status_of c.command_end.ensures) ∙ one in
    record { catalogue = _; journal = _; said = c.in-Some.ensures.some; is = without _ _ _ _ _ c.recover-end.result c.recover-end.ensures.ends status }

pub returns-clause-missed : goal.returns-clause-missed
returns-clause-missed g c one =
    let status = sym (c.end_command-2.ensures.status ∙ ap status_of c.command_end.ensures) ∙ one in
    elim (missed_source _ _ _ _ _ c.recover-end.result _ _ _ _ c.recover-end.ensures.ends c.recover-end.ensures.cause status) [
      | inl rose ↦ inl rose
      | inr text ↦ inr (record { catalogue = _; journal = _; said = c.in-Some.ensures.some; is = text })
    ]

pub returns-clause-no_books : goal.returns-clause-no_books
returns-clause-no_books g c told is catalogue journal asked none =
    let output = g.K.Sink.told c.args.output.now in
    let sent = g.K.Sink.told c.recover-end.new.output in
    let said = c.in-Some.said in
    let words = words_texts c.args.words.now in
    let status = c.end_command-2.ensures.status ∙ ap status_of c.command_end.ensures in
    let one = same_catalogue words catalogue journal said.catalogue.now said.journal.now asked c.in-Some.ensures.some in
    let other = same_journal words catalogue journal said.catalogue.now said.journal.now asked c.in-Some.ensures.some in
    let none_said = subst (λ (e : List ℕ). HasNoRecovery told said.catalogue.now e) other
    (subst (λ (n : List ℕ). HasNoRecovery told n journal) one none) in
    elim (ends_without told said.catalogue.now said.journal.now output sent none_said c.recover-end.result
    (subst (λ (files : Files). RanRecover files said.catalogue.now said.journal.now output sent c.recover-end.result) is c.recover-end.ensures.ends)) [
      | inl h ↦ inl (status ∙ h)
      | inr more ↦ elim more [ inl h ↦ inr (inl (status ∙ h)) | inr h ↦ inr (inr (status ∙ h)) ]
    ]
