use Rattle.std.proofs.Common.{Option, Some, refl, subst, inl, inr}
use Rattle.claim_rule.specs.Walls.{WallView}
use Rattle.host_words.specs.Commands.{IsFor}
use Rattle.host_words.specs.Options.{words_texts}
use Rattle.host_words.specs.declared.command.CommandName.{CommandName}
use Rattle.host_words.specs.declared.command.CommandName.TheVariants.{Drill, Serve}
use Rattle.host_drill.specs.Ends.{Leaves}
use Rattle.rail_host.proofs.Naming.{no_other, one_command}
use Rattle.rail_host.proofs.Refusing.{plain_ends, plain_refused, plain_words}
use Rattle.rail_host.proofs.Walls.{same_wall}
use Rattle.rail_host.proofs.program.run_command.Goals as goal

pub returns-in-Serve-clause-words : goal.returns-in-Serve-clause-words
returns-in-Serve-clause-words g c two =
    let words = words_texts c.args.words.now in
    let no = c.serve_port.ensures.refused two in
    no_other words Serve (subst (λ (n : CommandName). IsFor n words) c.in-Serve.is c.in-Some.ensures) (
      λ said is. no said (record { command = is.command; is = is.is }),
      λ said name is. no said (record { command = is.command; is = is.is }),
    )

pub returns-in-Serve-clause-refused_words : goal.returns-in-Serve-clause-refused_words
returns-in-Serve-clause-refused_words g c none = elim c.serve_port.ensures.ended [
  | inl alone ↦ alone.refused_words none.serve
  | inr keeping ↦ absurd (none.kept keeping.kept.said keeping.kept.name keeping.kept.words_are)
]

pub returns-in-Drill-clause-ran : goal.returns-in-Drill-clause-ran
returns-in-Drill-clause-ran g c =
    let words = words_texts c.args.words.now in
    let e = c.run_drill-status.ensures in (
      Some Drill,
      subst (λ (n : CommandName). IsFor n words) c.in-Drill.is c.in-Some.ensures,
      record {
        cause = e.ends.0;
        is = e.ends.1;
        note = e.ends.3;
        leaves = subst (λ (w : Option WallView). Leaves words (g.K.Sink.told c.args.devices.now.output)
            (g.K.Sink.told c.run_drill-status.new.output) w e.ends.0) (same_wall c.run_drill-status.result.wall) e.ends.2;
        refused = λ two. (e.words two, record { unfetched = refl; unread = refl; unwritten = e.nothing_written two });
        output = record { cause = e.write_cause; steady = e.write_steady };
        unread = refl;
        unfetched = refl;
      },
    )

pub returns-in-Drill-clause-words : goal.returns-in-Drill-clause-words
returns-in-Drill-clause-words g c two =
    let words = words_texts c.args.words.now in
    no_other words Drill (subst (λ (n : CommandName). IsFor n words) c.in-Drill.is c.in-Some.ensures) (c.run_drill-status.ensures.words two)

pub returns-in_default-clause-ran : goal.returns-in_default-clause-ran
returns-in_default-clause-ran g c =
    let words = words_texts c.args.words.now in
    let no_drills : IsFor Drill words → ⊥ = λ drill. c.in_default.not-Drill (one_command _ Drill words c.in-Some.ensures drill) in
    let no_serves : IsFor Serve words → ⊥ = λ serve. c.in_default.not-Serve (one_command _ Serve words c.in-Some.ensures serve) in
    let ran = c.plain_end.ensures.ran in
    (ran.0, ran.1, plain_ends words _ _ no_drills no_serves _ _ c.plain_end.ensures.wall ran.0 ran.1 ran.2)

pub returns-in_default-clause-words : goal.returns-in_default-clause-words
returns-in_default-clause-words g c two =
    let words = words_texts c.args.words.now in
    let no_drills : IsFor Drill words → ⊥ = λ drill. c.in_default.not-Drill (one_command _ Drill words c.in-Some.ensures drill) in
    let no_serves : IsFor Serve words → ⊥ = λ serve. c.in_default.not-Serve (one_command _ Serve words c.in-Some.ensures serve) in
    let ran = c.plain_end.ensures.ran in
    plain_words words _ _ no_drills no_serves ran.0 ran.1 ran.2 two

pub returns-in_default-clause-refused_words : goal.returns-in_default-clause-refused_words
returns-in_default-clause-refused_words g c none =
    let words = words_texts c.args.words.now in
    let no_drills : IsFor Drill words → ⊥ = λ drill. c.in_default.not-Drill (one_command _ Drill words c.in-Some.ensures drill) in
    let no_serves : IsFor Serve words → ⊥ = λ serve. c.in_default.not-Serve (one_command _ Serve words c.in-Some.ensures serve) in
    let ran = c.plain_end.ensures.ran in
    plain_refused words _ _ no_drills no_serves ran.0 ran.1 ran.2 none

pub returns-in-None-clause-ran : goal.returns-in-None-clause-ran
returns-in-None-clause-ran g c =
    let ran = c.plain_end-in-None.ensures.ran in (
      ran.0,
      ran.1,
      plain_ends (words_texts c.args.words.now) _ _ (c.in-None.ensures Drill) (c.in-None.ensures Serve) _ _
          c.plain_end-in-None.ensures.wall ran.0 ran.1 ran.2,
    )

pub returns-in-None-clause-words : goal.returns-in-None-clause-words
returns-in-None-clause-words g c two =
    let ran = c.plain_end-in-None.ensures.ran in
    plain_words (words_texts c.args.words.now) _ _ (c.in-None.ensures Drill) (c.in-None.ensures Serve) ran.0 ran.1 ran.2 two

pub returns-in-None-clause-refused_words : goal.returns-in-None-clause-refused_words
returns-in-None-clause-refused_words g c none =
    let ran = c.plain_end-in-None.ensures.ran in
    plain_refused (words_texts c.args.words.now) _ _ (c.in-None.ensures Drill) (c.in-None.ensures Serve) ran.0 ran.1 ran.2 none
