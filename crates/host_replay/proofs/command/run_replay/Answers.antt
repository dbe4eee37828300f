use Rattle.std.proofs.Common.{◌≡◌, ℕ, ap, sym, subst, ◌∙◌, inr}
use Rattle.std.specs.Prelude.{◌⊎◌}
use Rattle.host_words.specs.Options.{words_texts}
use Rattle.host_words.specs.Said.{view_of}
use Rattle.host_catalogue.specs.Ends.{status_of}
use Rattle.host_replay.specs.Input.{told_of}
use Rattle.host_replay.specs.Input.{status_of_replay}
use Rattle.host_replay.specs.Replay.{Replays}
use Rattle.host_replay.proofs.Replaying.{done_replay, cut_replay, read_replay, write_replay, replay_without, replay_missed, replay_no_books}
use Rattle.host_replay.proofs.command.run_replay.Given as given
use Rattle.host_replay.proofs.command.run_replay.Goals as goal
use Rattle.host_replay.proofs.command.run_replay.Goals.{Joined-command_end}

ran : (g : given.Over) (c : goal.Joined-command_end g)
    → Replays (words_texts c.args.words.now) (g.F.Shelf.told c.args.shelf.now) (told_of (g.S.Source.told c.args.input.now) (g.S.Source.told c.replay-end.new.input)
    (g.K.Sink.told c.args.output.now) (g.K.Sink.told c.replay-end.new.output)) c.replay-end.result
ran g c = inr (view_of c.in-Ok.said, record { command = c.requires.command; is = c.in-Ok.ensures.ok }, c.replay-end.ensures.ends)

status : (g : given.Over) (c : goal.Joined-command_end g) → c.end_command.result ≡ status_of_replay c.replay-end.result
status g c = c.end_command.ensures.status ∙ ap status_of c.command_end.ensures

pub returns-in-Ok-clause-served : goal.returns-in-Ok-clause-served
returns-in-Ok-clause-served g c stream before told shown zero = done_replay _ _ _ _ _ _ stream before told shown _ (ran g c) (sym (status g c) ∙ zero)

pub returns-in-Ok-clause-cut : goal.returns-in-Ok-clause-cut
returns-in-Ok-clause-cut g c stream before told shown six = cut_replay _ _ _ _ _ _ stream before told shown _ (ran g c) (sym (status g c) ∙ six)

pub returns-in-Ok-clause-read_fault : goal.returns-in-Ok-clause-read_fault
returns-in-Ok-clause-read_fault g c stream before told shown three = read_replay _ _ _ _ _ _ stream before told shown _ (ran g c) (sym (status g c) ∙ three)

pub returns-in-Ok-clause-write_fault : goal.returns-in-Ok-clause-write_fault
returns-in-Ok-clause-write_fault g c stream before told shown four = write_replay _ _ _ _ _ _ stream before told shown _ (ran g c) (sym (status g c) ∙ four)

pub returns-in-Ok-clause-without : goal.returns-in-Ok-clause-without
returns-in-Ok-clause-without g c one = replay_without _ _ _ _ _ _ _ (ran g c) (sym (status g c) ∙ one)

pub returns-in-Ok-clause-missed : goal.returns-in-Ok-clause-missed
returns-in-Ok-clause-missed g c one = replay_missed _ _ _ _ _ _ _ _ _ _ _ (ran g c) c.replay-end.ensures.cause (sym (status g c) ∙ one)

pub returns-in-Ok-clause-no_books : goal.returns-in-Ok-clause-no_books
returns-in-Ok-clause-no_books g c told is wanted asked none =
    subst (λ (n : ℕ). (n ≡ 1) ⊎ (n ≡ 3) ⊎ (n ≡ 5)) (sym (status g c)) (replay_no_books _ _ _ _ _ _ told is wanted asked none _ (ran g c))
