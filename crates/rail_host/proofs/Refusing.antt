-- Where words are refused: by the name of their command.
use Rattle.std.proofs.Common.{◌≡◌, ◌⊎◌, ◌∙◌, ℕ, List, Option, Some, None, ap, inl, inr, refl, sym}
use Rattle.std.proofs.lemmas.Bool.{eqb-false}
use Rattle.session_loop.specs.declared.end.ConnEnd.{ConnEnd}
use Rattle.session_loop.specs.declared.end.ConnEnd.TheVariants as conn
use Rattle.host_words.specs.Commands.{IsFor}
use Rattle.host_words.specs.Commands.{IsNamed}
use Rattle.host_words.specs.declared.command.CommandName.{CommandName}
use Rattle.host_words.specs.declared.command.CommandName.TheVariants.{Tiny, Replay, Export, Settle, Recover, Drill, Serve}
use Rattle.host_catalogue.specs.declared.file.LoadFault.TheVariants as load
use Rattle.host_catalogue.specs.declared.file.LoadFault.{LoadFault}
use Rattle.host_catalogue.specs.Ends.{end_of, status_of, status_of_fault}
use Rattle.host_replay.specs.Input.{status_of_replay}
use Rattle.host_replay.specs.declared.end.ReplayEnd.{ReplayEnd}
use Rattle.host_replay.specs.declared.end.ReplayEnd.TheVariants as replay
use Rattle.host_replay.specs.Settle.{status_of_settle}
use Rattle.host_replay.specs.declared.settle_end.SettleEnd.{SettleEnd}
use Rattle.host_replay.specs.declared.settle_end.SettleEnd.TheVariants as settle
use Rattle.host_replay.specs.Recover.{status_of_recover}
use Rattle.host_replay.specs.declared.recover_end.RecoverEnd.{RecoverEnd}
use Rattle.host_replay.specs.declared.recover_end.RecoverEnd.TheVariants as recover
use Rattle.host_catalogue.specs.declared.journal.JournalRefusal.TheVariants as refusal
use Rattle.host_catalogue.specs.declared.journal.RecoverFault.TheVariants as fault
use Rattle.host_serve.specs.Serve.{Left}
use Rattle.plain_commands.specs.Devices.{Devices}
use Rattle.plain_commands.specs.Plain.{EndsPlainly}
use Rattle.rail_host.specs.Commands.{Ends, IsNoCommand}
use Rattle.rail_host.proofs.Naming.{no_command, no_other}

-- no fault of books has status 2
unloaded : (fault : LoadFault) → status_of_fault fault ≡ 2 → ⊥
unloaded (load.Missing file) is = eqb-false _ _ refl is
unloaded (load.TooLarge file) is = eqb-false _ _ refl is
unloaded (load.Refused fault) is = eqb-false _ _ refl is
unloaded (load.RefusedExport fault) is = eqb-false _ _ refl is
unloaded load.Failed is = eqb-false _ _ refl is
unloaded load.NoMemory is = eqb-false _ _ refl is

-- no connection ends with it
served : (end : ConnEnd) → status_of (end_of end) ≡ 2 → ⊥
served conn.Done is = eqb-false _ _ refl is
served conn.Cut is = eqb-false _ _ refl is
served (conn.Refused fault) is = eqb-false _ _ refl is
served conn.ReadFault is = eqb-false _ _ refl is
served conn.WriteFault is = eqb-false _ _ refl is
served conn.NoMemory is = eqb-false _ _ refl is

-- neither does a command that has read its words
replayed : (end : ReplayEnd) → status_of_replay end ≡ 2 → ⊥
replayed replay.NoMemory is = eqb-false _ _ refl is
replayed (replay.NotLoaded fault) is = unloaded fault is
replayed (replay.Served end) is = served end is

settled : (end : SettleEnd) → status_of_settle end ≡ 2 → ⊥
settled settle.Written is = eqb-false _ _ refl is
settled (settle.NotLoaded fault) is = unloaded fault is
settled settle.WriteFault is = eqb-false _ _ refl is
settled settle.NoMemory is = eqb-false _ _ refl is

recovered : (end : RecoverEnd) → status_of_recover end ≡ 2 → ⊥
recovered recover.Written is = eqb-false _ _ refl is
recovered (recover.NotRecovered (fault.NotLoaded e)) is = unloaded e is
recovered (recover.NotRecovered (fault.Refused (refusal.NoJournal e))) is = eqb-false _ _ refl is
recovered (recover.NotRecovered (fault.Refused refusal.OtherCatalogue)) is = eqb-false _ _ refl is
recovered (recover.NotRecovered (fault.Refused (refusal.Export e))) is = eqb-false _ _ refl is
recovered (recover.NotRecovered (fault.Refused refusal.NoMemory)) is = eqb-false _ _ refl is
recovered recover.WriteFault is = eqb-false _ _ refl is

module _ {F S K E : Type 0} (words : List (List ℕ)) (status : ℕ) (d : Devices F S K E) (no_drills : IsFor Drill words → ⊥) (no_serves : IsFor Serve words → ⊥) where
  -- status 2 of a plain command says that the words are those of none
  pub plain_words : (name : Option CommandName) → IsNamed name words → EndsPlainly name words status d → status ≡ 2 → IsNoCommand words
  plain_words (Some Tiny) named ends two =
      no_other words Tiny named (elim ends [ inl refused ↦ refused.0 | inr ran ↦ absurd (served ran.end (sym ran.is ∙ two)) ])
  plain_words (Some Replay) named ends two =
      no_other words Replay named (elim ends [ inl refused ↦ refused.0 | inr ran ↦ absurd (replayed ran.end (sym ran.is ∙ two)) ])
  plain_words (Some Export) named ends two =
      no_other words Export named (elim ends [ inl refused ↦ refused.0 | inr ran ↦ absurd (replayed ran.end (sym ran.is ∙ two)) ])
  plain_words (Some Settle) named ends two =
      no_other words Settle named (elim ends [ inl refused ↦ refused.0 | inr ran ↦ absurd (settled ran.end (sym ran.is ∙ two)) ])
  plain_words (Some Recover) named ends two =
      no_other words Recover named (elim ends [ inl refused ↦ refused.0 | inr ran ↦ absurd (recovered ran.end (sym ran.is ∙ two)) ])
  plain_words (Some Drill) named ends two = absurd (no_drills named)
  plain_words (Some Serve) named ends two = absurd (no_serves named)
  plain_words None named ends two = no_command words (λ a is. absurd (named a is))

  -- words of no command are refused, unless there was no memory to read them
  pub plain_refused : (name : Option CommandName) → IsNamed name words → EndsPlainly name words status d → IsNoCommand words → (status ≡ 2) ⊎ (status ≡ 5)
  plain_refused (Some Tiny) named ends none =
      elim ends [ inl refused ↦ inl refused.1.is | inr ran ↦ absurd (none.tiny ran.ran.legs ran.ran.places ran.ran.words_are) ]
  plain_refused (Some Replay) named ends none = elim ends [
    | inl refused ↦ inl refused.1.is
    | inr ran ↦ elim ran.ran [
      | inl unread ↦ inr (ran.is ∙ ap status_of_replay unread.is)
      | inr said ↦ absurd (none.replay said.0 said.1)
    ]
  ]
  plain_refused (Some Export) named ends none = elim ends [
    | inl refused ↦ inl refused.1.is
    | inr ran ↦ elim ran.ran [
      | inl unread ↦ inr (ran.is ∙ ap status_of_replay unread.is)
      | inr said ↦ absurd (none.export said.0 said.1)
    ]
  ]
  plain_refused (Some Settle) named ends none =
      elim ends [ inl refused ↦ inl refused.1.is | inr ran ↦ absurd (none.settle ran.ran.catalogue ran.ran.export ran.ran.said) ]
  plain_refused (Some Recover) named ends none =
      elim ends [ inl refused ↦ inl refused.1.is | inr ran ↦ absurd (none.recover ran.ran.catalogue ran.ran.journal ran.ran.said) ]
  plain_refused (Some Drill) named ends none = inl ends.is
  plain_refused (Some Serve) named ends none = inl ends.is
  plain_refused None named ends none = inl ends.is

  -- so a plain command ended as a command does that leaves no wall
  pub plain_ends : (left : Left) (journal : Option (List ℕ)) → left.wall ≡ None → (name : Option CommandName) → IsNamed name words
      → EndsPlainly name words status d → Ends name words left journal status d
  plain_ends left journal none (Some Tiny) named ends = (ends, none)
  plain_ends left journal none (Some Replay) named ends = (ends, none)
  plain_ends left journal none (Some Export) named ends = (ends, none)
  plain_ends left journal none (Some Settle) named ends = (ends, none)
  plain_ends left journal none (Some Recover) named ends = (ends, none)
  plain_ends left journal none (Some Drill) named ends = absurd (no_drills named)
  plain_ends left journal none (Some Serve) named ends = absurd (no_serves named)
  plain_ends left journal none None named ends = (ends, none)
