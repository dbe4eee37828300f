-- Words are for one command.
use Rattle.std.proofs.Common.{◌≡◌, ◌∙◌, ◌*◌, ◌+◌, ℕ, List, ◌∷◌, Option, Some, refl, sym, ap, subst}
use Rattle.std.specs.Prelude.{◌==◌, if◌then◌else◌, slice_get}
use Rattle.host_words.specs.Commands.{IsFor, name_of}
use Rattle.host_words.specs.Tiny.{IsNoTiny}
use Rattle.host_words.specs.Settle.{IsNoSettle}
use Rattle.host_words.specs.Recover.{IsNoRecover}
use Rattle.host_words.specs.declared.command.CommandName.{CommandName}
use Rattle.host_words.specs.declared.command.CommandName.TheVariants.{Tiny, Replay, Export, Settle, Recover, Drill, Serve}
use Rattle.host_replay.specs.Replay.{IsNoReplay}
use Rattle.host_replay.specs.Export.{IsNoExport}
use Rattle.host_drill.specs.Ends.{IsNoDrill}
use Rattle.host_serve.specs.Kept.{IsNoKeptServe}
use Rattle.host_serve.specs.Serve.{IsNoServe}
use Rattle.rail_host.specs.Commands.{IsNoCommand}

-- the first and the third letter tell the names apart
abbrev key : Option (List ℕ) → ℕ
key (Some (a ∷ b ∷ c ∷ rest)) = a * 256 + c
key o = 0

abbrev command_at : ℕ → CommandName
command_at k =
    if k == 29806 then Tiny else if k == 29296 then Replay else if k == 25968 then Export
    else if k == 29556 then Settle else if k == 29283 then Recover else if k == 25705 then Drill else Serve

named_at : (a : CommandName) → command_at (key (Some (name_of a))) ≡ a
named_at Tiny = refl
named_at Replay = refl
named_at Export = refl
named_at Settle = refl
named_at Recover = refl
named_at Drill = refl
named_at Serve = refl

-- so that words are for one command alone
pub one_command : (a b : CommandName) (words : List (List ℕ)) → IsFor a words → IsFor b words → a ≡ b
one_command a b words one other =
    sym (named_at a) ∙ ap (λ (o : Option (List ℕ)). command_at (key o)) (sym one ∙ other) ∙ named_at b

-- the words are none of this command's own
abbrev pub NoneOf : CommandName → List (List ℕ) → Type 0
NoneOf Tiny words = IsNoTiny words
NoneOf Replay words = IsNoReplay words
NoneOf Export words = IsNoExport words
NoneOf Settle words = IsNoSettle words
NoneOf Recover words = IsNoRecover words
NoneOf Drill words = IsNoDrill words
NoneOf Serve words = IsNoServe words × IsNoKeptServe words

module _ (words : List (List ℕ)) where
  -- they're those of no command, where they're none of the command's own that they are for
  pub no_command : ((a : CommandName) → IsFor a words → NoneOf a words) → IsNoCommand words
  no_command none = record {
    tiny = λ legs places is. none Tiny (ap (λ (ws : List (List ℕ)). slice_get ws 0) is.2) legs places is;
    replay = λ said is. none Replay is.command said is;
    export = λ said is. none Export is.command said is;
    settle = λ catalogue export is. none Settle (ap (λ (ws : List (List ℕ)). slice_get ws 0) is) catalogue export is;
    recover = λ catalogue journal is. none Recover (ap (λ (ws : List (List ℕ)). slice_get ws 0) is) catalogue journal is;
    drill = λ said is. none Drill is.command said is;
    serve = λ said is. (none Serve is.command).0 said is;
    kept = λ said name is. (none Serve is.command).1 said name is;
  }

  -- and they're for one alone
  pub no_other : (a : CommandName) → IsFor a words → NoneOf a words → IsNoCommand words
  no_other a named none = no_command (λ b other. subst (λ (n : CommandName). NoneOf n words) (one_command a b words named other) none)
