-- The commands of the program, by their first words.
use Rattle.std.specs.Prelude.{◌≡◌, List, Option, None, Some, codes, slice_get}
use Rattle.clap.specs.Words.{Text}
use Rattle.host_words.specs.declared.command.CommandName.{CommandName}
use Rattle.host_words.specs.declared.command.CommandName.TheVariants.{Tiny, Replay, Export, Settle, Recover}
use Rattle.host_words.specs.declared.command.CommandName.TheVariants.{Drill, Serve}

-- the word that names a command
abbrev pub name_of : CommandName → Text
name_of Tiny = codes "tiny"
name_of Replay = codes "replay"
name_of Export = codes "export"
name_of Settle = codes "settle"
name_of Recover = codes "recover"
name_of Drill = codes "drill"
name_of Serve = codes "serve"

-- the words are for the command: their first is its name
abbrev pub IsFor : CommandName → List Text → Type 0
IsFor command words = slice_get words 0 ≡ Some (name_of command)

-- the first word names this command, or none
abbrev pub IsNamed : Option CommandName → List Text → Type 0
IsNamed (Some command) words = IsFor command words
IsNamed None words = (command : CommandName) → IsFor command words → ⊥
