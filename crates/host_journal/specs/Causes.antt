-- What the counts of the shelf show of an end.
use Rattle.std.specs.Prelude.{◌≡◌, ℕ}
use Rattle.host_catalogue.specs.Files.{HasCause}
use Rattle.host_journal.specs.declared.end.KeptOutcome.{KeptOutcome}
use Rattle.host_journal.specs.declared.end.KeptOutcome.TheVariants as kept
use Rattle.host_journal.specs.declared.end.ServeOutcome.{ServeOutcome}
use Rattle.host_journal.specs.declared.end.ServeOutcome.TheVariants as end

-- Where the shelf gave no books, its counts show why; and at every other end its count of faults is as it was.
abbrev pub HasShelfCause : ServeOutcome → ℕ → ℕ → ℕ → ℕ → Type 0
HasShelfCause (end.NotLoaded fault) failed fails missed misses = HasCause fault failed fails missed misses
HasShelfCause _ failed fails missed misses = fails ≡ failed

-- where the shelf gave no catalogue, its counts show why; and at every other end its count of faults is as it was
abbrev pub HasKeptCause : KeptOutcome → ℕ → ℕ → ℕ → ℕ → Type 0
HasKeptCause (kept.Plain outcome) failed fails missed misses = HasShelfCause outcome failed fails missed misses
HasKeptCause _ failed fails missed misses = fails ≡ failed
