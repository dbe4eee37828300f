-- What `serve` writes to its notes: the export of its books, where the words ask for it, and the note of its end.
use Rattle.std.specs.Prelude.{◌≡◌, ◌⊎◌, ◌≤◌, ℕ, List, ◌++◌, Option, Some, None, IsSomeAnd}
use Rattle.rail_io.specs.Faults.{Rose}
use Rattle.rail_io.specs.Told.{with_end}
use Rattle.claim_rule.specs.Walls.{WallView}
use Rattle.cold_store.specs.Exports.{text_on}
use Rattle.host_catalogue.specs.Ends.{note_of}
use Rattle.host_catalogue.specs.Noted.{IsNoted}
use Rattle.host_journal.specs.Ends.{end_of_serve}
use Rattle.host_serve.specs.Serve.{IsExporting, IsPlain}
use Rattle.host_journal.specs.declared.end.ServeOutcome.{ServeOutcome}
use Rattle.host_journal.specs.declared.end.ServeOutcome.TheVariants as end

-- what the notes told and how often they had failed, before and after
pub record Noting : Type 0 where
  pub before : Option (List ℕ)
  pub failed : ℕ
  pub after : Option (List ℕ)
  pub fails : ℕ

-- nothing was written
pub record IsSilent (n : Noting) : Type 0 where
  pub same : n.after ≡ n.before
  pub steady : n.fails ≡ n.failed

-- all of the text was written
pub record IsWhole (text : List ℕ) (n : Noting) : Type 0 where
  pub told : n.after ≡ with_end n.before text
  pub steady : n.fails ≡ n.failed

-- the notes failed, and a front of it was
pub record IsPart (text : List ℕ) (n : Noting) : Type 0 where
  pub front : List ℕ
  pub back : List ℕ
  pub is : text ≡ front ++ back
  pub told : n.after ≡ with_end n.before front
  pub rose : Rose n.failed n.fails
  pub never_falls : n.failed ≤ n.fails

-- the end is one before the export
abbrev pub IsBefore : ServeOutcome → Type 0
IsBefore end.NoText = ⊥
IsBefore end.Unwritten = ⊥
IsBefore _ = Unit {0}

-- how serving ends where the notes failed in the export
abbrev pub cut_short : ServeOutcome → ServeOutcome
cut_short end.Served = end.Unwritten
cut_short outcome = outcome

-- how it ends where there was no memory for the export
abbrev pub without_text : ServeOutcome → ServeOutcome
without_text end.Served = end.NoText
without_text outcome = outcome

-- the export of the wall, where there is one, was written, and what that makes of the end
abbrev pub WritesExport : Option WallView → Noting → ServeOutcome → ServeOutcome → Type 0
WritesExport None n old new = IsSilent n × (new ≡ old)
WritesExport (Some w) n old new =
    (IsSilent n × (new ≡ without_text old))
    ⊎ (IsWhole (text_on w) n × (new ≡ old))
    ⊎ (IsPart (text_on w) n × (new ≡ cut_short old))

-- What was written of the export by the end: all of it, where as many connections as were asked for have ended. Where
-- an accept failed, as much of it as the notes took, or nothing, of which no cause is said. Nothing at other ends, and
-- where the words don't ask for it.
abbrev pub Tells : List (List ℕ) → Option WallView → Noting → ServeOutcome → Type 0
Tells words wall n end.Served =
    (IsPlain words × IsSilent n) ⊎ (IsExporting words × IsSomeAnd wall (λ w. IsWhole (text_on w) n))
Tells words wall n end.AcceptFailed =
    (IsPlain words × IsSilent n)
    ⊎ (IsExporting words × IsSomeAnd wall (λ w. IsWhole (text_on w) n ⊎ IsPart (text_on w) n ⊎ IsSilent n))
Tells words wall n end.Unwritten = IsExporting words × IsSomeAnd wall (λ w. IsPart (text_on w) n)
Tells words wall n end.NoText = IsExporting words × IsSilent n
Tells words wall n end.NotBound = IsSilent n
Tells words wall n (end.NotLoaded fault) = IsSilent n
Tells words wall n end.NoMemory = IsSilent n
Tells words wall n end.Refused = IsSilent n

-- and after it the note of the end
pub record IsTold (words : List (List ℕ)) (wall : Option WallView) (n : Noting) (outcome : ServeOutcome) : Type 0 where
  pub between : Option (List ℕ)
  pub count : ℕ
  pub text : Tells words wall (record { before = n.before; failed = n.failed; after = between; fails = count }) outcome
  pub note : IsNoted between n.after count n.fails (note_of (end_of_serve outcome))
