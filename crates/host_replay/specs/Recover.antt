-- What `recover` does.
use Rattle.std.specs.Prelude.{◌≡◌, ℕ, List, ◌++◌, Option}
use Rattle.rail_io.specs.Told.{with_end}
use Rattle.host_words.specs.Recover.{IsRecover}
use Rattle.host_catalogue.specs.Files.{Files}
use Rattle.host_catalogue.specs.Journals.{HasRecoverCause, IsNotRecovered, IsRecovered, IsRefusedSource, LacksRecovery}
use Rattle.host_catalogue.specs.declared.journal.RecoverFault.TheVariants as fault
use Rattle.host_catalogue.specs.Ends.{status_of}
use Rattle.host_catalogue.specs.declared.ending.CommandEnd.{CommandEnd}
use Rattle.host_catalogue.specs.declared.ending.CommandEnd.TheVariants as ended
use Rattle.host_replay.specs.declared.recover_end.RecoverEnd.{RecoverEnd}
use Rattle.host_replay.specs.declared.recover_end.RecoverEnd.TheVariants as end

-- the command's end
abbrev pub end_of_recover : RecoverEnd → CommandEnd
end_of_recover end.Written = ended.Done
end_of_recover (end.NotRecovered (fault.NotLoaded e)) = ended.NotLoaded e
end_of_recover (end.NotRecovered (fault.Refused e)) = ended.JournalRefused e
end_of_recover end.WriteFault = ended.WriteFault

-- its status
abbrev pub status_of_recover : RecoverEnd → ℕ
status_of_recover e = status_of (end_of_recover e)

-- What the words ask for ended so. Nothing is written but the export.
abbrev pub RanRecover : Files → List ℕ → List ℕ → Option (List ℕ) → Option (List ℕ) → RecoverEnd → Type 0
RanRecover files catalogue journal output sent end.Written =
    (text : List ℕ) × IsRecovered files catalogue journal text × (sent ≡ with_end output text)
RanRecover files catalogue journal output sent end.WriteFault =
    (front back : List ℕ) × IsRecovered files catalogue journal (front ++ back) × (sent ≡ with_end output front)
RanRecover files catalogue journal output sent (end.NotRecovered e) =
    IsNotRecovered files catalogue journal e × (sent ≡ output)

-- what is so of the names that the words of `recover` say
pub record IsOfNames (words : List (List ℕ)) (P : List ℕ → List ℕ → Type 0) : Type 0 where
  pub catalogue : List ℕ
  pub journal : List ℕ
  pub said : IsRecover words catalogue journal
  pub is : P catalogue journal

-- `recover` ran so
abbrev pub Recovers : List (List ℕ) → Files → Option (List ℕ) → Option (List ℕ) → RecoverEnd → Type 0
Recovers words files output sent e =
    IsOfNames words (λ catalogue journal. RanRecover files catalogue journal output sent e)

-- the text is the export of the journal that the words name
abbrev pub IsExportFrom : List (List ℕ) → Files → List ℕ → Type 0
IsExportFrom words files text = IsOfNames words (λ catalogue journal. IsRecovered files catalogue journal text)

-- Where the shelf gave no text, its counts show why; and where it didn't fail, its count of faults is as it was.
abbrev pub HasEndCause : RecoverEnd → ℕ → ℕ → ℕ → ℕ → Type 0
HasEndCause (end.NotRecovered e) failed fails missed misses = HasRecoverCause e failed fails missed misses
HasEndCause e failed fails missed misses = fails ≡ failed

-- the shelf, where it tells its files, has nothing for the words to recover from
abbrev pub HasNoneToRecover : List (List ℕ) → Files → Type 0
HasNoneToRecover words files = IsOfNames words (λ catalogue journal. LacksRecovery files catalogue journal)

-- a text of one of the files was refused
abbrev pub IsOfRefusedSource : List (List ℕ) → Files → Type 0
IsOfRefusedSource words files = IsOfNames words (λ catalogue journal. IsRefusedSource files catalogue journal)
