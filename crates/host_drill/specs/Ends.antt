-- The statuses of a drill, their notes, and what was written.
use Rattle.std.specs.Prelude.{◌≡◌, ℕ, List, ◌++◌, Option, Some, None, IsSomeAnd}
use Rattle.rail_io.specs.Told.{with_end}
use Rattle.claim_rule.specs.Walls.{WallView}
use Rattle.host_words.specs.Commands.{IsFor}
use Rattle.host_words.specs.declared.command.CommandName.TheVariants as command
use Rattle.host_words.specs.Drill.{drill_words}
use Rattle.host_words.specs.declared.drill.DrillWords.{DrillWords}
use Rattle.host_catalogue.specs.declared.ending.CommandEnd.{CommandEnd}
use Rattle.host_catalogue.specs.declared.ending.CommandEnd.TheVariants as ended
use Rattle.host_drill.specs.Totals.{totals_line}
use Rattle.host_drill.specs.declared.drill.Cause.{Cause}
use Rattle.host_drill.specs.declared.drill.Cause.TheVariants.{Whole, Words, Write, Memory}
use Rattle.host_drill.specs.declared.line.Totals.{Totals}
use Rattle.host_drill.specs.Drilled.{IsDrilled}

-- the command is `drill`
abbrev pub IsForDrill : List (List ℕ) → Type 0
IsForDrill words = IsFor command.Drill words

-- the words are those of `drill`, and say this
pub record IsDrill (words : List (List ℕ)) (said : DrillWords) : Type 0 where
  pub command : IsForDrill words
  pub is : drill_words words ≡ Some said

abbrev pub IsNoDrill : List (List ℕ) → Type 0
IsNoDrill words = (said : DrillWords) → IsDrill words said → ⊥

abbrev pub printed : Totals → List ℕ
printed t = totals_line t.requests t.sold t.refused t.busy t.double

-- the command's end
abbrev pub end_of_drill : Cause → CommandEnd
end_of_drill Whole = ended.Done
end_of_drill Words = ended.WordsRefused
end_of_drill Write = ended.WriteFault
end_of_drill Memory = ended.NoMemory

-- What a drill that ended so wrote, and the books that it hands back: the whole line of what the books and the answers
-- came to; a front of it, where the output failed; or nothing.
abbrev pub Leaves : List (List ℕ) → Option (List ℕ) → Option (List ℕ) → Option WallView → Cause → Type 0
Leaves words before after wall Whole =
    (said : DrillWords) × (totals : Totals) × IsDrill words said × IsSomeAnd wall (λ w. IsDrilled said w totals)
    × (after ≡ with_end before (printed totals))
Leaves words before after wall Words = IsNoDrill words × (wall ≡ None) × (after ≡ before)
Leaves words before after wall Write =
    (said : DrillWords) × (totals : Totals) × (front : List ℕ) × (rest : List ℕ) × IsDrill words said
    × IsSomeAnd wall (λ w. IsDrilled said w totals) × (printed totals ≡ front ++ rest) × (after ≡ with_end before front)
Leaves words before after wall Memory = IsForDrill words × (wall ≡ None) × (after ≡ before)
