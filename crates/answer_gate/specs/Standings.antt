-- How a gate stands after each call, and which cut an answer waits for.
use Rattle.std.specs.Prelude.{◌≡◌, ◌≢◌, ◌<◌, ◌≤◌, ◌⊎◌, ◌+◌, ◌-◌, ◌^◌, ◌||◌, ◌&&◌, ℕ, nat_lt, nat_le, max}
use Rattle.std.specs.Prelude.{true, false, if◌then◌else◌}
use Rattle.answer_gate.specs.declared.state.Phase.TheVariants as phase
use Rattle.answer_gate.specs.declared.state.Course.TheVariants as course
use Rattle.answer_gate.specs.declared.state.Standing.{Standing}

-- open, with nobody inside, and no cut taken or waited for
abbrev pub fresh : Standing
fresh = record {
  phase = phase.Open;
  course = course.Going;
  inside = 0;
  changed = false;
  taken = 0;
  kept = 0;
  wanted = 0;
  servers = 0;
}

-- one more may enter
abbrev pub HasRoom : Standing → Type 0
HasRoom s = (s.phase ≡ phase.Open) × (s.inside + 1 < 2 ^ 64)

-- one more is inside
abbrev pub entered : Standing → Standing
entered s = record s { inside = s.inside + 1 }

-- one fewer is inside, who may have changed something
abbrev pub left : Standing → Standing
left s = record s { inside = s.inside - 1; changed = true }

-- The cut that shows all that anyone can have seen. It is the next one, where something may have changed since the
-- last, or may be changing now; else the last one, whether it is kept or not. It is none, 0, where none was taken.
abbrev pub shown_by : Standing → ℕ
shown_by s = if s.changed || nat_lt 0 s.inside then s.taken + 1 else s.taken

-- no other is inside than the one who leaves, and the committer may be waiting for that
abbrev pub IsLastIn : Standing → Type 0
IsLastIn s = (s.inside ≤ 1) × ((s.phase ≡ phase.Closing) ⊎ (s.servers ≡ 0))

-- somebody waits for the cut of this number
abbrev pub wanted_by : ℕ → Standing → Standing
wanted_by cut s = record s { wanted = max s.wanted cut }

-- it is to be taken yet, and nobody has waited for it before
abbrev pub Wakes : ℕ → Standing → Type 0
Wakes cut s = (s.wanted < cut) × (s.taken < cut)

-- nobody waits for a cut that is to be taken, and somebody still may
abbrev pub IsAsleep : Standing → Type 0
IsAsleep s = (s.course ≡ course.Going) × (s.wanted ≤ s.taken) × ((0 < s.inside) ⊎ (0 < s.servers))

-- something changed that no cut shows, or somebody waits for the next cut, and there will be one
abbrev pub IsLeft : Standing → Type 0
IsLeft s = (s.course ≡ course.Going) × ((s.changed ≡ true) ⊎ (s.taken < s.wanted))

-- nobody is let in any more
abbrev pub closed : Standing → Standing
closed s = record s { phase = phase.Closing }

-- a cut is being taken: the rows are looked at, and nothing has changed since
abbrev pub looked_at : Standing → Standing
looked_at s = record s { phase = phase.Looking; changed = false; taken = s.taken + 1 }

-- the cut of this number is being taken, of a gate that was closed
abbrev pub Looked : Standing → Standing → ℕ → Type 0
Looked old new cut = (old.phase ≡ phase.Closing) × (cut ≡ new.taken) × (new ≡ looked_at old)

-- whoever comes is let in
abbrev pub opened : Standing → Standing
opened s = record s { phase = phase.Open }

-- the cut of this number is kept, and all before it, where it was taken
abbrev pub kept_by : ℕ → Standing → Standing
kept_by cut s = if nat_lt s.kept cut && nat_le cut s.taken then record s { kept = cut } else s

-- there will be no more cuts, and whoever comes is let in
abbrev pub over : Standing → Standing
over s = record s { phase = phase.Open; course = course.Over }

abbrev pub lost : Standing → Standing
lost s = record s { phase = phase.Open; course = course.Lost }

-- no cut is taken: the gate wasn't closed; or the numbers are spent, with which the journal is lost
abbrev pub NotLooked : Standing → Standing → Type 0
NotLooked old new = (old.phase ≢ phase.Closing × (new ≡ old)) ⊎ (new ≡ lost old)
