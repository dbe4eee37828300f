-- What is counted of the answers that a sink writes.
use Rattle.std.specs.Prelude.{◌≡◌, ◌+◌, ◌-◌, ◌*◌, ◌^◌, ◌&&◌, if◌then◌else◌, ℕ, Bool, true, false, List}
use Rattle.std.specs.Prelude.{length, min, slice_index, slice_set}
use Rattle.std.specs.Char.{is_ascii_digit}
use Rattle.rail_io.specs.declared.sink.Pushed.{Pushed}
use Rattle.rail_io.specs.declared.sink.Pushed.TheVariants.{Took, Failed}
use Rattle.rail_io.specs.declared.sink.PushedBoth.{PushedBoth}
use Rattle.rail_io.specs.declared.sink.PushedBoth.TheVariants.{Took as TookBoth, Failed as FailedBoth}
use Rattle.host_window.specs.Counting.{Turns}
use Rattle.host_window.specs.Labels.{status_number}
use Rattle.host_window.specs.declared.noted.Noted.{Noted}
use Rattle.host_window.specs.declared.noted.Noted.TheVariants.{Nowhere, Shared, Plain}

-- the number of these three digits, or 0 where one of them is none; 5328 is 111 times the character of 0
abbrev pub number_in : ℕ → ℕ → ℕ → ℕ
number_in a b c =
    if is_ascii_digit a && (is_ascii_digit b && is_ascii_digit c) then a * 100 + b * 10 + c - 5328 else 0

-- the number of the label of an answer's status, which is its tenth to twelfth byte
abbrev pub label_in : List ℕ → ℕ
label_in text = status_number (number_in (slice_index text 9) (slice_index text 10) (slice_index text 11))

-- the last number of 64 bits
abbrev pub last_number : ℕ
last_number = 2 ^ 64 - 1

-- one more at this label; a count stands still at the last number of 64 bits
abbrev pub raise : ℕ → List ℕ → List ℕ
raise label counts = slice_set counts label (min (slice_index counts label + 1) last_number)

-- a count for each label, where they stand in memory
abbrev pub IsPlain : Noted → List ℕ → Type 0
IsPlain Nowhere counts = ⊥
IsPlain (Shared shared) counts = ⊥
IsPlain (Plain plain) counts = counts ≡ plain.items

-- how many bytes a write took
abbrev pub number_taken : Pushed → ℕ
number_taken (Took n) = n
number_taken Failed = 0

abbrev pub number_of_both : PushedBoth → ℕ
number_of_both (TookBoth n) = n
number_of_both (FailedBoth n) = n

-- where an answer has begun, it is counted once, by its label; otherwise none is
abbrev pub Raises : Bool → List ℕ → List ℕ → List ℕ → Type 0
Raises true offered before after = after ≡ raise (label_in offered) before
Raises false offered before after = after ≡ before

-- Where counts stand in memory: of these bytes, which are all that is left of an answer or all of a new one, that many
-- were taken, and the answer is counted at its first byte.
abbrev pub NotesIn : Noted → ℕ → List ℕ → ℕ → Noted → ℕ → Type 0
NotesIn before left offered taken after now =
    (counts : List ℕ) → IsPlain before counts
    → (begun : Bool) × (more : List ℕ) × Turns left (length offered) taken begun now × Raises begun offered counts more
    × IsPlain after more
