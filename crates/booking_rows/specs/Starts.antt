-- Starting a hold.
use Rattle.std.specs.Prelude.{◌≡◌, ◌≢◌, ◌⊎◌, ℕ, ◌+◌, ◌-◌, ◌/◌, ◌%◌, ◌<◌, ◌≤◌, ◌&&◌, nat_lt, Bool, true, false, suc, List, [], ◌∷◌, ◌++◌, length, Option, Some, None, IsSome}
use Rattle.std.specs.List.{AllByRecursion}
use Rattle.history_model.specs.declared.entry.Step.{Step}
use Rattle.history_model.specs.declared.entry.Step.TheVariants.{SawRow, Start}
use Rattle.rail_ids.specs.Spelling.{last_generation}
use Rattle.rail_ids.specs.declared.RowNo.{RowNo}
use Rattle.history_model.specs.Phase.{is_ended, said_phase, generation_words}
use Rattle.history_model.specs.Booking.{State, present, standing_word}
use Rattle.history_model.specs.Allowed.{IsMadeBy, OnRow}
use Rattle.claim_rule.specs.Rule.{DeskView, state_seen}
use Rattle.claim_rule.specs.Desks.{AddsSteps, Stepped, AddsAtMost}
use Rattle.claim_rule.specs.Starts.{IsEndedWord}
use Rattle.claim_rule.specs.Holds.{HoldView, empty_hold}
use Rattle.claim_rule.specs.Calls.{AddsStepsBy}
use Rattle.claim_rule.specs.Out.{Makes, IsHolding, HoldsNone}

-- looks at phase words that weren't 0: the row, and the word shown
abbrev pub Misses : Type 0
Misses = List (ℕ × ℕ)

abbrev pub misses_steps : Misses → List Step
misses_steps [] = []
misses_steps ((row, word) ∷ rest) = SawRow row standing_word word ∷ misses_steps rest

-- in rising order of rows, from one row on and below the last
abbrev pub AreMissesFrom : ℕ → ℕ → Misses → Type 0
AreMissesFrom from last [] = Unit {0}
AreMissesFrom from last ((row, word) ∷ rest) =
    (from ≤ row) × (row < last) × (word ≢ 0) × AreMissesFrom (row + 1) last rest

-- all rows below this one are in use
abbrev pub IsLeastFree : State → ℕ → Type 0
IsLeastFree s row = (lower : ℕ) → lower < row → IsSome (present s lower)

-- the booking is the desk's, in the making
abbrev pub MakesBooking : DeskView → RowNo → Type 0
MakesBooking desk row = OnRow (state_seen desk) row.row (λ b. IsMadeBy desk.number b × (b.generation ≡ row.generation))

abbrev pub MakesNone : DeskView → Type 0
MakesNone desk = (row : ℕ) → Makes desk row → ⊥

-- a word that shows a booking that has ended, of a generation before the last
abbrev pub is_startable : ℕ → Bool
is_startable n = is_ended (said_phase (n % generation_words)) && nat_lt (n / generation_words) last_generation

-- the generation may follow on a booking that the word shows ended
abbrev pub MayFollowOn : ℕ → ℕ → Type 0
MayFollowOn word generation =
    (before : ℕ) × (generation ≡ before + 1) × (generation ≤ last_generation) × IsEndedWord before word

-- a row that the second search passed: the word shown, and the other one that a try to start the next generation found
abbrev pub Passed : Type 0
Passed = ℕ × Option ℕ

abbrev pub passed_steps : ℕ → Passed → List Step
passed_steps row (n, None) = SawRow row standing_word n ∷ []
passed_steps row (n, Some m) = SawRow row standing_word n ∷ SawRow row standing_word m ∷ []

-- it was tried exactly where the word shows an ended booking that the row may follow on, and then its word was another
abbrev pub IsPassed : Passed → Type 0
IsPassed (n, None) = is_startable n ≡ false
IsPassed (n, Some m) = (is_startable n ≡ true) × (m ≢ n)

-- the steps of the second search, over rows in rising number from this one on
abbrev pub search_steps : ℕ → List Passed → List Step
search_steps row [] = []
search_steps row (p ∷ ps) = passed_steps row p ++ search_steps (suc row) ps

-- the row is started in its next generation, after the look that showed it ended
abbrev pub StartsAgain : RowNo → List Step → Type 0
StartsAgain row es = (n : ℕ) × (is_startable n ≡ true) × (row.generation ≡ n / generation_words + 1)
    × ((passed : List Passed) × (length passed ≡ row.row) × AllByRecursion IsPassed passed
    × (es ≡ search_steps 0 passed ++ SawRow row.row standing_word n ∷ Start row.row row.generation ∷ []))

-- no row may be started again, by what each showed
abbrev pub StartsNone : ℕ → List Step → Type 0
StartsNone rows es = (passed : List Passed) × (length passed ≡ rows) × AllByRecursion IsPassed passed
    × (es ≡ search_steps 0 passed)

-- all rows are in use
abbrev pub IsFull : DeskView → Type 0
IsFull desk = IsLeastFree (state_seen desk) desk.layout.rows

-- The row that a hold is started on. It is the one that the desk makes already, without an entry. Else it is, after
-- misses, the row below which all are in use in what the desk has then seen. Else, where all rows are in use there, it
-- is the first one that is started again. None where all rows are in use, and none could be started again. The misses
-- begin at the row up to which the desk knew that all are in use.
abbrev pub StartsHold : DeskView → DeskView → Option RowNo → List Step → Type 0
StartsHold old new (Some row) es =
    (MakesBooking old row × (es ≡ []))
    ⊎ ((MakesNone old × (row.generation ≡ 0) × IsLeastFree (state_seen new) row.row
    × ((misses : Misses) × AreMissesFrom old.past row.row misses × (es ≡ misses_steps misses ++ Start row.row 0 ∷ [])))
    ⊎ (MakesNone old × IsFull new
    × ((misses : Misses) × (rest : List Step) × AreMissesFrom old.past new.layout.rows misses
    × StartsAgain row rest × (es ≡ misses_steps misses ++ rest))))
StartsHold old new None es =
    MakesNone old × IsFull new
    × ((misses : Misses) × (rest : List Step) × AreMissesFrom old.past new.layout.rows misses
    × StartsNone new.layout.rows rest × (es ≡ misses_steps misses ++ rest))

-- looks at word 0 of rows in rising number, from one on, with what they showed
abbrev pub row_looks : ℕ → List ℕ → List Step
row_looks row [] = []
row_looks row (n ∷ ns) = SawRow row standing_word n ∷ row_looks (suc row) ns

abbrev pub AllSome : List ℕ → Type 0
AllSome ns = AllByRecursion (λ n. n ≢ 0) ns

-- a search from the first row that the desk didn't know to be taken: each row was seen taken, up to the one that is
-- started; or to the last
abbrev pub Finds : DeskView → DeskView → Option HoldView → Type 0
Finds old new (Some hold) =
    IsHolding new hold × (hold ≡ empty_hold hold.row) × (hold.row.generation ≡ 0) × (new.past ≡ hold.row.row + 1)
    × ((ns : List ℕ) × (old.past + length ns ≡ hold.row.row) × AllSome ns
    × AddsSteps old new (row_looks old.past ns ++ Start hold.row.row 0 ∷ []))
Finds old new None =
    HoldsNone new × (new.past ≡ old.layout.rows)
    × ((ns : List ℕ) × (old.past + length ns ≡ old.layout.rows) × AllSome ns
    × AddsSteps old new (row_looks old.past ns))

-- the second search: the first row that is started again, or none
abbrev pub FindsAgain : DeskView → DeskView → Option HoldView → Type 0
FindsAgain old new (Some hold) =
    IsHolding new hold × (hold ≡ empty_hold hold.row) × (new.past ≡ old.past)
    × AddsStepsBy (StartsAgain hold.row) old new
FindsAgain old new None = HoldsNone new × (new.past ≡ old.past) × AddsStepsBy (StartsNone old.layout.rows) old new

abbrev pub first_of : ℕ → RowNo
first_of row = record { row = row; generation = 0 }

-- one row of the second search that is started, and one that is passed
abbrev pub Restarts : ℕ → RowNo → DeskView → DeskView → Type 0
Restarts row started old new = (n : ℕ) × (is_startable n ≡ true)
    × (started ≡ record { row = row; generation = n / generation_words + 1 })
    × AddsSteps old new (SawRow row standing_word n ∷ Start row started.generation ∷ [])

abbrev pub Passes : ℕ → DeskView → DeskView → Type 0
Passes row old new = (p : Passed) × IsPassed p × AddsSteps old new (passed_steps row p)

-- the hold that one row's start leaves: of its first generation, and of a next one
abbrev pub HasFirst : ℕ → DeskView → DeskView → HoldView → Type 0
HasFirst row old new hold = Stepped (Start row 0) old new × IsHolding new hold × (hold ≡ empty_hold (first_of row))

abbrev pub HasNext : ℕ → DeskView → DeskView → HoldView → Type 0
HasNext row old new hold = Restarts row hold.row old new × IsHolding new hold × (hold ≡ empty_hold hold.row)

-- the generation after the one that the word shows ended
abbrev pub IsNextOf : ℕ → ℕ → Type 0
IsNextOf word generation = (is_startable word ≡ true) × (generation ≡ word / generation_words + 1)

-- a start of a first generation has at most one entry for each row that the desk has learned to be taken by it, and the
-- start
abbrev pub RemembersFree : DeskView → DeskView → HoldView → Type 0
RemembersFree old new hold = hold.row.generation ≡ 0 → AddsAtMost (new.past - old.past) old new

-- where it keeps no row, and starts none for the first time, the desk knows then that all rows are in use
abbrev pub LearnsFull : DeskView → DeskView → Option RowNo → Type 0
LearnsFull old new (Some row) = old.kept ≡ None → 1 ≤ row.generation → new.past ≡ new.layout.rows
LearnsFull old new None = new.past ≡ new.layout.rows
