-- What stands before what, from an answer to its bytes.
use Rattle.std.specs.Prelude.{◌≡◌, ◌⊎◌, ◌≤◌, ◌+◌, ℕ, true, List, [], ◌∷◌, ◌++◌}
use Rattle.std.specs.List.{AllByRecursion}
use mathlib.Core.List.{IsPrefix}
use Rattle.history_model.specs.declared.entry.Entry.{Entry}
use Rattle.claim_rule.specs.Out.{is_look}
use Rattle.answer_gate.specs.declared.state.Phase.TheVariants.{Looking}
use Rattle.answer_gate.specs.declared.state.Standing.{Standing}
use Rattle.answer_gate.specs.Standings.{closed, kept_by, lost, opened, over, shown_by, wanted_by}
use Rattle.host_journal.specs.Moments.{Begins, LeadsTo, Moment, Passes, TakenCut}

-- there is such a cut among these
abbrev pub HasCut : List TakenCut → (TakenCut → Type 0) → Type 0
HasCut [] Is = ⊥
HasCut (cut ∷ more) Is = Is cut ⊎ HasCut more Is

-- from the one history to the other there are looks alone
abbrev pub OnlyLooked : List Entry → List Entry → Type 0
OnlyLooked began now =
    (more : List Entry) × (now ≡ began ++ more) × AllByRecursion (λ (e : Entry). is_look e.step ≡ true) more

-- what was told had happened when a cut's looks began, but for looks
abbrev pub Shows : List Entry → List Entry → Type 0
Shows began told = (now : List Entry) × OnlyLooked began now × IsPrefix told now

-- the cut that an answer is given at this moment: that of one who leaves the gate, or of one who only tells
abbrev pub GivesCut : Moment → ℕ → Type 0
GivesCut m cut = (cut ≡ m.gate.taken + 1) ⊎ (cut ≡ shown_by m.gate)

-- An answer that told this, as its desk had seen it when the answer was given its cut, of which the cut is kept at a
-- later moment
pub record IsKeptAnswer (later : Moment) (told : List Entry) : Type 0 where
  pub first : Moment
  pub before : List Moment
  pub answered : Moment
  pub between : List Moment
  pub cut : ℕ
  pub begins : Begins first
  pub came : LeadsTo first before answered
  pub seen : IsPrefix told answered.history
  pub given : GivesCut answered cut
  pub went : LeadsTo answered between later
  pub kept : cut ≤ later.kept

-- the journal has a cut of which this is so
abbrev pub HasWritten : Moment → (TakenCut → Type 0) → Type 0
HasWritten m Is = HasCut m.cuts (λ c. (c.number ≤ m.written) × Is c)

-- of each such answer the journal has a cut that shows all that was told
abbrev pub AnswersFollowCuts : Type 0
AnswersFollowCuts =
    (later : Moment) (told : List Entry) → IsKeptAnswer later told → HasWritten later (λ c. Shows c.began told)

-- there are such answers: one that tells of an entry which was just made may be kept
abbrev pub AnswersMayBeKept : Type 0
AnswersMayBeKept =
    (history : List Entry) (made : Entry) → (later : Moment) × IsKeptAnswer later (history ++ made ∷ [])

-- while the rows are looked at, nothing has changed since the looks of this cut began
abbrev pub NothingChangesMeanwhile : Type 0
NothingChangesMeanwhile =
    (first now : Moment) (before : List Moment) → Begins first → LeadsTo first before now → now.gate.phase ≡ Looking
    → HasCut now.cuts (λ c. (c.number ≡ now.gate.taken) × OnlyLooked c.began now.history)

-- A gate's calls but those that enter, leave or take a cut. Somebody waits for a cut, the gate closes or opens, it
-- hears that a cut is kept. No more cuts are taken, or it is said how many members serve
pub record OthersPass (s : Standing) : Type 0 where
  pub wanted : (cut : ℕ) → Passes s (wanted_by cut s)
  pub closed : Passes s (closed s)
  pub opened : Passes s (opened s)
  pub kept : (cut : ℕ) → Passes s (kept_by cut s)
  pub over : Passes s (over s)
  pub lost : Passes s (lost s)
  pub servers : (count : ℕ) → Passes s (record s { servers = count })
