-- The first desk of a drill, and the workers' desks that it joins.
use Rattle.std.specs.Prelude.{◌≡◌, ℕ, ◌+◌, ◌<◌, ◌≤◌, List, [], ◌∷◌, length, slice_index_or}
use Rattle.std.specs.List.{AllByRecursion}
use mathlib.Core.List.{IsPrefix}
use Rattle.history_model.specs.declared.entry.Entry.{Entry}
use Rattle.history_model.specs.declared.entry.Step.TheVariants.{Met}
use Rattle.history_model.specs.History.{own}
use Rattle.claim_rule.specs.Rule.{DeskView, In}
use Rattle.host_drill.specs.Totals.{times_in, refused_line, no_memory_line, busy_line}

-- the first desk has parted this many desks, has met alone, and has joined all those after the k-th
pub record IsFirst (desk : DeskView) (n k : ℕ) : Type 0 where
  pub number : desk.number ≡ 0
  pub parted : desk.parted ≡ n
  pub mets : AllByRecursion (λ e. e.step ≡ Met) (own desk.seen 0)
  pub joined : (j : ℕ) → k < j → j ≤ n → In j desk.joined

-- what is so of each worker, by its number
abbrev pub EachAt : {A : Type 0} → (ℕ → A → Type 0) → List A → Type 0
EachAt {A} So xs = (i : ℕ) (none : A) → i < length xs → So i (slice_index_or xs i none)

-- and of each before and after
abbrev pub EachPair : {A : Type 0} → (A → A → Type 0) → List A → List A → Type 0
EachPair {A} So xs ys = (i : ℕ) (none : A) → i < length xs → So (slice_index_or xs i none) (slice_index_or ys i none)

-- what is so of a worker, of its desk at the end, and of what it was answered
abbrev pub OfWorker : Type 1
OfWorker = ℕ → DeskView → List ℕ → Type 0

-- the history goes on from what a worker's desk had seen at the end, and holds of the desk just the entries that it had
-- then
pub record IsOneOf (So : OfWorker) (history : List Entry) (worker : ℕ) (answered : List ℕ) : Type 0 where
  pub desk : DeskView
  pub is : So worker desk answered
  pub own : own history (worker + 1) ≡ own desk.seen (worker + 1)
  pub front : IsPrefix desk.seen history

-- so of each worker from the k-th on, in order, by what they were answered
abbrev pub AreAll : OfWorker → List Entry → ℕ → List (List ℕ) → Type 0
AreAll So history k [] = Unit {0}
AreAll So history k (answered ∷ more) = IsOneOf So history k answered × AreAll So history (k + 1) more

-- what the workers from the k-th on were answered, and what is counted of it. No answer says that memory ran out
pub record AreAnswered (So : OfWorker) (history : List Entry) (workers k refused busy : ℕ) : Type 0 where
  pub answered : List (List ℕ)
  pub number : k + length answered ≡ workers
  pub each : AreAll So history k answered
  pub refused_is : refused ≡ times_in refused_line answered
  pub busy_is : busy ≡ times_in busy_line answered
  pub no_memory : times_in no_memory_line answered ≡ 0
