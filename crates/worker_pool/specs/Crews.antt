-- Crews, and the desk that takes in those of their members.
use Rattle.std.specs.Prelude.{◌≡◌, ◌<◌, ◌≤◌, ◌+◌, ℕ, zero, suc, List, [], length, slice_index_or}
use mathlib.Core.List.{IsPrefix}
use Rattle.std.specs.List.{AllByRecursion}
use Rattle.history_model.specs.History.{own}
use Rattle.history_model.specs.declared.entry.Entry.{Entry}
use Rattle.history_model.specs.declared.entry.Step.TheVariants.{Met}
use Rattle.claim_rule.specs.Rule.{BooksView, DeskView, In}
use Rattle.claim_rule.specs.Desks.{IsOf}
use Rattle.claim_rule.specs.Out.{IsTidy}
use Rattle.worker_pool.specs.Turns.{Doing, KeepsDesk, RunsToEnd, EachMember}
use Rattle.worker_pool.specs.declared.member.Member.{Member}

-- in the history the first desk has nothing but meetings
abbrev pub OnlyMet : List Entry → Type 0
OnlyMet history = AllByRecursion (λ e. e.step ≡ Met) (own history 0)

-- the first desk of the books, which has parted that many others, has joined none, and has done nothing else
pub record IsFirst (books : BooksView) (others : ℕ) (desk : DeskView) : Type 0 where
  pub own : IsOf books desk
  pub tidy : IsTidy desk
  pub number : desk.number ≡ 0
  pub parted : desk.parted ≡ others
  pub joined : desk.joined ≡ []
  pub meets : OnlyMet desk.seen

-- a desk of the books with this number, which has joined none
pub record IsDesk (books : BooksView) (n : ℕ) (desk : DeskView) : Type 0 where
  pub own : IsOf books desk
  pub tidy : IsTidy desk
  pub number : desk.number ≡ n
  pub joined : desk.joined ≡ []

-- a member at such a desk, whose worker fits the books
pub record IsMember {W : Type 0} (Fits : W → BooksView → Type 0) (books : BooksView) (n : ℕ)
    (m : Member W) : Type 0 where
  pub fits : Fits m.worker books
  pub desk : IsDesk books n m.desk

-- the members' desks are numbered from 1
abbrev pub IsCrew : {W : Type 0} → (W → BooksView → Type 0) → BooksView → List (Member W) → Type 0
IsCrew {W} Fits books crew =
    (i : ℕ) (none : Member W) → i < length crew → IsMember Fits books (i + 1) (slice_index_or crew i none)

-- the sum over all below a number
abbrev pub sum_below : (ℕ → ℕ) → ℕ → ℕ
sum_below f zero = 0
sum_below f (suc n) = sum_below f n + f n

-- a number of the member at a place
abbrev pub of_member : {W : Type 0} → (W → ℕ) → List (Member W) → Member W → ℕ → ℕ
of_member number crew none i = number (slice_index_or crew i none).worker

-- how many parts of a ledger, and what is counted on them
pub record Held : Type 0 where
  pub parts : ℕ
  pub amount : ℕ

-- the members from this place on have given away what they had
pub record HasGiven {W : Type 0} (has counts : W → ℕ) (crew : List (Member W)) (left : ℕ)
    (old new : Held) : Type 0 where
  pub all_parts : (none : Member W)
      → new.parts + sum_below (of_member has crew none) left
      ≡ old.parts + sum_below (of_member has crew none) (length crew)
  pub all_counted : (none : Member W)
      → new.amount + sum_below (of_member counts crew none) left
      ≡ old.amount + sum_below (of_member counts crew none) (length crew)

-- the desk has joined this one: it has seen all that this one had seen, and of this one's entries no more
abbrev pub HasIn : DeskView → ℕ → DeskView → Type 0
HasIn first number desk =
    In number first.joined × (own first.seen number ≡ own desk.seen number) × IsPrefix desk.seen first.seen

-- the first desk has joined all members' desks after the first `left`, and has done nothing else
pub record HasMetAll {W : Type 0} (books : BooksView) (crew : List (Member W)) (left : ℕ)
    (desk : DeskView) : Type 0 where
  pub own : IsOf books desk
  pub tidy : IsTidy desk
  pub number : desk.number ≡ 0
  pub parted : desk.parted ≡ length crew
  pub meets : OnlyMet desk.seen
  pub met : (i : ℕ) (none : Member W) → left ≤ i → i < length crew
      → HasIn desk (i + 1) (slice_index_or crew i none).desk

-- The members of a crew took their turns to their ends; the first desk has joined the desks of all but the first, which
-- is left, and what these had counted was given away.
pub record HasRun {W : Type 0} (Fits : W → BooksView → Type 0) (does : Doing W) (ended : W → Type 0)
    (has counts : W → ℕ) (books : BooksView) (old : List (Member W))
    (before after : Held) (desk : DeskView) (member : Member W) : Type 0 where
  pub crew : List (Member W)
  pub count : length crew ≡ length old
  pub are : IsCrew Fits books crew
  pub turns : EachMember (λ m n. RunsToEnd does ended m.worker m.desk n.worker n.desk) old crew
  pub keeps : EachMember (λ m n. KeepsDesk m.desk n.desk) old crew
  pub met : HasMetAll books crew 1 desk
  pub is : IsMember Fits books 1 member
  pub left : (none : Member W) → member ≡ slice_index_or crew 0 none
  pub given : HasGiven has counts crew 1 before after
