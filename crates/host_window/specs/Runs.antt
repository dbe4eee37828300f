-- What is counted in a run whose answers are known before: the texts of the first answer, the second, and so on.
use Rattle.std.specs.Prelude.{◌≡◌, ◌<◌, ◌≤◌, ℕ, zero, suc, List, [], ◌++◌, length, replicate, Option, Some}
use Rattle.std.specs.List.{sum}
use Rattle.rail_io.specs.Told.{with_end}
use Rattle.host_window.specs.Counted.{IsPlain, NotesIn, label_in, last_number, raise}
use Rattle.host_window.specs.declared.noted.Noted.{Noted}

-- the first answers, that many, one after the other
abbrev pub first_of : (ℕ → List ℕ) → ℕ → List ℕ
first_of text zero = []
first_of text (suc n) = first_of text n ++ text n

-- Some first answers stand in the bytes that a sink tells, and then a part of one more, of which this piece is the
-- rest.
abbrev pub IsRest : (ℕ → List ℕ) → Option (List ℕ) → List ℕ → Type 0
IsRest text told piece = (n : ℕ) × (part : List ℕ) × (told ≡ Some (first_of text n ++ part)) × (text n ≡ part ++ piece)

-- these bytes have that many answers: all whole, but maybe the last, of which at least one byte is there
abbrev pub HaveBegun : (ℕ → List ℕ) → ℕ → List ℕ → Type 0
HaveBegun text zero bytes = bytes ≡ []
HaveBegun text (suc n) bytes =
    (part : List ℕ) × (rest : List ℕ) × (0 < length part) × (text n ≡ part ++ rest) × (bytes ≡ first_of text n ++ part)

-- the counts, raised once for each of the first answers, by its label
abbrev pub raised : (ℕ → List ℕ) → ℕ → List ℕ → List ℕ
raised text zero counts = counts
raised text (suc n) counts = raise (label_in (text n)) (raised text n counts)

-- the counts in memory are raised once for each answer of which a byte is told, by its label
abbrev pub AreCounted : (ℕ → List ℕ) → Option (List ℕ) → Noted → Noted → Type 0
AreCounted text told before after =
    (counts : List ℕ) → IsPlain before counts
    → (begun : ℕ) × (bytes : List ℕ) × (told ≡ Some bytes) × HaveBegun text begun bytes
    × IsPlain after (raised text begun counts)

-- Of these answers a sink tells the first ones, and maybe a part of one more. Each is counted once, by its label, and
-- the counts add up to their number, while that is a number of 64 bits.
abbrev pub AddUp : (ℕ → List ℕ) → Option (List ℕ) → Noted → Type 0
AddUp text told noted =
    (begun : ℕ) × (bytes : List ℕ) × (counts : List ℕ) × (told ≡ Some bytes) × HaveBegun text begun bytes
    × IsPlain noted counts × (counts ≡ raised text begun (replicate 16 0)) × (begun ≤ last_number → sum counts ≡ begun)

-- what a counting sink tells, and where and how it counts
pub record CountingView : Type 0 where
  pub told : Option (List ℕ)
  pub left : ℕ
  pub counts : Noted

-- One write took these bytes of the rest of an answer, and counted that so.
pub record TookOf (text : ℕ → List ℕ) (before : CountingView) (bytes : List ℕ) (after : CountingView) : Type 0 where
  pub offered : List ℕ
  pub more : List ℕ
  pub is : offered ≡ bytes ++ more
  pub rest : IsRest text before.told offered
  pub told : after.told ≡ with_end before.told bytes
  pub noted : NotesIn before.counts before.left offered (length bytes) after.counts after.left
