-- What a reader of a part of a journal answers.
use Rattle.std.specs.Prelude.{◌≡◌, ℕ, List, [], ◌∷◌, ◌++◌, Option, Some, IfSome, IsSomeAnd, codes}
use Rattle.journal_text.specs.declared.cut.Cut.{Cut}
use Rattle.journal_text.specs.declared.cut.Opening.{Opening}
use Rattle.journal_text.specs.declared.head.Head.{Head}
use Rattle.journal_text.specs.declared.lines.Line.{Line}
use Rattle.journal_text.specs.declared.sum.Sum.{Sum}
use Rattle.journal_text.specs.Texts.{HasSumForm, IsHead, IsSaidCut, RowLine, SaidCut, SaidHead, cut_text, head_text, own_sum, row_text}
use Rattle.line_text.specs.Lines.{IsLine, IsNumber, field, number_field}

abbrev pub said_head : Head → SaidHead
said_head h = record { places = h.places; rows = h.rows; print = h.print.digits }

abbrev pub said_cut : Cut → SaidCut
said_cut c = record { number = c.number; count = c.count; before = c.before.digits; body = c.body.now }

-- what was read stood at the front; and what stands at the front is read
pub record ReadsWhole {A : Type 0} (text : A → List ℕ) (Is : A → Type 0) (old new : List ℕ) (read : Option A)
    : Type 0 where
  pub found : IfSome read (λ a. Is a × (old ≡ text a ++ new))
  pub only : (a : A) (rest : List ℕ) → Is a → old ≡ text a ++ rest → (read ≡ Some a) × (new ≡ rest)

-- a sum as the next field
abbrev pub sum_field : Sum → List ℕ
sum_field s = field s.digits

abbrev pub IsSum : Sum → Type 0
IsSum s = HasSumForm s.digits

-- the first line of a journal
abbrev pub said_head_text : Head → List ℕ
said_head_text h = head_text (said_head h)

abbrev pub IsSaidHead : Head → Type 0
IsSaidHead h = IsHead (said_head h)

-- a whole cut, with its own sum
pub record ReadsCut (old new : List ℕ) (read : Option Cut) : Type 0 where
  pub found : IfSome read (λ c. IsSaidCut (said_cut c) × (old ≡ cut_text (said_cut c) ++ new)
      × (c.sum.digits ≡ own_sum (said_cut c)))
  pub only : (c : SaidCut) (rest : List ℕ) → IsSaidCut c → old ≡ cut_text c ++ rest
      → IsSomeAnd read (λ k. said_cut k ≡ c) × (new ≡ rest)

-- the cut with this number and this sum before it
pub record ReadsNext (number : ℕ) (before old new : List ℕ) (read : Option Cut) : Type 0 where
  pub found : IfSome read (λ c. IsSaidCut (said_cut c) × (old ≡ cut_text (said_cut c) ++ new)
      × (c.sum.digits ≡ own_sum (said_cut c)) × (c.number ≡ number) × (c.before.digits ≡ before))
  pub only : (c : SaidCut) (rest : List ℕ) → IsSaidCut c → c.number ≡ number → c.before ≡ before
      → old ≡ cut_text c ++ rest → IsSomeAnd read (λ k. said_cut k ≡ c) × (new ≡ rest)

-- a line of a row, whatever the row is
pub record IsAnyLine (l : RowLine) : Type 0 where
  pub row : IsNumber l.row
  pub line : IsLine l.more

abbrev pub IsLineOf : RowLine → Line → Type 0
IsLineOf l line = (line.row ≡ l.row) × (line.text.now ≡ row_text l ++ 10 ∷ [])

pub record ReadsLine (old new : List ℕ) (read : Option Line) : Type 0 where
  pub found : IfSome read (λ line. (l : RowLine) × IsAnyLine l × IsLineOf l line × (old ≡ line.text.now ++ new))
  pub only : (l : RowLine) (rest : List ℕ) → IsAnyLine l → old ≡ row_text l ++ (10 ∷ rest)
      → IsSomeAnd read (IsLineOf l) × (new ≡ rest)

-- the first line of a cut, of whatever body
pub record IsOpening (o : Opening) : Type 0 where
  pub number : IsNumber o.number
  pub count : IsNumber o.count
  pub size : IsNumber o.size
  pub before : IsSum o.before

abbrev pub said_opening_text : Opening → List ℕ
said_opening_text o =
    codes "cut" ++ (number_field o.number ++ (number_field o.count ++ (number_field o.size
    ++ (sum_field o.before ++ 10 ∷ []))))
