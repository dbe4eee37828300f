-- What an import answers.
use Rattle.std.specs.Prelude.{◌≡◌, ◌≢◌, ◌⊎◌, ℕ, ◌+◌, List, [], ◌∷◌, ◌++◌, map, length, min}
use Rattle.std.specs.List.{AllByRecursion}
use mathlib.Core.List.{IsPrefix}
use Rattle.history_model.specs.Booking.{Layout}
use Rattle.claim_rule.specs.Openings.{layout_with}
use Rattle.cold_store.specs.declared.fault.ImportFault.{ImportFault}
use Rattle.cold_store.specs.declared.fault.ImportFault.TheVariants.{NotAnExport, Sizes, RowWrong, Overlap, OwnSuccessor, NoMemory}
use Rattle.cold_store.specs.Drafts.{DraftView, IsDraftOf}
use Rattle.cold_store.specs.Exports.{IsLeastBelow, NoneBelow}
use Rattle.line_text.specs.Lines.{IsExportOf, IsLine, SaidBooking, text_of}
use Rattle.cold_store.specs.Right.{AreRight, IsApartAt, IsFirstWrong, OwnsSuccessor, kept_of}

-- the text is an export
abbrev pub IsSome : List ℕ → Type 0
IsSome text = (places rows : ℕ) × (said : List SaidBooking) × IsExportOf text places rows said

-- some export begins so
abbrev pub Begins : List ℕ → Type 0
Begins front = (text : List ℕ) × IsSome text × IsPrefix front text

-- the lines before end the beginning of an export, and what is left is no whole line, or its first line ends no such
-- beginning
abbrev pub StopsAt : List (List ℕ) → List ℕ → Type 0
StopsAt before rest =
    (IsLine rest × (¬ IsSome (text_of before ++ rest)))
    ⊎ ((line more : List ℕ) × IsLine line × (rest ≡ line ++ 10 ∷ more) × (¬ Begins (text_of (before ++ line ∷ []))))

-- the first line, counted from 1, that ends no beginning of an export
pub record IsFirstBad (text : List ℕ) (number : ℕ) : Type 0 where
  pub before : List (List ℕ)
  pub rest : List ℕ
  pub lines : AllByRecursion IsLine before
  pub parts : text ≡ text_of before ++ rest
  pub begins : Begins (text_of before)
  pub stops : StopsAt before rest
  pub is : number ≡ length before + 1

-- the greatest number that a fault names
abbrev pub last_number : ℕ
last_number = 4294967295

-- the text is an export of these bookings, of as many places and rows as the books are to have
abbrev pub IsSized : List ℕ → ℕ → List ℕ → List SaidBooking → Type 0
IsSized legs rows text said = IsExportOf text (length legs) rows said

-- and these are right, no two live ones overlap, and none is its own row's successor
pub record IsRightText (legs : List ℕ) (rows : ℕ) (text : List ℕ) (said : List SaidBooking) : Type 0 where
  pub sized : IsSized legs rows text said
  pub right : AreRight legs rows said said
  pub apart : NoneBelow (length legs) (λ place. ¬ IsApartAt said place)
  pub others : NoneBelow rows (OwnsSuccessor said)

-- the cause of each fault, in the order in which they are tried
abbrev pub IsImportFault : List ℕ → ℕ → List ℕ → ImportFault → Type 0
IsImportFault legs rows text (NotAnExport line) =
    (number : ℕ) × IsFirstBad text number × (line ≡ min number last_number)
IsImportFault legs rows text Sizes =
    (places all : ℕ) × (said : List SaidBooking) × IsExportOf text places all said
    × ((places ≢ length legs) ⊎ (all ≢ rows))
IsImportFault legs rows text (RowWrong row) =
    (said : List SaidBooking) × IsSized legs rows text said × IsFirstWrong legs rows said row
IsImportFault legs rows text (Overlap place) =
    (said : List SaidBooking) × IsSized legs rows text said × AreRight legs rows said said
    × IsLeastBelow (length legs) (λ at. ¬ IsApartAt said at) place
IsImportFault legs rows text (OwnSuccessor row) =
    (said : List SaidBooking) × IsSized legs rows text said × AreRight legs rows said said
    × NoneBelow (length legs) (λ at. ¬ IsApartAt said at) × IsLeastBelow rows (OwnsSuccessor said) row
IsImportFault legs rows text NoMemory = Unit {0}

-- the same of the bookings alone, whatever text they are of
abbrev pub IsFaultOf : List ℕ → ℕ → List SaidBooking → ImportFault → Type 0
IsFaultOf legs rows said (RowWrong row) = IsFirstWrong legs rows said row
IsFaultOf legs rows said (Overlap place) =
    AreRight legs rows said said × IsLeastBelow (length legs) (λ at. ¬ IsApartAt said at) place
IsFaultOf legs rows said (OwnSuccessor row) =
    AreRight legs rows said said × NoneBelow (length legs) (λ at. ¬ IsApartAt said at)
    × IsLeastBelow rows (OwnsSuccessor said) row
IsFaultOf legs rows said _ = ⊥

pub record AreSound (legs : List ℕ) (rows : ℕ) (said : List SaidBooking) : Type 0 where
  pub right : AreRight legs rows said said
  pub apart : NoneBelow (length legs) (λ place. ¬ IsApartAt said place)
  pub others : NoneBelow rows (OwnsSuccessor said)

-- the books open with the bookings of the text
abbrev pub OpensAs : List ℕ → ℕ → List ℕ → Layout → Type 0
OpensAs legs rows text layout =
    (said : List SaidBooking) × IsRightText legs rows text said × (layout ≡ layout_with legs rows (map kept_of said))

-- the text is an export of that many places and rows, and the draft is that of its bookings
abbrev pub IsReadText : List ℕ → List ℕ → ℕ → ℕ → DraftView → Type 0
IsReadText legs text places rows d =
    (said : List SaidBooking) × IsExportOf text places rows said × IsDraftOf legs d.rows said d

-- the text is no export, or there was no memory
abbrev pub IsReadFault : List ℕ → ImportFault → Type 0
IsReadFault text (NotAnExport line) = (number : ℕ) × IsFirstBad text number × (line ≡ min number last_number)
IsReadFault text NoMemory = Unit {0}
IsReadFault text _ = ⊥
