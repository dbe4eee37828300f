-- What `settle` does.
use Rattle.std.specs.Prelude.{◌≡◌, ℕ, List, [], ◌++◌, Option, Some}
use Rattle.rail_io.specs.Told.{with_end}
use Rattle.history_model.specs.Booking.{Layout}
use Rattle.history_model.specs.Words.{AreWordsOf}
use Rattle.claim_rule.specs.Openings.{KeptBooking, layout_with}
use Rattle.claim_rule.specs.Walls.{WallView}
use Rattle.settle_report.specs.Accounts.{kept_on}
use Rattle.settle_report.specs.Table.{IsSettlement}
use Rattle.catalogue_contents.specs.Contents.{CatalogueView, legs_in}
use Rattle.host_words.specs.Settle.{IsSettle}
use Rattle.host_catalogue.specs.Files.{Files, HasCause}
use Rattle.host_catalogue.specs.Opening.{Fails, HasBooks, IsRefusedFile, LacksBooks}
use Rattle.host_catalogue.specs.Ends.{status_of}
use Rattle.host_catalogue.specs.declared.ending.CommandEnd.{CommandEnd}
use Rattle.host_catalogue.specs.declared.ending.CommandEnd.TheVariants as ended
use Rattle.host_replay.specs.declared.settle_end.SettleEnd.{SettleEnd}
use Rattle.host_replay.specs.declared.settle_end.SettleEnd.TheVariants as end

-- the command's end
abbrev pub end_of_settle : SettleEnd → CommandEnd
end_of_settle end.Written = ended.Done
end_of_settle (end.NotLoaded fault) = ended.NotLoaded fault
end_of_settle end.WriteFault = ended.WriteFault
end_of_settle end.NoMemory = ended.NoMemory

-- its status
abbrev pub status_of_settle : SettleEnd → ℕ
status_of_settle e = status_of (end_of_settle e)

-- the closed wall of books with this layout, at whose table nothing was done
pub record IsUnused (g : Layout) (w : WallView) : Type 0 where
  pub layout : w.layout ≡ g
  pub history : w.history ≡ []
  pub words : AreWordsOf g g.opening w.words

-- the text is the settlement table of such a wall
abbrev pub IsTableOf : Layout → List ℕ → Type 0
IsTableOf g text = (wall : WallView) × IsUnused g wall × IsSettlement wall text

-- The text is the settlement table of the closed wall of books that have the places and rows of the one file's
-- catalogue and open with the bookings of the other's export. Nothing was done at their table, so the bookings settled
-- are just those.
pub record IsFetchedTable (files : Files) (catalogue export text : List ℕ) : Type 0 where
  pub cat : CatalogueView
  pub kept : List KeptBooking
  pub books : HasBooks files catalogue (Some export) cat kept
  pub wall : WallView
  pub unused : IsUnused (layout_with (legs_in cat) cat.rows kept) wall
  pub bookings : kept_on wall ≡ kept
  pub is : IsSettlement wall text

-- What the words ask for ended so. Nothing is written but the text.
abbrev pub RanSettle : Files → List ℕ → List ℕ → Option (List ℕ) → Option (List ℕ) → SettleEnd → Type 0
RanSettle files catalogue export output sent end.Written =
    (text : List ℕ) × IsFetchedTable files catalogue export text × (sent ≡ with_end output text)
RanSettle files catalogue export output sent end.WriteFault =
    (front back : List ℕ) × IsFetchedTable files catalogue export (front ++ back) × (sent ≡ with_end output front)
RanSettle files catalogue export output sent (end.NotLoaded fault) =
    Fails files catalogue (Some export) fault × (sent ≡ output)
RanSettle files catalogue export output sent end.NoMemory = sent ≡ output

-- what is so of the names that the words of `settle` say
pub record IsOfWords (words : List (List ℕ)) (P : List ℕ → List ℕ → Type 0) : Type 0 where
  pub catalogue : List ℕ
  pub export : List ℕ
  pub said : IsSettle words catalogue export
  pub is : P catalogue export

-- `settle` ran so
abbrev pub Settles : List (List ℕ) → Files → Option (List ℕ) → Option (List ℕ) → SettleEnd → Type 0
Settles words files output sent e = IsOfWords words (λ catalogue export. RanSettle files catalogue export output sent e)

-- the text is the settlement table for the files that the words name
abbrev pub IsTableFor : List (List ℕ) → Files → List ℕ → Type 0
IsTableFor words files text = IsOfWords words (λ catalogue export. IsFetchedTable files catalogue export text)

-- Where the shelf gave no books, its counts show why; and where it didn't fail, its count of faults is as it was.
abbrev pub HasSettleCause : SettleEnd → ℕ → ℕ → ℕ → ℕ → Type 0
HasSettleCause (end.NotLoaded fault) failed fails missed misses = HasCause fault failed fails missed misses
HasSettleCause e failed fails missed misses = fails ≡ failed

-- the shelf, where it tells its files, has no books for the words
abbrev pub HasNoneToSettle : List (List ℕ) → Files → Type 0
HasNoneToSettle words files = IsOfWords words (λ catalogue export. LacksBooks files catalogue (Some export))

-- a text of one of the files was refused
abbrev pub IsOfRefusedFile : List (List ℕ) → Files → Type 0
IsOfRefusedFile words files = IsOfWords words (λ catalogue export. IsRefusedFile files catalogue (Some export))
