-- A row as a look at it shows it.
use Rattle.std.specs.Prelude.{◌≡◌, ◌≢◌, ◌<◌, ◌≤◌, ◌⊎◌, ◌+◌, ◌*◌, ℕ, suc, length, min, ℤ, pos, negsuc, ◌==◌, ◌/◌, ◌%◌, if◌then◌else◌, Bool, true, false, List, [], ◌∷◌, ◌++◌, Option, Some, None}
use Rattle.std.specs.List.{AllByRecursion}
use Rattle.leg_masks.specs.Interval.{PlacedSpan as Item, IsPiece, most_places, most_legs}
use Rattle.rail_ids.specs.declared.RowNo.{RowNo}
use Rattle.rail_ids.specs.Spelling.{last_generation}
use Rattle.history_model.specs.declared.entry.Step.{Step}
use Rattle.history_model.specs.declared.entry.Step.TheVariants.{SawRow}
use Rattle.history_model.specs.declared.phase.Phase.{Phase}
use Rattle.history_model.specs.declared.phase.Phase.TheVariants.{Free, Ended}
use Rattle.history_model.specs.declared.phase.EndKind.{EndKind}
use Rattle.history_model.specs.declared.phase.EndKind.TheVariants.{Release, Expire, Refund, Exchange}
use Rattle.history_model.specs.declared.booking.End.{End}
use Rattle.history_model.specs.Phase.{row_word_of, phase_shown, is_sealed}
use Rattle.history_model.specs.Booking.{amount_word, most_items, first_item_word, successor_rows, standing_word, retailer_word, limit_word, total_word, count_word, end_successor_word, end_amount_word, end_moment_word}
use Rattle.claim_rule.specs.Endings.{items_read}

-- a sealed row, as a look at it shows it
pub record RowSeen : Type 0 where
  pub phase : Phase
  pub retailer : ℕ
  pub limit : ℕ
  pub total : ℕ
  pub items : List Item
  pub ended : Option End

-- the look at word 0 that shows a booking this phase
abbrev pub saw_phase : RowNo → Phase → Step
saw_phase row phase = SawRow row.row standing_word (row_word_of phase row.generation)

-- how many looks at a booking there are besides those at its items: at word 0 first and last, and at words 1 to 7
abbrev pub other_looks : ℕ
other_looks = 9

-- the looks at the words 5 to 7
abbrev pub end_looks : ℕ → EndKind → End → List Step
end_looks row kind e =
    SawRow row end_successor_word e.successor ∷ SawRow row end_amount_word (amount_word kind e.amount)
    ∷ SawRow row end_moment_word e.moment ∷ []

abbrev pub saw_end : ℕ → Phase → Option End → List Step
saw_end row (Ended kind) (Some e) = end_looks row kind e
saw_end row phase e = []

-- the looks after the one at the phase: at retailer, limit and total, at the items, and at the end where the row is
-- ended
abbrev pub saw_words : ℕ → RowSeen → List Step
saw_words row v =
    SawRow row retailer_word v.retailer ∷ SawRow row limit_word v.limit ∷ SawRow row total_word v.total
    ∷ items_read row v.items ++ saw_end row v.phase v.ended

-- the looks that show a sealed booking: the last one is at word 0 again
abbrev pub saw_row : RowNo → RowSeen → ℕ → List Step
saw_row row v last = saw_phase row v.phase ∷ saw_words row.row v ++ SawRow row.row standing_word last ∷ []

-- The words that the looks at a sealed booking showed, before it is known whether its row was given away meanwhile.
-- They are retailer, limit, total, the number of items, those of the items, and the end's three where it showed an
-- ended phase
pub record RowWords : Type 0 where
  pub phase : Phase
  pub retailer : ℕ
  pub limit : ℕ
  pub total : ℕ
  pub count : ℕ
  pub items : List ℕ
  pub end : List ℕ

-- looks at words of a row in rising number, from one on
abbrev pub word_looks : ℕ → ℕ → List ℕ → List Step
word_looks row w [] = []
word_looks row w (n ∷ ns) = SawRow row w n ∷ word_looks row (suc w) ns

abbrev pub words_read : ℕ → RowWords → List Step
words_read row ws =
    SawRow row retailer_word ws.retailer ∷ SawRow row limit_word ws.limit ∷ SawRow row total_word ws.total
    ∷ SawRow row count_word ws.count
    ∷ word_looks row first_item_word ws.items ++ word_looks row end_successor_word ws.end

-- how many end words are read of a row that showed this phase
abbrev pub end_words : Phase → ℕ
end_words (Ended kind) = 3
end_words phase = 0

pub record AreRead (ws : RowWords) : Type 0 where
  pub sealed : is_sealed ws.phase ≡ true
  pub items : length ws.items ≡ min ws.count most_items
  pub end : length ws.end ≡ end_words ws.phase

abbrev pub has_end : Phase → Option End → Bool
has_end (Ended kind) (Some e) = true
has_end (Ended kind) None = false
has_end phase (Some e) = false
has_end phase None = true

-- the amount that an end's word says: a refund's as it stands, an exchange's difference by halves
abbrev pub said_amount : EndKind → ℕ → ℤ
said_amount Release n = pos 0
said_amount Expire n = pos 0
said_amount Refund n = pos n
said_amount Exchange n = if n % 2 == 0 then pos (n / 2) else negsuc (n / 2)

-- the end's amount is what its word says
abbrev pub SaysAmount : EndKind → End → Type 0
SaysAmount kind e = e.amount ≡ said_amount kind (amount_word kind e.amount)

abbrev pub HasSaidAmount : Phase → Option End → Type 0
HasSaidAmount (Ended kind) (Some e) = SaysAmount kind e
HasSaidAmount phase e = Unit {0}

-- the greatest word of a successor, of the last generation
abbrev pub last_successor : ℕ
last_successor = successor_rows * (last_generation + 1)

-- the end's successor, where it has one, is of a generation that a row may have
abbrev pub MaySucceed : Option End → Type 0
MaySucceed (Some e) = e.successor ≤ last_successor
MaySucceed None = Unit {0}

-- the item has a word, which is no other item's
abbrev pub HasWord : Item → Type 0
HasWord i = (i.place < most_places) × (i.span.from < i.span.to) × (i.span.to ≤ most_legs) × IsPiece i.span

-- a view of a sealed row. Its end stands exactly where the row is ended, with the amount that its word says, and a
-- successor that may be
pub record IsSeen (v : RowSeen) : Type 0 where
  pub sealed : is_sealed v.phase ≡ true
  pub ended : has_end v.phase v.ended ≡ true
  pub amount : HasSaidAmount v.phase v.ended
  pub successor : MaySucceed v.ended
  pub items : AllByRecursion HasWord v.items

-- The looks that show no booking: word 0 alone, which shows Free or Making; or those of a sealed one, of which the last
-- shows that its row was given away meanwhile. The words between may then be anything
abbrev pub LooksNone : RowNo → List Step → Type 0
LooksNone row es =
    ((n : ℕ) × (is_sealed (phase_shown row.generation n) ≡ false) × (es ≡ SawRow row.row standing_word n ∷ []))
    ⊎ ((ws : RowWords) × (last : ℕ) × AreRead ws × (phase_shown row.generation last ≡ Free)
    × (es ≡ saw_phase row ws.phase ∷ words_read row.row ws ++ SawRow row.row standing_word last ∷ []))

-- what a look at the row answers, with its steps
abbrev pub LooksRow : RowNo → Option RowSeen → List Step → Type 0
LooksRow row None es = LooksNone row es
LooksRow row (Some v) es =
    IsSeen v × ((last : ℕ) × (phase_shown row.generation last ≢ Free) × (es ≡ saw_row row v last))
