-- The text of an export, as a list of lines.
use Rattle.std.specs.Prelude.{◌≡◌, ℕ, ◌+◌, ◌-◌, ◌/◌, ◌%◌, ◌^◌, ◌<◌, ◌==◌, ℤ, pos, negsuc, nat_abs, List, [], ◌∷◌, ◌++◌, map, length, decimal, codes, flat_map, Option, Some, None, IfSome, if◌then◌else◌, ◌≢◌}
use Rattle.std.specs.List.{AllByRecursion}
use Rattle.leg_masks.specs.Interval.{PlacedSpan as Item}
use Rattle.history_model.specs.declared.phase.Phase.{Phase}
use Rattle.history_model.specs.declared.phase.Phase.TheVariants.{Prebooked, Confirmed, Fulfilled, Ended}
use Rattle.history_model.specs.declared.phase.EndKind.TheVariants.{Release, Expire, Refund, Exchange}
use Rattle.history_model.specs.Booking.{successor_rows}
use Rattle.history_model.specs.Lists.{Pairwise}
use Rattle.line_text.specs.declared.heads.SaidItem.{SaidItem}
use Rattle.line_text.specs.declared.ends.SaidEnd.{SaidEnd}
use Rattle.line_text.specs.declared.ends.SaidRow.{SaidRow}

-- what a line says of a booking. It says an end of an ended one alone
pub record SaidBooking : Type 0 where
  pub row : ℕ
  pub generation : ℕ
  pub phase : Phase
  pub retailer : ℕ
  pub limit : ℕ
  pub total : ℕ
  pub items : List SaidItem
  pub end : SaidEnd

-- a field after the one before
abbrev pub field : List ℕ → List ℕ
field text = 32 ∷ text

abbrev pub number_field : ℕ → List ℕ
number_field n = field (decimal n)

-- the letter of a phase: capital where the booking lives, small where it has ended. No other phase has one
abbrev pub phase_text : Phase → List ℕ
phase_text Prebooked = codes "P"
phase_text Confirmed = codes "C"
phase_text Fulfilled = codes "F"
phase_text (Ended Release) = codes "r"
phase_text (Ended Expire) = codes "e"
phase_text (Ended Refund) = codes "f"
phase_text (Ended Exchange) = codes "x"
phase_text _ = []

abbrev pub item_text : SaidItem → List ℕ
item_text i = decimal i.place ++ (codes "." ++ (decimal i.from ++ (codes "." ++ decimal i.to)))

abbrev pub amount_text : ℤ → List ℕ
amount_text (pos n) = codes "p" ++ decimal n
amount_text (negsuc n) = codes "m" ++ decimal (n + 1)

abbrev pub successor_text : Option SaidRow → List ℕ
successor_text None = codes "-"
successor_text (Some s) = decimal s.row ++ (codes "." ++ decimal s.generation)

abbrev pub amount_field : ℤ → List ℕ
amount_field amount = field (amount_text amount)

abbrev pub successor_field : Option SaidRow → List ℕ
successor_field successor = field (successor_text successor)

abbrev pub end_fields : Phase → SaidEnd → List ℕ
end_fields (Ended kind) end = amount_field end.amount ++ (number_field end.moment ++ successor_field end.successor)
end_fields _ end = []

abbrev pub phase_field : Phase → List ℕ
phase_field phase = field (phase_text phase)

abbrev pub item_field : SaidItem → List ℕ
item_field i = field (item_text i)

abbrev pub items_fields : List SaidItem → List ℕ
items_fields items = flat_map item_field items

-- the first four fields
abbrev pub head_text : ℕ → ℕ → Phase → List ℕ
head_text row generation phase =
    codes "row" ++ (number_field row ++ (number_field generation ++ phase_field phase))

abbrev pub booking_line : SaidBooking → List ℕ
booking_line b =
    head_text b.row b.generation b.phase ++ (number_field b.retailer ++ (number_field b.limit ++ (number_field b.total
    ++ (number_field (length b.items) ++ (items_fields b.items ++ end_fields b.phase b.end)))))

abbrev pub first_line : ℕ → ℕ → List ℕ
first_line places rows = codes "rail-export 1" ++ (number_field places ++ number_field rows)

abbrev pub last_line : ℕ → List ℕ
last_line count = codes "end" ++ number_field count

abbrev pub export_lines : ℕ → ℕ → List SaidBooking → List (List ℕ)
export_lines places rows said =
    first_line places rows ∷ (map booking_line said ++ last_line (length said) ∷ [])

-- each line ends with a line feed
abbrev pub text_of : List (List ℕ) → List ℕ
text_of lines = flat_map (λ line. line ++ 10 ∷ []) lines

abbrev pub export_text_of : ℕ → ℕ → List SaidBooking → List ℕ
export_text_of places rows said = text_of (export_lines places rows said)

-- the line has no line feed
abbrev pub IsLine : List ℕ → Type 0
IsLine line = AllByRecursion (λ c. c ≢ 10) line

-- the numbers that a text may have
abbrev pub IsNumber : ℕ → Type 0
IsNumber n = n < 2 ^ 64

abbrev pub AreItemNumbers : SaidItem → Type 0
AreItemNumbers i = IsNumber i.place × IsNumber i.from × IsNumber i.to

abbrev pub AreRowNumbers : SaidRow → Type 0
AreRowNumbers s = IsNumber s.row × IsNumber s.generation

abbrev pub IsAmountNumber : ℤ → Type 0
IsAmountNumber amount = IsNumber (nat_abs amount)

abbrev pub AreSuccessorNumbers : Option SaidRow → Type 0
AreSuccessorNumbers successor = IfSome successor AreRowNumbers

-- what a line doesn't say is nothing
abbrev pub nothing : SaidEnd
nothing = record { amount = pos 0; moment = 0; successor = None }

abbrev pub IsEndSaid : Phase → SaidEnd → Type 0
IsEndSaid (Ended kind) end = IsAmountNumber end.amount × IsNumber end.moment × AreSuccessorNumbers end.successor
IsEndSaid _ end = end ≡ nothing

abbrev pub HasLetter : Phase → Type 0
HasLetter phase = phase_text phase ≢ []

-- a booking that a line can say
pub record IsSayable (b : SaidBooking) : Type 0 where
  pub row : IsNumber b.row
  pub generation : IsNumber b.generation
  pub phase : HasLetter b.phase
  pub retailer : IsNumber b.retailer
  pub limit : IsNumber b.limit
  pub total : IsNumber b.total
  pub count : IsNumber (length b.items)
  pub items : AllByRecursion AreItemNumbers b.items
  pub end : IsEndSaid b.phase b.end

-- the text is an export of that many places and rows with these bookings, in rising row
pub record IsExportOf (text : List ℕ) (places rows : ℕ) (said : List SaidBooking) : Type 0 where
  pub sizes : IsNumber places × IsNumber rows
  pub each : AllByRecursion IsSayable said
  pub rising : Pairwise (λ (a b : SaidBooking). a.row < b.row) said
  pub count : IsNumber (length said)
  pub is : text ≡ export_text_of places rows said

-- what the line of a kept booking says of an item, and of the word of a successor
abbrev pub said_item : Item → SaidItem
said_item i = record { place = i.place; from = i.span.from; to = i.span.to }

abbrev pub said_successor : ℕ → Option SaidRow
said_successor word =
    if word == 0 then None
    else Some (record { row = (word - 1) % successor_rows; generation = (word - 1) / successor_rows })
