-- What the numbers of a text are the numbers of, if of anything.
use Rattle.std.specs.Prelude.{ℕ, ℤ, pos, neg_ℤ, true, false, ◌==◌, ◌||◌, ◌%◌, nat_lt, nat_eq, Bool, List, [], ◌∷◌, length, if◌then◌else◌, Option, Some, None, option_map, option_and_then, slice_index, drop}
use Rattle.std.specs.List.{list_any}
use Rattle.place_map.specs.declared.coach.Class.{Class}
use Rattle.place_map.specs.declared.coach.Class.TheVariants.{First, Second}
use Rattle.rail_ids.specs.declared.RowNo.{RowNo}
use Rattle.offer_codes.specs.Rows.{is_row}
use Rattle.offer_codes.specs.Offers.{OfferView, is_segment, is_offer}
use Rattle.offer_codes.specs.Refunds.{is_refund}
use Rattle.offer_codes.specs.Exchanges.{ExchangeView, is_exchange}
use Rattle.train_runs.specs.declared.segment.Segment.{Segment}
use Rattle.offer_codes.specs.declared.code.RefundCode.{RefundCode}

abbrev pub class_from : ℕ → Option Class
class_from number = if nat_eq number 1 then Some First else (if nat_eq number 2 then Some Second else None)

abbrev pub segment_value : ℕ → ℕ → ℕ → Option Segment
segment_value run from to =
    let s : Segment = record { run = record { 0 = run }; span = record { from = from; to = to } } in
    if is_segment s then Some s else None

abbrev pub segment_then : ℕ → ℕ → ℕ → Option (List Segment) → Option (List Segment)
segment_then run from to rest = option_and_then (λ s. option_map (λ more. s ∷ more) rest) (segment_value run from to)

abbrev pub segments_from : List ℕ → Option (List Segment)
segments_from [] = Some []
segments_from (run ∷ []) = None
segments_from (run ∷ from ∷ []) = None
segments_from (run ∷ from ∷ to ∷ rest) = segment_then run from to (segments_from rest)

abbrev pub in_range : OfferView → Option OfferView
in_range o = if is_offer o then Some o else None

abbrev pub with_parts : List ℕ → Class → List Segment → Option OfferView
with_parts ns class segments = in_range (record {
  made = slice_index ns 0;
  adults = slice_index ns 1;
  children = slice_index ns 2;
  class = class;
  wanted = slice_index ns 4;
  segments = segments;
})

-- the offer of its numbers
abbrev pub offer_from : List ℕ → Option OfferView
offer_from ns =
    if nat_lt (length ns) 5 || nat_lt 14 (length ns) then None
    else option_and_then (λ class. option_and_then (with_parts ns class) (segments_from (drop 5 ns)))
    (class_from (slice_index ns 3))

-- the byte stands in the text
abbrev pub has : ℕ → List ℕ → Bool
has letter text = list_any (λ b. b == letter) text

abbrev pub row_value : ℕ → ℕ → Option RowNo
row_value row generation =
    let r : RowNo = record { row = row; generation = generation } in if is_row r then Some r else None

abbrev pub refund_at : RowNo → ℕ → ℕ → Bool → Option RefundCode
refund_at row made amount fulfilled =
    let r : RefundCode = record { row = row; made = made; fulfilled = fulfilled; amount = amount } in
    if is_refund r then Some r else None

-- the refund offer of its numbers: three, or four with the generation
abbrev pub refund_from : Bool → List ℕ → Option RefundCode
refund_from fulfilled (row ∷ made ∷ amount ∷ []) =
    option_and_then (λ r. refund_at r made amount fulfilled) (row_value row 0)
refund_from fulfilled (row ∷ generation ∷ made ∷ amount ∷ []) =
    option_and_then (λ r. refund_at r made amount fulfilled) (row_value row generation)
refund_from fulfilled _ = None

abbrev pub signed : Bool → ℕ → ℤ
signed false n = pos n
signed true n = neg_ℤ (pos n)

abbrev pub exchange_at : RowNo → ℕ → Bool → ℤ → OfferView → Option ExchangeView
exchange_at row made fulfilled difference offer =
    let x : ExchangeView = record {
      row = row;
      made = made;
      fulfilled = fulfilled;
      difference = difference;
      offer = offer;
    } in if is_exchange x then Some x else None

-- the exchange offer for a row, of the numbers after it
abbrev pub exchange_behind : Bool → Bool → List ℕ → RowNo → Option ExchangeView
exchange_behind fulfilled less (made ∷ amount ∷ rest) row =
    option_and_then (exchange_at row made fulfilled (signed less amount)) (offer_from rest)
exchange_behind fulfilled less _ row = None

abbrev pub exchange_again : Bool → Bool → ℕ → List ℕ → Option ExchangeView
exchange_again fulfilled less row (generation ∷ rest) =
    option_and_then (exchange_behind fulfilled less rest) (row_value row generation)
exchange_again fulfilled less row [] = None

-- the exchange offer of its numbers: after the row are seven and three for each segment, and the generation where it
-- stands there
abbrev pub exchange_from : Bool → Bool → List ℕ → Option ExchangeView
exchange_from fulfilled less (row ∷ ns) =
    if length ns % 3 == 2 then exchange_again fulfilled less row ns
    else option_and_then (exchange_behind fulfilled less ns) (row_value row 0)
exchange_from fulfilled less [] = None
