-- Moments and ids are ASCII.
use Rattle.std.proofs.Common.{◌≡◌, ℕ, ◌≤◌, ◌<◌, ◌+◌, ◌-◌, ◌^◌, ◌&&◌, ◌==◌, cond, Bool, true, false, List, [], ◌∷◌, ◌++◌, length, replicate, codes, decimal, IsAscii, nat_le, nat_lt, refl, sym, arith, lit<, true≢false}
use Rattle.leg_masks.specs.Interval.{most_legs}
use Rattle.std.specs.List.{list_all}
use Rattle.std.specs.Prelude.{zero, suc}
use Rattle.std.proofs.lemmas.Bool.Decides.{nat_tests}
use Rattle.std.proofs.lemmas.Fmt.{IsAscii-decimal}
use Rattle.std.proofs.lemmas.Str.{IsAscii-append}
use Rattle.std.proofs.lemmas.Str.Ascii.{IsAscii-nil, IsAscii-cons}
use Rattle.place_map.specs.declared.coach.Class.{Class}
use Rattle.place_map.specs.declared.coach.Class.TheVariants.{First, Second}
use Rattle.rail_time.proofs.Ascii.{IsAscii-moment_text}
use Rattle.train_runs.specs.declared.segment.Segment.{Segment}
use Rattle.offer_codes.specs.declared.code.RefundCode.{RefundCode}
use Rattle.offer_codes.specs.Marked.{marked}
use Rattle.offer_codes.specs.Offers.{OfferView, is_offer, is_segment, is_party, class_number, segments_marks, offer_marks}
use Rattle.offer_codes.specs.Refunds.{is_refund, phase_mark}
use Rattle.offer_codes.specs.Exchanges.{ExchangeView, is_exchange, magnitude, is_less, sign_mark}
use Rattle.osdm_parts.specs.Times.{time_text}
use Rattle.rail_ids.specs.declared.RowNo.{RowNo}
use Rattle.rail_ids.specs.Spelling.{generation_text, last_generation}
use Rattle.offer_codes.specs.Rows.{is_row, row_marks}
use Rattle.osdm_parts.specs.Ids.{HasId, booking_id, offer_id, refund_id, exchange_id}

pub IsAscii-time_text : (m : ℕ) → m ≤ 4_102_444_799 → IsAscii (time_text m)
unfolding time_text
IsAscii-time_text m h = IsAscii-moment_text m h

zeros : (n : ℕ) → IsAscii (replicate n 48)
zeros zero = IsAscii-nil
zeros (suc n) = IsAscii-cons 48 (replicate n 48) (lit< tt) (zeros n)

ascii_generation : (generation : ℕ) → generation ≤ last_generation → IsAscii (generation_text generation)
ascii_generation zero h = IsAscii-nil
ascii_generation (suc n) h = IsAscii-cons 45 (decimal (suc n)) (lit< tt) (IsAscii-decimal (suc n) (omega arith))

pub IsAscii-booking_id : (row : RowNo) → row.row < 2 ^ 32 → HasId row → IsAscii (booking_id row)
unfolding booking_id
IsAscii-booking_id row h id =
    let numbers = IsAscii-append (decimal row.row) (generation_text row.generation) (IsAscii-decimal row.row (omega arith)) (ascii_generation row.generation id) in
    IsAscii-cons 66 _ (lit< tt) (IsAscii-append (replicate (6 - length (decimal row.row)) 48) (decimal row.row ++ generation_text row.generation) (zeros _) numbers)

-- marks of ASCII before numbers of 64 bits
abbrev AreAscii : List (List ℕ × ℕ) → Type 0
AreAscii [] = Unit {0}
AreAscii (m ∷ ms) = (IsAscii m.0 × (m.1 < 2 ^ 64)) × AreAscii ms

IsAscii-marked : (ms : List (List ℕ × ℕ)) → AreAscii ms → IsAscii (marked ms)
IsAscii-marked [] h = IsAscii-nil
IsAscii-marked (m ∷ ms) h = IsAscii-append m.0 _ h.0.0 (IsAscii-append (decimal m.1) (marked ms) (IsAscii-decimal m.1 h.0.1) (IsAscii-marked ms h.1))

AreAscii-append : (ms ns : List (List ℕ × ℕ)) → AreAscii ms → AreAscii ns → AreAscii (ms ++ ns)
AreAscii-append [] ns h k = k
AreAscii-append (m ∷ ms) ns h k = (h.0, AreAscii-append ms ns h.1 k)

letter : (b : ℕ) → b < 128 → IsAscii (b ∷ [])
letter b h = IsAscii-cons b [] h IsAscii-nil

both : (a b : Bool) → (a && b) ≡ true → (a ≡ true) × (b ≡ true)
both true b h = (refl, h)
both false b h = absurd (true≢false (sym h))

at_most : (a b : ℕ) → nat_le a b ≡ true → a ≤ b
at_most a b h = grind (arith, nat_tests)

ascii_segments : (mark : List ℕ) (segments : List Segment) → IsAscii mark → list_all is_segment segments ≡ true → AreAscii (segments_marks mark segments)
ascii_segments mark [] h k = tt
ascii_segments mark (s ∷ rest) h k =
    let parts = both (is_segment s) (list_all is_segment rest) k in
    let run = both (nat_le s.run.0 4095) _ parts.0 in
    let span = both (nat_lt s.span.from s.span.to) (nat_le s.span.to most_legs) run.1 in
    let to : s.span.to ≤ 126 = at_most s.span.to most_legs span.1 in
    let from : s.span.from < s.span.to = grind (arith, nat_tests, span.0) in
    let number : s.run.0 ≤ 4095 = at_most s.run.0 4095 run.0 in
    ((h, omega arith), ((letter 46 (lit< tt), omega arith), ((letter 46 (lit< tt), omega arith), ascii_segments (codes "_") rest (letter 95 (lit< tt)) parts.1)))

small_class : (class : Class) → class_number class < 2 ^ 64
small_class First = lit< tt
small_class Second = lit< tt

ascii_offer : (mark : List ℕ) (o : OfferView) → IsAscii mark → is_offer o ≡ true → AreAscii (offer_marks mark o)
ascii_offer mark o h k =
    let made = both (nat_le o.made 4_102_444_799) _ k in
    let party = both (is_party o.adults o.children) _ made.1 in
    let wanted = both (nat_le o.wanted 31) _ party.1 in
    let some = both (nat_le 1 (length o.segments)) _ wanted.1 in
    let few = both (nat_le (length o.segments) 3) _ some.1 in
    let together : o.adults + o.children ≤ 8 = at_most (o.adults + o.children) 8 (both (nat_le 1 (o.adults + o.children)) _ party.0).1 in
    let m : o.made ≤ 4_102_444_799 = at_most o.made 4_102_444_799 made.0 in
    let w : o.wanted ≤ 31 = at_most o.wanted 31 wanted.0 in
    let dash : IsAscii (codes "-") = letter 45 (lit< tt) in
    ((h, omega arith), ((dash, omega arith), ((dash, omega arith), ((dash, small_class o.class), ((dash, omega arith), ascii_segments (codes "-") o.segments dash few.1)))))

pub IsAscii-offer_id : (o : OfferView) → is_offer o ≡ true → IsAscii (offer_id o)
unfolding offer_id
IsAscii-offer_id o h = IsAscii-marked (offer_marks (codes "O") o) (ascii_offer (codes "O") o (letter 79 (lit< tt)) h)

three : (a b c : ℕ) → a < 128 → b < 128 → c < 128 → IsAscii (a ∷ b ∷ c ∷ [])
three a b c p q r = IsAscii-cons a (b ∷ c ∷ []) p (IsAscii-cons b (c ∷ []) q (letter c r))

ascii_phase : (fulfilled : Bool) → IsAscii (phase_mark fulfilled)
ascii_phase true = three 45 70 45 (lit< tt) (lit< tt) (lit< tt)
ascii_phase false = three 45 67 45 (lit< tt) (lit< tt) (lit< tt)

abbrev again : Bool → ℕ → List (List ℕ × ℕ)
again t generation = cond t [] ((codes ".", generation) ∷ [])

ascii_row : (mark : List ℕ) (row : RowNo) → IsAscii mark → is_row row ≡ true → AreAscii (row_marks mark row)
ascii_row mark row h k = go (row.generation == 0)
  where
    numbers : (row.row ≤ 262_143) × (row.generation ≤ last_generation)
    numbers = let b = both (nat_le row.row 262_143) _ k in (at_most row.row 262_143 b.0, at_most row.generation last_generation b.1)

    go : (t : Bool) → AreAscii ((mark, row.row) ∷ again t row.generation)
    go true = let n = numbers.0 in ((h, omega arith), tt)
    go false = let n = numbers.0 in let g = numbers.1 in ((h, omega arith), ((letter 46 (lit< tt), omega arith), tt))

pub IsAscii-refund_id : (r : RefundCode) → is_refund r ≡ true → IsAscii (refund_id r)
unfolding refund_id
IsAscii-refund_id r h =
    let row = both (is_row r.row) _ h in
    let made = both (nat_le r.made 4_102_444_799) _ row.1 in
    let m : r.made ≤ 4_102_444_799 = at_most r.made 4_102_444_799 made.0 in
    let a : r.amount ≤ 99_999_999_999 = at_most r.amount 99_999_999_999 made.1 in
    let rest = (codes "-", r.made) ∷ (phase_mark r.fulfilled, r.amount) ∷ [] in
    IsAscii-marked (row_marks (codes "R") r.row ++ rest) (AreAscii-append (row_marks (codes "R") r.row) rest
    (ascii_row (codes "R") r.row (letter 82 (lit< tt)) row.0) ((letter 45 (lit< tt), omega arith), ((ascii_phase r.fulfilled, omega arith), tt)))

ascii_sign : (less : Bool) → IsAscii (sign_mark less)
ascii_sign true = letter 109 (lit< tt)
ascii_sign false = letter 112 (lit< tt)

pub IsAscii-exchange_id : (x : ExchangeView) → is_exchange x ≡ true → IsAscii (exchange_id x)
unfolding exchange_id
IsAscii-exchange_id x h =
    let row = both (is_row x.row) _ h in
    let made = both (nat_le x.made 4_102_444_799) _ row.1 in
    let difference = both (nat_le (magnitude x.difference) 99_999_999_999) (is_offer x.offer) made.1 in
    let m : x.made ≤ 4_102_444_799 = at_most x.made 4_102_444_799 made.0 in
    let d : magnitude x.difference ≤ 99_999_999_999 = at_most (magnitude x.difference) 99_999_999_999 difference.0 in
    let rest = (codes "-", x.made) ∷ (phase_mark x.fulfilled ++ sign_mark (is_less x.difference), magnitude x.difference) ∷ offer_marks (codes "-O") x.offer in
    IsAscii-marked (row_marks (codes "X") x.row ++ rest) (AreAscii-append (row_marks (codes "X") x.row) rest (ascii_row (codes "X") x.row (letter 88 (lit< tt)) row.0) (
      (letter 45 (lit< tt), omega arith),
      (
        (IsAscii-append (phase_mark x.fulfilled) (sign_mark (is_less x.difference)) (ascii_phase x.fulfilled) (ascii_sign (is_less x.difference)), omega arith),
        ascii_offer (codes "-O") x.offer (IsAscii-cons 45 (79 ∷ []) (lit< tt) (letter 79 (lit< tt))) difference.1,
      ),
    ))
