-- Refund and exchange offers are found from the numbers and the letters of their texts.
use Rattle.std.proofs.Common.{◌≡◌, ℕ, ℤ, pos, negsuc, ◌<◌, ◌≤◌, ◌^◌, ◌+◌, ◌*◌, ◌%◌, ◌==◌, cond, List, [], ◌∷◌, ◌++◌, length, Option, Some, None, Bool, true, false, ◌||◌, map, refl, ap, ◌∙◌, arith, codes, nat_le}
use Rattle.std.specs.List.{list_any}
use Rattle.std.proofs.lemmas.Bool.{eqb-true}
use Rattle.std.proofs.lemmas.Bool.Decides.{nat_tests}
use Rattle.offer_codes.specs.Marked.{numbers_in}
use Rattle.offer_codes.specs.Offers.{is_offer, offer_marks}
use Rattle.rail_ids.specs.declared.RowNo.{RowNo}
use Rattle.offer_codes.specs.Rows.{is_row, row_marks}
use Rattle.offer_codes.specs.Refunds.{is_refund, refund_text, phase_mark}
use Rattle.offer_codes.specs.Exchanges.{ExchangeView, is_exchange, exchange_text, sign_mark, magnitude, is_less}
use Rattle.offer_codes.specs.Found.{refund_from, refund_at, row_value, exchange_from, exchange_behind, signed, has}
use Rattle.offer_codes.specs.declared.code.RefundCode.{RefundCode}
use Rattle.offer_codes.proofs.Runs.{IsMark, AreMarks, numbers_in-marked}
use Rattle.offer_codes.proofs.Letters.{has-marked, none_in_offer}
use Rattle.offer_codes.proofs.Complete.{both, are_offer_marks, offer_from-marks, length_offer_marks, count_offer_marks}

-- rows

row_small : (row : RowNo) → is_row row ≡ true → row.row < 2 ^ 64
row_small row h = grind (arith, nat_tests, (both (nat_le row.row 262_143) _ h).0)

generation_small : (row : RowNo) → is_row row ≡ true → row.generation < 2 ^ 64
generation_small row h = grind (arith, nat_tests, (both (nat_le row.row 262_143) _ h).1)

abbrev again : Bool → ℕ → List (List ℕ × ℕ)
again t generation = cond t [] ((codes ".", generation) ∷ [])

are_row_marks : (mark : List ℕ) (row : RowNo) (rest : List (List ℕ × ℕ)) → IsMark mark → is_row row ≡ true → AreMarks rest → AreMarks (row_marks mark row ++ rest)
are_row_marks mark row rest m h k = go (row.generation == 0)
  where
    go : (t : Bool) → AreMarks (((mark, row.row) ∷ again t row.generation) ++ rest)
    go true = ((m, row_small row h), k)
    go false = ((m, row_small row h), (((refl, tt), generation_small row h), k))

row_numbers : (mark : List ℕ) (row : RowNo) (rest : List (List ℕ × ℕ)) → map (λ m. m.1) (row_marks mark row ++ rest) ≡ row.row ∷ (cond (row.generation == 0) [] (row.generation ∷ []) ++ map (λ m. m.1) rest)
row_numbers mark row rest = go (row.generation == 0)
  where
    go : (t : Bool) → map (λ m. m.1) (((mark, row.row) ∷ again t row.generation) ++ rest) ≡ row.row ∷ (cond t [] (row.generation ∷ []) ++ map (λ m. m.1) rest)
    go true = refl
    go false = refl

row_letters : (letter : ℕ) (mark : List ℕ) (row : RowNo) (rest : List (List ℕ × ℕ)) → has letter mark ≡ false → has letter (codes ".") ≡ false → list_any (λ m. has letter m.0) (row_marks mark row ++ rest) ≡ list_any (λ m. has letter m.0) rest
row_letters letter mark row rest m d = go (row.generation == 0)
  where
    go : (t : Bool) → list_any (λ m. has letter m.0) (((mark, row.row) ∷ again t row.generation) ++ rest) ≡ list_any (λ m. has letter m.0) rest
    go true = rw m refl
    go false = rw (m, d) refl

row_there : (row : RowNo) (generation : ℕ) → row.generation ≡ generation → is_row row ≡ true → row_value row.row generation ≡ Some row
row_there row generation same h = rw (← same, h) refl

-- refund offers

abbrev refund_rest : RefundCode → List (List ℕ × ℕ)
refund_rest r = (codes "-", r.made) ∷ (phase_mark r.fulfilled, r.amount) ∷ []

is_phase_mark : (fulfilled : Bool) → IsMark (phase_mark fulfilled)
is_phase_mark true = (refl, ((refl, (refl, tt))))
is_phase_mark false = (refl, ((refl, (refl, tt))))

are_refund_marks : (r : RefundCode) → is_refund r ≡ true → AreMarks (row_marks (codes "R") r.row ++ refund_rest r)
are_refund_marks r h =
    let a = both (is_row r.row) _ h in
    let b = both (nat_le r.made 4_102_444_799) _ a.1 in
    let made : r.made < 2 ^ 64 = grind (arith, nat_tests, b.0) in
    let amount : r.amount < 2 ^ 64 = grind (arith, nat_tests, b.1) in
    are_row_marks (codes "R") r.row (refund_rest r) (refl, tt) a.0 (((refl, tt), made), ((is_phase_mark r.fulfilled, amount), tt))

numbers_in-refund_text : (r : RefundCode) → is_refund r ≡ true → numbers_in None (refund_text r) ≡ r.row.row ∷ (cond (r.row.generation == 0) [] (r.row.generation ∷ []) ++ r.made ∷ r.amount ∷ [])
numbers_in-refund_text r h = numbers_in-marked (row_marks (codes "R") r.row ++ refund_rest r) (are_refund_marks r h) ∙ row_numbers (codes "R") r.row (refund_rest r)

refund_back : (row : RowNo) (made amount : ℕ) (fulfilled t : Bool) → (row.generation == 0) ≡ t → is_row row ≡ true
    → refund_from fulfilled (row.row ∷ (cond t [] (row.generation ∷ []) ++ made ∷ amount ∷ [])) ≡ refund_at row made amount fulfilled
refund_back row made amount fulfilled true e h = rw (row_there row 0 (eqb-true row.generation 0 e) h) refl
refund_back row made amount fulfilled false e h = rw (row_there row row.generation refl h) refl

pub phase_letter : (fulfilled : Bool) → has 70 (phase_mark fulfilled) ≡ fulfilled
phase_letter true = refl
phase_letter false = refl

letter_of-refund_text : (r : RefundCode) → is_refund r ≡ true → has 70 (refund_text r) ≡ r.fulfilled
letter_of-refund_text r h = has-marked 70 (row_marks (codes "R") r.row ++ refund_rest r) (omega arith) (are_refund_marks r h) ∙ row_letters 70 (codes "R") r.row (refund_rest r) refl refl ∙ rw (phase_letter r.fulfilled) (or_false r.fulfilled)
  where
    or_false : (b : Bool) → (b || false) ≡ b
    or_false true = refl
    or_false false = refl

pub refund_found : (text ns : List ℕ) (fulfilled : Bool) (found : Option RefundCode) → ns ≡ numbers_in None text → fulfilled ≡ has 70 text → found ≡ refund_from fulfilled ns
    → (r : RefundCode) → is_refund r ≡ true → text ≡ refund_text r → found ≡ Some r
refund_found text ns fulfilled found are letter from r h is =
    let numbers = are ∙ ap (numbers_in None) is ∙ numbers_in-refund_text r h in
    let phase : fulfilled ≡ r.fulfilled = letter ∙ ap (has 70) is ∙ letter_of-refund_text r h in
    let back = refund_back r.row r.made r.amount r.fulfilled (r.row.generation == 0) refl (both (is_row r.row) _ h).0 in
    from ∙ rw (numbers, phase, back, h) refl

few_numbers : (row made amount generation : ℕ) (t : Bool) → length (row ∷ (cond t [] (generation ∷ []) ++ made ∷ amount ∷ [])) ≤ 4
few_numbers row made amount generation true = omega arith
few_numbers row made amount generation false = omega arith

pub few_in_refund : (text : List ℕ) → 18 < length (numbers_in None text) → (r : RefundCode) → is_refund r ≡ true → text ≡ refund_text r → ⊥
few_in_refund text many r h is =
    let few : length (numbers_in None text) ≤ 4 = rw (is, numbers_in-refund_text r h) (few_numbers r.row.row r.made r.amount r.row.generation (r.row.generation == 0)) in
    omega arith

-- exchange offers

abbrev exchange_rest : ExchangeView → List (List ℕ × ℕ)
exchange_rest x = (codes "-", x.made)
    ∷ (phase_mark x.fulfilled ++ sign_mark (is_less x.difference), magnitude x.difference) ∷ offer_marks (codes "-O") x.offer

record Parts (x : ExchangeView) : Type 0 where
  row : is_row x.row ≡ true
  made : x.made < 2 ^ 64
  amount : magnitude x.difference < 2 ^ 64
  offer : is_offer x.offer ≡ true

parts_of : (x : ExchangeView) → is_exchange x ≡ true → Parts x
parts_of x h =
    let a = both (is_row x.row) _ h in
    let b = both (nat_le x.made 4_102_444_799) _ a.1 in
    let c = both (nat_le (magnitude x.difference) 99_999_999_999) _ b.1 in
    record {
      row = a.0;
      made = grind (arith, nat_tests, b.0);
      amount = grind (arith, nat_tests, c.0);
      offer = c.1;
    }

is_quote_mark : (fulfilled less : Bool) → IsMark (phase_mark fulfilled ++ sign_mark less)
is_quote_mark true true = (refl, (refl, (refl, (refl, tt))))
is_quote_mark true false = (refl, (refl, (refl, (refl, tt))))
is_quote_mark false true = (refl, (refl, (refl, (refl, tt))))
is_quote_mark false false = (refl, (refl, (refl, (refl, tt))))

are_exchange_marks : (x : ExchangeView) → is_exchange x ≡ true → AreMarks (row_marks (codes "X") x.row ++ exchange_rest x)
are_exchange_marks x h =
    let p = parts_of x h in
    are_row_marks (codes "X") x.row (exchange_rest x) (refl, tt) p.row
    (((refl, tt), p.made), ((is_quote_mark x.fulfilled (is_less x.difference), p.amount), are_offer_marks (codes "-O") x.offer (refl, (refl, tt)) p.offer))

abbrev offer_numbers : ExchangeView → List ℕ
offer_numbers x = map (λ m. m.1) (offer_marks (codes "-O") x.offer)

numbers_in-exchange_text : (x : ExchangeView) → is_exchange x ≡ true → numbers_in None (exchange_text x) ≡ x.row.row ∷ (cond (x.row.generation == 0) [] (x.row.generation ∷ []) ++ x.made ∷ magnitude x.difference ∷ offer_numbers x)
numbers_in-exchange_text x h = numbers_in-marked (row_marks (codes "X") x.row ++ exchange_rest x) (are_exchange_marks x h) ∙ row_numbers (codes "X") x.row (exchange_rest x)

exchange_back : (row : RowNo) (made amount n : ℕ) (rest : List ℕ) (fulfilled less t : Bool) → (row.generation == 0) ≡ t → is_row row ≡ true → length rest ≡ 5 + 3 * n
    → exchange_from fulfilled less (row.row ∷ (cond t [] (row.generation ∷ []) ++ made ∷ amount ∷ rest)) ≡ exchange_behind fulfilled less (made ∷ amount ∷ rest) row
exchange_back row made amount n rest fulfilled less true e h long =
    let odd : (length (made ∷ amount ∷ rest) % 3 == 2) ≡ false = no_more (length (made ∷ amount ∷ rest)) n (omega (arith, long)) in
    rw (odd, row_there row 0 (eqb-true row.generation 0 e) h) refl
  where
    no_more : (l n : ℕ) → l ≡ 7 + 3 * n → (l % 3 == 2) ≡ false
    no_more l n e = grind (arith, nat_tests)
exchange_back row made amount n rest fulfilled less false e h long =
    let more : (length (row.generation ∷ made ∷ amount ∷ rest) % 3 == 2) ≡ true = one_more (length (row.generation ∷ made ∷ amount ∷ rest)) n (omega (arith, long)) in
    rw (more, row_there row row.generation refl h) refl
  where
    one_more : (l n : ℕ) → l ≡ 8 + 3 * n → (l % 3 == 2) ≡ true
    one_more l n e = grind (arith, nat_tests)

quote_letter : (fulfilled less : Bool) → (has 70 (phase_mark fulfilled ++ sign_mark less) ≡ fulfilled) × (has 109 (phase_mark fulfilled ++ sign_mark less) ≡ less)
quote_letter true true = (refl, refl)
quote_letter true false = (refl, refl)
quote_letter false true = (refl, refl)
quote_letter false false = (refl, refl)

or_none : (b c : Bool) → c ≡ false → (b || c) ≡ b
or_none true c e = refl
or_none false c e = e

phase_of-exchange_text : (x : ExchangeView) → is_exchange x ≡ true → has 70 (exchange_text x) ≡ x.fulfilled
phase_of-exchange_text x h = has-marked 70 (row_marks (codes "X") x.row ++ exchange_rest x) (omega arith) (are_exchange_marks x h) ∙ row_letters 70 (codes "X") x.row (exchange_rest x) refl refl
    ∙ rw ((quote_letter x.fulfilled (is_less x.difference)).0) (or_none x.fulfilled _ (none_in_offer 70 (codes "-O") x.offer (refl, refl, refl, refl)))

sign_of-exchange_text : (x : ExchangeView) → is_exchange x ≡ true → has 109 (exchange_text x) ≡ is_less x.difference
sign_of-exchange_text x h = has-marked 109 (row_marks (codes "X") x.row ++ exchange_rest x) (omega arith) (are_exchange_marks x h) ∙ row_letters 109 (codes "X") x.row (exchange_rest x) refl refl
    ∙ rw ((quote_letter x.fulfilled (is_less x.difference)).1) (or_none (is_less x.difference) _ (none_in_offer 109 (codes "-O") x.offer (refl, refl, refl, refl)))

pub signed_back : (d : ℤ) → signed (is_less d) (magnitude d) ≡ d
signed_back (pos n) = refl
signed_back (negsuc n) = refl

pub exchange_found : (text ns : List ℕ) (fulfilled less : Bool) (found : Option ExchangeView) → ns ≡ numbers_in None text → fulfilled ≡ has 70 text → less ≡ has 109 text
    → found ≡ exchange_from fulfilled less ns → (x : ExchangeView) → is_exchange x ≡ true → text ≡ exchange_text x → found ≡ Some x
exchange_found text ns fulfilled less found are letter sign from x h is =
    let numbers = are ∙ ap (numbers_in None) is ∙ numbers_in-exchange_text x h in
    let phase : fulfilled ≡ x.fulfilled = letter ∙ ap (has 70) is ∙ phase_of-exchange_text x h in
    let way : less ≡ is_less x.difference = sign ∙ ap (has 109) is ∙ sign_of-exchange_text x h in
    let offer = offer_from-marks (codes "-O") x.offer (parts_of x h).offer in
    let back = exchange_back x.row x.made (magnitude x.difference) (length x.offer.segments) (offer_numbers x) x.fulfilled (is_less x.difference) (x.row.generation == 0) refl (parts_of x h).row (count_offer_marks (codes "-O") x.offer) in
    from ∙ rw (numbers, phase, way, back, offer, signed_back x.difference, h) refl

few_more : (row generation made amount : ℕ) (rest : List ℕ) (t : Bool) → length rest ≤ 14 → length (row ∷ (cond t [] (generation ∷ []) ++ made ∷ amount ∷ rest)) ≤ 18
few_more row generation made amount rest true h = omega arith
few_more row generation made amount rest false h = omega arith

pub few_in_exchange : (text : List ℕ) → 18 < length (numbers_in None text) → (x : ExchangeView) → is_exchange x ≡ true → text ≡ exchange_text x → ⊥
few_in_exchange text many x h is =
    let offer = length_offer_marks (codes "-O") x.offer (parts_of x h).offer in
    let few : length (numbers_in None text) ≤ 18 = rw (is, numbers_in-exchange_text x h) (few_more x.row.row x.row.generation x.made (magnitude x.difference) (offer_numbers x) (x.row.generation == 0) offer) in
    omega arith
