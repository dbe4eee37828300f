-- The lines of all rows.
use Rattle.std.proofs.Common.{◌≡◌, ◌∙◌, ℕ, ◌+◌, Bool, cond, List, [], ◌∷◌, ◌++◌, append_assoc, append-nil, map, length, Option, Some, None, refl, sym, ap, length-append, arith}
use Rattle.std.specs.Prelude.{is_some, option_to_list, filter_map}
use Rattle.std.specs.List.{cons_option, range_with_len}
use Rattle.std.proofs.lemmas.List.{map-append}
use Rattle.std.proofs.lemmas.List.Elements.{filter_map-append}
use Rattle.std.proofs.lemmas.List.FromFn.{map-range_with_len_more}
use Rattle.std.proofs.lemmas.Grind.{flat_map-append}
use Rattle.claim_rule.specs.Openings.{KeptBooking, kept_bookings, kept_of_row}
use Rattle.claim_rule.specs.Walls.{WallView}
use Rattle.cold_store.specs.Exports.{row_text, state_on}
use Rattle.cold_store.specs.Written.{said_of}
use Rattle.line_text.specs.Lines.{SaidBooking, booking_line, export_text_of, first_line, last_line, text_of}

-- what is said of the rows below a number
abbrev pub said_below : WallView → ℕ → List SaidBooking
said_below w rows = map said_of (kept_bookings rows (state_on w))

itself : (xs : List ℕ) → map (λ n. n) xs ≡ xs
itself [] = refl
itself (x ∷ xs) = ap (λ ys. x ∷ ys) (itself xs)

range_more : (n : ℕ) → range_with_len 0 (n + 1) ≡ range_with_len 0 n ++ n ∷ []
range_more n =
    sym (itself (range_with_len 0 (n + 1))) ∙ (map-range_with_len_more (λ n. n) 0 n n (omega arith) ∙ ap (λ xs. xs ++ n ∷ []) (itself (range_with_len 0 n)))

one_kept : (f : ℕ → Option KeptBooking) (n : ℕ) → filter_map f (n ∷ []) ≡ option_to_list (f n)
one_kept f n = go (f n)
  where
    go : (o : Option KeptBooking) → cons_option o [] ≡ option_to_list o
    go None = refl
    go (Some k) = refl

pub said_more : (w : WallView) (row : ℕ) → said_below w (row + 1) ≡ said_below w row ++ map said_of (option_to_list (kept_of_row (state_on w) row))
said_more w row =
    let f = kept_of_row (state_on w) in
    ap (map said_of) (ap (filter_map f) (range_more row) ∙ (filter_map-append f (range_with_len 0 row) (row ∷ []) ∙ ap (λ xs. kept_bookings row (state_on w) ++ xs) (one_kept f row)))
    ∙ map-append said_of (kept_bookings row (state_on w)) (option_to_list (f row))

lines_of : (o : Option KeptBooking) → map booking_line (map said_of (option_to_list o)) ≡ map (λ k. booking_line (said_of k)) (option_to_list o)
lines_of None = refl
lines_of (Some k) = refl

pub lines_more : (w : WallView) (row : ℕ) → text_of (map booking_line (said_below w (row + 1))) ≡ text_of (map booking_line (said_below w row)) ++ row_text w row
lines_more w row =
    let old = said_below w row in
    let here = kept_of_row (state_on w) row in
    let line : List ℕ → List ℕ = λ l. l ++ 10 ∷ [] in
    ap (λ said. text_of (map booking_line said)) (said_more w row)
    ∙ (ap (λ lines. text_of lines) (map-append booking_line old (map said_of (option_to_list here)))
    ∙ (flat_map-append line (map booking_line old) (map booking_line (map said_of (option_to_list here)))
    ∙ ap (λ lines. text_of (map booking_line old) ++ text_of lines) (lines_of here)))

pub text_more : (w : WallView) (row : ℕ) (a b c : List ℕ) → b ≡ a ++ text_of (map booking_line (said_below w row)) → c ≡ b ++ row_text w row
    → c ≡ a ++ text_of (map booking_line (said_below w (row + 1)))
text_more w row a b c hb hc =
    hc ∙ (ap (λ t. t ++ row_text w row) hb
    ∙ (append_assoc a (text_of (map booking_line (said_below w row))) (row_text w row) ∙ ap (λ t. a ++ t) (sym (lines_more w row))))

one_if_some : (o : Option KeptBooking) → length (map said_of (option_to_list o)) ≡ cond (is_some o) 1 0
one_if_some None = refl
one_if_some (Some k) = refl

pub count_more : (w : WallView) (row : ℕ) (has : Bool) → has ≡ is_some (kept_of_row (state_on w) row) → length (said_below w (row + 1)) ≡ length (said_below w row) + cond has 1 0
count_more w row has is =
    let here = kept_of_row (state_on w) row in
    ap length (said_more w row)
    ∙ (length-append (said_below w row) (map said_of (option_to_list here))
    ∙ ap (λ n. length (said_below w row) + n) (one_if_some here ∙ ap (λ t. cond t 1 0) (sym is)))

-- the whole text
pub whole_text : (places rows : ℕ) (said : List SaidBooking) (a b c : List ℕ) → a ≡ [] ++ (first_line places rows ++ 10 ∷ []) → b ≡ a ++ text_of (map booking_line said)
    → c ≡ b ++ (last_line (length said) ++ 10 ∷ []) → c ≡ export_text_of places rows said
whole_text places rows said a b c ha hb hc =
    let line : List ℕ → List ℕ = λ l. l ++ 10 ∷ [] in
    let first = first_line places rows in
    let lines = map booking_line said in
    let last = last_line (length said) in
    hc ∙ (ap (λ t. t ++ line last) (hb ∙ ap (λ t. t ++ text_of lines) ha)
    ∙ (append_assoc (line first) (text_of lines) (line last)
    ∙ ap (λ t. line first ++ t)
    (ap (λ t. text_of lines ++ t) (sym (append-nil (line last))) ∙ sym (flat_map-append line lines (last ∷ [])))))
