-- What stands between the first line of a text and its last.
use Rattle.std.proofs.Common.{◌≡◌, ◌≢◌, ℕ, zero, suc, ◌+◌, ◌-◌, ◌<◌, ◌≤◌, ◌==◌, true, List, [], ◌∷◌, ◌++◌, append_assoc, append-nil, length, length-append, map, take, drop, get_or, slice_index, Option, Some, None, refl, sym, ap, ◌∙◌, subst, arith, cond, Bool, false, count_by}
use Rattle.std.specs.List.{AllByRecursion}
use Rattle.std.proofs.lemmas.Bool.{eqb-true}
use Rattle.std.proofs.lemmas.List.{get_or_append_left, get_or-append_right}
use Rattle.std.proofs.lemmas.List.Sums.{sum_by-append}
use Rattle.std.proofs.Math.Seq.{drop-append_seam, get_or-append_seam, take-append_seam}
use Rattle.memchr.specs.Find.{IsFirstByte, IsLastByte, is_byte, places}
use Rattle.memchr.proofs.lemmas.CallerLemmas.{length-places}
use Rattle.line_text.specs.Lines.{IsExportOf, IsLine, IsSayable, SaidBooking, booking_line, first_line, last_line, text_of}
use Rattle.cold_store.proofs.ExportTexts.{whole_text}
use Rattle.line_text.proofs.LineText.{IsLine-booking, IsLine-first, IsLine-last}
use Rattle.row_cuts.specs.Exports.{IsWithin}

-- where line feeds are

not_feed : (xs : List ℕ) (k : ℕ) → IsLine xs → k < length xs → get_or xs k 0 ≢ 10
not_feed [] k line below = absurd (omega arith)
not_feed (x ∷ xs) zero line below = line.0
not_feed (x ∷ xs) (suc k) line below = not_feed xs k line.1 (omega arith)

is_feed : (n : ℕ) → n ≡ 10 → is_byte 10 n ≡ true
is_feed n at = ap (λ (m : ℕ). m == 10) at

-- in a text with a feed after this line, whatever stands before it
module _ (before xs ys hay : List ℕ) (is : hay ≡ before ++ 10 ∷ xs) where
  long : length hay ≡ length before + (length xs + 1)
  long = let size : length hay ≡ length before + suc (length xs) = ap length is ∙ length-append before (10 ∷ xs) in omega arith

  at_feed : is_byte 10 (slice_index hay (length before)) ≡ true
  at_feed = is_feed (slice_index hay (length before)) (ap (λ (h : List ℕ). get_or h (length before) 0) is ∙ get_or-append_seam before 10 xs 0)

  -- no feed before it
  pub not_before : (k : ℕ) → IsLine before → k < length before → is_byte 10 (slice_index hay k) ≡ true → ⊥
  not_before k line below passes =
      not_feed before k line below
      (sym (get_or_append_left before (10 ∷ xs) 0 k below) ∙ (ap (λ (h : List ℕ). get_or h k 0) (sym is) ∙ eqb-true (slice_index hay k) 10 passes))

  -- nor after it
  pub not_after : (k : ℕ) → IsLine xs → length before < k → k < length hay → is_byte 10 (slice_index hay k) ≡ true → ⊥
  not_after k line above below passes =
      let size = long in
      let low : length before + 1 ≤ k = omega arith in
      let here : get_or hay k 0 ≡ get_or xs (k - (length before + 1)) 0 =
      ap (λ (h : List ℕ). get_or h k 0) (is ∙ sym (append_assoc before (10 ∷ []) xs))
      ∙ get_or-append_right (before ++ 10 ∷ []) xs (length before + 1) k 0 (length-append before (10 ∷ [])) low in
      not_feed xs (k - (length before + 1)) line (omega arith) (sym here ∙ eqb-true (slice_index hay k) 10 passes)

  pub first_is : (r : Option ℕ) → IsLine before → IsFirstByte (is_byte 10) hay r → r ≡ Some (length before)
  first_is None line none = absurd (let size = long in none (length before) (omega arith) (omega arith) at_feed)
  first_is (Some k) line found =
      let size = long in
      let low : k < length before → ⊥ = λ below. not_before k line below found.1 in
      let high : length before < k → ⊥ = λ above. found.0.before (length before) (omega arith) above at_feed in
      ap Some (omega (arith, low, high))

  pub last_is : (r : Option ℕ) → IsLine xs → IsLastByte (is_byte 10) hay r → r ≡ Some (length before)
  last_is None line none = absurd (let size = long in none (length before) (omega arith) (omega arith) at_feed)
  last_is (Some k) line found =
      let size = long in
      let here = found.0.high in
      let high : length before < k → ⊥ = λ above. not_after k line above here found.1 in
      let low : k < length before → ⊥ = λ below. found.0.after (length before) (omega arith) (omega arith) at_feed in
      ap Some (omega (arith, low, high))

pub none_in : (xs : List ℕ) (r : Option ℕ) → IsLine xs → IsLastByte (is_byte 10) xs r → r ≡ None
none_in xs None line found = refl
none_in xs (Some k) line found = absurd (not_feed xs k line found.0.high (eqb-true (slice_index xs k) 10 found.1))

-- the lines end with a feed

ends_so : (l : List ℕ) (ls : List (List ℕ)) → (front : List ℕ) × (text_of (l ∷ ls) ≡ front ++ 10 ∷ [])
ends_so l [] = (l, append-nil (l ++ 10 ∷ []))
ends_so l (m ∷ ms) =
    let rest = ends_so m ms in
    ((l ++ 10 ∷ []) ++ rest.0, ap (λ (t : List ℕ). (l ++ 10 ∷ []) ++ t) rest.1 ∙ sym (append_assoc (l ++ 10 ∷ []) rest.0 (10 ∷ [])))

-- what is left after the first line

module _ (text first : List ℕ) (lines : List (List ℕ)) (last : List ℕ) (w : IsWithin text first lines last) where
  as_first : text ≡ first ++ 10 ∷ (text_of lines ++ (last ++ 10 ∷ []))
  as_first =
      w.is ∙ (append_assoc (first ++ 10 ∷ []) (text_of lines) (last ++ 10 ∷ []) ∙ append_assoc first (10 ∷ []) (text_of lines ++ (last ++ 10 ∷ [])))

  pub found_first : (r : Option ℕ) → IsFirstByte (is_byte 10) text r → r ≡ Some (length first)
  found_first r found = first_is first (text_of lines ++ (last ++ 10 ∷ [])) [] text as_first r w.begins found

  pub rest_is : (at : ℕ) (rest : List ℕ) → at ≡ length first → rest ≡ drop (at + 1) text → rest ≡ (text_of lines ++ last) ++ 10 ∷ []
  rest_is at rest here is =
      let size : length (first ++ 10 ∷ []) ≡ at + 1 = length-append first (10 ∷ []) ∙ ap (λ (n : ℕ). n + 1) (sym here) in
      let back = text_of lines ++ (last ++ 10 ∷ []) in
      is ∙ (ap (drop (at + 1)) (as_first ∙ sym (append_assoc first (10 ∷ []) back))
      ∙ (ap (λ (n : ℕ). drop n ((first ++ 10 ∷ []) ++ back)) (sym size) ∙ (drop-append_seam (first ++ 10 ∷ []) back
      ∙ sym (append_assoc (text_of lines) last (10 ∷ [])))))

  pub not_empty : (rest : List ℕ) → rest ≡ (text_of lines ++ last) ++ 10 ∷ [] → length rest ≡ 0 → ⊥
  not_empty rest is none = let size = ap length is ∙ length-append (text_of lines ++ last) (10 ∷ []) in omega arith

  pub most_is : (rest most : List ℕ) → rest ≡ (text_of lines ++ last) ++ 10 ∷ [] → most ≡ take (length rest - 1) rest → most ≡ text_of lines ++ last
  most_is rest most is at =
      let front = text_of lines ++ last in
      let size = ap length is ∙ length-append front (10 ∷ []) in
      let here : length rest - 1 ≡ length front = omega arith in
      at ∙ (ap (λ (n : ℕ). take n rest) here ∙ (ap (take (length front)) is ∙ take-append_seam front (10 ∷ [])))

-- what is left before the last one

pub no_lines : (lines : List (List ℕ)) (last most : List ℕ) → IsLine last → most ≡ text_of lines ++ last → IsLastByte (is_byte 10) most None → [] ≡ text_of lines
no_lines [] last most line is found = refl
no_lines (l ∷ ls) last most line is found =
    let end = ends_so l ls in
    let here : most ≡ end.0 ++ 10 ∷ last = is ∙ (ap (λ (t : List ℕ). t ++ last) end.1 ∙ append_assoc end.0 (10 ∷ []) last) in
    absurd (let no : ◌≡◌ {A = Option ℕ} None (Some (length end.0)) = last_is end.0 last [] most here None line found in cc)

pub some_lines : (lines : List (List ℕ)) (last most : List ℕ) (at : ℕ) → IsLine last → most ≡ text_of lines ++ last → IsLastByte (is_byte 10) most (Some at)
    → take (at + 1) most ≡ text_of lines
some_lines [] last most at line is found =
    absurd (let no : ◌≡◌ {A = Option ℕ} (Some at) None = none_in most (Some at) (subst IsLine (sym is) line) found in cc)
some_lines (l ∷ ls) last most at line is found =
    let end = ends_so l ls in
    let here : most ≡ end.0 ++ 10 ∷ last = is ∙ (ap (λ (t : List ℕ). t ++ last) end.1 ∙ append_assoc end.0 (10 ∷ []) last) in
    let same : Some at ≡ Some (length end.0) = last_is end.0 last [] most here (Some at) line found in
    let at_end : at ≡ length end.0 = cc in
    let size : length (text_of (l ∷ ls)) ≡ at + 1 = ap length end.1 ∙ (length-append end.0 (10 ∷ []) ∙ ap (λ (n : ℕ). n + 1) (sym at_end)) in
    ap (take (at + 1)) is ∙ (ap (λ (n : ℕ). take n (text_of (l ∷ ls) ++ last)) (sym size) ∙ take-append_seam (text_of (l ∷ ls)) last)

-- how many lines they are

no_feeds : (xs : List ℕ) → IsLine xs → count_by (is_byte 10) xs ≡ 0
no_feeds [] line = refl
no_feeds (x ∷ xs) line =
    let here = go (is_byte 10 x) refl in
    let rest = no_feeds xs line.1 in
    sum_by-append (λ (y : ℕ). cond (is_byte 10 y) 1 0) (x ∷ []) xs ∙ (λ j. here j + rest j)
  where
    go : (t : Bool) → is_byte 10 x ≡ t → count_by (is_byte 10) (x ∷ []) ≡ 0
    go true is = absurd (line.0 (eqb-true x 10 is))
    go false is = ap (λ (b : Bool). 0 + cond b 1 0) is

pub counted : (lines : List (List ℕ)) → AllByRecursion IsLine lines → count_by (is_byte 10) (text_of lines) ≡ length lines
counted [] each = refl
counted (l ∷ ls) each =
    let rest = counted ls each.1 in
    let one : count_by (is_byte 10) (l ++ 10 ∷ []) ≡ 1 =
    sum_by-append (λ (x : ℕ). cond (is_byte 10 x) 1 0) l (10 ∷ []) ∙ ap (λ (n : ℕ). n + 1) (no_feeds l each.0) in
    sum_by-append (λ (x : ℕ). cond (is_byte 10 x) 1 0) (l ++ 10 ∷ []) (text_of ls) ∙ ((λ j. one j + rest j) ∙ omega arith)

pub count_is : (lines : List (List ℕ)) (text : List ℕ) → AllByRecursion IsLine lines → text ≡ text_of lines → length (places (is_byte 10) text) ≡ length lines
count_is lines text each is = length-places (is_byte 10) text ∙ (ap (count_by (is_byte 10)) is ∙ counted lines each)

-- the lines of an export

each_line : (said : List SaidBooking) → AllByRecursion IsSayable said → AllByRecursion IsLine (map booking_line said)
each_line [] each = tt
each_line (b ∷ said) each = (IsLine-booking b each.0, each_line said each.1)

pub export_within : (text : List ℕ) (places rows : ℕ) (said : List SaidBooking) → IsExportOf text places rows said
    → IsWithin text (first_line places rows) (map booking_line said) (last_line (length said))
export_within text places rows said is =
    record {
      begins = IsLine-first places rows is.sizes.0 is.sizes.1;
      each = each_line said is.each;
      ends = IsLine-last (length said) is.count;
      is = is.is ∙ sym (whole_text places rows said (first_line places rows ++ 10 ∷ [])
          ((first_line places rows ++ 10 ∷ []) ++ text_of (map booking_line said)) _ refl refl refl);
    }
