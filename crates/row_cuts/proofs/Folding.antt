-- Cuts of rows fold to the export of the state at the last one.
use Rattle.std.proofs.Common.{◌≡◌, ◌⊎◌, inl, inr, ⊎_elim, ℕ, zero, suc, ◌+◌, ◌<◌, ◌==◌, Bool, true, false, cond, if◌then◌else◌, List, [], ◌∷◌, ◌++◌, append_assoc, filter, filter_map, length, map, Option, Some, None, option_map, refl, sym, ap, ◌∙◌, arith, eq-eqb, true≢false}
use Rattle.std.specs.Prelude.{option_and_then}
use Rattle.std.specs.List.{cons_option, range_with_len}
use Rattle.std.proofs.lemmas.Bool.{eqb-true}
use Rattle.std.proofs.lemmas.List.{length-map}
use Rattle.history_model.specs.Booking.{Booking, State, present}
use Rattle.history_model.specs.declared.phase.Phase.{Phase}
use Rattle.history_model.specs.declared.phase.Phase.TheVariants.{Free, Making, Prebooked, Confirmed, Fulfilled, Ending, Ended}
use Rattle.history_model.proofs.Ranges.{row_of}
use Rattle.claim_rule.specs.Openings.{KeptBooking, kept_as, kept_bookings, kept_in, kept_of_row, stub}
use Rattle.cold_store.specs.Written.{said_of}
use Rattle.line_text.specs.Lines.{booking_line, export_text_of, first_line, last_line, text_of}
use Rattle.journal_text.specs.Folds.{all_lines, last_lines, last_of, line_of}
use Rattle.journal_text.specs.Texts.{RowLine, row_text}
use Rattle.row_cuts.specs.Cuts.{ComesAfter, Cut, FollowOn, IsAmong, IsKept, folded_text, last_state, lines_cut, row_line}

-- the last line of a row, by going through the lines

abbrev or_else : Option RowLine → Option RowLine → Option RowLine
or_else (Some l) o = Some l
or_else None o = o

abbrev latest : ℕ → Option RowLine → List RowLine → Option RowLine
latest row o [] = o
latest row o (l ∷ ls) = latest row (cond (l.row == row) (Some l) o) ls

latest_then : (row : ℕ) (o : Option RowLine) (xs ys : List RowLine) → latest row o (xs ++ ys) ≡ latest row (latest row o xs) ys
latest_then row o [] ys = refl
latest_then row o (x ∷ xs) ys = latest_then row (cond (x.row == row) (Some x) o) xs ys

last_cons : (l : RowLine) (ls : List RowLine) (o : Option RowLine) → or_else (last_of ls) (Some l) ≡ or_else (last_of (l ∷ ls)) o
last_cons l [] o = refl
last_cons l (x ∷ []) o = refl
last_cons l (x ∷ (y ∷ ls)) o = last_cons l (y ∷ ls) o

latest_is : (row : ℕ) (o : Option RowLine) (ls : List RowLine) → latest row o ls ≡ or_else (line_of ls row) o
latest_is row o [] = refl
latest_is row o (l ∷ ls) = go (l.row == row) (latest_is row (Some l) ls) (latest_is row o ls)
  where
    go : (t : Bool) → latest row (Some l) ls ≡ or_else (line_of ls row) (Some l) → latest row o ls ≡ or_else (line_of ls row) o
        → latest row (cond t (Some l) o) ls ≡ or_else (last_of (cond t (l ∷ filter (λ (x : RowLine). x.row == row) ls) (filter (λ (x : RowLine). x.row == row) ls))) o
    go true is other = is ∙ last_cons l (filter (λ (x : RowLine). x.row == row) ls) o
    go false other is = is

or_none : (o : Option RowLine) → or_else o None ≡ o
or_none None = refl
or_none (Some l) = refl

line_is_latest : (row : ℕ) (ls : List RowLine) → line_of ls row ≡ latest row None ls
line_is_latest row ls = sym (latest_is row None ls ∙ or_none (line_of ls row))

-- the lines of a cut

abbrev line_at : State → ℕ → Option RowLine
line_at s row = option_map row_line (kept_of_row s row)

kept_in_row : (phase : Phase) (b : Booking) (k : KeptBooking) → kept_in phase b ≡ Some k → k.row ≡ b.row
kept_in_row Free b k e = absurd (let no : ◌≡◌ {A = Option KeptBooking} None (Some k) = e in cc)
kept_in_row Making b k e = go (b.generation == 0) e
  where
    go : (t : Bool) → (if t then None else Some (stub b.row b.generation)) ≡ Some k → k.row ≡ b.row
    go true e = absurd (let no : ◌≡◌ {A = Option KeptBooking} None (Some k) = e in cc)
    go false e = let same : stub b.row b.generation ≡ k = cc in ap (λ (x : KeptBooking). x.row) (sym same)
kept_in_row Prebooked b k e = let same : kept_as b ≡ k = cc in ap (λ (x : KeptBooking). x.row) (sym same)
kept_in_row Confirmed b k e = let same : kept_as b ≡ k = cc in ap (λ (x : KeptBooking). x.row) (sym same)
kept_in_row Fulfilled b k e = let same : kept_as b ≡ k = cc in ap (λ (x : KeptBooking). x.row) (sym same)
kept_in_row (Ending kind) b k e = let same : kept_as b ≡ k = cc in ap (λ (x : KeptBooking). x.row) (sym same)
kept_in_row (Ended kind) b k e = let same : kept_as b ≡ k = cc in ap (λ (x : KeptBooking). x.row) (sym same)

-- what is kept of a row is of that row
kept_row_is : (s : State) (row : ℕ) (k : KeptBooking) → kept_of_row s row ≡ Some k → k.row ≡ row
kept_row_is s row k e = go (present s row) refl
  where
    go : (o : Option Booking) → present s row ≡ o → k.row ≡ row
    go None at = absurd (let no : ◌≡◌ {A = Option KeptBooking} None (Some k) = ap (λ (o : Option Booking). option_and_then (λ b. kept_in b.phase b) o) (sym at) ∙ e in cc)
    go (Some b) at =
        kept_in_row b.phase b k (ap (λ (o : Option Booking). option_and_then (λ b. kept_in b.phase b) o) (sym at) ∙ e) ∙ row_of s row b at

-- the line is already the one that the row has in the state, or the row is among these and has one
abbrev IsUpToDate : State → ℕ → Option RowLine → List ℕ → Type 0
IsUpToDate s row o rows = (o ≡ line_at s row) ⊎ (IsAmong row rows × IsKept s row)

abbrev Rest : State → ℕ → List ℕ → Type 0
Rest s row rows =
    (o : Option RowLine) → IsUpToDate s row o rows → latest row o (map row_line (filter_map (kept_of_row s) rows)) ≡ line_at s row

passed : (s : State) (row r : ℕ) (o : Option RowLine) (rows : List ℕ) → kept_of_row s r ≡ None → IsUpToDate s row o (r ∷ rows) → IsUpToDate s row o rows
passed s row r o rows none (inl is) = inl is
passed s row r o rows none (inr (inl same, kept)) =
    absurd (let no : ◌≡◌ {A = Option KeptBooking} None (Some kept.0) = sym none ∙ (ap (kept_of_row s) (sym same) ∙ kept.1) in cc)
passed s row r o rows none (inr (inr among, kept)) = inr (among, kept)

apart : (s : State) (row r : ℕ) (o : Option RowLine) (rows : List ℕ) → (r ≡ row → ⊥) → IsUpToDate s row o (r ∷ rows) → IsUpToDate s row o rows
apart s row r o rows other (inl is) = inl is
apart s row r o rows other (inr (inl same, kept)) = absurd (other (sym same))
apart s row r o rows other (inr (inr among, kept)) = inr (among, kept)

found : (s : State) (row r : ℕ) (o : Option RowLine) (rows : List ℕ) (k : KeptBooking) (t : Bool) → Rest s row rows → IsUpToDate s row o (r ∷ rows) → kept_of_row s r ≡ Some k → (k.row == row) ≡ t
    → latest row (cond t (Some (row_line k)) o) (map row_line (filter_map (kept_of_row s) rows)) ≡ line_at s row
found s row r o rows k true rest up at is =
    let one : r ≡ row = sym (kept_row_is s r k at) ∙ eqb-true k.row row is in
    let here : Some (row_line k) ≡ line_at s row = ap (λ (q : Option KeptBooking). option_map row_line q) (sym at ∙ ap (kept_of_row s) one) in
    rest (Some (row_line k)) (inl here)
found s row r o rows k false rest up at is =
    rest o (apart s row r o rows (λ same. true≢false (sym (eq-eqb k.row row (kept_row_is s r k at ∙ same)) ∙ is)) up)

next_row : (s : State) (row r : ℕ) (o : Option RowLine) (rows : List ℕ) (kept : Option KeptBooking) → Rest s row rows → IsUpToDate s row o (r ∷ rows) → kept_of_row s r ≡ kept
    → latest row o (map row_line (cons_option kept (filter_map (kept_of_row s) rows))) ≡ line_at s row
next_row s row r o rows None rest up at = rest o (passed s row r o rows at up)
next_row s row r o rows (Some k) rest up at = found s row r o rows k (k.row == row) rest up at refl

rows_latest : (s : State) (row : ℕ) (o : Option RowLine) (rows : List ℕ) → IsUpToDate s row o rows → latest row o (map row_line (filter_map (kept_of_row s) rows)) ≡ line_at s row
rows_latest s row o [] (inl is) = is
rows_latest s row o [] (inr (among, kept)) = absurd among
rows_latest s row o (r ∷ rows) up = next_row s row r o rows (kept_of_row s r) (λ other. rows_latest s row other rows) up refl

none_before : (before : State) (c : Cut) (row : ℕ) → (IsKept before row → IsKept c.state row) → kept_of_row c.state row ≡ None → kept_of_row before row ≡ None
none_before before c row stays none = go (kept_of_row before row) refl
  where
    go : (kept : Option KeptBooking) → kept_of_row before row ≡ kept → kept_of_row before row ≡ None
    go None is = is
    go (Some k) is = absurd (let later = stays (k, is) in let no : ◌≡◌ {A = Option KeptBooking} None (Some later.0) = sym none ∙ later.1 in cc)

-- after a cut the last line of each row is the one that it has at the cut
cut_latest : (rows : ℕ) (before : State) (c : Cut) (row : ℕ) (o : Option RowLine) → row < rows → o ≡ line_at before row → ComesAfter rows before c → latest row o (lines_cut c) ≡ line_at c.state row
cut_latest rows before c row o below is after =
    rows_latest c.state row o c.rows
    (⊎_elim
    (λ (same : kept_of_row before row ≡ kept_of_row c.state row). inl (is ∙ ap (option_map row_line) same))
    (λ (among : IsAmong row c.rows). go among (kept_of_row c.state row) refl)
    (after.changes row below))
  where
    go : IsAmong row c.rows → (kept : Option KeptBooking) → kept_of_row c.state row ≡ kept → IsUpToDate c.state row o c.rows
    go among None none = inl (is ∙ ap (option_map row_line) (none_before before c row (after.stays row below) none ∙ sym none))
    go among (Some k) at = inr (among, (k, at))

cuts_latest : (rows : ℕ) (before : State) (cuts : List Cut) (row : ℕ) (o : Option RowLine) → row < rows → o ≡ line_at before row → FollowOn rows before cuts
    → latest row o (all_lines (map lines_cut cuts)) ≡ line_at (last_state before cuts) row
cuts_latest rows before [] row o below is follow = is
cuts_latest rows before (c ∷ cuts) row o below is follow =
    latest_then row o (lines_cut c) (all_lines (map lines_cut cuts))
    ∙ cuts_latest rows c.state cuts row (latest row o (lines_cut c)) below (cut_latest rows before c row o below is follow.0) follow.1

-- all rows

same_lines : (f g : ℕ → Option RowLine) (at n : ℕ) → ((row : ℕ) → row < at + n → f row ≡ g row) → filter_map f (range_with_len at n) ≡ filter_map g (range_with_len at n)
same_lines f g at zero same = refl
same_lines f g at (suc n) same =
    (λ j. cons_option (same at (omega arith) j) (same_lines f g (at + 1) n (λ row below. same row (omega arith)) j))

cons_map : (kept : Option KeptBooking) (ks : List KeptBooking) → cons_option (option_map row_line kept) (map row_line ks) ≡ map row_line (cons_option kept ks)
cons_map None ks = refl
cons_map (Some k) ks = refl

mapped : (s : State) (rows : List ℕ) → filter_map (line_at s) rows ≡ map row_line (filter_map (kept_of_row s) rows)
mapped s [] = refl
mapped s (row ∷ rows) =
    ap (λ (ls : List RowLine). cons_option (option_map row_line (kept_of_row s row)) ls) (mapped s rows)
    ∙ cons_map (kept_of_row s row) (filter_map (kept_of_row s) rows)

-- the line of a booking is that of its row
pub line_texts : (k : KeptBooking) → row_text (row_line k) ≡ booking_line (said_of k)
line_texts k = simp append_assoc

all_texts : (ks : List KeptBooking) → map row_text (map row_line ks) ≡ map booking_line (map said_of ks)
all_texts [] = refl
all_texts (k ∷ ks) = λ j. line_texts k j ∷ all_texts ks j

as_export : (places rows : ℕ) (ks : List KeptBooking) → text_of (first_line places rows ∷ (map row_text (map row_line ks) ++ last_line (length (map row_line ks)) ∷ [])) ≡ export_text_of places rows (map said_of ks)
as_export places rows ks =
    let count : length (map row_line ks) ≡ length (map said_of ks) = length-map ks row_line ∙ sym (length-map ks said_of) in
    λ j. text_of (first_line places rows ∷ (all_texts ks j ++ last_line (count j) ∷ []))

pub folds : (places rows : ℕ) (cuts : List Cut) → FollowOn rows [] cuts → folded_text places rows cuts ≡ export_text_of places rows (map said_of (kept_bookings rows (last_state [] cuts)))
folds places rows cuts follow =
    let lines = all_lines (map lines_cut cuts) in
    let s = last_state [] cuts in
    let each : (row : ℕ) → row < 0 + rows → line_of lines row ≡ line_at s row =
    λ row below. line_is_latest row lines ∙ cuts_latest rows [] cuts row None (omega (arith, below)) refl follow in
    let lasts : last_lines rows lines ≡ map row_line (kept_bookings rows s) =
    same_lines (line_of lines) (line_at s) 0 rows each ∙ mapped s (range_with_len 0 rows) in
    ap (λ (ls : List RowLine). text_of (first_line places rows ∷ (map row_text ls ++ last_line (length ls) ∷ []))) lasts
    ∙ as_export places rows (kept_bookings rows s)
