-- The fold of a journal from its table.
use Rattle.std.proofs.Common.{◌≡◌, ℕ, zero, suc, ◌+◌, ◌-◌, ◌<◌, ◌≤◌, ◌^◌, List, [], ◌∷◌, ◌++◌, Option, Some, None, filter_map, flat_map, map, length, option_map, replicate, refl, sym, ap, subst, ◌∙◌, arith, append_assoc, append-nil}
use Rattle.std.specs.List.{cons_option, range_with_len}
use Rattle.std.specs.List.{AllByRecursion}
use Rattle.std.specs.Borrow.{Bor}
use Rattle.std.proofs.lemmas.List.{length-append}
use Rattle.line_text.specs.Lines.{first_line, last_line, text_of}
use Rattle.journal_text.specs.Folds.{FoldView, IsFold, all_lines, fold_text, last_lines, line_of}
use Rattle.journal_text.specs.declared.fault.JournalFault.{JournalFault}
use Rattle.journal_text.specs.declared.fault.JournalFault.TheVariants.{BrokenCut, NoMemory, NotAJournal, WrongLine}
use Rattle.journal_text.specs.declared.folded.Cuts.{Cuts}
use Rattle.journal_text.specs.declared.head.Head.{Head}
use Rattle.journal_text.specs.Faults.{HasBrokenCut, HasWrongLine, IsJournalFault, StopsAfter}
use Rattle.journal_text.specs.Reads.{IsSaidHead, said_head, said_head_text}
use Rattle.journal_text.specs.Rooms.{IsCutFault, IsTable, ReadsCuts, StopsInCut, Table, fed, kept, shown, table_text}
use Rattle.journal_text.specs.Texts.{AreLines, Begins, HoldsCut, RowLine, cut_of, cut_text, cuts_text, end_sum, journal_text, lines_text, own_sum, row_text, sum_after, sum_of}

none_shown : (n row : ℕ) → shown (replicate n None) row ≡ None
none_shown zero row = refl
none_shown (suc n) zero = refl
none_shown (suc n) (suc row) = none_shown n row

pub no_lines : (n : ℕ) → IsTable [] (replicate n None)
no_lines n row below = none_shown n row

cons_map : (x : Option RowLine) (more : List RowLine) → map fed (cons_option x more) ≡ cons_option (option_map fed x) (map fed more)
cons_map None more = refl
cons_map (Some l) more = refl

-- what a table keeps, row by row
kept_from : (at : ℕ) (table : Table) (lines : List RowLine) → ((row : ℕ) → row < length table → shown table row ≡ option_map fed (line_of lines (at + row))) → kept table ≡ map fed (filter_map (line_of lines) (range_with_len at (length table)))
kept_from at [] lines is = refl
kept_from at (o ∷ table) lines is =
    let first : option_map (λ (b : Bor (List ℕ)). b.now) o ≡ option_map fed (line_of lines at) =
    let e : at + 0 ≡ at = omega arith in is 0 (omega arith) ∙ ap (λ (x : ℕ). option_map fed (line_of lines x)) e in
    let rest = kept_from (at + 1) table lines
    (λ row below.
    let e : at + suc row ≡ (at + 1) + row = omega arith in
    is (suc row) (omega arith) ∙ ap (λ (x : ℕ). option_map fed (line_of lines x)) e) in
    rw (first, rest) (sym (cons_map (line_of lines at) (filter_map (line_of lines) (range_with_len (at + 1) (length table)))))

pub kept_is : (table : Table) (lines : List RowLine) → IsTable lines table → kept table ≡ map fed (last_lines (length table) lines)
kept_is table lines is =
    kept_from 0 table lines
    (λ row below. let e : 0 + row ≡ row = omega arith in is row below ∙ ap (λ (x : ℕ). option_map fed (line_of lines x)) (sym e))

flat_fed : (lines : List RowLine) → flat_map (λ line. line) (map fed lines) ≡ lines_text lines
flat_fed [] = refl
flat_fed (l ∷ lines) = ap (λ (x : List ℕ). fed l ++ x) (flat_fed lines)

long_fed : (lines : List RowLine) → length (map fed lines) ≡ length lines
long_fed [] = refl
long_fed (l ∷ lines) = ap suc (long_fed lines)

ended : (lines : List RowLine) (last : List ℕ) → text_of (map row_text lines ++ last ∷ []) ≡ lines_text lines ++ (last ++ 10 ∷ [])
ended [] last = append-nil (last ++ 10 ∷ [])
ended (l ∷ lines) last = ap (λ (x : List ℕ). fed l ++ x) (ended lines last) ∙ sym (append_assoc (fed l) (lines_text lines) (last ++ 10 ∷ []))

pub fold_is : (places rows : ℕ) (table : Table) (lines : List RowLine) → IsTable lines table → length table ≡ rows → table_text places rows table ≡ fold_text places rows lines
fold_is places rows table lines is many =
    let keeps : kept table ≡ map fed (last_lines rows lines) = kept_is table lines is ∙ ap (λ (x : ℕ). map fed (last_lines x lines)) many in
    let lasts = last_lines rows lines in
    let count : length (kept table) ≡ length lasts = ap (λ (x : List (List ℕ)). length x) keeps ∙ long_fed lasts in
    let body : flat_map (λ line. line) (kept table) ≡ lines_text lasts = ap (λ (x : List (List ℕ)). flat_map (λ line. line) x) keeps ∙ flat_fed lasts in
    ap (λ (x : List ℕ). (first_line places rows ++ 10 ∷ []) ++ (x ++ (last_line (length (kept table)) ++ 10 ∷ []))) body
    ∙ (ap (λ (x : ℕ). (first_line places rows ++ 10 ∷ []) ++ (lines_text lasts ++ (last_line x ++ 10 ∷ []))) count
    ∙ ap (λ (x : List ℕ). (first_line places rows ++ 10 ∷ []) ++ x) (sym (ended lasts (last_line (length lasts)))))

module _ (text rest : List ℕ) (h : Head) (is_head : IsSaidHead h) (starts : text ≡ said_head_text h ++ rest) (first : List ℕ) (summed : first ≡ sum_of (said_head_text h)) (rows : ℕ) (many : rows ≡ h.rows) (bound : length text < 2 ^ 64) where
  pub begins : (new : List ℕ) (cuts : List (List RowLine)) → AllByRecursion (AreLines rows) cuts → rest ≡ cuts_text 1 first cuts ++ new → length cuts < 2 ^ 64 → Begins text (said_head h) cuts new
  begins new cuts each is few =
      record {
        head = is_head;
        each = subst (λ (x : ℕ). AllByRecursion (AreLines x) cuts) many each;
        few = few;
        is = starts
            ∙ (ap (λ (x : List ℕ). said_head_text h ++ x) (is ∙ ap (λ (x : List ℕ). cuts_text 1 x cuts ++ new) summed)
            ∙ sym (append_assoc (said_head_text h) (cuts_text 1 (sum_of (said_head_text h)) cuts) new));
      }

  end_is : (cuts : List (List RowLine)) → sum_after 1 first cuts ≡ end_sum (said_head h) cuts
  end_is cuts = ap (λ (x : List ℕ). sum_after 1 x cuts) summed

  longer : length rest ≤ length text
  longer = let len = ap (λ (x : List ℕ). length x) starts ∙ length-append (said_head_text h) rest in omega arith

  pub few_cuts : {new : List ℕ} {table : Table} {read : Cuts} (r : ReadsCuts rows first rest new table read) → length r.cuts < 2 ^ 64
  few_cuts r = let few = r.few in let count = r.count in let long = longer in omega arith

  pub broken : {new : List ℕ} {table : Table} {read : Cuts} → ReadsCuts rows first rest new table read → HoldsCut new → HasBrokenCut text (read.count + 1)
  broken {new = new} r holds =
      record {
        head = said_head h;
        cuts = r.cuts;
        rest = new;
        begins = begins new r.cuts r.each r.is (few_cuts r);
        broken = λ c more said follows. r.last c more said follows.number (follows.before ∙ sym (end_is r.cuts));
        holds = holds;
        number = ap (λ (x : ℕ). x + 1) r.count;
      }

  -- the number of cuts before one with a wrong line
  counted : (n : ℕ) (b : List ℕ) (cuts : List (List RowLine)) → length cuts ≤ length (cuts_text n b cuts)
  counted n b [] = omega arith
  counted n b (x ∷ cuts) =
      let more = counted (n + 1) (own_sum (cut_of n b x)) cuts in
      let len = length-append (cut_text (cut_of n b x)) (cuts_text (n + 1) (own_sum (cut_of n b x)) cuts) in
      omega arith

  wrong_line : (cut line : ℕ) → StopsInCut rows first rest cut line → HasWrongLine text cut line
  wrong_line cut line s =
      let w = s.stops in
      let many_cuts = counted 1 first s.cuts in
      let len = ap (λ (x : List ℕ). length x) s.is ∙ length-append (cuts_text 1 first s.cuts) (cut_text s.wrong ++ s.more) in
      let long = longer in
      record {
        head = said_head h;
        cuts = s.cuts;
        rest = cut_text s.wrong ++ s.more;
        more = s.more;
        begins = begins (cut_text s.wrong ++ s.more) s.cuts s.each s.is (omega arith);
        wrong = s.wrong;
        said = s.said;
        next = refl;
        follows = record { number = s.number; before = s.before ∙ end_is s.cuts };
        lines = w.lines;
        left = w.left;
        right = subst (λ (x : ℕ). AreLines x w.lines) many w.right;
        parts = w.parts;
        stops = subst (λ (x : ℕ). StopsAfter x s.wrong w.lines w.left) many w.stops;
        number = w.is ∙ s.number;
        counted = w.counted;
      }

  pub cut_fault : (fault : JournalFault) → IsCutFault rows first rest fault → IsJournalFault text fault
  cut_fault (WrongLine cut line) s = wrong_line cut line s
  cut_fault NotAJournal s = absurd s
  cut_fault (BrokenCut cut) s = absurd s
  cut_fault NoMemory s = tt

  pub folded : {new : List ℕ} {table : Table} {read : Cuts} → ReadsCuts rows first rest new table read → (¬ HoldsCut new) → length table ≡ rows → (export : List ℕ) → export ≡ table_text h.places h.rows table → (whole : ℕ) → whole ≡ length text - length new → (view : FoldView) → view ≡ record { export = export; places = h.places; rows = h.rows; print = h.print.digits; cuts = read.count; whole = whole; sum = read.sum.digits } → IsFold text view
  folded {new = new} {table = table} r torn size export made whole long view is =
      let b = begins new r.cuts r.each r.is (few_cuts r) in
      let len = ap (λ (x : List ℕ). length x) b.is ∙ length-append (journal_text (said_head h) r.cuts) new in
      let all : whole ≡ length (journal_text (said_head h) r.cuts) = omega arith in
      let export_is : export ≡ fold_text h.places h.rows (all_lines r.cuts) =
      made ∙ fold_is h.places h.rows table (all_lines r.cuts) r.table (size ∙ many) in
      let count = r.count in
      let sum : _ ≡ end_sum (said_head h) r.cuts = r.sum ∙ end_is r.cuts in
      record {
        head = said_head h;
        cuts = r.cuts;
        rest = new;
        is = record { begins = b; torn = torn };
        fold = is ∙ rw (export_is, all, count, sum) refl;
      }
