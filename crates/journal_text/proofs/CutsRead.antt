-- The cuts of a journal, read one by one.
use Rattle.std.proofs.Common.{◌≡◌, ℕ, ◌+◌, ◌≤◌, List, [], ◌∷◌, ◌++◌, Some, None, length, refl, sym, ap, subst, ◌∙◌, arith, append_assoc, append-nil}
use Rattle.std.proofs.lemmas.List.{length-append}
use Rattle.std.specs.List.{AllByRecursion}
use Rattle.journal_text.specs.declared.cut.Cut.{Cut}
use Rattle.journal_text.specs.declared.fault.JournalFault.{JournalFault}
use Rattle.journal_text.specs.declared.fault.JournalFault.TheVariants.{BrokenCut, NoMemory, NotAJournal, WrongLine}
use Rattle.journal_text.specs.declared.folded.Cuts.{Cuts}
use Rattle.journal_text.specs.Folds.{all_lines}
use Rattle.journal_text.specs.Reads.{ReadsNext, said_cut}
use Rattle.journal_text.specs.Rooms.{IsCutFault, IsLineFault, IsTable, IsWrongIn, PutsLines, ReadsCuts, Table}
use Rattle.journal_text.specs.Texts.{AreLines, RowLine, SaidCut, cut_of, cut_text, cuts_text, own_sum, sum_after}

pub cuts_more : (n : ℕ) (b : List ℕ) (cuts : List (List RowLine)) (lines : List RowLine) → cuts_text n b (cuts ++ lines ∷ []) ≡ cuts_text n b cuts ++ cut_text (cut_of (n + length cuts) (sum_after n b cuts) lines)
cuts_more n b [] lines =
    let e : n + 0 ≡ n = omega arith in
    append-nil (cut_text (cut_of n b lines)) ∙ ap (λ (x : ℕ). cut_text (cut_of x b lines)) (sym e)
cuts_more n b (x ∷ cuts) lines =
    let e : (n + 1) + length cuts ≡ n + length (x ∷ cuts) = omega arith in
    let own = own_sum (cut_of n b x) in
    ap (λ (y : List ℕ). cut_text (cut_of n b x) ++ y) (cuts_more (n + 1) own cuts lines)
    ∙ (ap (λ (y : ℕ). cut_text (cut_of n b x) ++ (cuts_text (n + 1) own cuts ++ cut_text (cut_of y (sum_after (n + 1) own cuts) lines))) e
    ∙ sym (append_assoc (cut_text (cut_of n b x)) (cuts_text (n + 1) own cuts) (cut_text (cut_of (n + length (x ∷ cuts)) (sum_after (n + 1) own cuts) lines))))

pub sum_more : (n : ℕ) (b : List ℕ) (cuts : List (List RowLine)) (lines : List RowLine) → sum_after n b (cuts ++ lines ∷ []) ≡ own_sum (cut_of (n + length cuts) (sum_after n b cuts) lines)
sum_more n b [] lines =
    let e : n + 0 ≡ n = omega arith in ap (λ (x : ℕ). own_sum (cut_of x b lines)) (sym e)
sum_more n b (x ∷ cuts) lines =
    let e : (n + 1) + length cuts ≡ n + length (x ∷ cuts) = omega arith in
    let own = own_sum (cut_of n b x) in
    sum_more (n + 1) own cuts lines ∙ ap (λ (y : ℕ). own_sum (cut_of y (sum_after (n + 1) own cuts) lines)) e

lines_more : (cuts : List (List RowLine)) (lines : List RowLine) → all_lines (cuts ++ lines ∷ []) ≡ all_lines cuts ++ lines
lines_more [] lines = append-nil lines
lines_more (x ∷ cuts) lines = ap (λ (y : List RowLine). x ++ y) (lines_more cuts lines) ∙ sym (append_assoc x (all_lines cuts) lines)

each_more : (P : List RowLine → Type 0) (a : List (List RowLine)) (l : List RowLine) → AllByRecursion P a → P l → AllByRecursion P (a ++ l ∷ [])
each_more P [] l h p = (p, tt)
each_more P (x ∷ a) l h p = (h.0, each_more P a l h.1 p)

pub record AreRead (rows : ℕ) (first old rest : List ℕ) (table : Table) (count : ℕ) (sum : List ℕ) : Type 0 where
  pub cuts : List (List RowLine)
  pub each : AllByRecursion (AreLines rows) cuts
  pub is : old ≡ cuts_text 1 first cuts ++ rest
  pub counted : count ≡ length cuts
  pub summed : sum ≡ sum_after 1 first cuts
  pub lasts : IsTable (all_lines cuts) table
  pub same : length table ≡ rows
  pub room : count + length rest ≤ length old

pub at_start : (first old : List ℕ) (table : Table) → IsTable [] table → AreRead (length table) first old old table 0 first
at_start first old table t =
    record { cuts = []; each = tt; is = refl; counted = refl; summed = refl; lasts = t; same = refl; room = omega arith }

abbrev pub IsShorter : List ℕ → List ℕ → Type 0
IsShorter new old = length new + 1 ≤ length old

pub shorter : (c : SaidCut) (new old : List ℕ) → old ≡ cut_text c ++ new → IsShorter new old
shorter c new old is =
    let len = ap (λ (x : List ℕ). length x) is ∙ length-append (cut_text c) new in omega arith

said_is : (c : SaidCut) (number : ℕ) (before : List ℕ) (rows : ℕ) (old new : Table) (p : PutsLines old c new) → c.number ≡ number → c.before ≡ before → c ≡ cut_of number before p.lines
said_is c number before rows old new p n b = rw (← n, ← b, ← p.count, ← p.body) refl

pub step : (rows : ℕ) (first old rest new : List ℕ) (table after : Table) (count : ℕ) (sum : List ℕ) (k : Cut) → AreRead rows first old rest table count sum → ReadsNext (count + 1) sum rest new (Some k) → PutsLines table (said_cut k) after → length after ≡ length table → AreRead rows first old new after k.number k.sum.digits
step rows first old rest new table after count sum k p r put len =
    let f = r.found in
    let number : k.number ≡ 1 + length p.cuts = let c = p.counted in let n = f.3 in omega arith in
    let said : said_cut k ≡ cut_of (1 + length p.cuts) (sum_after 1 first p.cuts) put.lines =
    said_is (said_cut k) (1 + length p.cuts) (sum_after 1 first p.cuts) rows table after put number (f.4 ∙ p.summed) in
    let same = p.same in
    let counted = p.counted in
    let room = p.room in
    let short = shorter (said_cut k) new rest f.1 in
    let many = length-append p.cuts (put.lines ∷ []) in
    record {
      cuts = p.cuts ++ put.lines ∷ [];
      each = each_more (AreLines rows) p.cuts put.lines p.each (subst (λ (x : ℕ). AreLines x put.lines) p.same put.are);
      is = p.is
          ∙ (ap (λ (x : List ℕ). cuts_text 1 first p.cuts ++ x) (f.1 ∙ ap (λ (x : SaidCut). cut_text x ++ new) said)
          ∙ (sym (append_assoc (cuts_text 1 first p.cuts) (cut_text (cut_of (1 + length p.cuts) (sum_after 1 first p.cuts) put.lines)) new)
          ∙ ap (λ (x : List ℕ). x ++ new) (sym (cuts_more 1 first p.cuts put.lines))));
      counted = omega arith;
      summed = f.2 ∙ (ap own_sum said ∙ sym (sum_more 1 first p.cuts put.lines));
      lasts = subst (λ (x : List RowLine). IsTable x after) (sym (lines_more p.cuts put.lines)) (put.table (all_lines p.cuts) p.lasts);
      same = len ∙ same;
      room = omega arith;
    }

pub all_read : (rows : ℕ) (first old rest new : List ℕ) (table : Table) (read : Cuts) → AreRead rows first old rest table read.count read.sum.digits → ReadsNext (read.count + 1) read.sum.digits rest new None → new ≡ rest → ReadsCuts rows first old new table read
all_read rows first old rest new table read p r same =
    record {
      cuts = p.cuts;
      each = p.each;
      is = p.is ∙ ap (λ (x : List ℕ). cuts_text 1 first p.cuts ++ x) (sym same);
      count = p.counted;
      sum = p.summed;
      table = p.lasts;
      few = let room = p.room in let len = ap (λ (x : List ℕ). length x) same in omega arith;
      last = λ c more is number before at.
          (r.only c more is (number ∙ ap (λ (x : ℕ). x + 1) (sym p.counted)) (before ∙ sym p.summed) (sym same ∙ at)).0;
    }

pub stops : (rows : ℕ) (first old rest new : List ℕ) (table : Table) (count : ℕ) (sum : List ℕ) (k : Cut) (fault : JournalFault) → AreRead rows first old rest table count sum → ReadsNext (count + 1) sum rest new (Some k) → IsLineFault (length table) (said_cut k) fault → IsCutFault rows first old fault
stops rows first old rest new table count sum k (WrongLine cut line) p r wrong =
    let f = r.found in
    record {
      cuts = p.cuts;
      each = p.each;
      wrong = said_cut k;
      said = f.0;
      more = new;
      is = p.is ∙ ap (λ (x : List ℕ). cuts_text 1 first p.cuts ++ x) f.1;
      number = f.3 ∙ ap (λ (x : ℕ). x + 1) p.counted;
      before = f.4 ∙ p.summed;
      stops = subst (λ (x : ℕ). IsWrongIn x (said_cut k) cut line) p.same wrong;
    }
stops rows first old rest new table count sum k NotAJournal p r wrong = wrong
stops rows first old rest new table count sum k (BrokenCut cut) p r wrong = wrong
stops rows first old rest new table count sum k NoMemory p r wrong = wrong
