-- Lines of rows, one after another.
use Rattle.std.proofs.Common.{◌≡◌, ℕ, suc, ◌+◌, ◌^◌, ◌<◌, ◌≤◌, Result, Ok, Err, IfOk, OnOk, Bool, true, false, List, [], ◌∷◌, ◌++◌, append_assoc, append-nil, length, length-append, map, Option, Some, None, option_to_list, refl, sym, ap, ◌∙◌, subst, arith}
use Rattle.std.specs.List.{AllByRecursion, cons_option, range_with_len}
use Rattle.std.proofs.lemmas.List.{length-map, map-append}
use Rattle.std.proofs.lemmas.List.Concat.{flat_map-append}
use Rattle.std.proofs.lemmas.List.Elements.{filter_map-append}
use Rattle.std.proofs.lemmas.List.FromFn.{length-range_with_len, map-range_with_len_more}
use Rattle.history_model.specs.declared.entry.Step.{Step}
use Rattle.history_model.specs.declared.entry.Step.TheVariants.{Look, Take, Give, Start, SawRow, Note, Seal, Turn, LostTurn, Close, Met}
use Rattle.history_model.specs.History.{IsLegal}
use Rattle.history_model.specs.Phase.{is_sealed}
use Rattle.history_model.specs.Work.{NoStep}
use Rattle.history_model.proofs.ListLemmas.{All-append}
use Rattle.claim_rule.specs.Calls.{AddsStepsBy}
use Rattle.claim_rule.specs.Desks.{IsOf}
use Rattle.claim_rule.specs.Openings.{KeptBooking}
use Rattle.claim_rule.specs.Out.{AllLooks, IsTidy, KeepsEndings, KeepsHolds, exchanges, is_look}
use Rattle.claim_rule.specs.Rule.{BooksView, DeskView}
use Rattle.claim_rule.proofs.Out.{settled_calm, still_idle, tidy_through}
use Rattle.claim_rule.proofs.Shapes.{shape_none, shape_then}
use Rattle.line_text.specs.Lines.{text_of}
use Rattle.booking_rows.proofs.Looked.{row_looked}
use Rattle.booking_rows.proofs.ViewLemmas.{looks_append}
use Rattle.row_cuts.specs.Lines.{WritesLines, all_kept, kept_line, line_count, line_text}
use Rattle.row_cuts.specs.Looks.{GoesOn, IsRowLook, LooksAt, RowLook, generation_looked, kept_looked, look_steps, looks_steps, phase_looked}

-- all of it are looks

row_look : (l : RowLook) (on : Bool) → GoesOn on l → AllLooks l.after
row_look l true is = row_looked (record { row = l.row; generation = generation_looked l }) l.seen l.after is
row_look l false is = subst AllLooks (sym is.1) tt

all_look : (looks : List RowLook) → AllByRecursion IsRowLook looks → AllLooks (looks_steps looks)
all_look [] all = tt
all_look (l ∷ looks) all =
    looks_append (look_steps l) (looks_steps looks) (refl, row_look l (is_sealed (phase_looked l)) all.0) (all_look looks all.1)

pub looks_of : (rows old new : List ℕ) (count : ℕ) (a b : DeskView) → AddsStepsBy (WritesLines rows old new count) a b → AddsStepsBy AllLooks a b
looks_of rows old new count a b (es, w, did) = (es, subst AllLooks (sym w.steps) (all_look w.looks w.each), did)

pub looks_at : (row : ℕ) (kept : Option KeptBooking) (a b : DeskView) → AddsStepsBy (LooksAt row kept) a b → AddsStepsBy AllLooks a b
looks_at row kept a b (es, (l, is, at, k, steps), did) = (es, subst AllLooks (sym steps) (refl, row_look l (is_sealed (phase_looked l)) is), did)

pub looks_then : (a b c : DeskView) → AddsStepsBy AllLooks a b → AddsStepsBy AllLooks b c → AddsStepsBy AllLooks a c
looks_then a b c (es, all, did) (fs, more, went) = (es ++ fs, looks_append es fs all more, shape_then a b c es fs did went)

pub looks_none : (a : DeskView) → IsLegal a.layout a.seen → AddsStepsBy AllLooks a a
looks_none a legal = ([], tt, shape_none a legal)

calm_look : (st : Step) → is_look st ≡ true → exchanges st ≡ false
calm_look (Look place half shown) is = refl
calm_look (SawRow row word value) is = refl
calm_look (LostTurn row wanted shown) is = refl
calm_look Met is = refl
calm_look (Take row place span) is = refl
calm_look (Give row item) is = refl
calm_look (Start row generation) is = refl
calm_look (Note row word value) is = refl
calm_look (Seal row phase) is = refl
calm_look (Close row) is = refl
calm_look (Turn row from to moment amount successor) is = absurd (let no : false ≡ true = is in cc)

calm_looks : (es : List Step) → AllLooks es → NoStep exchanges es
calm_looks [] all = tt
calm_looks (st ∷ es) all = (calm_look st all.0, calm_looks es all.1)

-- a desk that only looks stays tidy
pub looks_tidy : (books : BooksView) (a b : DeskView) → IsOf books b → AddsStepsBy AllLooks a b → KeepsHolds a b → KeepsEndings a b → IsTidy a → IsTidy b
looks_tidy books a b of (es, all, did) holds endings tidy =
    tidy_through books a b es of did (settled_calm a.number es (calm_looks es all)) tidy (still_idle a b holds endings tidy.0)

-- one row

one_kept : (kept : Option KeptBooking) → cons_option kept [] ≡ option_to_list kept
one_kept None = refl
one_kept (Some k) = refl

pub one_row : (row : ℕ) (kept : Option KeptBooking) (old new : List ℕ) (count : ℕ) (a b : DeskView) → AddsStepsBy (LooksAt row kept) a b → new ≡ old ++ line_text kept → count ≡ line_count kept
    → AddsStepsBy (WritesLines (row ∷ []) old new count) a b
one_row row kept old new count a b (es, (l, is, at, same, steps), did) text counts =
    let all : option_to_list kept ≡ all_kept (l ∷ []) = sym (one_kept kept) ∙ ap (λ (k : Option KeptBooking). cons_option k []) (sym same) in (
      es,
      record {
        looks = l ∷ [];
        each = (is, tt);
        are = ap (λ (r : ℕ). r ∷ []) at;
        steps = steps ∙ sym (append-nil (look_steps l));
        text = text ∙ ap (λ (ks : List KeptBooking). old ++ text_of (map kept_line ks)) all;
        counts = counts ∙ ap (λ (ks : List KeptBooking). length ks) all;
      },
      did,
    )

pub row_result : {E : Type 0} (row : ℕ) (kept : Option KeptBooking) (old new : List ℕ) (result : Result ℕ E) (a b : DeskView) → AddsStepsBy (LooksAt row kept) a b → OnOk result (new ≡ old ++ line_text kept) → IfOk result (λ count. count ≡ line_count kept)
    → IfOk result (λ count. AddsStepsBy (WritesLines (row ∷ []) old new count) a b)
row_result row kept old new (Ok count) a b looks text counts = one_row row kept old new count a b looks text counts
row_result row kept old new (Err e) a b looks text counts = tt

-- a row that has none
pub no_line : (row : ℕ) (text : List ℕ) (a b : DeskView) → AddsStepsBy (LooksAt row None) a b → AddsStepsBy (WritesLines (row ∷ []) text text 0) a b
no_line row text a b looks = one_row row None text text 0 a b looks (sym (append-nil text)) refl

-- rows and then more rows

text_then : (xs ys : List RowLook) → text_of (map kept_line (all_kept (xs ++ ys))) ≡ text_of (map kept_line (all_kept xs)) ++ text_of (map kept_line (all_kept ys))
text_then xs ys =
    ap (λ (ks : List KeptBooking). text_of (map kept_line ks)) (filter_map-append kept_looked xs ys)
    ∙ (ap text_of (map-append kept_line (all_kept xs) (all_kept ys))
    ∙ flat_map-append (λ (line : List ℕ). line ++ 10 ∷ []) (map kept_line (all_kept xs)) (map kept_line (all_kept ys)))

pub lines_then : (xs ys old now new : List ℕ) (n m : ℕ) (a b c : DeskView) → AddsStepsBy (WritesLines xs old now n) a b → AddsStepsBy (WritesLines ys now new m) b c
    → AddsStepsBy (WritesLines (xs ++ ys) old new (n + m)) a c
lines_then xs ys old now new n m a b c (es, p, did) (fs, q, went) = (
  es ++ fs,
  record {
    looks = p.looks ++ q.looks;
    each = All-append IsRowLook p.looks q.looks p.each q.each;
    are = map-append (λ (l : RowLook). l.row) p.looks q.looks ∙ (λ j. p.are j ++ q.are j);
    steps = (λ j. p.steps j ++ q.steps j) ∙ sym (flat_map-append look_steps p.looks q.looks);
    text = q.text ∙ (ap (λ (t : List ℕ). t ++ text_of (map kept_line (all_kept q.looks))) p.text
        ∙ (append_assoc old (text_of (map kept_line (all_kept p.looks))) (text_of (map kept_line (all_kept q.looks)))
        ∙ ap (λ (t : List ℕ). old ++ t) (sym (text_then p.looks q.looks))));
    counts = (λ j. p.counts j + q.counts j)
        ∙ (sym (length-append (all_kept p.looks) (all_kept q.looks)) ∙ ap (λ (ks : List KeptBooking). length ks) (sym (filter_map-append kept_looked p.looks q.looks)));
  },
  shape_then a b c es fs did went,
)

pub lines_none : (text : List ℕ) (a : DeskView) → IsLegal a.layout a.seen → AddsStepsBy (WritesLines [] text text 0) a a
lines_none text a legal =
    ([], record { looks = []; each = tt; are = refl; steps = refl; text = sym (append-nil text); counts = refl }, shape_none a legal)

few_kept : (looks : List RowLook) → length (all_kept looks) ≤ length looks
few_kept [] = omega arith
few_kept (l ∷ looks) = go (kept_looked l) (few_kept looks)
  where
    go : (kept : Option KeptBooking) → length (all_kept looks) ≤ length looks → length (cons_option kept (all_kept looks)) ≤ suc (length looks)
    go None few = omega arith
    go (Some k) few = omega arith

-- no more lines than rows
pub lines_few : (rows old new : List ℕ) (count : ℕ) (a b : DeskView) → AddsStepsBy (WritesLines rows old new count) a b → count ≤ length rows
lines_few rows old new count a b (es, w, did) =
    let few = few_kept w.looks in
    let long : length w.looks ≡ length rows = sym (length-map w.looks (λ (l : RowLook). l.row)) ∙ ap (λ (x : List ℕ). length x) w.are in
    let counts = w.counts in omega arith

pub few_sum : (n m row end : ℕ) → n ≤ row → m ≤ 1 → row < end → end ≤ 262144 → n + m < 2 ^ 64
few_sum n m row end a b c d = omega arith

-- all rows

pub itself : (xs : List ℕ) → map (λ n. n) xs ≡ xs
itself [] = refl
itself (x ∷ xs) = ap (λ (ys : List ℕ). x ∷ ys) (itself xs)

range_more : (n : ℕ) → range_with_len 0 n ++ n ∷ [] ≡ range_with_len 0 (n + 1)
range_more n =
    ap (λ (xs : List ℕ). xs ++ n ∷ []) (sym (itself (range_with_len 0 n)))
    ∙ (sym (map-range_with_len_more (λ n. n) 0 n n (omega arith)) ∙ itself (range_with_len 0 (n + 1)))

pub all_more : (row : ℕ) (old now new : List ℕ) (n m : ℕ) (a b c : DeskView) → AddsStepsBy (WritesLines (range_with_len 0 row) old now n) a b → AddsStepsBy (WritesLines (row ∷ []) now new m) b c
    → AddsStepsBy (WritesLines (range_with_len 0 (row + 1)) old new (n + m)) a c
all_more row old now new n m a b c so more =
    let both = lines_then (range_with_len 0 row) (row ∷ []) old now new n m a b c so more in
    subst (λ (rows : List ℕ). AddsStepsBy (WritesLines rows old new (n + m)) a c) (range_more row) both

pub all_few : (row : ℕ) (old new : List ℕ) (count : ℕ) (a b : DeskView) → AddsStepsBy (WritesLines (range_with_len 0 row) old new count) a b → count ≤ row
all_few row old new count a b so = subst (λ (n : ℕ). count ≤ n) (length-range_with_len 0 row) (lines_few (range_with_len 0 row) old new count a b so)
