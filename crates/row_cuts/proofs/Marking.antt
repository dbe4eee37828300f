-- The lines of rows that are marked.
use Rattle.std.proofs.Common.{◌≡◌, ℕ, zero, suc, ◌+◌, ◌-◌, ◌*◌, ◌/◌, ◌%◌, ◌^◌, ◌<◌, ◌≤◌, ◌==◌, min, Bool, true, false, cond, List, [], ◌∷◌, ◌++◌, filter, get_or, length, map, Result, Ok, Err, IfOk, append_assoc, append-nil, refl, sym, ap, ◌∙◌, subst, arith}
use Rattle.std.specs.List.{range_with_len}
use Rattle.std.proofs.lemmas.Nat.Bits.{bit_at-zero}
use Rattle.std.proofs.lemmas.List.{get_or_append_left, length-append, length-map}
use Rattle.std.proofs.Math.Seq.{get_or-append_seam}
use Rattle.std.proofs.lemmas.List.Elements.{filter-append}
use Rattle.std.proofs.lemmas.List.FromFn.{filter_of_map_range_with_len_more}
use Rattle.history_model.specs.History.{IsLegal}
use Rattle.claim_rule.specs.Calls.{AddsStepsBy}
use Rattle.claim_rule.specs.Out.{AllLooks}
use Rattle.claim_rule.specs.Rule.{DeskView}
use Rattle.row_cuts.specs.Lines.{WritesBlocks, WritesLines, WritesMarked, is_marked, is_set, mark_blocks, marked_rows, set_in, set_in_all}
use Rattle.row_cuts.proofs.Writing.{itself, lines_few, lines_none, lines_then, looks_of}

-- the rows that are set, of a range
abbrev pub set_rows : ℕ → ℕ → ℕ → List ℕ
set_rows marks from to = filter (is_set marks) (range_with_len from (to - from))

-- no row is set in marks of which none is

none_set : (row : ℕ) → is_set 0 row ≡ false
none_set row = ap (λ (n : ℕ). n == 1) (bit_at-zero (row % 64))

none_of : (rows : List ℕ) → filter (is_set 0) rows ≡ []
none_of [] = refl
none_of (row ∷ rows) = ap (λ (t : Bool). cond t (row ∷ filter (is_set 0) rows) (filter (is_set 0) rows)) (none_set row) ∙ none_of rows

pub unmarked : (marks from to : ℕ) (text : List ℕ) (a : DeskView) → marks ≡ 0 → IsLegal a.layout a.seen → AddsStepsBy (WritesLines (set_rows marks from to) text text 0) a a
unmarked marks from to text a nothing legal =
    let empty : [] ≡ set_rows marks from to = sym (ap (λ (m : ℕ). set_rows m from to) nothing ∙ none_of (range_with_len from (to - from))) in
    subst (λ (rows : List ℕ). AddsStepsBy (WritesLines rows text text 0) a a) empty (lines_none text a legal)

-- one row more of a block

few_of : (p : ℕ → Bool) (rows : List ℕ) → length (filter p rows) ≤ length rows
few_of p [] = omega arith
few_of p (row ∷ rows) = go (p row) (few_of p rows)
  where
    go : (t : Bool) → length (filter p rows) ≤ length rows → length (cond t (row ∷ filter p rows) (filter p rows)) ≤ suc (length rows)
    go true few = omega arith
    go false few = omega arith

range_long : (from n : ℕ) → length (range_with_len from n) ≡ n
range_long from zero = refl
range_long from (suc n) = ap suc (range_long (from + 1) n)

pub few_set : (marks from to : ℕ) (old new : List ℕ) (count : ℕ) (a b : DeskView) → from ≤ to → AddsStepsBy (WritesLines (set_rows marks from to) old new count) a b → from + count ≤ to
few_set marks from to old new count a b less so =
    let few = lines_few (set_rows marks from to) old new count a b so in
    let some = few_of (is_set marks) (range_with_len from (to - from)) in
    let long = range_long from (to - from) in omega arith

pub few_one : (t : Bool) (row : ℕ) (old new : List ℕ) (count : ℕ) (a b : DeskView) → AddsStepsBy (WritesLines (cond t (row ∷ []) []) old new count) a b → count ≤ 1
few_one true row old new count a b so = lines_few (row ∷ []) old new count a b so
few_one false row old new count a b so = let none = lines_few [] old new count a b so in omega arith

row_more : (marks from row : ℕ) → from ≤ row → set_rows marks from row ++ cond (is_set marks row) (row ∷ []) [] ≡ set_rows marks from (row + 1)
row_more marks from row low =
    let n = row - from in
    let at : from + n ≡ row = omega arith in
    let long : n + 1 ≡ row + 1 - from = omega arith in
    let more = filter_of_map_range_with_len_more (is_set marks) (λ (k : ℕ). k) from n row at in
    ap (λ (rows : List ℕ). filter (is_set marks) rows ++ cond (is_set marks row) (row ∷ []) []) (sym (itself (range_with_len from n)))
    ∙ (sym more ∙ (ap (filter (is_set marks)) (itself (range_with_len from (n + 1)))
    ∙ ap (λ (k : ℕ). filter (is_set marks) (range_with_len from k)) long))

pub set_then : (marks from row : ℕ) (t : Bool) (old now new : List ℕ) (n m : ℕ) (a b c : DeskView) → from ≤ row → t ≡ is_set marks row → AddsStepsBy (WritesLines (set_rows marks from row) old now n) a b
    → AddsStepsBy (WritesLines (cond t (row ∷ []) []) now new m) b c → AddsStepsBy (WritesLines (set_rows marks from (row + 1)) old new (n + m)) a c
set_then marks from row t old now new n m a b c low is so more =
    let both = lines_then (set_rows marks from row) (cond t (row ∷ []) []) old now new n m a b c so more in
    let rows : set_rows marks from row ++ cond t (row ∷ []) [] ≡ set_rows marks from (row + 1) =
    ap (λ (x : Bool). set_rows marks from row ++ cond x (row ∷ []) []) is ∙ row_more marks from row low in
    subst (λ (xs : List ℕ). AddsStepsBy (WritesLines xs old new (n + m)) a c) rows both

pub none_yet : (marks from : ℕ) (text : List ℕ) (a : DeskView) → IsLegal a.layout a.seen → AddsStepsBy (WritesLines (set_rows marks from from) text text 0) a a
none_yet marks from text a legal =
    let none : 0 ≡ from - from = omega arith in
    subst (λ (n : ℕ). AddsStepsBy (WritesLines (filter (is_set marks) (range_with_len from n)) text text 0) a a) none (lines_none text a legal)

-- one block more

range_then : (from n at m : ℕ) → from + n ≡ at → range_with_len from n ++ range_with_len at m ≡ range_with_len from (n + m)
range_then from zero at m is =
    let same : at ≡ from = omega arith in
    let all : m ≡ zero + m = omega arith in
    ap (λ (k : ℕ). range_with_len k m) same ∙ ap (range_with_len from) all
range_then from (suc n) at m is =
    let next : from + 1 + n ≡ at = omega arith in
    let all : suc (n + m) ≡ suc n + m = omega arith in
    ap (λ (rows : List ℕ). from ∷ rows) (range_then (from + 1) n at m next) ∙ ap (range_with_len from) all

same_of : (p q : ℕ → Bool) (from n : ℕ) → ((row : ℕ) → from ≤ row → row < from + n → p row ≡ q row) → filter p (range_with_len from n) ≡ filter q (range_with_len from n)
same_of p q from zero same = refl
same_of p q from (suc n) same =
    let rest = same_of p q (from + 1) n (λ row low high. same row (omega arith) (omega arith)) in
    λ j. cond (same from (omega arith) (omega arith) j) (from ∷ rest j) (rest j)

block_is : (all : List ℕ) (block n : ℕ) → n ≤ 64 → filter (is_marked all) (range_with_len (64 * block) n) ≡ filter (is_set (get_or all block 0)) (range_with_len (64 * block) n)
block_is all block n few =
    same_of (is_marked all) (is_set (get_or all block 0)) (64 * block) n (λ row low high.
    let at : row / 64 ≡ block = omega arith in ap (λ (k : ℕ). is_set (get_or all k 0) row) at)

block_more : (all : List ℕ) (block rows : ℕ) → 64 * block ≤ rows
    → marked_rows (min (64 * block) rows) all ++ set_rows (get_or all block 0) (64 * block) (min (64 * block + 64) rows) ≡ marked_rows (min (64 * (block + 1)) rows) all
block_more all block rows low =
    let n = 64 * block in
    let m = min (64 * block + 64) rows - 64 * block in
    let few : m ≤ 64 = omega arith in
    let begins : min (64 * block) rows ≡ n = omega arith in
    let ends : n + m ≡ min (64 * (block + 1)) rows = omega arith in
    let start : 0 + n ≡ n = omega arith in
    ap (λ (k : ℕ). marked_rows k all ++ set_rows (get_or all block 0) (64 * block) (min (64 * block + 64) rows)) begins
    ∙ (ap (λ (xs : List ℕ). marked_rows n all ++ xs) (sym (block_is all block m few))
    ∙ (sym (filter-append (is_marked all) (range_with_len 0 n) (range_with_len n m))
    ∙ (ap (filter (is_marked all)) (range_then 0 n n m start)
    ∙ ap (λ (k : ℕ). marked_rows k all) ends)))

-- marks of a later block change nothing of the rows before it
marked_more : (marks : List ℕ) (mark block rows : ℕ) → length marks ≡ block
    → marked_rows (min (64 * block) rows) marks ≡ marked_rows (min (64 * block) rows) (marks ++ mark ∷ [])
marked_more marks mark block rows many =
    same_of (is_marked marks) (is_marked (marks ++ mark ∷ [])) 0 (min (64 * block) rows) (λ row low high.
    let at : row / 64 < length marks = omega (arith, many, high) in
    ap (λ (k : ℕ). is_set k row) (sym (get_or_append_left marks (mark ∷ []) 0 (row / 64) at)))

-- several blocks, each with its marks

set_append : (rows : ℕ) (xs ys ms ns : List ℕ) → length ms ≡ length xs → set_in_all rows (xs ++ ys) (ms ++ ns) ≡ set_in_all rows xs ms ++ set_in_all rows ys ns
set_append rows [] ys [] ns long = refl
set_append rows [] ys (m ∷ ms) ns long = absurd (let l : suc (length ms) ≡ 0 = long in omega arith)
set_append rows (x ∷ xs) ys [] ns long = absurd (let l : 0 ≡ suc (length xs) = long in omega arith)
set_append rows (x ∷ xs) ys (m ∷ ms) ns long =
    let l : suc (length ms) ≡ suc (length xs) = long in
    ap (λ (zs : List ℕ). set_in rows x m ++ zs) (set_append rows xs ys ms ns (omega arith))
    ∙ sym (append_assoc (set_in rows x m) (set_in_all rows xs ms) (set_in_all rows ys ns))

pub blocks_then : (rows : ℕ) (xs ys old now new : List ℕ) (n m : ℕ) (a b c : DeskView) → AddsStepsBy (WritesBlocks rows xs old now n) a b → AddsStepsBy (WritesBlocks rows ys now new m) b c
    → AddsStepsBy (WritesBlocks rows (xs ++ ys) old new (n + m)) a c
blocks_then rows xs ys old now new n m a b c (es, p, did) (fs, q, went) =
    let both = lines_then (set_in_all rows xs p.marks) (set_in_all rows ys q.marks) old now new n m a b c (es, p.writes, did) (fs, q.writes, went) in (
      both.0,
      record {
        marks = p.marks ++ q.marks;
        each = length-append p.marks q.marks ∙ ((λ j. p.each j + q.each j) ∙ sym (length-append xs ys));
        writes = subst (λ (rs : List ℕ). WritesLines rs old new (n + m) both.0) (sym (set_append rows xs ys p.marks q.marks p.each)) both.1;
      },
      both.2,
    )

pub blocks_look : (rows : ℕ) (blocks old new : List ℕ) (count : ℕ) (a b : DeskView) → AddsStepsBy (WritesBlocks rows blocks old new count) a b → AddsStepsBy AllLooks a b
blocks_look rows blocks old new count a b (es, w, did) = looks_of (set_in_all rows blocks w.marks) old new count a b (es, w.writes, did)

few_set_in : (rows : ℕ) (blocks marks : List ℕ) → length (set_in_all rows blocks marks) ≤ 64 * length blocks
few_set_in rows [] marks = omega arith
few_set_in rows (b ∷ bs) [] = omega arith
few_set_in rows (b ∷ bs) (m ∷ ms) =
    let size = min (64 * b + 64) rows - 64 * b in
    let small : size ≤ 64 = omega arith in
    let joined = length-append (set_in rows b m) (set_in_all rows bs ms) in
    let some = few_of (is_set m) (range_with_len (64 * b) size) in
    let long = range_long (64 * b) size in
    let rest = few_set_in rows bs ms in omega arith

-- at most 64 lines a block
pub few_of_blocks : (rows from n : ℕ) (old new : List ℕ) (count : ℕ) (a b : DeskView) → AddsStepsBy (WritesBlocks rows (range_with_len from n) old new count) a b → count ≤ 64 * n
few_of_blocks rows from n old new count a b (es, w, did) =
    let few = lines_few (set_in_all rows (range_with_len from n) w.marks) old new count a b (es, w.writes, did) in
    let most = few_set_in rows (range_with_len from n) w.marks in
    let long = range_long from n in omega arith

pub few_of_block : (rows block : ℕ) (old new : List ℕ) (count : ℕ) (a b : DeskView) → AddsStepsBy (WritesBlocks rows (block ∷ []) old new count) a b → count ≤ 64
few_of_block rows block old new count a b so = few_of_blocks rows block 1 old new count a b so

none_in : (rows : ℕ) (blocks : List ℕ) → set_in_all rows blocks (map (λ _. 0) blocks) ≡ []
none_in rows [] = refl
none_in rows (b ∷ bs) =
    ap (λ (zs : List ℕ). zs ++ set_in_all rows bs (map (λ _. 0) bs)) (none_of (range_with_len (64 * b) (min (64 * b + 64) rows - 64 * b))) ∙ none_in rows bs

-- blocks of which none is marked
pub blocks_none : (rows : ℕ) (blocks text : List ℕ) (a : DeskView) → IsLegal a.layout a.seen → AddsStepsBy (WritesBlocks rows blocks text text 0) a a
blocks_none rows blocks text a legal =
    let none = lines_none text a legal in (
      none.0,
      record {
        marks = map (λ _. 0) blocks;
        each = length-map blocks (λ _. 0);
        writes = subst (λ (rs : List ℕ). WritesLines rs text text 0 none.0) (sym (none_in rows blocks)) none.1;
      },
      none.2,
    )

pub one_block : (rows block mark : ℕ) (old new : List ℕ) (n : ℕ) (a b : DeskView) → AddsStepsBy (WritesLines (set_rows mark (64 * block) (min (64 * block + 64) rows)) old new n) a b
    → AddsStepsBy (WritesBlocks rows (block ∷ []) old new n) a b
one_block rows block mark old new n a b (es, w, did) = (
  es,
  record {
    marks = mark ∷ [];
    each = refl;
    writes = subst (λ (rs : List ℕ). WritesLines rs old new n es) (sym (append-nil (set_in rows block mark))) w;
  },
  did,
)

pub block_result : {E : Type 0} (rows block mark : ℕ) (old new : List ℕ) (result : Result ℕ E) (a b : DeskView)
    → IfOk result (λ count. AddsStepsBy (WritesLines (set_rows mark (64 * block) (min (64 * block + 64) rows)) old new count) a b)
    → IfOk result (λ count. AddsStepsBy (WritesBlocks rows (block ∷ []) old new count) a b)
block_result rows block mark old new (Ok count) a b so = one_block rows block mark old new count a b so
block_result rows block mark old new (Err e) a b so = tt

-- one block more of a group, and one group more of all
pub block_then : (rows from block : ℕ) (old now new : List ℕ) (n m : ℕ) (a b c : DeskView) → from ≤ block → AddsStepsBy (WritesBlocks rows (range_with_len from (block - from)) old now n) a b
    → AddsStepsBy (WritesBlocks rows (block ∷ []) now new m) b c → AddsStepsBy (WritesBlocks rows (range_with_len from (block + 1 - from)) old new (n + m)) a c
block_then rows from block old now new n m a b c low so more =
    let at : from + (block - from) ≡ block = omega arith in
    let long : block - from + 1 ≡ block + 1 - from = omega arith in
    let blocks : range_with_len from (block - from) ++ block ∷ [] ≡ range_with_len from (block + 1 - from) =
    range_then from (block - from) block 1 at ∙ ap (range_with_len from) long in
    subst (λ (xs : List ℕ). AddsStepsBy (WritesBlocks rows xs old new (n + m)) a c) blocks
    (blocks_then rows (range_with_len from (block - from)) (block ∷ []) old now new n m a b c so more)

pub group_then : (rows blocks group : ℕ) (old now new : List ℕ) (n m : ℕ) (a b c : DeskView) → 64 * group ≤ blocks → AddsStepsBy (WritesBlocks rows (range_with_len 0 (min (64 * group) blocks)) old now n) a b
    → AddsStepsBy (WritesBlocks rows (range_with_len (64 * group) (min (64 * group + 64) blocks - 64 * group)) now new m) b c
    → AddsStepsBy (WritesBlocks rows (range_with_len 0 (min (64 * (group + 1)) blocks)) old new (n + m)) a c
group_then rows blocks group old now new n m a b c low so more =
    let k = min (64 * group) blocks in
    let size = min (64 * group + 64) blocks - 64 * group in
    let at : 0 + k ≡ 64 * group = omega arith in
    let long : k + size ≡ min (64 * (group + 1)) blocks = omega arith in
    let all : range_with_len 0 k ++ range_with_len (64 * group) size ≡ range_with_len 0 (min (64 * (group + 1)) blocks) =
    range_then 0 k (64 * group) size at ∙ ap (range_with_len 0) long in
    subst (λ (xs : List ℕ). AddsStepsBy (WritesBlocks rows xs old new (n + m)) a c) all
    (blocks_then rows (range_with_len 0 k) (range_with_len (64 * group) size) old now new n m a b c so more)

-- the rows of all blocks are all that are marked
set_all : (rows block : ℕ) (before marks : List ℕ) → length before ≡ block → block + length marks ≤ mark_blocks rows
    → marked_rows (min (64 * block) rows) before ++ set_in_all rows (range_with_len block (length marks)) marks ≡ marked_rows (min (64 * (block + length marks)) rows) (before ++ marks)
set_all rows block before [] many few =
    let same : block ≡ block + 0 = omega arith in
    append-nil (marked_rows (min (64 * block) rows) before) ∙ (λ j. marked_rows (min (64 * same j) rows) (sym (append-nil before) j))
set_all rows block before (m ∷ ms) many few =
    let all = before ++ m ∷ [] in
    let front = marked_rows (min (64 * block) rows) before in
    let here = set_in rows block m in
    let rest = set_in_all rows (range_with_len (block + 1) (length ms)) ms in
    let low : 64 * block ≤ rows = omega arith in
    let last : get_or all block 0 ≡ m = subst (λ (k : ℕ). get_or all k 0 ≡ m) many (get_or-append_seam before m [] 0) in
    let joined = length-append before (m ∷ []) in
    let long : length all ≡ block + 1 = omega (arith, joined, many) in
    let more : block + 1 + length ms ≤ mark_blocks rows = omega arith in
    let next : block + 1 + length ms ≡ block + suc (length ms) = omega arith in
    let step : front ++ here ≡ marked_rows (min (64 * (block + 1)) rows) all =
    (λ j. marked_more before m block rows many j ++ set_in rows block (sym last j)) ∙ block_more all block rows low in
    sym (append_assoc front here rest)
    ∙ (ap (λ (xs : List ℕ). xs ++ rest) step
    ∙ (set_all rows (block + 1) all ms long more
    ∙ (λ j. marked_rows (min (64 * next j) rows) (append_assoc before (m ∷ []) ms j))))

pub all_marked : (rows blocks : ℕ) (old new : List ℕ) (n : ℕ) (a b : DeskView) → blocks ≡ mark_blocks rows → AddsStepsBy (WritesBlocks rows (range_with_len 0 blocks) old new n) a b
    → AddsStepsBy (WritesMarked rows old new n) a b
all_marked rows blocks old new n a b is (es, w, did) =
    let counted : length w.marks ≡ blocks = w.each ∙ range_long 0 blocks in
    let many : length w.marks ≡ mark_blocks rows = counted ∙ is in
    let few : 0 + length w.marks ≤ mark_blocks rows = omega (arith, many) in
    let none : min (64 * 0) rows ≡ 0 = omega arith in
    let whole : min (64 * (0 + length w.marks)) rows ≡ rows = omega (arith, many) in
    let all : set_in_all rows (range_with_len 0 blocks) w.marks ≡ marked_rows rows w.marks =
    ap (λ (k : ℕ). set_in_all rows (range_with_len 0 k) w.marks) (sym counted)
    ∙ (ap (λ (k : ℕ). marked_rows k [] ++ set_in_all rows (range_with_len 0 (length w.marks)) w.marks) (sym none)
    ∙ (set_all rows 0 [] w.marks refl few
    ∙ ap (λ (k : ℕ). marked_rows k w.marks) whole)) in
    (es, record { marks = w.marks; blocks = many; writes = subst (λ (rs : List ℕ). WritesLines rs old new n es) all w.writes }, did)

pub few_sum_block : (start n m row end rows : ℕ) → start + n ≤ row → m ≤ 1 → row < end → end ≡ min (start + 64) rows → rows ≤ 262144 → n + m < 2 ^ 64
few_sum_block start n m row end rows a b c d e = omega arith

pub few_sum_blocks : (start n m block end blocks rows : ℕ) → n ≤ 64 * (block - start) → m ≤ 64 → block < end → end ≡ min (start + 64) blocks → blocks ≡ mark_blocks rows → rows ≤ 262144
    → n + m < 2 ^ 64
few_sum_blocks start n m block end blocks rows a b c d e f = omega arith

pub few_sum_groups : (n m group blocks rows : ℕ) → n ≤ 64 * min (64 * group) blocks → m ≤ 64 * (min (64 * group + 64) blocks - 64 * group) → blocks ≡ mark_blocks rows → rows ≤ 262144 → n + m < 2 ^ 64
few_sum_groups n m group blocks rows a b c d = omega arith
