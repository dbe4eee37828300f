-- What a count of rows has counted, and seen, up to a row.
use Rattle.std.proofs.Common.{◌≡◌, ◌≢◌, ℕ, suc, ◌+◌, ◌/◌, ◌≤◌, Bool, true, false, cond, List, [], ◌∷◌, ◌++◌, length, length-append, max, refl, sym, ap, ◌∙◌, subst, arith, add-zero}
use Rattle.std.proofs.lemmas.List.Sums.{count_by-le-length, sum_by-append}
use Rattle.history_model.specs.declared.entry.Step.{Step}
use Rattle.history_model.specs.declared.entry.Step.TheVariants.{SawRow}
use Rattle.history_model.specs.declared.phase.Phase.{Phase}
use Rattle.history_model.specs.declared.phase.Phase.TheVariants.{Free, Making, Prebooked, Confirmed, Fulfilled, Ending, Ended}
use Rattle.history_model.specs.History.{IsLegal}
use Rattle.history_model.specs.Phase.{generation_words}
use Rattle.claim_rule.specs.Rule.{BooksView, DeskView}
use Rattle.claim_rule.specs.Desks.{AddsSteps, IsOf, Stepped}
use Rattle.claim_rule.specs.Calls.{AddsStepsBy}
use Rattle.claim_rule.specs.Out.{AllLooks, IsTidy, KeepsEndings, KeepsHolds}
use Rattle.claim_rule.proofs.Shapes.{shape_none, shape_then, step_shape}
use Rattle.row_cuts.specs.declared.counts.RowCount.{RowCount}
use Rattle.row_cuts.specs.Counts.{AreFew, CountsRows, IsCountOf, ShowsRow, generation_by, generation_in, greatest_in, has_ended, how_many, is_confirmed, is_ending, is_free, is_fulfilled, is_making, is_prebooked, phase_in, standing_looks, with_row}
use Rattle.row_cuts.proofs.Writing.{looks_tidy}

-- what one look shows

pub shown_free : (row n : ℕ) (a b : DeskView) → Stepped (SawRow row 0 n) a b → phase_in n ≡ Free → AddsStepsBy (ShowsRow row Free 0) a b
shown_free row n a b did free =
    (SawRow row 0 n ∷ [], (n, free, ap (λ (p : Phase). generation_by p n) free, refl), step_shape (SawRow row 0 n) a b did)

sealed_generation : (phase : Phase) (n : ℕ) → phase ≢ Free → generation_by phase n ≡ n / generation_words
sealed_generation Free n not = absurd (not refl)
sealed_generation Making n not = refl
sealed_generation Prebooked n not = refl
sealed_generation Confirmed n not = refl
sealed_generation Fulfilled n not = refl
sealed_generation (Ending kind) n not = refl
sealed_generation (Ended kind) n not = refl

pub shown_used : (row n generation : ℕ) (phase : Phase) (a b : DeskView) → Stepped (SawRow row 0 n) a b → phase_in n ≡ phase → n / generation_words ≡ generation → phase ≢ Free
    → AddsStepsBy (ShowsRow row phase generation) a b
shown_used row n generation phase a b did said counted not =
    (SawRow row 0 n ∷ [], (n, said, ap (λ (p : Phase). generation_by p n) said ∙ (sealed_generation phase n not ∙ counted), refl), step_shape (SawRow row 0 n) a b did)

-- one look more

looks_more : (row : ℕ) (words : List ℕ) (w : ℕ) → standing_looks row (words ++ w ∷ []) ≡ standing_looks row words ++ SawRow (row + length words) 0 w ∷ []
looks_more row [] w = ap (λ (r : ℕ). SawRow r 0 w ∷ []) (sym (add-zero row))
looks_more row (x ∷ words) w =
    ap (λ (es : List Step). SawRow row 0 x ∷ es) (looks_more (suc row) words w
    ∙ ap (λ (r : ℕ). standing_looks (suc row) words ++ SawRow r 0 w ∷ []) (moved row (length words)))
  where
    moved : (r n : ℕ) → suc r + n ≡ r + suc n
    moved r n = omega arith

are_looks : (row : ℕ) (words : List ℕ) → AllLooks (standing_looks row words)
are_looks row [] = tt
are_looks row (w ∷ words) = (refl, are_looks (suc row) words)

-- one word more is in one phase

one_word : (is : Phase → Bool) (words : List ℕ) (w : ℕ) → how_many is (words ++ w ∷ []) ≡ how_many is words + cond (is (phase_in w)) 1 0
one_word is words w =
    sum_by-append (λ (x : ℕ). cond (is (phase_in x)) 1 0) words (w ∷ [])
    ∙ ap (λ (n : ℕ). how_many is words + n) (alone (cond (is (phase_in w)) 1 0))
  where
    alone : (n : ℕ) → 0 + n ≡ n
    alone n = omega arith

yes : (is : Phase → Bool) (words : List ℕ) (w : ℕ) (n : ℕ) → is (phase_in w) ≡ true → n ≡ how_many is words → n + 1 ≡ how_many is (words ++ w ∷ [])
yes is words w n so counts = ap (λ (k : ℕ). k + 1) counts ∙ (ap (λ (t : Bool). how_many is words + cond t 1 0) (sym so) ∙ sym (one_word is words w))

no : (is : Phase → Bool) (words : List ℕ) (w : ℕ) (n : ℕ) → is (phase_in w) ≡ false → n ≡ how_many is words → n ≡ how_many is (words ++ w ∷ [])
no is words w n so counts = counts ∙ (sym (add-zero (how_many is words)) ∙ (ap (λ (t : Bool). how_many is words + cond t 1 0) (sym so) ∙ sym (one_word is words w)))

swapped : (a b c : ℕ) → max a (max b c) ≡ max b (max a c)
swapped a b c = omega arith

greatest_more : (words : List ℕ) (w : ℕ) → greatest_in (words ++ w ∷ []) ≡ max (generation_in w) (greatest_in words)
greatest_more [] w = refl
greatest_more (x ∷ words) w =
    ap (λ (n : ℕ). max (generation_in x) n) (greatest_more words w) ∙ swapped (generation_in x) (generation_in w) (greatest_in words)

greatest : (words : List ℕ) (w n : ℕ) → n ≡ greatest_in words → max (generation_in w) n ≡ greatest_in (words ++ w ∷ [])
greatest words w n is = ap (λ (k : ℕ). max (generation_in w) k) is ∙ sym (greatest_more words w)

count_more : (words : List ℕ) (w : ℕ) (phase : Phase) (n : RowCount) → phase_in w ≡ phase → IsCountOf words n → IsCountOf (words ++ w ∷ []) (with_row phase (generation_in w) n)
count_more words w Free n so c = record {
  never_used = yes is_free words w n.never_used (ap is_free so) c.never_used;
  making = no is_making words w n.making (ap is_making so) c.making;
  prebooked = no is_prebooked words w n.prebooked (ap is_prebooked so) c.prebooked;
  confirmed = no is_confirmed words w n.confirmed (ap is_confirmed so) c.confirmed;
  fulfilled = no is_fulfilled words w n.fulfilled (ap is_fulfilled so) c.fulfilled;
  ending = no is_ending words w n.ending (ap is_ending so) c.ending;
  ended = no has_ended words w n.ended (ap has_ended so) c.ended;
  greatest = greatest words w n.greatest_generation c.greatest;
}
count_more words w Making n so c = record {
  never_used = no is_free words w n.never_used (ap is_free so) c.never_used;
  making = yes is_making words w n.making (ap is_making so) c.making;
  prebooked = no is_prebooked words w n.prebooked (ap is_prebooked so) c.prebooked;
  confirmed = no is_confirmed words w n.confirmed (ap is_confirmed so) c.confirmed;
  fulfilled = no is_fulfilled words w n.fulfilled (ap is_fulfilled so) c.fulfilled;
  ending = no is_ending words w n.ending (ap is_ending so) c.ending;
  ended = no has_ended words w n.ended (ap has_ended so) c.ended;
  greatest = greatest words w n.greatest_generation c.greatest;
}
count_more words w Prebooked n so c = record {
  never_used = no is_free words w n.never_used (ap is_free so) c.never_used;
  making = no is_making words w n.making (ap is_making so) c.making;
  prebooked = yes is_prebooked words w n.prebooked (ap is_prebooked so) c.prebooked;
  confirmed = no is_confirmed words w n.confirmed (ap is_confirmed so) c.confirmed;
  fulfilled = no is_fulfilled words w n.fulfilled (ap is_fulfilled so) c.fulfilled;
  ending = no is_ending words w n.ending (ap is_ending so) c.ending;
  ended = no has_ended words w n.ended (ap has_ended so) c.ended;
  greatest = greatest words w n.greatest_generation c.greatest;
}
count_more words w Confirmed n so c = record {
  never_used = no is_free words w n.never_used (ap is_free so) c.never_used;
  making = no is_making words w n.making (ap is_making so) c.making;
  prebooked = no is_prebooked words w n.prebooked (ap is_prebooked so) c.prebooked;
  confirmed = yes is_confirmed words w n.confirmed (ap is_confirmed so) c.confirmed;
  fulfilled = no is_fulfilled words w n.fulfilled (ap is_fulfilled so) c.fulfilled;
  ending = no is_ending words w n.ending (ap is_ending so) c.ending;
  ended = no has_ended words w n.ended (ap has_ended so) c.ended;
  greatest = greatest words w n.greatest_generation c.greatest;
}
count_more words w Fulfilled n so c = record {
  never_used = no is_free words w n.never_used (ap is_free so) c.never_used;
  making = no is_making words w n.making (ap is_making so) c.making;
  prebooked = no is_prebooked words w n.prebooked (ap is_prebooked so) c.prebooked;
  confirmed = no is_confirmed words w n.confirmed (ap is_confirmed so) c.confirmed;
  fulfilled = yes is_fulfilled words w n.fulfilled (ap is_fulfilled so) c.fulfilled;
  ending = no is_ending words w n.ending (ap is_ending so) c.ending;
  ended = no has_ended words w n.ended (ap has_ended so) c.ended;
  greatest = greatest words w n.greatest_generation c.greatest;
}
count_more words w (Ending kind) n so c = record {
  never_used = no is_free words w n.never_used (ap is_free so) c.never_used;
  making = no is_making words w n.making (ap is_making so) c.making;
  prebooked = no is_prebooked words w n.prebooked (ap is_prebooked so) c.prebooked;
  confirmed = no is_confirmed words w n.confirmed (ap is_confirmed so) c.confirmed;
  fulfilled = no is_fulfilled words w n.fulfilled (ap is_fulfilled so) c.fulfilled;
  ending = yes is_ending words w n.ending (ap is_ending so) c.ending;
  ended = no has_ended words w n.ended (ap has_ended so) c.ended;
  greatest = greatest words w n.greatest_generation c.greatest;
}
count_more words w (Ended kind) n so c = record {
  never_used = no is_free words w n.never_used (ap is_free so) c.never_used;
  making = no is_making words w n.making (ap is_making so) c.making;
  prebooked = no is_prebooked words w n.prebooked (ap is_prebooked so) c.prebooked;
  confirmed = no is_confirmed words w n.confirmed (ap is_confirmed so) c.confirmed;
  fulfilled = no is_fulfilled words w n.fulfilled (ap is_fulfilled so) c.fulfilled;
  ending = no is_ending words w n.ending (ap is_ending so) c.ending;
  ended = yes has_ended words w n.ended (ap has_ended so) c.ended;
  greatest = greatest words w n.greatest_generation c.greatest;
}

-- the rows below this one are counted
pub record CountedTo (start now_at : DeskView) (row : ℕ) (count : RowCount) : Type 0 where
  pub words : List ℕ
  pub every : length words ≡ row
  pub seen : AddsSteps start now_at (standing_looks 0 words)
  pub counts : IsCountOf words count

pub counted_none : (start : DeskView) → IsLegal start.layout start.seen
    → CountedTo start start 0 (record { never_used = 0; making = 0; prebooked = 0; confirmed = 0; fulfilled = 0; ending = 0; ended = 0; greatest_generation = 0 })
counted_none start legal = record {
  words = [];
  every = refl;
  seen = shape_none start legal;
  counts = record { never_used = refl; making = refl; prebooked = refl; confirmed = refl; fulfilled = refl; ending = refl; ended = refl; greatest = refl };
}

pub counted_more : (a b c : DeskView) (row generation : ℕ) (phase : Phase) (n : RowCount) → CountedTo a b row n → AddsStepsBy (ShowsRow row phase generation) b c
    → CountedTo a c (row + 1) (with_row phase generation n)
counted_more a b c row generation phase n so (es, (w, is, says, steps), did) = record {
  words = so.words ++ w ∷ [];
  every = length-append so.words (w ∷ []) ∙ ap (λ (k : ℕ). k + 1) so.every;
  seen = subst (AddsSteps a c) (sym (looks_more 0 so.words w)) (shape_then a b c (standing_looks 0 so.words) (SawRow (0 + length so.words) 0 w ∷ []) so.seen (subst (AddsSteps b c) (steps ∙ ap (λ (r : ℕ). SawRow r 0 w ∷ []) (first row (length so.words) so.every)) did));
  counts = subst (λ (g : ℕ). IsCountOf (so.words ++ w ∷ []) (with_row phase g n)) says (count_more so.words w phase n is so.counts);
}
  where
    first : (r k : ℕ) → k ≡ r → r ≡ 0 + k
    first r k e = omega arith

pub small_counts : (a b : DeskView) (row : ℕ) (n : RowCount) → CountedTo a b row n → AreFew n row
small_counts a b row n so = (
  small is_free n.never_used so.counts.never_used,
  small is_making n.making so.counts.making,
  small is_prebooked n.prebooked so.counts.prebooked,
  small is_confirmed n.confirmed so.counts.confirmed,
  small is_fulfilled n.fulfilled so.counts.fulfilled,
  small is_ending n.ending so.counts.ending,
  small has_ended n.ended so.counts.ended,
)
  where
    small : (is : Phase → Bool) (k : ℕ) → k ≡ how_many is so.words → k ≤ row
    small is k counts =
        let most = count_by-le-length (λ (w : ℕ). is (phase_in w)) so.words in
        let all = so.every in omega (arith, most, counts, all)

pub few_more : (n : RowCount) (row most : ℕ) → AreFew n row → row ≤ most → AreFew n most
few_more n row most (a, b, c, d, e, f, g) under =
    (omega arith, omega arith, omega arith, omega arith, omega arith, omega arith, omega arith)

pub counted_all : (a b : DeskView) (row rows : ℕ) (n : RowCount) → row ≡ rows → CountedTo a b row n → AddsStepsBy (CountsRows rows n) a b
counted_all a b row rows n whole so =
    (standing_looks 0 so.words, record { words = so.words; every = so.every ∙ whole; steps = refl; counts = so.counts }, so.seen)

pub counted_looks : (a b : DeskView) (row : ℕ) (n : RowCount) → CountedTo a b row n → AddsStepsBy AllLooks a b
counted_looks a b row n so = (standing_looks 0 so.words, are_looks 0 so.words, so.seen)

pub counted_tidy : (books : BooksView) (a b : DeskView) (row : ℕ) (n : RowCount) → IsOf books b → CountedTo a b row n → KeepsHolds a b → KeepsEndings a b → IsTidy a → IsTidy b
counted_tidy books a b row n of so holds endings tidy = looks_tidy books a b of (counted_looks a b row n so) holds endings tidy
