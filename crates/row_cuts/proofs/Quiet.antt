-- What looks show while nobody changes anything is what the state has.
use Rattle.std.proofs.Common.{◌≡◌, inl, inr, ℕ, suc, ◌+◌, ◌*◌, ◌/◌, ◌%◌, ◌<◌, ◌≤◌, ◌==◌, ℤ, pos, negsuc, Bool, true, false, cond, if◌then◌else◌, List, [], ◌∷◌, ◌++◌, drop, filter_map, get_or, length, map, take, Option, Some, None, option_map, refl, sym, ap, ◌∙◌, subst, arith, slice_index}
use Rattle.std.specs.Prelude.{option_and_then}
use Rattle.std.specs.List.{All, AllByRecursion, cons_option}
use Rattle.std.proofs.lemmas.List.{get_or-drop, length-map}
use Rattle.leg_masks.specs.Interval.{item_word, most_legs}
use Rattle.leg_masks.specs.Interval.{PlacedSpan as Item}
use Rattle.leg_masks.proofs.Items.{one_item}
use Rattle.rail_ids.specs.declared.RowNo.{RowNo}
use Rattle.history_model.specs.declared.booking.BookedItem.{BookedItem}
use Rattle.history_model.specs.declared.booking.End.{End}
use Rattle.history_model.specs.declared.entry.Entry.{Entry}
use Rattle.history_model.specs.declared.entry.Step.{Step}
use Rattle.history_model.specs.declared.entry.Step.TheVariants.{Look, Take, Give, Start, SawRow, Note, Seal, Turn, LostTurn, Close, Met}
use Rattle.history_model.specs.declared.phase.EndKind.{EndKind}
use Rattle.history_model.specs.declared.phase.EndKind.TheVariants.{Release, Expire, Refund, Exchange}
use Rattle.history_model.specs.declared.phase.Phase.{Phase}
use Rattle.history_model.specs.declared.phase.Phase.TheVariants.{Free, Making, Prebooked, Confirmed, Fulfilled, Ending, Ended}
use Rattle.history_model.specs.Allowed.{IsAllowed, IsAllowedStep, IsAmountOf}
use Rattle.history_model.specs.Apply.{apply}
use Rattle.history_model.specs.Booking.{Booking, Layout, State, amount_word, present}
use Rattle.history_model.specs.History.{IsLegal, IsLegalFrom, entry, own, state_after}
use Rattle.history_model.specs.Laws.{HasAmountFor, IsInRange, IsSound, LiesWithin}
use Rattle.history_model.specs.Phase.{is_sealed, phase_shown, row_word_of, said_phase}
use Rattle.history_model.specs.Words.{row_word}
use Rattle.history_model.proofs.ListLemmas.{All-under_map}
use Rattle.history_model.proofs.PhaseWords.{row_word_same, shown_back}
use Rattle.history_model.proofs.Ranges.{all_found, ranges_all, row_of}
use Rattle.history_model.proofs.Writing.{word_in}
use Rattle.claim_rule.specs.Calls.{AddsStepsBy}
use Rattle.claim_rule.specs.Endings.{item_looks}
use Rattle.claim_rule.specs.Openings.{KeptBooking, end_in, kept_as, kept_in, kept_of_row, placed, stub}
use Rattle.claim_rule.specs.Out.{is_look}
use Rattle.claim_rule.specs.Rule.{DeskView, state_seen}
use Rattle.claim_rule.proofs.Moves.{is_sound}
use Rattle.claim_rule.proofs.Shapes.{shape_rest}
use Rattle.line_text.specs.Lines.{text_of}
use Rattle.cold_store.proofs.WallRows.{word_on}
use Rattle.booking_rows.specs.SealedRows.{FitWords}
use Rattle.booking_rows.specs.Views.{HasSaidAmount, HasWord, LooksRow, RowSeen, has_end, said_amount, saw_end, saw_words, words_read}
use Rattle.journal_text.specs.Texts.{lines_text, row_text}
use Rattle.row_cuts.specs.Cuts.{lines_cut, row_line}
use Rattle.row_cuts.specs.Lines.{WritesLines, all_kept, kept_line}
use Rattle.row_cuts.specs.Looks.{GoesOn, IsRowLook, RowLook, end_seen, generation_looked, kept_by, kept_looked, kept_seen, look_steps, looks_steps, phase_looked}
use Rattle.row_cuts.specs.Quiet.{IsQuietSince, cut_seen}
use Rattle.row_cuts.proofs.Folding.{line_texts}
use Rattle.row_cuts.proofs.Looking.{generation_said, phase_said}

all_front : {A : Type 0} (P : A → Type 0) (xs ys : List A) → AllByRecursion P (xs ++ ys) → AllByRecursion P xs
all_front P [] ys all = tt
all_front P (x ∷ xs) ys all = (all.0, all_front P xs ys all.1)

all_back : {A : Type 0} (P : A → Type 0) (xs ys : List A) → AllByRecursion P (xs ++ ys) → AllByRecursion P ys
all_back P [] ys all = all
all_back P (x ∷ xs) ys all = all_back P xs ys all.1

-- looks change nothing

same_after : (s : State) (d : ℕ) (st : Step) → is_look st ≡ true → apply s (entry d st) ≡ s
same_after s d (Look place half shown) is = refl
same_after s d (SawRow row word value) is = refl
same_after s d (LostTurn row wanted shown) is = refl
same_after s d Met is = refl
same_after s d (Take row place span) is = absurd (let no : false ≡ true = is in cc)
same_after s d (Give row item) is = absurd (let no : false ≡ true = is in cc)
same_after s d (Start row generation) is = absurd (let no : false ≡ true = is in cc)
same_after s d (Note row word value) is = absurd (let no : false ≡ true = is in cc)
same_after s d (Seal row phase) is = absurd (let no : false ≡ true = is in cc)
same_after s d (Close row) is = absurd (let no : false ≡ true = is in cc)
same_after s d (Turn row from to moment amount successor) is = absurd (let no : false ≡ true = is in cc)

quiet_state : (s : State) (es : List Entry) → AllByRecursion (λ (e : Entry). is_look e.step ≡ true) es → state_after s es ≡ s
quiet_state s [] looks = refl
quiet_state s (e ∷ es) looks =
    ap (λ (t : State). state_after t es) (same_after s e.desk e.step looks.0) ∙ quiet_state s es looks.1

quiet_allowed : (g : Layout) (s : State) (es : List Entry) → AllByRecursion (λ (e : Entry). is_look e.step ≡ true) es → IsLegalFrom g s es → AllByRecursion (IsAllowed g s) es
quiet_allowed g s [] looks legal = tt
quiet_allowed g s (e ∷ es) looks legal =
    (legal.0, quiet_allowed g s es looks.1 (subst (λ (t : State). IsLegalFrom g t es) (same_after s e.desk e.step looks.0) legal.1))

all_own : (P : Entry → Type 0) (d : ℕ) (es : List Entry) → AllByRecursion P es → AllByRecursion P (own es d)
all_own P d [] all = tt
all_own P d (e ∷ es) all = go (e.desk == d) (all_own P d es all.1)
  where
    go : (t : Bool) → AllByRecursion P (own es d) → AllByRecursion P (cond t (e ∷ own es d) (own es d))
    go true rest = (all.0, rest)
    go false rest = rest

-- what was seen of a sealed booking

said_back : (kind : EndKind) (a : ℤ) → IsAmountOf kind a → said_amount kind (amount_word kind a) ≡ a
said_back Release a is = sym is
said_back Expire a is = sym is
said_back Refund (pos n) is = refl
said_back Refund (negsuc n) is = absurd (omega (arith, is.0))
said_back Exchange (pos n) is = even n
  where
    even : (n : ℕ) → (if (2 * n) % 2 == 0 then pos ((2 * n) / 2) else negsuc ((2 * n) / 2)) ≡ pos n
    even n =
        let rest : (2 * n) % 2 ≡ 0 = omega arith in
        let half : (2 * n) / 2 ≡ n = omega arith in
        rw (rest, half) refl
said_back Exchange (negsuc n) is = odd n
  where
    odd : (n : ℕ) → (if (2 * n + 1) % 2 == 0 then pos ((2 * n + 1) / 2) else negsuc ((2 * n + 1) / 2)) ≡ negsuc n
    odd n =
        let rest : (2 * n + 1) % 2 ≡ 1 = omega arith in
        let half : (2 * n + 1) / 2 ≡ n = omega arith in
        rw (rest, half) refl

fits : (g : Layout) (is : List BookedItem) → All (λ n. n ≤ most_legs) g.legs → AllByRecursion (LiesWithin g) is → AllByRecursion (λ i. (i.span.from < i.span.to) × (i.span.to ≤ most_legs)) is
fits g [] most all = tt
fits g (i ∷ is) most all = ((all.0.some, le_trans i.span.to (slice_index g.legs i.place) most_legs all.0.legs (most i.place 0 all.0.place)), fits g is most all.1)
  where
    le_trans : (a b c : ℕ) → a ≤ b → b ≤ c → a ≤ c
    le_trans a b c l m = omega arith

module _ (g : Layout) (s : State) (d row : ℕ) where
  items_same : (w : ℕ) (vs : List Item) (is : List BookedItem) (ds : List ℕ) → AllByRecursion (IsAllowedStep g s d) (item_looks row w vs)
      → ((k : ℕ) → row_word s row (w + k) ≡ get_or ds k 0) → length vs ≡ length is → take (length is) ds ≡ map (λ i. item_word i.place i.span) is
      → AllByRecursion HasWord vs → AllByRecursion (λ i. (i.span.from < i.span.to) × (i.span.to ≤ most_legs)) is → vs ≡ map placed is
  items_same w [] [] ds may words long taken seen fit = refl
  items_same w [] (i ∷ is) ds may words long taken seen fit = absurd (omega arith)
  items_same w (v ∷ vs) [] ds may words long taken seen fit = absurd (omega arith)
  items_same w (v ∷ vs) (i ∷ is) [] may words long taken seen fit =
      absurd (let no : ◌≡◌ {A = List ℕ} [] (item_word i.place i.span ∷ map (λ i. item_word i.place i.span) is) = taken in cc)
  items_same w (v ∷ vs) (i ∷ is) (n ∷ ds) may words long taken seen fit =
      let whole : n ∷ take (length is) ds ≡ item_word i.place i.span ∷ map (λ i. item_word i.place i.span) is = taken in
      let first : n ≡ item_word i.place i.span = cc in
      let rest : take (length is) ds ≡ map (λ i. item_word i.place i.span) is = cc in
      let here : w ≡ w + 0 = omega arith in
      let word : item_word v.place v.span ≡ item_word i.place i.span = may.0.2 ∙ (ap (row_word s row) here ∙ (words 0 ∙ first)) in
      let one = one_item v.place i.place v.span i.span seen.0.1 seen.0.2 fit.0.0 fit.0.1 word in
      let more = items_same (suc w) vs is ds may.1 (λ k. let next : suc w + k ≡ w + suc k = omega arith in ap (row_word s row) next ∙ words (suc k))
      (let l : length (v ∷ vs) ≡ length (i ∷ is) = long in omega arith) rest seen.1 fit.1 in
      λ j. record { place = one.0 j; span = one.1 j } ∷ more j

  end_same : (phase : Phase) (ended : Option End) (b : Booking) → present s row ≡ Some b → phase ≡ b.phase → IsSound g b → IsInRange g b → has_end phase ended ≡ true → HasSaidAmount phase ended
      → AllByRecursion (IsAllowedStep g s d) (saw_end row phase ended) → end_seen ended ≡ end_in phase b.end
  end_same (Ended kind) (Some e) b at is sound range there said may =
      let words = (sound.ended kind (sym is)).1 in
      let amount : IsAmountOf kind b.end.amount = subst (λ (p : Phase). HasAmountFor p b.end.amount) (sym is) range.amount in
      let successor : e.successor ≡ b.end.successor = may.0.2 ∙ (word_on s row 5 b at (λ (z : 5 ≡ 0). omega arith) ∙ words.successor) in
      let word : amount_word kind e.amount ≡ amount_word kind b.end.amount = may.1.0.2 ∙ (word_on s row 6 b at (λ (z : 6 ≡ 0). omega arith) ∙ words.amount) in
      let moment : e.moment ≡ b.end.moment = may.1.1.0.2 ∙ (word_on s row 7 b at (λ (z : 7 ≡ 0). omega arith) ∙ words.moment) in
      let value : e.amount ≡ b.end.amount = said ∙ (ap (said_amount kind) word ∙ said_back kind b.end.amount amount) in
      λ j. record { moment = moment j; amount = value j; successor = successor j }
  end_same (Ended kind) None b at is sound range there said may = absurd (let no : false ≡ true = there in cc)
  end_same Free None b at is sound range there said may = refl
  end_same Making None b at is sound range there said may = refl
  end_same Prebooked None b at is sound range there said may = refl
  end_same Confirmed None b at is sound range there said may = refl
  end_same Fulfilled None b at is sound range there said may = refl
  end_same (Ending kind) None b at is sound range there said may = refl
  end_same Free (Some e) b at is sound range there said may = absurd (let no : false ≡ true = there in cc)
  end_same Making (Some e) b at is sound range there said may = absurd (let no : false ≡ true = there in cc)
  end_same Prebooked (Some e) b at is sound range there said may = absurd (let no : false ≡ true = there in cc)
  end_same Confirmed (Some e) b at is sound range there said may = absurd (let no : false ≡ true = there in cc)
  end_same Fulfilled (Some e) b at is sound range there said may = absurd (let no : false ≡ true = there in cc)
  end_same (Ending kind) (Some e) b at is sound range there said may = absurd (let no : false ≡ true = there in cc)

  word_zero : (b : Booking) → present s row ≡ Some b → row_word s row 0 ≡ row_word_of b.phase b.generation
  word_zero b at = ap (word_in 0) at

  shown_here : (b : Booking) (n : ℕ) → present s row ≡ Some b → n ≡ row_word s row 0 → phase_shown b.generation n ≡ b.phase
  shown_here b n at is = ap (phase_shown b.generation) (is ∙ word_zero b at) ∙ shown_back b.phase b.generation

  seen_same : (b : Booking) (v : Option RowSeen) (es : List Step) → All (λ n. n ≤ most_legs) g.legs → IsSound g b → IsInRange g b → present s row ≡ Some b → is_sealed b.phase ≡ true
      → LooksRow (record { row = row; generation = b.generation }) v es → AllByRecursion (IsAllowedStep g s d) es → option_map (kept_seen row b.generation) v ≡ Some (kept_as b)
  seen_same b None es legs sound range at sealed (inl (n, unsealed, is)) may =
      absurd (let shows = shown_here b n at (subst (AllByRecursion (IsAllowedStep g s d)) is may).0.2 in
      let no : false ≡ true = sym unsealed ∙ (ap is_sealed shows ∙ sealed) in cc)
  seen_same b None es legs sound range at sealed (inr (ws, last, read, free, is)) may =
      let all = subst (AllByRecursion (IsAllowedStep g s d)) is may in
      let end = all_back (IsAllowedStep g s d) (words_read row ws) (SawRow row 0 last ∷ []) all.1 in
      absurd (let shows = shown_here b last at end.0.2 in
      let no : false ≡ true = ap is_sealed (sym free ∙ shows) ∙ sealed in cc)
  seen_same b (Some v) es legs sound range at sealed (seen, (last, there, is)) may =
      let all = subst (AllByRecursion (IsAllowedStep g s d)) is may in
      let phase : v.phase ≡ b.phase = (row_word_same v.phase b.phase b.generation b.generation (all.0.2 ∙ word_zero b at)).0 in
      let words = all_front (IsAllowedStep g s d) (saw_words row v) (SawRow row 0 last ∷ []) all.1 in
      let retailer : v.retailer ≡ slice_index b.words 1 = words.0.2 ∙ word_on s row 1 b at (λ (z : 1 ≡ 0). omega arith) in
      let limit : v.limit ≡ slice_index b.words 2 = words.1.0.2 ∙ word_on s row 2 b at (λ (z : 2 ≡ 0). omega arith) in
      let total : v.total ≡ slice_index b.words 3 = words.1.1.0.2 ∙ word_on s row 3 b at (λ (z : 3 ≡ 0). omega arith) in
      let seal = sound.sealed sealed in
      let count : length v.items ≡ length b.items = words.1.1.1.0.2 ∙ (word_on s row 4 b at (λ (z : 4 ≡ 0). omega arith) ∙ seal.count) in
      let looks = all_front (IsAllowedStep g s d) (item_looks row 8 v.items) (saw_end row v.phase v.ended) words.1.1.1.1 in
      let ends = all_back (IsAllowedStep g s d) (item_looks row 8 v.items) (saw_end row v.phase v.ended) words.1.1.1.1 in
      let items : v.items ≡ map placed b.items =
      items_same 8 v.items b.items (drop 8 b.words) looks
      (λ k. word_on s row (8 + k) b at (λ (z : 8 + k ≡ 0). omega arith) ∙ sym (get_or-drop 8 b.words k 0))
      count seal.items seen.items (fits g b.items legs sound.within) in
      let end : end_seen v.ended ≡ end_in b.phase b.end =
      end_same v.phase v.ended b at phase sound range seen.ended seen.amount ends ∙ ap (λ (p : Phase). end_in p b.end) phase in
      λ j. Some (record {
        row = sym (row_of s row b at) j;
        generation = b.generation;
        phase = phase j;
        retailer = retailer j;
        limit = limit j;
        total = total j;
        items = items j;
        end = end j;
      })

  sealed_kept : (b : Booking) (l : RowLook) → All (λ n. n ≤ most_legs) g.legs → IsSound g b → IsInRange g b → present s row ≡ Some b → is_sealed b.phase ≡ true → l.row ≡ row
      → generation_looked l ≡ b.generation → LooksRow (record { row = l.row; generation = generation_looked l }) l.seen l.after → AllByRecursion (IsAllowedStep g s d) l.after
      → option_map (kept_seen l.row (generation_looked l)) l.seen ≡ Some (kept_as b)
  sealed_kept b l legs sound range at sealed of its on may =
      (λ j. option_map (kept_seen (of j) (its j)) l.seen)
      ∙ seen_same b l.seen l.after legs sound range at sealed
      (subst (λ (r : RowNo). LooksRow r l.seen l.after) (λ j. record { row = of j; generation = its j }) on) may

  -- by the phase that the first look showed
  kept_same : (phase : Phase) (b : Booking) (l : RowLook) → All (λ n. n ≤ most_legs) g.legs → IsSound g b → IsInRange g b → present s row ≡ Some b → b.phase ≡ phase → l.row ≡ row
      → generation_looked l ≡ b.generation → GoesOn (is_sealed phase) l → AllByRecursion (IsAllowedStep g s d) l.after → kept_by phase l ≡ kept_in phase b
  kept_same Free b l legs sound range at is of its on may = refl
  kept_same Making b l legs sound range at is of its on may =
      λ j. if its j == 0 then None else Some (stub ((of ∙ sym (row_of s row b at)) j) (its j))
  kept_same Prebooked b l legs sound range at is of its on may = sealed_kept b l legs sound range at (ap is_sealed is) of its on may
  kept_same Confirmed b l legs sound range at is of its on may = sealed_kept b l legs sound range at (ap is_sealed is) of its on may
  kept_same Fulfilled b l legs sound range at is of its on may = sealed_kept b l legs sound range at (ap is_sealed is) of its on may
  kept_same (Ending kind) b l legs sound range at is of its on may = sealed_kept b l legs sound range at (ap is_sealed is) of its on may
  kept_same (Ended kind) b l legs sound range at is of its on may = sealed_kept b l legs sound range at (ap is_sealed is) of its on may

-- what is kept of a row as its looks showed it
row_same : (g : Layout) (s : State) (d : ℕ) (l : RowLook) → All (λ n. n ≤ most_legs) g.legs → AllByRecursion (IsSound g) s → AllByRecursion (IsInRange g) s → IsRowLook l
    → AllByRecursion (IsAllowedStep g s d) (look_steps l) → kept_looked l ≡ kept_of_row s l.row
row_same g s d l legs sound range is may = go (present s l.row) refl
  where
    go : (o : Option Booking) → present s l.row ≡ o → kept_looked l ≡ kept_of_row s l.row
    go None at =
        let word : l.word ≡ 0 = may.0.2 ∙ ap (word_in 0) at in
        let free : phase_looked l ≡ Free = ap (λ (n : ℕ). said_phase (n % 16)) word in
        ap (λ (p : Phase). kept_by p l) free ∙ sym (ap (λ (o : Option Booking). option_and_then (λ b. kept_in b.phase b) o) at)
    go (Some b) at =
        let word : row_word_of b.phase b.generation ≡ l.word = sym (may.0.2 ∙ ap (word_in 0) at) in
        let phase : phase_looked l ≡ b.phase = phase_said b.phase b.generation l.word word in
        ap (λ (p : Phase). kept_by p l) phase
        ∙ (kept_same g s d l.row b.phase b l legs (all_found (IsSound g) s l.row b sound at) (all_found (IsInRange g) s l.row b range at) at refl refl
        (generation_said b.phase b.generation l.word word) (subst (λ (p : Phase). GoesOn (is_sealed p) l) phase is) may.1
        ∙ sym (ap (λ (o : Option Booking). option_and_then (λ b. kept_in b.phase b) o) at))

rows_same : (g : Layout) (s : State) (d : ℕ) (looks : List RowLook) → All (λ n. n ≤ most_legs) g.legs → AllByRecursion (IsSound g) s → AllByRecursion (IsInRange g) s → AllByRecursion IsRowLook looks
    → AllByRecursion (IsAllowedStep g s d) (looks_steps looks) → all_kept looks ≡ filter_map (kept_of_row s) (map (λ (l : RowLook). l.row) looks)
rows_same g s d [] legs sound range each may = refl
rows_same g s d (l ∷ looks) legs sound range each may =
    let first = row_same g s d l legs sound range each.0 (all_front (IsAllowedStep g s d) (look_steps l) (looks_steps looks) may) in
    let rest = rows_same g s d looks legs sound range each.1 (all_back (IsAllowedStep g s d) (look_steps l) (looks_steps looks) may) in
    λ j. cons_option (first j) (rest j)

kept_texts : (ks : List KeptBooking) → map kept_line ks ≡ map row_text (map row_line ks)
kept_texts [] = refl
kept_texts (k ∷ ks) = λ j. sym (line_texts k) j ∷ kept_texts ks j

pub one_moment : (rows text more : List ℕ) (count : ℕ) (old new : DeskView) → IsLegal old.layout old.seen → FitWords old.layout → IsQuietSince old new → AddsStepsBy (WritesLines rows text more count) old new
    → (more ≡ text ++ lines_text (lines_cut (cut_seen rows new))) × (count ≡ length (lines_cut (cut_seen rows new))) × (state_seen new ≡ state_seen old)
one_moment rows text more count old new legal fit quiet (es, w, did) =
    let g = old.layout in
    let s = state_seen old in
    let rest = did.front.0 in
    let x = shape_rest old new es did in
    let looks = quiet rest (sym did.front.1) in
    let allowed = all_own (IsAllowed g s) old.number rest (quiet_allowed g s rest looks x.0) in
    let mine : AllByRecursion (IsAllowedStep g s old.number) es = All-under_map (IsAllowed g s) (entry old.number) es (subst (AllByRecursion (IsAllowed g s)) x.1 allowed) in
    let state : state_seen new ≡ s = x.2 ∙ quiet_state s rest looks in
    let seen = rows_same g s old.number w.looks fit.legs (is_sound g old.seen legal).each (ranges_all g old.seen legal) w.each (subst (AllByRecursion (IsAllowedStep g s old.number)) w.steps mine) in
    let kept : all_kept w.looks ≡ filter_map (kept_of_row (state_seen new)) rows =
    seen ∙ (λ j. filter_map (kept_of_row (sym state j)) (w.are j)) in
    let ks = filter_map (kept_of_row (state_seen new)) rows in (
      w.text ∙ (ap (λ (all : List KeptBooking). text ++ text_of (map kept_line all)) kept ∙ ap (λ (ls : List (List ℕ)). text ++ text_of ls) (kept_texts ks)),
      w.counts ∙ (ap (λ (all : List KeptBooking). length all) kept ∙ sym (length-map ks row_line)),
      state,
    )
