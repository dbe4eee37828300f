-- What looks at the words of a sealed booking's row show.
use Rattle.std.proofs.Common.{◌≡◌, ℕ, zero, suc, ◌+◌, ◌<◌, ◌≤◌, min, ℤ, pos, negsuc, ◌≤ℤ◌, ⊎_elim, List, [], ◌∷◌, ◌++◌, map, take, drop, length, get_or, slice_index, All, Bool, true, false, cond, Option, Some, None, IsSomeAnd, inr, refl, sym, ap, ◌∙◌, subst, arith, length-append, eqb, ne_eqb}
use Rattle.std.proofs.lemmas.Int.{ints}
use Rattle.std.proofs.lemmas.List.{get_or-take, get_or-drop}
use Rattle.std.specs.List.{AllByRecursion}
use Rattle.std.proofs.lemmas.List.{length-map}
use Rattle.leg_masks.specs.Interval.{item_word, most_places, most_legs}
use Rattle.leg_masks.specs.Interval.{PlacedSpan as Item}
use Rattle.rail_ids.specs.declared.RowNo.{RowNo}
use Rattle.rail_ids.specs.Spelling.{last_generation}
use Rattle.history_model.specs.declared.booking.BookedItem.{BookedItem}
use Rattle.history_model.specs.declared.booking.End.{End}
use Rattle.history_model.specs.declared.entry.Step.{Step}
use Rattle.history_model.specs.declared.entry.Step.TheVariants.{SawRow}
use Rattle.history_model.specs.declared.phase.EndKind.{EndKind}
use Rattle.history_model.specs.declared.phase.EndKind.TheVariants.{Release, Expire, Refund, Exchange}
use Rattle.history_model.specs.declared.phase.Phase.{Phase}
use Rattle.history_model.specs.declared.phase.Phase.TheVariants.{Free, Making, Prebooked, Confirmed, Fulfilled, Ending, Ended}
use Rattle.history_model.specs.Allowed.{IsAmountOf, HasEndWords}
use Rattle.history_model.specs.Booking.{Booking, Layout, State, most_items, greatest_amount, greatest_retailer, last_moment, present, booking_at, stands_as, next_generation, word_at, amount_word, most_rows, successor_word}
use Rattle.history_model.specs.Laws.{HasAmountFor, IsInRange, LiesWithin, IsSound, Stays, unmarked}
use Rattle.history_model.specs.Phase.{is_sealed, row_word_of, phase_shown}
use Rattle.history_model.proofs.Forward.{stays-history, next-history}
use Rattle.history_model.proofs.Generations.{generation_below, key_at, key_present, present_key, present_latest}
use Rattle.history_model.proofs.Keeping.{found}
use Rattle.history_model.proofs.ListLemmas.{All-found}
use Rattle.history_model.proofs.PhaseWords.{present_shown}
use Rattle.history_model.proofs.Ranges.{ranges_all, ended_stays, all_found}
use Rattle.history_model.proofs.Writing.{word_in}
use Rattle.claim_rule.specs.Endings.{item_looks}
use Rattle.claim_rule.specs.Holds.{HoldView}
use Rattle.claim_rule.specs.Out.{AllLooks, IsHolding, KeepsHolds, KeepsEndings}
use Rattle.claim_rule.specs.Rule.{DeskView, BooksView, OnBooking, state_seen}
use Rattle.claim_rule.specs.Desks.{Stepped, AddsSteps, IsOf, AddsAtMost}
use Rattle.claim_rule.proofs.Moves.{is_sound}
use Rattle.claim_rule.proofs.Out.{looks_holds, looks_endings}
use Rattle.claim_rule.proofs.Reading.{saw}
use Rattle.claim_rule.proofs.Shapes.{shape_rest, shape_then, step_shape, adds_length}
use Rattle.booking_rows.specs.SealedRows.{IsSealedRow, HasItems, IsAfter, IsSealedSince, IsStillPresent, IsAmountWord, IsItemWord, IsEndOf}
use Rattle.booking_rows.specs.Views.{RowSeen, RowWords, AreRead, saw_phase, saw_end, saw_words, saw_row, word_looks, words_read, end_words, has_end, last_successor, MaySucceed, LooksNone}

-- a booking, by what holds of it

pub at_key : (desk : DeskView) (row : RowNo) (b : Booking) (P : Booking → Type 0) → booking_at (state_seen desk) row.row row.generation ≡ Some b → P b → OnBooking (state_seen desk) row P
at_key desk row b P at p = subst (λ (o : Option Booking). IsSomeAnd o P) (sym at) p

-- what stays of a booking

some_same : (x y : Booking) → Some x ≡ Some y → x ≡ y
some_same x y e = cc

pub stays_on : (old new : DeskView) (es : List Step) (row : RowNo) (b : Booking) → AddsSteps old new es → booking_at (state_seen old) row.row row.generation ≡ Some b → is_sealed b.phase ≡ true
    → (c : Booking) × (booking_at (state_seen new) row.row row.generation ≡ Some c) × Stays b c
stays_on old new es row b did at sealed =
    let x = shape_rest old new es did in
    found (booking_at (state_seen new) row.row row.generation) (Stays b)
    (subst (λ (s : State). IsSomeAnd (booking_at s row.row row.generation) (Stays b)) (sym x.2) (stays-history old.layout (state_seen old) did.front.0 row.row row.generation b x.0 at sealed))

pub sealed_on : (old new : DeskView) (es : List Step) (row : RowNo) → AddsSteps old new es → IsSealedRow old row → IsSealedRow new row
sealed_on old new es row did on =
    let b = found (booking_at (state_seen old) row.row row.generation) (λ b. is_sealed b.phase ≡ true) on in
    let c = stays_on old new es row b.0 did b.1 b.2 in
    at_key new row c.0 (λ b. is_sealed b.phase ≡ true) c.1 c.2.still_sealed

pub items_on : (old new : DeskView) (es : List Step) (row : RowNo) (n : ℕ) → AddsSteps old new es → HasItems old row n → HasItems new row n
items_on old new es row n did on =
    let b = found (booking_at (state_seen old) row.row row.generation) (λ b. (is_sealed b.phase ≡ true) × (length b.items ≡ n)) on in
    let c = stays_on old new es row b.0 did b.1 b.2.0 in
    let same : length c.0.items ≡ length b.0.items = sym (length-map c.0.items unmarked) ∙ (ap length c.2.sealed.items ∙ length-map b.0.items unmarked) in
    at_key new row c.0 (λ b. (is_sealed b.phase ≡ true) × (length b.items ≡ n)) c.1 (c.2.still_sealed, same ∙ b.2.1)

pub sealed_of : (desk : DeskView) (row : RowNo) (phase : Phase) → IsSealedSince desk row phase → IsSealedRow desk row
sealed_of desk row phase on =
    let b = found (booking_at (state_seen desk) row.row row.generation) (IsAfter phase) on in
    at_key desk row b.0 (λ b. is_sealed b.phase ≡ true) b.1 b.2.0

pub since_on : (old new : DeskView) (es : List Step) (row : RowNo) (phase : Phase) → AddsSteps old new es → IsSealedSince old row phase → IsSealedSince new row phase
since_on old new es row phase did on =
    let x = shape_rest old new es did in
    let b = found (booking_at (state_seen old) row.row row.generation) (IsAfter phase) on in
    let c = stays_on old new es row b.0 did b.1 b.2.0 in
    at_key new row c.0 (IsAfter phase) c.1 (
      c.2.still_sealed,
      λ kind is.
          let later = subst (λ (s : State). IsSomeAnd (booking_at s row.row row.generation) (λ c. (c.phase ≡ Ended kind) × (c.end ≡ b.0.end))) (sym x.2)
          (ended_stays old.layout (state_seen old) did.front.0 row.row row.generation kind b.0 x.0 b.1 (b.2.1 kind is)) in
          let e = found (booking_at (state_seen new) row.row row.generation) (λ c. (c.phase ≡ Ended kind) × (c.end ≡ b.0.end)) later in
          ap (λ (b : Booking). b.phase) (some_same c.0 e.0 (sym c.1 ∙ e.1)) ∙ e.2.0,
    )

-- a booking that stood before, and is its row's present one after it, was so before
pub still_before : (old new : DeskView) (es : List Step) (row : RowNo) → AddsSteps old new es → IsSealedRow old row → IsStillPresent new row → IsStillPresent old row
still_before old new es row did on now =
    let x = shape_rest old new es did in
    let b = found (booking_at (state_seen old) row.row row.generation) (λ b. is_sealed b.phase ≡ true) on in
    let low = generation_below (state_seen old) row.row row.generation b.0 b.1 in
    let up = subst (λ (s : State). next_generation (state_seen old) row.row ≤ next_generation s row.row) (sym x.2) (next-history old.layout (state_seen old) did.front.0 row.row x.0) in
    both (next_generation (state_seen old) row.row) (next_generation (state_seen new) row.row) (row.generation + 1) low up now
  where
    both : (a b c : ℕ) → c ≤ a → a ≤ b → b ≡ c → a ≡ c
    both a b c l m e = omega (arith, l, m, e)

-- what a look at a further word shows

shown : (row w v : ℕ) (old new : DeskView) (b : Booking) → Stepped (SawRow row w v) old new → present (state_seen new) row ≡ Some b → 0 < w → v ≡ word_at b w
shown row w v old new b did at some = saw row w v old new did ∙ (ap (word_in w) at ∙ not_first w (row_word_of b.phase b.generation) (word_at b w) some)
  where
    not_first : (w a b : ℕ) → 0 < w → cond (eqb w 0) a b ≡ b
    not_first w a b l = ap (λ (c : Bool). cond c a b) (ne_eqb w 0 (λ e. omega (arith, l, e)))

pub record ShowsWord (desk : DeskView) (row : RowNo) (w v : ℕ) (b : Booking) : Type 0 where
  pub at : booking_at (state_seen desk) row.row row.generation ≡ Some b
  pub sealed : is_sealed b.phase ≡ true
  pub sound : IsSound desk.layout b
  pub word : v ≡ word_at b w

pub shows_word : (row : RowNo) (w v : ℕ) (old new : DeskView) → Stepped (SawRow row.row w v) old new → 0 < w → IsSealedRow old row → IsStillPresent new row → (b : Booking) × ShowsWord new row w v b
shows_word row w v old new did some on now =
    let b = found (booking_at (state_seen new) row.row row.generation) (λ b. is_sealed b.phase ≡ true) (sealed_on old new (SawRow row.row w v ∷ []) row (step_shape (SawRow row.row w v) old new did) on) in
    let here = key_present (state_seen new) row.row row.generation b.0 now b.1 in (
      b.0,
      record { at = b.1; sealed = b.2; sound = all_found (IsSound new.layout) (state_seen new) row.row b.0 (is_sound new.layout new.seen did.legal).each here; word = shown row.row w v old new b.0 did here some },
    )

pub retailer_fits : (row : RowNo) (v : ℕ) (old new : DeskView) → Stepped (SawRow row.row 1 v) old new → IsSealedRow old row → IsStillPresent new row → v ≤ greatest_retailer
retailer_fits row v old new did on now = let b = shows_word row 1 v old new did (omega arith) on now in subst (λ (n : ℕ). n ≤ greatest_retailer) (sym b.1.word) (b.1.sound.sealed b.1.sealed).retailer

pub limit_fits : (row : RowNo) (v : ℕ) (old new : DeskView) → Stepped (SawRow row.row 2 v) old new → IsSealedRow old row → IsStillPresent new row → v ≤ last_moment
limit_fits row v old new did on now = let b = shows_word row 2 v old new did (omega arith) on now in subst (λ (n : ℕ). n ≤ last_moment) (sym b.1.word) (b.1.sound.sealed b.1.sealed).limit

pub total_fits : (row : RowNo) (v : ℕ) (old new : DeskView) → Stepped (SawRow row.row 3 v) old new → IsSealedRow old row → IsStillPresent new row → v ≤ greatest_amount
total_fits row v old new did on now = let b = shows_word row 3 v old new did (omega arith) on now in subst (λ (n : ℕ). n ≤ greatest_amount) (sym b.1.word) (b.1.sound.sealed b.1.sealed).total

pub count_fits : (row : RowNo) (v : ℕ) (old new : DeskView) → Stepped (SawRow row.row 4 v) old new → IsSealedRow old row → IsStillPresent new row → (v ≤ most_items) × HasItems new row v
count_fits row v old new did on now =
    let b = shows_word row 4 v old new did (omega arith) on now in
    let many : v ≡ length b.0.items = b.1.word ∙ (b.1.sound.sealed b.1.sealed).count in
    (subst (λ (n : ℕ). n ≤ most_items) (sym many) b.1.sound.count, at_key new row b.0 (λ b. (is_sealed b.phase ≡ true) × (length b.items ≡ v)) b.1.at (b.1.sealed, sym many))

-- a word of an item

item_there : (f : BookedItem → ℕ) (P : BookedItem → Type 0) (is : List BookedItem) (k : ℕ) → k < length is → AllByRecursion P is → (x : BookedItem) × P x × (get_or (map f is) k 0 ≡ f x)
item_there f P [] k l all = absurd (omega arith)
item_there f P (i ∷ is) zero l all = (i, all.0, refl)
item_there f P (i ∷ is) (suc k) l all = item_there f P is k (omega arith) all.1

pub shows_item : (row : RowNo) (v k count : ℕ) (old new : DeskView) → length new.layout.legs ≤ most_places → All (λ n. n ≤ most_legs) new.layout.legs → Stepped (SawRow row.row (8 + k) v) old new → IsSealedRow old row → HasItems old row count → IsStillPresent new row → k < count → IsItemWord v
shows_item row v k count old new places legs did sealed on now below =
    let f : BookedItem → ℕ = λ i. item_word i.place i.span in
    let b = found (booking_at (state_seen new) row.row row.generation) (λ b. (is_sealed b.phase ≡ true) × (length b.items ≡ count)) (items_on old new (SawRow row.row (8 + k) v ∷ []) row count (step_shape (SawRow row.row (8 + k) v) old new did) on) in
    let here = key_present (state_seen new) row.row row.generation b.0 now b.1 in
    let sound = all_found (IsSound new.layout) (state_seen new) row.row b.0 (is_sound new.layout new.seen did.legal).each here in
    let words = b.0.words in
    let items = b.0.items in
    let less : k < length items = subst (λ (n : ℕ). k < n) (sym b.2.1) below in
    let x = item_there f (LiesWithin new.layout) items k less sound.within in
    let word : word_at b.0 (8 + k) ≡ f x.0 =
    sym (get_or-drop 8 words k 0) ∙ (sym (get_or-take (length items) (drop 8 words) k 0 less) ∙ (ap (λ (l : List ℕ). get_or l k 0) (sound.sealed b.2.0).items ∙ x.2)) in (
      x.0.place,
      x.0.span,
      (
        lt_le x.0.place (length new.layout.legs) most_places x.1.place places,
        x.1.some,
        le_trans x.0.span.to (slice_index new.layout.legs x.0.place) most_legs x.1.legs (legs x.0.place 0 x.1.place),
        x.1.piece,
        sym (shown row.row (8 + k) v old new b.0 did here (omega arith) ∙ word),
      ),
    )
  where
    lt_le : (a b c : ℕ) → a < b → b ≤ c → a < c
    lt_le a b c l m = omega arith

    le_trans : (a b c : ℕ) → a ≤ b → b ≤ c → a ≤ c
    le_trans a b c l m = omega arith

-- looks at words, one after another

looks-snoc : (row w : ℕ) (ns : List ℕ) (n : ℕ) → word_looks row w (ns ++ n ∷ []) ≡ word_looks row w ns ++ SawRow row (w + length ns) n ∷ []
looks-snoc row w [] n = ap (λ (k : ℕ). SawRow row k n ∷ []) (let e : w ≡ w + 0 = omega arith in e)
looks-snoc row w (x ∷ xs) n = ap (λ l. SawRow row w x ∷ l) (looks-snoc row (suc w) xs n ∙ ap (λ (k : ℕ). word_looks row (suc w) xs ++ SawRow row k n ∷ []) (let e : suc w + length xs ≡ w + suc (length xs) = omega arith in e))

pub one_more : (a b c : DeskView) (row v k : ℕ) (read : List ℕ) → length read ≡ k → AddsSteps a b (word_looks row 8 read) → Stepped (SawRow row (8 + k) v) b c → AddsSteps a c (word_looks row 8 (read ++ v ∷ []))
one_more a b c row v k read many s did =
    subst (AddsSteps a c) (ap (λ (n : ℕ). word_looks row 8 read ++ SawRow row (8 + n) v ∷ []) (sym many) ∙ sym (looks-snoc row 8 read v)) (shape_then a b c (word_looks row 8 read) (SawRow row (8 + k) v ∷ []) s (step_shape (SawRow row (8 + k) v) b c did))

pub words_on : (P : ℕ → Type 0) (ns : List ℕ) (n : ℕ) → AllByRecursion P ns → P n → AllByRecursion P (ns ++ n ∷ [])
words_on P [] n all p = (p, tt)
words_on P (x ∷ xs) n all p = (all.0, words_on P xs n all.1 p)

pub three_looks : (a b c d : DeskView) (row w1 w2 w3 v1 v2 v3 : ℕ) → Stepped (SawRow row w1 v1) a b → Stepped (SawRow row w2 v2) b c → Stepped (SawRow row w3 v3) c d → AddsSteps a d (SawRow row w1 v1 ∷ SawRow row w2 v2 ∷ SawRow row w3 v3 ∷ [])
three_looks a b c d row w1 w2 w3 v1 v2 v3 s1 s2 s3 =
    shape_then a b d (SawRow row w1 v1 ∷ []) _ (step_shape _ a b s1) (shape_then b c d (SawRow row w2 v2 ∷ []) _ (step_shape _ b c s2) (step_shape _ c d s3))

-- end words

ended_at : (books : BooksView) (row : RowNo) (w v : ℕ) (kind : EndKind) (old new : DeskView) → IsOf books new → Stepped (SawRow row.row w v) old new → 0 < w → IsSealedSince old row (Ended kind) → IsStillPresent new row → (b : Booking) × HasEndWords kind b × IsInRange new.layout b × (v ≡ word_at b w) × (b.phase ≡ Ended kind)
ended_at books row w v kind old new of did some on now =
    let b = found (booking_at (state_seen new) row.row row.generation) (IsAfter (Ended kind)) (since_on old new (SawRow row.row w v ∷ []) row (Ended kind) (step_shape (SawRow row.row w v) old new did) on) in
    let here = key_present (state_seen new) row.row row.generation b.0 now b.1 in
    let sound = all_found (IsSound new.layout) (state_seen new) row.row b.0 (is_sound new.layout new.seen did.legal).each here in
    let ended = b.2.1 kind refl in
    (b.0, (sound.ended kind ended).1, all_found (IsInRange new.layout) (state_seen new) row.row b.0 (ranges_all new.layout new.seen of.legal) here, shown row.row w v old new b.0 did here some, ended)

paid : (a : ℤ) → a ≤ℤ pos greatest_amount → amount_word Refund a ≤ greatest_amount
paid (pos n) l = omega (arith, ints)
paid (negsuc n) l = omega arith

is_amount : (kind : EndKind) (a : ℤ) (v : ℕ) → IsAmountOf kind a → v ≡ amount_word kind a → IsAmountWord kind v
is_amount Release a v fits is = is
is_amount Expire a v fits is = is
is_amount Refund a v fits is = subst (λ (n : ℕ). n ≤ greatest_amount) (sym is) (paid a fits.1)
is_amount Exchange a v fits is = tt

pub amount_fits : (books : BooksView) (row : RowNo) (v : ℕ) (kind : EndKind) (old new : DeskView) → IsOf books new → Stepped (SawRow row.row 6 v) old new → IsSealedSince old row (Ended kind) → IsStillPresent new row → IsAmountWord kind v
amount_fits books row v kind old new of did on now = let b = ended_at books row 6 v kind old new of did (omega arith) on now in is_amount kind b.0.end.amount v (subst (λ (p : Phase). HasAmountFor p b.0.end.amount) b.4 b.2.amount) (b.3 ∙ b.1.amount)

pub moment_fits : (books : BooksView) (row : RowNo) (v : ℕ) (kind : EndKind) (old new : DeskView) → IsOf books new → Stepped (SawRow row.row 7 v) old new → IsSealedSince old row (Ended kind) → IsStillPresent new row → v ≤ last_moment
moment_fits books row v kind old new of did on now = let b = ended_at books row 7 v kind old new of did (omega arith) on now in subst (λ (n : ℕ). n ≤ last_moment) (sym (b.3 ∙ b.1.moment)) b.2.moment

-- the word of a successor is of a generation that a row may have
pub successor_fits : (books : BooksView) (row : RowNo) (v : ℕ) (kind : EndKind) (old new : DeskView) → IsOf books new → new.layout.rows ≤ most_rows → Stepped (SawRow row.row 5 v) old new → IsSealedSince old row (Ended kind) → IsStillPresent new row → v ≤ last_successor
successor_fits books row v kind old new of few did on now =
    let b = ended_at books row 5 v kind old new of did (omega arith) on now in
    ⊎_elim
    (λ (none : b.0.end.successor ≡ 0). let zero_word : v ≡ 0 = b.3 ∙ (b.1.successor ∙ none) in omega (arith, zero_word))
    (λ some. within v some.0 some.1 new.layout.rows (b.3 ∙ (b.1.successor ∙ some.4)) some.2 some.3 few)
    b.2.successor
  where
    within : (v r j rows : ℕ) → v ≡ successor_word r j → r < rows → j ≤ last_generation → rows ≤ most_rows → v ≤ last_successor
    within v r j rows e l m n = omega (arith, e, l, m, n)

-- the three end words, of a booking that is its row's present one after them
pub end_fits : (books : BooksView) (row : RowNo) (v1 v2 v3 : ℕ) (kind : EndKind) (a b c d : DeskView) → IsOf books b → IsOf books c → IsOf books d → books.layout.rows ≤ most_rows → IsSealedSince a row (Ended kind)
    → Stepped (SawRow row.row 5 v1) a b → Stepped (SawRow row.row 6 v2) b c → Stepped (SawRow row.row 7 v3) c d → IsStillPresent d row → (v1 ≤ last_successor) × IsAmountWord kind v2 × (v3 ≤ last_moment)
end_fits books row v1 v2 v3 kind a b c d of1 of2 of3 few on s1 s2 s3 now3 =
    let h1 = step_shape (SawRow row.row 5 v1) a b s1 in
    let h2 = step_shape (SawRow row.row 6 v2) b c s2 in
    let h3 = step_shape (SawRow row.row 7 v3) c d s3 in
    let o1 = since_on a b (SawRow row.row 5 v1 ∷ []) row (Ended kind) h1 on in
    let o2 = since_on b c (SawRow row.row 6 v2 ∷ []) row (Ended kind) h2 o1 in
    let now2 = still_before c d (SawRow row.row 7 v3 ∷ []) row h3 (sealed_of c row (Ended kind) o2) now3 in
    let now1 = still_before b c (SawRow row.row 6 v2 ∷ []) row h2 (sealed_of b row (Ended kind) o1) now2 in (
      successor_fits books row v1 kind a b of1 (subst (λ (g : Layout). g.rows ≤ most_rows) (sym of1.layout) few) s1 on now1,
      amount_fits books row v2 kind b c of2 s2 o1 now2,
      moment_fits books row v3 kind c d of3 s3 o2 now3,
    )

-- the generation of a booking that was seen, and of a hold, is one that a row may have

pub generation_of_seen : (books : BooksView) (desk : DeskView) (row : RowNo) (phase : Phase) → IsOf books desk → IsSealedSince desk row phase → row.generation ≤ last_generation
generation_of_seen books desk row phase of on =
    let s = state_seen desk in
    let b = found (booking_at s row.row row.generation) (IsAfter phase) on in
    let sound = All-found (IsSound desk.layout) (stands_as row.row row.generation) s b.0 b.1 (is_sound desk.layout desk.seen of.legal).each in
    subst (λ (n : ℕ). n ≤ last_generation) (key_at s row.row row.generation b.0 b.1).1 sound.generation

pub generation_of_hold : (books : BooksView) (desk : DeskView) (hold : HoldView) → IsOf books desk → IsHolding desk hold → hold.row.generation ≤ last_generation
generation_of_hold books desk hold of is =
    let st = is.of.0 in
    let sound = all_found (IsSound desk.layout) (state_seen desk) hold.row.row st.booking (is_sound desk.layout desk.seen of.legal).each st.found in
    subst (λ (n : ℕ). n ≤ last_generation) st.generation sound.generation

-- the first look

pub first_shown : (row : RowNo) (v : ℕ) (ph : Phase) (old new : DeskView) → Stepped (SawRow row.row 0 v) old new → (ph ≡ Free → ⊥) → ph ≡ phase_shown row.generation v
    → (b : Booking) × (present (state_seen new) row.row ≡ Some b) × (b.generation ≡ row.generation) × (b.phase ≡ ph)
first_shown row v ph old new did not_free is =
    present_shown (state_seen new) row.row row.generation ph not_free (sym (is ∙ ap (phase_shown row.generation) (saw row.row 0 v old new did)))

pub sealed_not_free : (ph : Phase) → is_sealed ph ≡ true → ph ≡ Free → ⊥
sealed_not_free ph sealed e = let no : false ≡ true = sym (ap is_sealed e) ∙ sealed in cc

pub shown_still : (row : RowNo) (v : ℕ) (ph : Phase) (old new : DeskView) → Stepped (SawRow row.row 0 v) old new → (ph ≡ Free → ⊥) → ph ≡ phase_shown row.generation v → IsStillPresent new row
shown_still row v ph old new did not_free is =
    let b = first_shown row v ph old new did not_free is in
    sym (present_latest (state_seen new) row.row b.0 b.1).1 ∙ ap (λ (n : ℕ). n + 1) b.2

pub sealed_since : (row : RowNo) (v : ℕ) (ph : Phase) (old new : DeskView) → Stepped (SawRow row.row 0 v) old new → ph ≡ phase_shown row.generation v → is_sealed ph ≡ true → IsSealedSince new row ph
sealed_since row v ph old new did is sealed =
    let b = first_shown row v ph old new did (sealed_not_free ph sealed) is in
    let at = subst (λ (n : ℕ). booking_at (state_seen new) row.row n ≡ Some b.0) b.2 (present_key (state_seen new) row.row b.0 b.1) in
    at_key new row b.0 (IsAfter ph) at (ap is_sealed b.3 ∙ sealed, λ kind e. b.3 ∙ e)

pub first_word : (row : RowNo) (v : ℕ) (ph : Phase) (old new : DeskView) → Stepped (SawRow row.row 0 v) old new → ph ≡ phase_shown row.generation v → is_sealed ph ≡ true → v ≡ row_word_of ph row.generation
first_word row v ph old new did is sealed =
    let b = first_shown row v ph old new did (sealed_not_free ph sealed) is in
    saw row.row 0 v old new did ∙ (ap (word_in 0) b.1 ∙ (λ i. row_word_of (b.3 i) (b.2 i)))

pub first_shape : (row : RowNo) (v : ℕ) (ph : Phase) (old new : DeskView) → Stepped (SawRow row.row 0 v) old new → ph ≡ phase_shown row.generation v → is_sealed ph ≡ true → AddsSteps old new (saw_phase row ph ∷ [])
first_shape row v ph old new did is sealed = subst (λ (n : ℕ). AddsSteps old new (SawRow row.row 0 n ∷ [])) (first_word row v ph old new did is sealed) (step_shape (SawRow row.row 0 v) old new did)

-- all of these steps look, and are few

pub looks_all : (row w : ℕ) (ns : List ℕ) → AllLooks (word_looks row w ns)
looks_all row w [] = tt
looks_all row w (n ∷ ns) = (refl, looks_all row (suc w) ns)

pub looks_append : (xs ys : List Step) → AllLooks xs → AllLooks ys → AllLooks (xs ++ ys)
looks_append [] ys p q = q
looks_append (x ∷ xs) ys p q = (p.0, looks_append xs ys p.1 q)

length-looks : (row w : ℕ) (ns : List ℕ) → length (word_looks row w ns) ≡ length ns
length-looks row w [] = refl
length-looks row w (n ∷ ns) = ap suc (length-looks row (suc w) ns)

-- the looks of a call that read a booking's words, with the last one
pub all_read : RowNo → RowWords → ℕ → List Step
all_read row ws last = saw_phase row ws.phase ∷ words_read row.row ws ++ SawRow row.row 0 last ∷ []

pub read_looks : (row : RowNo) (ws : RowWords) (last : ℕ) → AllLooks (all_read row ws last)
unfolding all_read
read_looks row ws last =
    (refl, looks_append (words_read row.row ws) (SawRow row.row 0 last ∷ []) (refl, (refl, (refl, (refl, looks_append (word_looks row.row 8 ws.items) (word_looks row.row 5 ws.end) (looks_all row.row 8 ws.items) (looks_all row.row 5 ws.end))))) (refl, tt))

end_few : (ph : Phase) → end_words ph ≤ 3
end_few Free = omega arith
end_few Making = omega arith
end_few Prebooked = omega arith
end_few Confirmed = omega arith
end_few Fulfilled = omega arith
end_few (Ending k) = omega arith
end_few (Ended k) = omega arith

pub read_few : (row : RowNo) (ws : RowWords) (last : ℕ) → AreRead ws → length (all_read row ws last) ≤ most_items + 9
unfolding all_read
read_few row ws last so =
    few (length (words_read row.row ws ++ SawRow row.row 0 last ∷ [])) (length (words_read row.row ws)) (length (word_looks row.row 8 ws.items ++ word_looks row.row 5 ws.end))
    (length ws.items) (length ws.end) ws.count
    (length-append (words_read row.row ws) (SawRow row.row 0 last ∷ [])) refl
    (length-append (word_looks row.row 8 ws.items) (word_looks row.row 5 ws.end) ∙ (λ i. length-looks row.row 8 ws.items i + length-looks row.row 5 ws.end i))
    so.items (subst (λ (n : ℕ). n ≤ 3) (sym so.end) (end_few ws.phase))
  where
    least : (n m : ℕ) → min n m ≤ m
    least n m = omega arith

    few : (all words rest items end count : ℕ) → all ≡ words + 1 → words ≡ suc (suc (suc (suc rest))) → rest ≡ items + end → items ≡ min count most_items → end ≤ 3 → suc all ≤ most_items + 9
    few all words rest items end count a b c d e = let l = least count most_items in omega (arith, a, b, c, d, e, l)

pub read_bound : (old new : DeskView) (row : RowNo) (ws : RowWords) (last : ℕ) → AreRead ws → AddsSteps old new (all_read row ws last) → AddsAtMost (most_items + 9) old new
read_bound old new row ws last so did = adds_length old new (all_read row ws last) (most_items + 9) did (read_few row ws last so)

pub read_shape : (a b c d : DeskView) (row : RowNo) (v last : ℕ) (ws : RowWords) (ph : Phase) → Stepped (SawRow row.row 0 v) a b → ph ≡ phase_shown row.generation v → is_sealed ph ≡ true → ws.phase ≡ ph → AddsSteps b c (words_read row.row ws) → Stepped (SawRow row.row 0 last) c d → AddsSteps a d (all_read row ws last)
unfolding all_read
read_shape a b c d row v last ws ph first is sealed same rest did =
    shape_then a b d (saw_phase row ws.phase ∷ []) (words_read row.row ws ++ SawRow row.row 0 last ∷ [])
    (subst (λ (p : Phase). AddsSteps a b (saw_phase row p ∷ [])) (sym same) (first_shape row v ph a b first is sealed))
    (shape_then b c d (words_read row.row ws) (SawRow row.row 0 last ∷ []) rest (step_shape (SawRow row.row 0 last) c d did))

-- a look that reads a booking's words: all that it leaves
pub record LooksAll (row : RowNo) (ws : RowWords) (last : ℕ) (old new : DeskView) : Type 0 where
  pub shape : AddsSteps old new (all_read row ws last)
  pub holds : KeepsHolds old new
  pub endings : KeepsEndings old new
  pub bound : AddsAtMost (most_items + 9) old new

pub looks_whole : (a b c d : DeskView) (row : RowNo) (v last : ℕ) (ws : RowWords) (ph : Phase) → Stepped (SawRow row.row 0 v) a b → ph ≡ phase_shown row.generation v → is_sealed ph ≡ true → ws.phase ≡ ph → AreRead ws → AddsSteps b c (words_read row.row ws) → c.kept ≡ b.kept
    → Stepped (SawRow row.row 0 last) c d → LooksAll row ws last a d
looks_whole a b c d row v last ws ph first is sealed same so rest kept did =
    let whole = read_shape a b c d row v last ws ph first is sealed same rest did in record {
      shape = whole;
      holds = looks_holds a d (all_read row ws last) whole (did.same.5 ∙ (kept ∙ first.same.5)) (read_looks row ws last);
      endings = looks_endings a d (all_read row ws last) whole (read_looks row ws last);
      bound = read_bound a d row ws last so whole;
    }

-- those that show that the row was given away meanwhile, and those that show the booking
pub looks_none : (row : RowNo) (ws : RowWords) (last : ℕ) → AreRead ws → phase_shown row.generation last ≡ Free → LooksNone row (all_read row ws last)
unfolding all_read
looks_none row ws last so free = inr (ws, last, so, free, refl)

-- what the words say, where they are those of one booking

items_as_words : (row w : ℕ) (items : List Item) → item_looks row w items ≡ word_looks row w (map (λ (i : Item). item_word i.place i.span) items)
items_as_words row w [] = refl
items_as_words row w (i ∷ is) = ap (λ l. SawRow row w (item_word i.place i.span) ∷ l) (items_as_words row (suc w) is)

pub seen_as_read : (row : ℕ) (v : RowSeen) (ws : RowWords) → v.phase ≡ ws.phase → v.retailer ≡ ws.retailer → v.limit ≡ ws.limit → v.total ≡ ws.total → map (λ (i : Item). item_word i.place i.span) v.items ≡ ws.items → ws.count ≡ length ws.items
    → saw_end row ws.phase v.ended ≡ word_looks row 5 ws.end → saw_words row v ≡ words_read row ws
seen_as_read row v ws phase retailer limit total items count end =
    let many : length v.items ≡ ws.count = sym (length-map v.items (λ (i : Item). item_word i.place i.span)) ∙ (ap length items ∙ sym count) in
    let looks : item_looks row 8 v.items ≡ word_looks row 8 ws.items = items_as_words row 8 v.items ∙ ap (word_looks row 8) items in
    let last : saw_end row v.phase v.ended ≡ word_looks row 5 ws.end = ap (λ (p : Phase). saw_end row p v.ended) phase ∙ end in
    λ i. SawRow row 1 (retailer i) ∷ SawRow row 2 (limit i) ∷ SawRow row 3 (total i) ∷ SawRow row 4 (many i) ∷ looks i ++ last i

pub all_seen : (row : RowNo) (v : RowSeen) (ws : RowWords) (last : ℕ) → v.phase ≡ ws.phase → saw_words row.row v ≡ words_read row.row ws → all_read row ws last ≡ saw_row row v last
unfolding all_read
all_seen row v ws last phase words = λ i. saw_phase row (sym phase i) ∷ sym words i ++ SawRow row.row 0 last ∷ []

-- a successor is as its word, which may be one
pub succeeds : (ph : Phase) (e : Option End) (ws : List ℕ) → IsEndOf ph ws → has_end ph e ≡ true → ((row : ℕ) → saw_end row ph e ≡ word_looks row 5 ws) → MaySucceed e
succeeds ph None ws is there looks = tt
succeeds Free (Some e) ws is there looks = let no : false ≡ true = there in cc
succeeds Making (Some e) ws is there looks = let no : false ≡ true = there in cc
succeeds Prebooked (Some e) ws is there looks = let no : false ≡ true = there in cc
succeeds Confirmed (Some e) ws is there looks = let no : false ≡ true = there in cc
succeeds Fulfilled (Some e) ws is there looks = let no : false ≡ true = there in cc
succeeds (Ending k) (Some e) ws is there looks = let no : false ≡ true = there in cc
succeeds (Ended k) (Some e) [] is there looks = absurd is
succeeds (Ended k) (Some e) (x ∷ []) is there looks = absurd is
succeeds (Ended k) (Some e) (x ∷ y ∷ []) is there looks = absurd is
succeeds (Ended k) (Some e) (x ∷ y ∷ z ∷ []) is there looks =
    let l : SawRow 0 5 e.successor ∷ SawRow 0 6 (amount_word k e.amount) ∷ SawRow 0 7 e.moment ∷ [] ≡ SawRow 0 5 x ∷ SawRow 0 6 y ∷ SawRow 0 7 z ∷ [] = looks 0 in
    let same : x ≡ e.successor = cc in
    subst (λ (n : ℕ). n ≤ last_successor) same is.0
succeeds (Ended k) (Some e) (x ∷ y ∷ z ∷ more ∷ rest) is there looks = absurd is

pub four_looks : (a b c d e : DeskView) (row v1 v2 v3 v4 : ℕ) → Stepped (SawRow row 1 v1) a b → Stepped (SawRow row 2 v2) b c → Stepped (SawRow row 3 v3) c d → Stepped (SawRow row 4 v4) d e → AddsSteps a e (SawRow row 1 v1 ∷ SawRow row 2 v2 ∷ SawRow row 3 v3 ∷ SawRow row 4 v4 ∷ [])
four_looks a b c d e row v1 v2 v3 v4 s1 s2 s3 s4 =
    shape_then a d e (SawRow row 1 v1 ∷ SawRow row 2 v2 ∷ SawRow row 3 v3 ∷ []) (SawRow row 4 v4 ∷ []) (three_looks a b c d row 1 2 3 v1 v2 v3 s1 s2 s3) (step_shape _ d e s4)

-- a desk that reads the words of a sealed booking, step by step
pub record Reads (row : RowNo) (ph : Phase) (a b c d e : DeskView) (v1 v2 v3 v4 : ℕ) : Type 0 where
  pub since : IsSealedSince e row ph
  pub before : IsStillPresent e row → (v1 ≤ greatest_retailer) × (v2 ≤ last_moment) × (v3 ≤ greatest_amount) × (v4 ≤ most_items) × HasItems e row v4

pub reads : (row : RowNo) (ph : Phase) (a b c d e : DeskView) (v1 v2 v3 v4 : ℕ) → IsSealedSince a row ph → Stepped (SawRow row.row 1 v1) a b → Stepped (SawRow row.row 2 v2) b c → Stepped (SawRow row.row 3 v3) c d → Stepped (SawRow row.row 4 v4) d e → Reads row ph a b c d e v1 v2 v3 v4
reads row ph a b c d e v1 v2 v3 v4 on s1 s2 s3 s4 =
    let h1 = step_shape (SawRow row.row 1 v1) a b s1 in
    let h2 = step_shape (SawRow row.row 2 v2) b c s2 in
    let h3 = step_shape (SawRow row.row 3 v3) c d s3 in
    let h4 = step_shape (SawRow row.row 4 v4) d e s4 in
    let o1 = since_on a b (SawRow row.row 1 v1 ∷ []) row ph h1 on in
    let o2 = since_on b c (SawRow row.row 2 v2 ∷ []) row ph h2 o1 in
    let o3 = since_on c d (SawRow row.row 3 v3 ∷ []) row ph h3 o2 in
    let o4 = since_on d e (SawRow row.row 4 v4 ∷ []) row ph h4 o3 in record {
      since = o4;
      before = λ now4.
          let now3 = still_before d e (SawRow row.row 4 v4 ∷ []) row h4 (sealed_of d row ph o3) now4 in
          let now2 = still_before c d (SawRow row.row 3 v3 ∷ []) row h3 (sealed_of c row ph o2) now3 in
          let now1 = still_before b c (SawRow row.row 2 v2 ∷ []) row h2 (sealed_of b row ph o1) now2 in
          let count = count_fits row v4 d e s4 (sealed_of d row ph o3) now4 in (
            retailer_fits row v1 a b s1 (sealed_of a row ph on) now1,
            limit_fits row v2 b c s2 (sealed_of b row ph o1) now2,
            total_fits row v3 c d s3 (sealed_of c row ph o2) now3,
            count.0,
            count.1,
          );
    }
