-- Rows with a sealed booking, and what an export says of them.
use Rattle.std.proofs.Common.{◌≡◌, ◌∙◌, ℕ, zero, suc, ◌+◌, ◌<◌, ◌≤◌, ℤ, pos, negsuc, Bool, true, cond, ne_eqb, List, [], ◌∷◌, ◌++◌, append_assoc, append-nil, map, take, length, slice_get, refl, sym, ap, subst, Option, Some, None, IsSomeAnd, arith}
use Rattle.std.specs.Prelude.{option_and_then, option_to_list, flat_map}
use Rattle.std.specs.Option.{option_map_or}
use Rattle.std.proofs.lemmas.List.{length-map, take_all}
use Rattle.leg_masks.specs.Interval.{PlacedSpan as Item}
use Rattle.history_model.specs.declared.booking.BookedItem.{BookedItem}
use Rattle.history_model.specs.declared.phase.Phase.{Phase}
use Rattle.history_model.specs.declared.phase.Phase.TheVariants.{Free, Making, Prebooked, Confirmed, Fulfilled, Ending, Ended}
use Rattle.history_model.specs.declared.phase.EndKind.{EndKind}
use Rattle.history_model.specs.declared.phase.EndKind.TheVariants.{Release, Expire, Refund, Exchange}
use Rattle.history_model.specs.Allowed.{IsAmountOf, OnRow}
use Rattle.history_model.specs.Booking.{Booking, amount_word, phase_of_row, present}
use Rattle.history_model.specs.Laws.{HasAmountFor, IsInRange, IsSound}
use Rattle.history_model.specs.Phase.{is_sealed}
use Rattle.history_model.specs.Words.{row_word}
use Rattle.history_model.proofs.Keeping.{found}
use Rattle.history_model.proofs.Owners.{on_row}
use Rattle.history_model.proofs.Ranges.{all_found, ranges_all, row_of}
use Rattle.claim_rule.specs.Openings.{KeptBooking, end_in, kept_as, kept_in, kept_of_row, placed, stub}
use Rattle.claim_rule.specs.Walls.{WallView}
use Rattle.line_text.specs.declared.ends.SaidEnd.{SaidEnd}
use Rattle.cold_store.specs.Exports.{HasItem, IsClosed, IsItemAt, IsShownAs, end_text, items_text, row_text, state_on, stub_text, words_text}
use Rattle.cold_store.specs.Written.{said_of}
use Rattle.line_text.specs.Lines.{amount_field, booking_line, end_fields, head_text, item_field, items_fields, number_field, said_item, said_successor, successor_field, text_of}
use Rattle.cold_store.proofs.WallRows.{get_placed, item_there, sound_on, word_on}

pub record IsSealedOn (w : WallView) (row : ℕ) (b : Booking) : Type 0 where
  pub at : present (state_on w) row ≡ Some b
  pub sealed : is_sealed b.phase ≡ true
  pub sound : IsSound w.layout b
  pub count : row_word (state_on w) row 4 ≡ length b.items

pub sealed_at : (w : WallView) (row : ℕ) (b : Booking) → IsClosed w → present (state_on w) row ≡ Some b → is_sealed b.phase ≡ true → IsSealedOn w row b
sealed_at w row b closed at sealed =
    let sound = sound_on w row b closed at in
    record { at = at; sealed = sealed; sound = sound; count = word_on (state_on w) row 4 b at (λ (e : 4 ≡ 0). omega arith) ∙ (sound.sealed sealed).count }

pub sealed_row : (w : WallView) (row : ℕ) → IsClosed w → OnRow (state_on w) row (λ b. is_sealed b.phase ≡ true) → (b : Booking) × IsSealedOn w row b
sealed_row w row closed on =
    let b = found (present (state_on w) row) (λ b. is_sealed b.phase ≡ true) on in
    (b.0, sealed_at w row b.0 closed b.1 b.2)

pub has_item : (w : WallView) (row k : ℕ) (b : Booking) → IsSealedOn w row b → k < row_word (state_on w) row 4 → HasItem w row k
has_item w row k b is less =
    on_row (state_on w) row b (λ b. (is_sealed b.phase ≡ true) × (k < length b.items)) is.at (is.sealed, subst (λ n. k < n) is.count less)

-- what is kept of the row
kept_sealed : (phase : Phase) (b : Booking) → is_sealed phase ≡ true → kept_in phase b ≡ Some (kept_as b)
kept_sealed Free b e = cc
kept_sealed Making b e = cc
kept_sealed Prebooked b e = refl
kept_sealed Confirmed b e = refl
kept_sealed Fulfilled b e = refl
kept_sealed (Ending kind) b e = refl
kept_sealed (Ended kind) b e = refl

pub kept_row : (w : WallView) (row : ℕ) (b : Booking) → IsSealedOn w row b → kept_of_row (state_on w) row ≡ Some (kept_as b)
kept_row w row b is = ap (λ (o : Option Booking). option_and_then (λ b. kept_in b.phase b) o) is.at ∙ kept_sealed b.phase b is.sealed

-- the fields of items
abbrev pub booked_fields : List BookedItem → List ℕ
booked_fields is = items_fields (map said_item (map placed is))

pub fields_more : (is : List BookedItem) (k : ℕ) (i : BookedItem) → slice_get is k ≡ Some i → booked_fields (take (suc k) is) ≡ booked_fields (take k is) ++ item_field (said_item (placed i))
fields_more [] k i e = absurd cc
fields_more (x ∷ xs) zero i e = let same : x ≡ i = cc in ap (λ y. item_field (said_item (placed y)) ++ []) same ∙ append-nil (item_field (said_item (placed i)))
fields_more (x ∷ xs) (suc k) i e =
    ap (λ t. item_field (said_item (placed x)) ++ t) (fields_more xs k i e)
    ∙ sym (append_assoc (item_field (said_item (placed x))) (booked_fields (take k xs)) (item_field (said_item (placed i))))

pub items_text_is : (w : WallView) (row : ℕ) (b : Booking) → IsSealedOn w row b → items_text w row ≡ booked_fields b.items
items_text_is w row b is =
    ap (λ (o : Option KeptBooking). flat_map (λ k. items_fields (said_of k).items) (option_to_list o)) (kept_row w row b is) ∙ append-nil (booked_fields b.items)

-- the items of the booking of a row
abbrev pub row_items : WallView → ℕ → List BookedItem
row_items w row = option_map_or (λ (b : Booking). b.items) (present (state_on w) row) []

-- one item more
pub items_go_on : (w : WallView) (row k : ℕ) (item : Item) (old now new : List ℕ) → IsClosed w → HasItem w row k → IsItemAt w row k item
    → now ≡ old ++ booked_fields (take k (row_items w row)) → new ≡ now ++ item_field (said_item item) → new ≡ old ++ booked_fields (take (k + 1) (row_items w row))
items_go_on w row k item old now new closed has at is more =
    let x = item_there w row k closed has in
    let here : slice_get (row_items w row) k ≡ Some x.1 = ap (λ (o : Option Booking). slice_get (option_map_or (λ (b : Booking). b.items) o []) k) x.2.at ∙ x.2.is in
    let said : slice_get (map placed x.0.items) k ≡ Some item = subst (λ (o : Option Booking). IsSomeAnd o (λ b. slice_get (map placed b.items) k ≡ Some item)) x.2.at at in
    let same : placed x.1 ≡ item = same_item (placed x.1) item (sym (get_placed x.0.items k x.1 x.2.is) ∙ said) in
    let next : suc k ≡ k + 1 = omega arith in
    more ∙ (λ j. is j ++ item_field (said_item (sym same j)))
    ∙ (append_assoc old (booked_fields (take k (row_items w row))) (item_field (said_item (placed x.1)))
    ∙ ap (λ t. old ++ t) (sym (fields_more (row_items w row) k x.1 here) ∙ ap (λ (n : ℕ). booked_fields (take n (row_items w row))) next))
  where
    same_item : (x y : Item) → Some x ≡ Some y → x ≡ y
    same_item x y e = cc

-- all items
pub items_done : (w : WallView) (row k : ℕ) (b : Booking) → IsSealedOn w row b → row_word (state_on w) row 4 ≤ k → booked_fields (take k (row_items w row)) ≡ items_text w row
items_done w row k b is all =
    let enough : length b.items ≤ k = omega (arith, all, is.count) in
    let items : row_items w row ≡ b.items = ap (λ (o : Option Booking). option_map_or (λ (b : Booking). b.items) o []) is.at in
    ap (λ xs. booked_fields xs) (ap (take k) items ∙ take_all k b.items enough) ∙ sym (items_text_is w row b is)

-- ends

ends_alike : (kind : EndKind) (a b : ℤ) → IsAmountOf kind a → IsAmountOf kind b → amount_word kind a ≡ amount_word kind b → a ≡ b
ends_alike Release a b x y e = x ∙ sym y
ends_alike Expire a b x y e = x ∙ sym y
ends_alike Refund (pos m) (pos n) x y e = ap pos e
ends_alike Refund (negsuc m) b x y e = absurd (omega (arith, x.0))
ends_alike Refund (pos m) (negsuc n) x y e = absurd (omega (arith, y.0))
ends_alike Exchange (pos m) (pos n) x y e = let same : m ≡ n = omega arith in ap pos same
ends_alike Exchange (negsuc m) (negsuc n) x y e = let same : m ≡ n = omega arith in ap negsuc same
ends_alike Exchange (pos m) (negsuc n) x y e = absurd (omega arith)
ends_alike Exchange (negsuc m) (pos n) x y e = absurd (omega arith)

-- a row whose booking has ended
pub record IsEndedRow (w : WallView) (row : ℕ) (kind : EndKind) (b : Booking) : Type 0 where
  pub on : IsSealedOn w row b
  pub phase : b.phase ≡ Ended kind
  pub range : IsAmountOf kind b.end.amount
  pub successor : row_word (state_on w) row 5 ≡ b.end.successor
  pub amount : row_word (state_on w) row 6 ≡ amount_word kind b.end.amount
  pub moment : row_word (state_on w) row 7 ≡ b.end.moment

pub ended_row : (w : WallView) (row : ℕ) (kind : EndKind) → IsClosed w → OnRow (state_on w) row (λ b. b.phase ≡ Ended kind) → (b : Booking) × IsEndedRow w row kind b
ended_row w row kind closed ended =
    let b = found (present (state_on w) row) (λ b. b.phase ≡ Ended kind) ended in
    let on = sealed_at w row b.0 closed b.1 (ap is_sealed b.2) in
    let words = (on.sound.ended kind b.2).1 in
    let ranges = all_found (IsInRange w.layout) (state_on w) row b.0 (ranges_all w.layout w.history closed.legal) b.1 in (
      b.0,
      record {
        on = on;
        phase = b.2;
        range = subst (λ (phase : Phase). HasAmountFor phase b.0.end.amount) b.2 ranges.amount;
        successor = word_on (state_on w) row 5 b.0 b.1 (λ (e : 5 ≡ 0). omega arith) ∙ words.successor;
        amount = word_on (state_on w) row 6 b.0 b.1 (λ (e : 6 ≡ 0). omega arith) ∙ words.amount;
        moment = word_on (state_on w) row 7 b.0 b.1 (λ (e : 7 ≡ 0). omega arith) ∙ words.moment;
      },
    )

pub amount_is : (w : WallView) (row : ℕ) (kind : EndKind) (b : Booking) (amount : ℤ) → IsEndedRow w row kind b → IsAmountOf kind amount → row_word (state_on w) row 6 ≡ amount_word kind amount
    → amount ≡ b.end.amount
amount_is w row kind b amount is range word = ends_alike kind amount b.end.amount range is.range (sym word ∙ is.amount)

pub end_text_is : (w : WallView) (row : ℕ) (kind : EndKind) (b : Booking) → IsEndedRow w row kind b
    → end_text w row ≡ amount_field b.end.amount ++ (number_field (row_word (state_on w) row 7) ++ successor_field (said_successor (row_word (state_on w) row 5)))
end_text_is w row kind b is =
    ap (λ (o : Option KeptBooking). flat_map (λ (k : KeptBooking). end_fields k.phase (said_of k).end) (option_to_list o)) (kept_row w row b is.on)
    ∙ (append-nil (end_fields b.phase (said_of (kept_as b)).end)
    ∙ (ap (λ (phase : Phase). end_said phase) is.phase
    ∙ (λ j. amount_field b.end.amount ++ (number_field (sym is.moment j) ++ successor_field (said_successor (sym is.successor j))))))
  where
    end_said : Phase → List ℕ
    end_said phase = let end = end_in phase b.end in end_fields phase (record { amount = end.amount; moment = end.moment; successor = said_successor end.successor })

-- text behind text
pub three_fields : (t a b c d e f g : List ℕ) → a ≡ t ++ e → b ≡ a ++ f → c ≡ b ++ g → d ≡ e ++ (f ++ g) → c ≡ t ++ d
three_fields t a b c d e f g ha hb hc hd = rw (hc, hb, ha, hd) (simp append_assoc)

-- a booking that hasn't ended has no fields of an end
no_end_fields : (phase : Phase) (end : SaidEnd) → ((kind : EndKind) → phase ≡ Ended kind → ⊥) → end_fields phase end ≡ []
no_end_fields Free end other = refl
no_end_fields Making end other = refl
no_end_fields Prebooked end other = refl
no_end_fields Confirmed end other = refl
no_end_fields Fulfilled end other = refl
no_end_fields (Ending kind) end other = refl
no_end_fields (Ended kind) end other = absurd (other kind refl)

pub no_end_text : (w : WallView) (row : ℕ) (phase : Phase) → IsClosed w → is_sealed phase ≡ true → OnRow (state_on w) row (λ b. b.phase ≡ phase) → ((kind : EndKind) → phase ≡ Ended kind → ⊥)
    → end_text w row ≡ []
no_end_text w row phase closed sealed on other =
    let b = found (present (state_on w) row) (λ b. b.phase ≡ phase) on in
    let is = sealed_at w row b.0 closed b.1 (ap is_sealed b.2 ∙ sealed) in
    ap (λ (o : Option KeptBooking). flat_map (λ (k : KeptBooking). end_fields k.phase (said_of k).end) (option_to_list o)) (kept_row w row b.0 is)
    ∙ (append-nil (end_fields b.0.phase (said_of (kept_as b.0)).end) ∙ no_end_fields b.0.phase (said_of (kept_as b.0)).end (λ kind e. other kind (sym b.2 ∙ e)))

-- the line of a sealed booking
pub row_text_is : (w : WallView) (row : ℕ) (phase : Phase) (generation : ℕ) → IsClosed w → IsShownAs w row phase generation
    → row_text w row ≡ head_text row generation phase ++ (words_text w row ++ (items_text w row ++ (end_text w row ++ 10 ∷ [])))
row_text_is w row phase generation closed shown =
    let b = found (present (state_on w) row) (λ b. (b.phase ≡ phase) × (b.generation ≡ generation)) shown.1 in
    let is = sealed_at w row b.0 closed b.1 (ap is_sealed b.2.0 ∙ shown.0) in
    let kept = kept_row w row b.0 is in
    let head : head_text b.0.row b.0.generation b.0.phase ≡ head_text row generation phase = λ j. head_text (row_of (state_on w) row b.0 b.1 j) (b.2.1 j) (b.2.0 j) in
    let count : length (map said_item (map placed b.0.items)) ≡ row_word (state_on w) row 4 =
    length-map (map placed b.0.items) said_item ∙ (length-map b.0.items placed ∙ sym is.count) in
    let end : end_fields b.0.phase (said_of (kept_as b.0)).end ≡ end_text w row =
    sym (ap (λ (o : Option KeptBooking). flat_map (λ (k : KeptBooking). end_fields k.phase (said_of k).end) (option_to_list o)) kept
    ∙ append-nil (end_fields b.0.phase (said_of (kept_as b.0)).end)) in
    let line : booking_line (said_of (kept_as b.0)) ≡ _ =
    (λ j. head j ++ (number_field (sym (word_on (state_on w) row 1 b.0 b.1 (λ (e : ◌≡◌ {A = ℕ} 1 0). omega arith)) j) ++ (number_field (sym (word_on (state_on w) row 2 b.0 b.1 (λ (e : ◌≡◌ {A = ℕ} 2 0). omega arith)) j)
    ++ (number_field (sym (word_on (state_on w) row 3 b.0 b.1 (λ (e : ◌≡◌ {A = ℕ} 3 0). omega arith)) j) ++ (number_field (count j) ++ (sym (items_text_is w row b.0 is) j ++ end j)))))) in
    ap (λ (o : Option KeptBooking). text_of (map (λ k. booking_line (said_of k)) (option_to_list o))) kept
    ∙ (append-nil (booking_line (said_of (kept_as b.0)) ++ 10 ∷ [])
    ∙ (ap (λ t. t ++ 10 ∷ []) line
    ∙ grouped (head_text row generation phase) (number_field (row_word (state_on w) row 1)) (number_field (row_word (state_on w) row 2)) (number_field (row_word (state_on w) row 3))
    (number_field (row_word (state_on w) row 4)) (items_text w row) (end_text w row) (10 ∷ [])))
  where
    grouped : (h a b c d i e l : List ℕ) → (h ++ (a ++ (b ++ (c ++ (d ++ (i ++ e)))))) ++ l ≡ h ++ ((a ++ (b ++ (c ++ d))) ++ (i ++ (e ++ l)))
    grouped h a b c d i e l = simp append_assoc

pub five_fields : (t a b c d e f g h k l m : List ℕ) → a ≡ t ++ f → b ≡ a ++ g → c ≡ b ++ h → d ≡ c ++ k → e ≡ d ++ l → m ≡ f ++ (g ++ (h ++ (k ++ l))) → e ≡ t ++ m
five_fields t a b c d e f g h k l m ha hb hc hd he hm = rw (he, hd, hc, hb, ha, hm) (simp append_assoc)

-- the line of a row that serves again
pub stub_row : (w : WallView) (row : ℕ) (phase : Phase) (generation : ℕ) → phase ≡ Making → phase ≡ phase_of_row (state_on w) row → OnRow (state_on w) row (λ b. b.generation ≡ generation)
    → (generation ≡ 0 → ⊥) → stub_text row generation ≡ row_text w row
stub_row w row phase generation making shown on some =
    let b = found (present (state_on w) row) (λ b. b.generation ≡ generation) on in
    let is : b.0.phase ≡ Making = sym (ap (λ (o : Option Booking). option_map_or (λ (b : Booking). b.phase) o Free) b.1) ∙ (sym shown ∙ making) in
    let other : b.0.generation ≡ 0 → ⊥ = λ e. some (sym b.2 ∙ e) in
    let kept : kept_of_row (state_on w) row ≡ Some (stub row generation) =
    ap (λ (o : Option Booking). option_and_then (λ b. kept_in b.phase b) o) b.1
    ∙ (ap (λ (phase : Phase). kept_in phase b.0) is
    ∙ (ap (λ (t : Bool). cond t None (Some (stub b.0.row b.0.generation))) (ne_eqb b.0.generation 0 other)
    ∙ (λ j. Some (stub (row_of (state_on w) row b.0 b.1 j) (b.2 j))))) in
    sym (ap (λ (o : Option KeptBooking). text_of (map (λ k. booking_line (said_of k)) (option_to_list o))) kept)
