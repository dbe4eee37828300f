-- The words of a line in its row.
use Rattle.std.proofs.Common.{◌≡◌, ◌≢◌, ◌⊎◌, ⊎_elim, ℕ, zero, suc, ◌+◌, ◌-◌, ◌*◌, ◌<◌, ◌≤◌, Bool, true, false, cond, eqb, List, [], ◌∷◌, ◌++◌, length, map, replicate, append_assoc, Option, Some, None, get_or, refl, sym, ap, ◌∙◌, subst, arith, length-append}
use Rattle.std.proofs.lemmas.Bool.{cases_lt, cases_eq, ne_eqb}
use Rattle.std.proofs.lemmas.List.{length-map}
use Rattle.leg_masks.specs.Interval.{item_word}
use Rattle.leg_masks.specs.Interval.{PlacedSpan as Item}
use Rattle.history_model.specs.declared.phase.Phase.{Phase}
use Rattle.history_model.specs.declared.phase.Phase.TheVariants.{Free, Making, Prebooked, Confirmed, Fulfilled, Ending, Ended}
use Rattle.history_model.specs.Booking.{Booking, State, present, row_words, word_at}
use Rattle.history_model.specs.Phase.{row_word_of}
use Rattle.history_model.specs.Words.{row_word}
use Rattle.history_model.proofs.Writing.{no_word, word_in}
use Rattle.claim_rule.specs.Openings.{KeptBooking, end_words, item_words, opening_booking, opening_words}
use Rattle.line_text.specs.declared.heads.Head.{Head}
use Rattle.line_text.specs.declared.ends.SaidEnd.{SaidEnd}
use Rattle.cold_store.specs.Drafts.{drafted, drafted_successor, end_words_of, put, words_of_line}
use Rattle.line_text.specs.Lines.{SaidBooking}
use Rattle.cold_store.specs.Right.{head_of, kept_item}
use Rattle.cold_store.proofs.Presents.{OtherRows, present-else, present-none, present-push}
use Rattle.cold_store.proofs.Puts.{put-before, put-behind, put-within}

zeros_behind : (xs : List ℕ) (n w : ℕ) → get_or (xs ++ replicate n 0) w 0 ≡ get_or xs w 0
zeros_behind [] n w = no_word n w
zeros_behind (x ∷ xs) n zero = refl
zeros_behind (x ∷ xs) n (suc w) = zeros_behind xs n w

past : (xs : List ℕ) (n : ℕ) → length xs ≤ n → get_or xs n 0 ≡ 0
past [] n h = refl
past (x ∷ xs) zero h = absurd (omega arith)
past (x ∷ xs) (suc n) h = past xs n (omega arith)

ends_same : (phase : Phase) (e : SaidEnd) → end_words_of phase e ≡ end_words phase (record { moment = e.moment; amount = e.amount; successor = drafted_successor e.successor })
ends_same Free e = refl
ends_same Making e = refl
ends_same Prebooked e = refl
ends_same Confirmed e = refl
ends_same Fulfilled e = refl
ends_same (Ending kind) e = refl
ends_same (Ended kind) e = refl

three : (phase : Phase) (e : SaidEnd) → length (end_words_of phase e) ≡ 3
three Free e = refl
three Making e = refl
three Prebooked e = refl
three Confirmed e = refl
three Fulfilled e = refl
three (Ending kind) e = refl
three (Ended kind) e = refl

abbrev pub said_words : SaidBooking → List ℕ
said_words b = words_of_line (head_of b) b.end (map kept_item b.items)

abbrev word_for : Item → ℕ
word_for i = item_word i.place i.span

pub length-words : (h : Head) (e : SaidEnd) (items : List Item) → length (words_of_line h e items) ≡ 8 + length items
length-words h e items =
    let front : List ℕ = row_word_of h.phase h.generation ∷ h.retailer ∷ h.limit ∷ h.total ∷ h.count ∷ end_words_of h.phase e in
    let a : length front ≡ 8 = let t = three h.phase e in omega arith in
    let b = length-append front (map word_for items) in
    let c = length-map items word_for in
    let n : ℕ = length (map word_for items) in
    let c' : n ≡ length items = c in
    omega arith

-- behind word 0 the words of the line are those of the booking
tail_words : (b : SaidBooking) (w : ℕ) → get_or ((b.retailer ∷ b.limit ∷ b.total ∷ length b.items ∷ end_words_of b.phase b.end) ++ map word_for (map kept_item b.items)) w 0
    ≡ get_or ((b.retailer ∷ b.limit ∷ b.total ∷ length (map kept_item b.items) ∷ end_words b.phase (drafted b).end) ++ item_words (map kept_item b.items)) w 0
tail_words b w =
    let items : List Item = map kept_item b.items in
    let front : List ℕ = b.retailer ∷ b.limit ∷ b.total ∷ length items ∷ end_words b.phase (drafted b).end in
    let rest : List ℕ = replicate (56 - length items) 0 in
    let same : b.retailer ∷ b.limit ∷ b.total ∷ length b.items ∷ end_words_of b.phase b.end ≡ front =
    (λ j. b.retailer ∷ b.limit ∷ b.total ∷ (sym (length-map b.items kept_item) j) ∷ (ends_same b.phase b.end j)) in
    ap (λ (xs : List ℕ). get_or (xs ++ map word_for items) w 0) same
    ∙ (sym (zeros_behind (front ++ map word_for items) (56 - length items) w)
    ∙ ap (λ (xs : List ℕ). get_or xs w 0) (append_assoc front (map word_for items) rest))

pub word-said : (b : SaidBooking) (w : ℕ) → get_or (said_words b) w 0 ≡ word_in w (Some (opening_booking (drafted b)))
word-said b zero = refl
word-said b (suc w) =
    let new : Booking = opening_booking (drafted b) in
    tail_words b w ∙ sym (ap (λ (t : Bool). cond t (row_word_of new.phase new.generation) (word_at new (suc w))) (ne_eqb (suc w) 0 (λ e. omega arith)))

-- the words of a row that none had
module _ (s : State) (b : SaidBooking) (others : OtherRows b.row s) where
  abbrev new : Booking
  new = opening_booking (drafted b)

  pub row-here : (w : ℕ) → row_word (s ++ new ∷ []) b.row w ≡ get_or (said_words b) w 0
  row-here w = ap (word_in w) (present-push s new others) ∙ sym (word-said b w)

  pub row-before : (w : ℕ) → row_word s b.row w ≡ 0
  row-before w = ap (word_in w) (present-none s b.row others)

  pub row-else : (q w : ℕ) → b.row ≢ q → row_word (s ++ new ∷ []) q w ≡ row_word s q w
  row-else q w other = ap (word_in w) (present-else s new q other)

  -- the list with the words of the line has the words of each row
  pub row-put : (words : List ℕ) (places rows : ℕ) → length words ≡ 2 * places + 64 * rows → length b.items ≤ 48 → b.row < rows
      → ((q w : ℕ) → q < rows → w < 64 → get_or words (2 * places + (64 * q + w)) 0 ≡ row_word s q w)
      → (q w : ℕ) → q < rows → w < 64 → get_or (put words (2 * places + 64 * b.row) (said_words b)) (2 * places + (64 * q + w)) 0 ≡ row_word (s ++ new ∷ []) q w
  row-put words places rows whole few inside old q w l k = ⊎_elim
      (λ (here : q ≡ b.row). subst (λ (r : ℕ). get_or (put words first ns) (2 * places + (64 * r + w)) 0 ≡ row_word (s ++ new ∷ []) r w) (sym here) (own w k))
      (λ (other : q ≢ b.row). elsewhere q w l k other ∙ (old q w l k ∙ sym (row-else q w (λ e. other (sym e)))))
      (cases_eq q b.row)
    where
      first : ℕ
      first = 2 * places + 64 * b.row

      ns : List ℕ
      ns = said_words b

      many : length ns ≤ 56
      many = let a = length-words (head_of b) b.end (map kept_item b.items) in let c = length-map b.items kept_item in omega arith

      own : (w : ℕ) → w < 64 → get_or (put words first ns) (2 * places + (64 * b.row + w)) 0 ≡ row_word (s ++ new ∷ []) b.row w
      own w k =
          let at : 2 * places + (64 * b.row + w) ≡ first + w = omega arith in
          let m = many in
          ap (λ (n : ℕ). get_or (put words first ns) n 0) at ∙ (⊎_elim
          (λ (within : w < length ns). put-within words first ns w within (omega arith))
          (λ (behind : length ns ≤ w).
          put-behind words first ns (first + w) (omega arith)
          ∙ (ap (λ (n : ℕ). get_or words n 0) (sym at) ∙ (old b.row w inside k ∙ (row-before w ∙ sym (past ns w behind)))))
          (cases_lt w (length ns)) ∙ sym (row-here w))

      elsewhere : (q w : ℕ) → q < rows → w < 64 → q ≢ b.row → get_or (put words first ns) (2 * places + (64 * q + w)) 0 ≡ get_or words (2 * places + (64 * q + w)) 0
      elsewhere q w l k other =
          let m = many in
          ⊎_elim
          (λ (less : q < b.row). put-before words first ns (2 * places + (64 * q + w)) (omega arith))
          (λ (more : b.row ≤ q). put-behind words first ns (2 * places + (64 * q + w)) (omega arith))
          (cases_lt q b.row)
