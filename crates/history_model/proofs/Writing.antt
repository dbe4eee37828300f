-- What each kind of change does to the words.
use Rattle.std.proofs.Common.{◌≡◌, ℕ, zero, suc, ◌+◌, ◌-◌, inr, IsSomeAnd, ◌<◌, ◌≤◌, Bool, true, false, not, ◌&&◌, ◌||◌, cond, eqb, min, max, bit_or, bit_and, w64, List, [], ◌∷◌, ◌++◌, get_or, set, replicate, slice_get, Option, Some, None, refl, sym, ap, ◌∙◌, subst, ⊎_elim, ne_eqb, eq-eqb, arith, lit<, lt_of_le_of_lt, get_or-set_same, get_or-set_other}
use Rattle.std.specs.Int.{bit_at, bit_not}
use Rattle.std.specs.Option.{option_map_or}
use Rattle.std.proofs.lemmas.Bool.{cases_eq}
use Rattle.std.proofs.lemmas.Nat.{or_lt, and_le_l}
use Rattle.std.proofs.lemmas.Nat.Bits.{bit_at_or, bit_at_and, bit_at_not, bit_at-zero}
use Rattle.leg_masks.specs.Interval.{Interval, IsPiece, has_leg, half_of, leg_of, mask}
use Rattle.leg_masks.proofs.Masks.{bit, bit_at-mask, mask-lt, mask-small, other_half}
use Rattle.std.specs.List.{AllByRecursion}
use Rattle.history_model.specs.declared.phase.Phase.{Phase}
use Rattle.history_model.specs.declared.phase.Phase.TheVariants.{Free, Making, Ended}
use Rattle.history_model.specs.declared.phase.EndKind.{EndKind}
use Rattle.history_model.specs.declared.booking.BookedItem.{BookedItem}
use Rattle.history_model.specs.declared.booking.End.{End}
use Rattle.history_model.specs.declared.word.Word.{Word}
use Rattle.history_model.specs.declared.word.Word.TheVariants.{Place, Row}
use Rattle.history_model.specs.Phase.{is_ended, row_word_of}
use Rattle.rail_ids.specs.Spelling.{last_generation}
use Rattle.history_model.specs.Booking.{Booking, Layout, State, key_of, stands_in, present, change, word_at, occupies, is_occupied, row_words}
use Rattle.history_model.specs.Words.{value, place_word, row_word, Writes}
use Rattle.history_model.specs.Allowed.{MayGive, MayStart}
use Rattle.history_model.specs.Apply.{words_of_row, started, item_taken, given, noted, turned}
use Rattle.history_model.specs.Laws.{IsSound, IsWellFormed, LiesWithin}
use Rattle.history_model.proofs.ListLemmas.{All-found}
use Rattle.history_model.proofs.Keeping.{turned-key, turned-items}
use Rattle.history_model.proofs.Going.{turned-phase, turned-words}
use Rattle.history_model.proofs.Generations.{present-changed, present-changed_other, present-started, present-started_other}
use Rattle.history_model.proofs.PhaseWords.{row_word_same}
use Rattle.history_model.proofs.Changes.{occupied_kept, occupied-start, occupied-take, occupied-give}
use Rattle.history_model.proofs.Bits.{place_word-lt, bit_at-place_word, is_place_word, place_word-same, place_word-same_half, max_bits}

-- an item that isn't given back
abbrev pub left_item : ℕ → Interval → BookedItem
left_item place span = record { place = place; span = span; given_back = false }

-- a word of a row, by its booking
abbrev pub word_in : ℕ → Option Booking → ℕ
word_in w o = option_map_or (λ b. cond (eqb w 0) (row_word_of b.phase b.generation) (word_at b w)) o 0

-- words of other rows, and words that a change keeps
pub row_kept : (s : State) (row : ℕ) (f : Booking → Booking) (b : Booking) → present s row ≡ Some b → ((x : Booking) → key_of (f x) ≡ key_of x) → (q w : ℕ) → (q ≡ row → word_in w (Some (f b)) ≡ word_in w (Some b)) → row_word (change s row f) q w ≡ row_word s q w
row_kept s row f b at same q w keeps = ⊎_elim
    (λ (here : q ≡ row). subst (λ (k : ℕ). row_word (change s row f) k w ≡ row_word s k w) (sym here) (ap (word_in w) (present-changed s row f b same at) ∙ (keeps here ∙ sym (ap (word_in w) at))))
    (λ (other : q ≡ row → ⊥). ap (word_in w) (present-changed_other s row q f same other))
    (cases_eq q row)

-- takes

occupies_here : (p l : ℕ) (span : Interval) → occupies p l (left_item p span) ≡ has_leg span l
occupies_here p l span = ap (λ (t : Bool). t && has_leg span l) (eq-eqb p p refl)

occupies_else : (p q l : ℕ) (span : Interval) → (q ≡ p → ⊥) → occupies q l (left_item p span) ≡ false
occupies_else p q l span other = ap (λ (t : Bool). t && has_leg span l) (ne_eqb p q (λ e. other (sym e)))

or_false : (a b : Bool) → b ≡ false → (a || b) ≡ a
or_false true b e = refl
or_false false b e = e

-- in the word of another half
elsewhere : (p q h i : ℕ) (span : Interval) → span.to ≤ 126 → IsPiece span → i < 63 → (Place q h ≡ Place p (half_of span) → ⊥) → occupies q (leg_of h i) (left_item p span) ≡ false
elsewhere p q h i span fits piece l other = ⊎_elim
    (λ (same : q ≡ p). ap (λ (t : Bool). eqb p q && t) (other_half span fits piece h i l (λ e. other (λ k. Place (same k) (e k)))) ∙ and_false (eqb p q))
    (λ (n : q ≡ p → ⊥). occupies_else p q (leg_of h i) span n)
    (cases_eq q p)
  where
    and_false : (a : Bool) → (a && false) ≡ false
    and_false true = refl
    and_false false = refl

-- a take sets the bits of its piece in the word of its half, and changes no other
pub take_writes : (s : State) (r p : ℕ) (span : Interval) (b : Booking) → present s r ≡ Some b → span.from < span.to → span.to ≤ 126 → IsPiece span
    → Writes s (change s r (item_taken p span)) (Place p (half_of span)) (bit_or (place_word s p (half_of span)) (mask span))
take_writes s r p span b at some fits piece = record { here = here; rest = rest }
  where
    here : value (change s r (item_taken p span)) (Place p (half_of span)) ≡ bit_or (place_word s p (half_of span)) (mask span)
    here = is_place_word (change s r (item_taken p span)) p (half_of span) (bit_or (place_word s p (half_of span)) (mask span)) (or_lt 63 (place_word s p (half_of span)) (mask span) (place_word-lt s p (half_of span)) (mask-lt span some fits piece))
        (λ i l. let leg : ℕ = leg_of (half_of span) i in
        bit_at_or (place_word s p (half_of span)) (mask span) i ∙ (ap (λ (x : ℕ). max x (bit_at (mask span) i)) (bit_at-place_word s p (half_of span) i l) ∙ (ap (λ (x : ℕ). max (bit (is_occupied s p leg)) x) (bit_at-mask span some i)
        ∙ (max_bits (is_occupied s p leg) (has_leg span leg) ∙ ap bit (sym (occupied-take s r b p span at p leg ∙ ap (λ (t : Bool). is_occupied s p leg || t) (occupies_here p leg span)))))))

    rest : (a : Word) → (a ≡ Place p (half_of span) → ⊥) → value (change s r (item_taken p span)) a ≡ value s a
    rest (Place q h) other = place_word-same_half s (change s r (item_taken p span)) q h
        (λ i l. occupied-take s r b p span at q (leg_of h i) ∙ or_false (is_occupied s q (leg_of h i)) (occupies q (leg_of h i) (left_item p span)) (elsewhere p q h i span fits piece l other))
    rest (Row q w) other = row_kept s r (item_taken p span) b at (λ _. refl) q w (λ _. refl)

-- starts

abbrev pub zeros : ℕ → List ℕ
zeros n = replicate n 0

pub no_word : (n w : ℕ) → get_or (zeros n) w 0 ≡ 0
no_word zero w = refl
no_word (suc n) zero = refl
no_word (suc n) (suc w) = no_word n w

-- a start writes word 0 of its row, and changes no other
pub start_writes : (s : State) (r j d : ℕ) → MayStart s r j → Writes s (s ++ started r j d (words_of_row s r) ∷ []) (Row r 0) (row_word_of Making j)
start_writes s r j d may = record { here = ap (word_in 0) its; rest = rest }
  where
    new : Booking
    new = started r j d (words_of_row s r)

    its : present (s ++ new ∷ []) r ≡ Some new
    its = present-started s r j d (words_of_row s r) may

    -- the other words are those that the row had
    had : (w : ℕ) → (w ≡ 0 → ⊥) → (o : Option Booking) → get_or (option_map_or (λ (b : Booking). b.words) o (zeros row_words)) w 0 ≡ word_in w o
    had w n None = no_word row_words w
    had w n (Some b) = sym (ap (λ (c : Bool). cond c (row_word_of b.phase b.generation) (word_at b w)) (ne_eqb w 0 n))

    later : (w : ℕ) → (w ≡ 0 → ⊥) → word_in w (present (s ++ new ∷ []) r) ≡ word_in w (present s r)
    later w n = ap (word_in w) its ∙ (ap (λ (c : Bool). cond c (row_word_of Making j) (get_or (words_of_row s r) w 0)) (ne_eqb w 0 n) ∙ had w n (present s r))

    rest : (a : Word) → (a ≡ Row r 0 → ⊥) → value (s ++ new ∷ []) a ≡ value s a
    rest (Place q h) other = place_word-same s (s ++ new ∷ []) q h (λ i. occupied-start s r j d (words_of_row s r) q i)
    rest (Row q w) other = ⊎_elim
        (λ (same : q ≡ r). subst (λ (k : ℕ). word_in w (present (s ++ new ∷ []) k) ≡ word_in w (present s k)) (sym same) (later w (λ z. other (λ i. Row (same i) (z i)))))
        (λ (n : q ≡ r → ⊥). ap (word_in w) (present-started_other s r j d (words_of_row s r) q n))
        (cases_eq q r)

-- all words of no bookings are 0
pub empty_value : (a : Word) → value [] a ≡ 0
empty_value (Place p h) = is_place_word [] p h 0 (lit< tt) (λ i h. bit_at-zero i)
empty_value (Row r w) = refl

-- gives

and_not_bits : (a b : Bool) → min (bit a) (1 - bit b) ≡ bit (a && not b)
and_not_bits true true = refl
and_not_bits true false = refl
and_not_bits false true = refl
and_not_bits false false = refl

and_true : (a : Bool) → (a && true) ≡ a
and_true true = refl
and_true false = refl

-- what holds of a row's booking in a well-formed state
pub sound_of : (g : Layout) (s : State) (r : ℕ) (b : Booking) → IsWellFormed g s → present s r ≡ Some b → IsSound g b
sound_of g s r b good at = All-found (IsSound g) (stands_in s r) s b at good.each

-- what holds of all items holds of the one at a place of the list
item_at : (P : BookedItem → Type 0) (is : List BookedItem) (k : ℕ) (i : BookedItem) → AllByRecursion P is → slice_get is k ≡ Some i → P i
item_at P [] k i all e = absurd cc
item_at P (x ∷ xs) zero i all e = subst P (ap (λ (o : Option BookedItem). item_in o) e) all.0
  where
    item_in : Option BookedItem → BookedItem
    item_in None = x
    item_in (Some y) = y
item_at P (x ∷ xs) (suc k) i all e = item_at P xs k i all.1 e

-- an item of a row's booking lies in one half
pub lies_within : (g : Layout) (s : State) (r k : ℕ) (b : Booking) (i : BookedItem) → IsWellFormed g s → present s r ≡ Some b → slice_get b.items k ≡ Some i → LiesWithin g i
lies_within g s r k b i good at its = item_at (LiesWithin g) b.items k i (sound_of g s r b good at).within its

-- a give clears the bits of its item in the word of its half, and changes no other
pub give_writes : (g : Layout) (s : State) (d r k : ℕ) (b : Booking) (p : ℕ) (span : Interval) → IsWellFormed g s → present s r ≡ Some b → MayGive d k b → slice_get b.items k ≡ Some (left_item p span) → span.to ≤ 126
    → Writes s (change s r (given k)) (Place p (half_of span)) (bit_and (place_word s p (half_of span)) (bit_not w64 (mask span)))
give_writes g s d r k b p span good at may its fits = record { here = here; rest = rest }
  where
    lies : LiesWithin g (left_item p span)
    lies = lies_within g s r k b (left_item p span) good at its

    read : (is : List BookedItem) (k : ℕ) → slice_get is k ≡ Some (left_item p span) → get_or is k (left_item p span) ≡ left_item p span
    read [] k e = refl
    read (x ∷ xs) zero e = ap (λ (o : Option BookedItem). item_in o) e
      where
        item_in : Option BookedItem → BookedItem
        item_in None = x
        item_in (Some y) = y
    read (x ∷ xs) (suc k) e = read xs k e

    now : (q l : ℕ) → is_occupied (change s r (given k)) q l ≡ (is_occupied s q l && not (occupies q l (left_item p span)))
    now q l = occupied-give g s d r k b (left_item p span) good at may q l ∙ ap (λ (x : BookedItem). is_occupied s q l && not (occupies q l x)) (read b.items k its)

    here : value (change s r (given k)) (Place p (half_of span)) ≡ bit_and (place_word s p (half_of span)) (bit_not w64 (mask span))
    here = is_place_word (change s r (given k)) p (half_of span) (bit_and (place_word s p (half_of span)) (bit_not w64 (mask span)))
        (lt_of_le_of_lt (and_le_l (place_word s p (half_of span)) (bit_not w64 (mask span))) (place_word-lt s p (half_of span)))
        (λ l h. let leg : ℕ = leg_of (half_of span) l in
        bit_at_and (place_word s p (half_of span)) (bit_not w64 (mask span)) l
        ∙ (ap (λ (x : ℕ). min x (bit_at (bit_not w64 (mask span)) l)) (bit_at-place_word s p (half_of span) l h)
        ∙ (ap (λ (x : ℕ). min (bit (is_occupied s p leg)) x) (bit_at_not w64 (mask span) l (mask-small span lies.some fits lies.piece) (omega arith) ∙ ap (λ (x : ℕ). 1 - x) (bit_at-mask span lies.some l))
        ∙ (and_not_bits (is_occupied s p leg) (has_leg span leg) ∙ ap bit (sym (now p leg ∙ ap (λ (t : Bool). is_occupied s p leg && not t) (occupies_here p leg span)))))))

    rest : (a : Word) → (a ≡ Place p (half_of span) → ⊥) → value (change s r (given k)) a ≡ value s a
    rest (Place q h) other = place_word-same_half s (change s r (given k)) q h
        (λ l m. now q (leg_of h l) ∙ (ap (λ (t : Bool). is_occupied s q (leg_of h l) && not t) (elsewhere p q h l span fits lies.piece m other) ∙ and_true (is_occupied s q (leg_of h l))))
    rest (Row q w) other = row_kept s r (given k) b at (λ _. refl) q w (λ _. refl)

-- a row whose word 0 is 0 has no booking
pub free_of_word : (g : Layout) (s : State) (r : ℕ) → IsWellFormed g s → value s (Row r 0) ≡ 0 → present s r ≡ None
free_of_word g s r good e = step (present s r) refl
  where
    step : (o : Option Booking) → present s r ≡ o → present s r ≡ None
    step None o = o
    step (Some b) o =
        let same = row_word_same b.phase Free b.generation 0 (sym (ap (word_in 0) o) ∙ e) in
        absurd ((sound_of g s r b good o).started same.0)

-- the booking of a row whose word 0 is this
pub booking_of_word : (s : State) (r : ℕ) (phase : Phase) (generation : ℕ) → (phase ≡ Free → ⊥) → value s (Row r 0) ≡ row_word_of phase generation → (b : Booking) × (present s r ≡ Some b) × (b.phase ≡ phase) × (b.generation ≡ generation)
booking_of_word s r phase generation some e = step (present s r) refl
  where
    step : (o : Option Booking) → present s r ≡ o → (b : Booking) × (present s r ≡ Some b) × (b.phase ≡ phase) × (b.generation ≡ generation)
    step None o = absurd (some (sym (row_word_same Free phase 0 generation (sym (ap (word_in 0) o) ∙ e)).0))
    step (Some b) o = let same = row_word_same b.phase phase b.generation generation (sym (ap (word_in 0) o) ∙ e) in (b, o, same.0, same.1)

-- a row whose word 0 is that of an ended booking may be started again
pub start_again : (s : State) (r generation : ℕ) (kind : EndKind) → generation + 1 ≤ last_generation → value s (Row r 0) ≡ row_word_of (Ended kind) generation → MayStart s r (generation + 1)
start_again s r generation kind low e =
    let b = booking_of_word s r (Ended kind) generation (λ n. cc) e in
    inr (low, subst (λ (o : Option Booking). IsSomeAnd o (λ b. (is_ended b.phase ≡ true) × (generation + 1 ≡ b.generation + 1))) (sym b.1) (ap is_ended b.2, ap (λ n. n + 1) (sym b.3)))

-- notes

pub note_writes : (g : Layout) (s : State) (r w n : ℕ) (b : Booking) → IsWellFormed g s → present s r ≡ Some b → w < row_words → (w ≡ 0 → ⊥) → Writes s (change s r (noted w n)) (Row r w) n
note_writes g s r w n b good at below some = record { here = here; rest = rest }
  where
    here : value (change s r (noted w n)) (Row r w) ≡ n
    here = ap (word_in w) (present-changed s r (noted w n) b (λ _. refl) at) ∙ (ap (λ (c : Bool). cond c (row_word_of b.phase b.generation) (get_or (set b.words w n) w 0)) (ne_eqb w 0 some)
        ∙ get_or-set_same b.words w n 0 (subst (λ (k : ℕ). w < k) (sym (sound_of g s r b good at).words) below))

    rest : (a : Word) → (a ≡ Row r w → ⊥) → value (change s r (noted w n)) a ≡ value s a
    rest (Place q h) other = place_word-same s (change s r (noted w n)) q h (λ i. occupied_kept s r (noted w n) (λ _. refl) q i)
    rest (Row q x) other = row_kept s r (noted w n) b at (λ _. refl) q x (λ here. ap (λ (k : ℕ). cond (eqb x 0) (row_word_of b.phase b.generation) k) (get_or-set_other b.words w x n 0 (λ e. other (λ i. Row (here i) (e i)))))

-- a change of phase writes word 0
pub phase_writes : (f : Booking → Booking) → ((b : Booking) → key_of (f b) ≡ key_of b) → ((b : Booking) → (f b).items ≡ b.items) → ((b : Booking) → (f b).words ≡ b.words) → (s : State) (r : ℕ) (b : Booking) → present s r ≡ Some b
    → Writes s (change s r f) (Row r 0) (row_word_of (f b).phase b.generation)
phase_writes f key items words s r b at = record { here = ap (word_in 0) (present-changed s r f b key at) ∙ ap (λ (k : ℕ × ℕ). row_word_of (f b).phase k.1) (key b); rest = rest }
  where
    rest : (a : Word) → (a ≡ Row r 0 → ⊥) → value (change s r f) a ≡ value s a
    rest (Place q h) other = place_word-same s (change s r f) q h (λ i. occupied_kept s r f items q i)
    rest (Row q x) other = row_kept s r f b at key q x (λ here. let n : x ≡ 0 → ⊥ = λ e. other (λ i. Row (here i) (e i)) in
        ap (λ (c : Bool). cond c (row_word_of (f b).phase (f b).generation) (get_or (f b).words x 0)) (ne_eqb x 0 n) ∙ (ap (λ (l : List ℕ). get_or l x 0) (words b)
        ∙ sym (ap (λ (c : Bool). cond c (row_word_of b.phase b.generation) (get_or b.words x 0)) (ne_eqb x 0 n))))

pub turn_writes : (s : State) (r d : ℕ) (to : Phase) (e : End) (b : Booking) → present s r ≡ Some b → Writes s (change s r (turned d to e)) (Row r 0) (row_word_of to b.generation)
turn_writes s r d to e b at = subst (λ (ph : Phase). Writes s (change s r (turned d to e)) (Row r 0) (row_word_of ph b.generation)) (turned-phase d to e b)
    (phase_writes (turned d to e) (turned-key d to e) (turned-items d to e) (turned-words d to e) s r b at)
