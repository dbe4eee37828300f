-- What is noted in the row of a hold.
use Rattle.std.proofs.Common.{◌≡◌, ℕ, zero, suc, ◌+◌, ◌<◌, ◌≤◌, List, [], ◌∷◌, ◌++◌, map, take, drop, length, set, Option, IsSomeAnd, refl, sym, ap, ◌∙◌, subst, arith, length-append}
use Rattle.std.proofs.lemmas.List.{length-map}
use mathlib.Core.List.{map-append}
use Rattle.leg_masks.specs.Interval.{item_word, PlacedSpan as Item}
use Rattle.history_model.specs.declared.entry.Step.{Step}
use Rattle.history_model.specs.declared.entry.Step.TheVariants.{Take, Give, Note}
use Rattle.history_model.specs.Booking.{Booking, State, key_of, most_items, row_words, present, change}
use Rattle.history_model.specs.Allowed.{OnRow}
use Rattle.history_model.specs.Apply.{apply_step, item_taken, given, noted}
use Rattle.history_model.specs.History.{IsLegal}
use Rattle.history_model.proofs.Keeping.{found}
use Rattle.history_model.proofs.Owners.{on_row, firm_making}
use Rattle.history_model.proofs.Writing.{sound_of}
use Rattle.claim_rule.specs.Rule.{DeskView, state_seen}
use Rattle.claim_rule.specs.Holds.{HoldView, StandsFor}
use Rattle.claim_rule.specs.Desks.{Stepped}
use Rattle.claim_rule.specs.Out.{HasNoted}
use Rattle.claim_rule.proofs.Holding.{own_changes}
use Rattle.claim_rule.proofs.Moves.{is_sound}

-- what holds of the hold's row, from its booking
pub stands_on : (desk : DeskView) (hold : HoldView) (P : Booking → Type 0) (is : StandsFor desk hold) → OnRow (state_seen desk) hold.row.row P → P is.booking
stands_on desk hold P is on = subst (λ (o : Option Booking). IsSomeAnd o P) is.found on

-- after a step that changes the row's booking
pub changed_row : (st : Step) (old new : DeskView) (hold : HoldView) (f : Booking → Booking) (P Q : Booking → Type 0) → Stepped st old new → StandsFor old hold → ((s : State) → apply_step s old.number st ≡ change s hold.row.row f) → ((x : Booking) → key_of (f x) ≡ key_of x) → ((b : Booking) → P b → Q (f b))
    → OnRow (state_seen old) hold.row.row P → OnRow (state_seen new) hold.row.row Q
changed_row st old new hold f P Q did is apply row more on =
    let now = own_changes st old new did hold.row.row is.booking f apply row is.found is.owner (firm_making is.booking.phase is.making) in
    on_row (state_seen new) hold.row.row (f is.booking) Q now (more is.booking (stands_on old hold P is on))

abbrev words_of : List Item → List ℕ
words_of items = map (λ i. item_word i.place i.span) items

pub noted_takes : (old new : DeskView) (hold : HoldView) (p : ℕ) (i : Item) (items : List Item) → Stepped (Take hold.row.row i.place i.span) old new → StandsFor old hold → HasNoted old hold.row.row items → HasNoted new hold.row.row items
noted_takes old new hold p i items did is on = changed_row (Take hold.row.row i.place i.span) old new hold (item_taken i.place i.span) (λ b. take (length items) (drop 8 b.words) ≡ words_of items) (λ b. take (length items) (drop 8 b.words) ≡ words_of items) did is (λ s. refl) (λ _. refl) (λ b e. e) on

pub noted_gives : (old new : DeskView) (hold : HoldView) (k : ℕ) (items : List Item) → Stepped (Give hold.row.row k) old new → StandsFor old hold → HasNoted old hold.row.row items → HasNoted new hold.row.row items
noted_gives old new hold k items did is on = changed_row (Give hold.row.row k) old new hold (given k) (λ b. take (length items) (drop 8 b.words) ≡ words_of items) (λ b. take (length items) (drop 8 b.words) ≡ words_of items) did is (λ s. refl) (λ _. refl) (λ b e. e) on

take_less : (n m : ℕ) (xs : List ℕ) → n ≤ m → take n (take m xs) ≡ take n xs
take_less zero m xs l = refl
take_less (suc n) zero xs l = absurd (omega arith)
take_less (suc n) (suc m) [] l = refl
take_less (suc n) (suc m) (x ∷ xs) l = ap (λ ys. x ∷ ys) (take_less n m xs (omega arith))

take_front : (xs ys : List ℕ) → take (length xs) (xs ++ ys) ≡ xs
take_front [] ys = refl
take_front (x ∷ xs) ys = ap (λ l. x ∷ l) (take_front xs ys)

-- what is noted of all items is noted of the first of them
pub noted_front : (desk : DeskView) (row : ℕ) (front back : List Item) → HasNoted desk row (front ++ back) → HasNoted desk row front
noted_front desk row front back on =
    let n = found (present (state_seen desk) row) (λ b. take (length (front ++ back)) (drop 8 b.words) ≡ words_of (front ++ back)) on in
    let ws = drop 8 n.0.words in
    let few : length front ≤ length (front ++ back) = let l = length-append front back in omega arith in
    on_row (state_seen desk) row n.0 (λ b. take (length front) (drop 8 b.words) ≡ words_of front) n.1
    (sym (take_less (length front) (length (front ++ back)) ws few)
    ∙ (ap (take (length front)) (n.2 ∙ map-append (λ (i : Item). item_word i.place i.span) front back)
    ∙ (ap (λ (k : ℕ). take k (words_of front ++ words_of back)) (sym (length-map front (λ (i : Item). item_word i.place i.span))) ∙ take_front (words_of front) (words_of back))))

-- the word behind those that are noted
set_behind : (n v : ℕ) (ws xs : List ℕ) → n < length ws → length xs ≡ n → take n ws ≡ xs → take (suc n) (set ws n v) ≡ xs ++ v ∷ []
set_behind n v [] xs l m e = absurd (omega arith)
set_behind zero v (w ∷ ws) [] l m e = refl
set_behind zero v (w ∷ ws) (x ∷ xs) l m e = absurd (omega arith)
set_behind (suc n) v (w ∷ ws) [] l m e = absurd (omega arith)
set_behind (suc n) v (w ∷ ws) (x ∷ xs) l m e = front w x (head_same w x (take n ws) xs e) (set_behind n v ws xs (omega arith) (omega arith) (tail_same w x (take n ws) xs e))
  where
    head_same : (a b : ℕ) (xs ys : List ℕ) → a ∷ xs ≡ b ∷ ys → a ≡ b
    head_same a b xs ys e = cc

    tail_same : (a b : ℕ) (xs ys : List ℕ) → a ∷ xs ≡ b ∷ ys → xs ≡ ys
    tail_same a b xs ys e = cc

    front : (a b : ℕ) {xs ys : List ℕ} → a ≡ b → xs ≡ ys → a ∷ xs ≡ b ∷ ys
    front a b p q = λ i. p i ∷ q i

drop_set : (k n v : ℕ) (ws : List ℕ) → drop k (set ws (k + n) v) ≡ set (drop k ws) n v
drop_set zero n v ws = ap (λ (m : ℕ). set ws m v) (let e : zero + n ≡ n = omega arith in e)
drop_set (suc k) n v [] = refl
drop_set (suc k) n v (w ∷ ws) = ap (λ (m : ℕ). drop (suc k) (set (w ∷ ws) m v)) (let e : suc k + n ≡ suc (k + n) = omega arith in e) ∙ drop_set k n v ws

length_drop : (k : ℕ) (ws : List ℕ) (n : ℕ) → length ws ≡ k + n → length (drop k ws) ≡ n
length_drop zero ws n e = omega (arith, e)
length_drop (suc k) [] n e = absurd (omega (arith, e))
length_drop (suc k) (w ∷ ws) n e = length_drop k ws n (omega (arith, e))

pub sound_words : (desk : DeskView) (hold : HoldView) → IsLegal desk.layout desk.seen → (is : StandsFor desk hold) → length is.booking.words ≡ row_words
sound_words desk hold legal is = (sound_of desk.layout (state_seen desk) hold.row.row is.booking (is_sound desk.layout desk.seen legal) is.found).words

-- the last item of a hold is noted
pub noted_item : (old new : DeskView) (hold : HoldView) (front : List Item) (i : Item) (k : ℕ) → IsLegal old.layout old.seen → StandsFor old hold → k ≡ length front → length front < most_items → Stepped (Note hold.row.row (8 + k) (item_word i.place i.span)) old new → HasNoted old hold.row.row front → HasNoted new hold.row.row (front ++ i ∷ [])
noted_item old new hold front i k legal is many room did on =
    let v = item_word i.place i.span in
    let now = own_changes (Note hold.row.row (8 + k) v) old new did hold.row.row is.booking (noted (8 + k) v) (λ s. refl) (λ _. refl) is.found is.owner (firm_making is.booking.phase is.making) in
    let was : take (length front) (drop 8 is.booking.words) ≡ words_of front = stands_on old hold (λ b. take (length front) (drop 8 b.words) ≡ words_of front) is on in
    let long : length (drop 8 is.booking.words) ≡ 56 = length_drop 8 is.booking.words 56 (sound_words old hold legal is) in
    on_row (state_seen new) hold.row.row (noted (8 + k) v is.booking) (λ b. take (length (front ++ i ∷ [])) (drop 8 b.words) ≡ words_of (front ++ i ∷ [])) now
    (ap (λ (n : ℕ). take n (drop 8 (set is.booking.words (8 + k) v))) (length-append front (i ∷ []) ∙ one_more (length front))
    ∙ (ap (take (suc (length front))) (drop_set 8 k v is.booking.words ∙ ap (λ (n : ℕ). set (drop 8 is.booking.words) n v) many)
    ∙ (set_behind (length front) v (drop 8 is.booking.words) (words_of front) (subst (λ (n : ℕ). length front < n) (sym long) (lt_room (length front) room)) (length-map front (λ (x : Item). item_word x.place x.span)) was
    ∙ sym (map-append (λ (x : Item). item_word x.place x.span) front (i ∷ [])))))
  where
    one_more : (n : ℕ) → n + 1 ≡ suc n
    one_more n = omega arith

    lt_room : (n : ℕ) → n < 48 → n < 56
    lt_room n l = omega arith
