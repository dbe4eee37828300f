-- Notes in a hold's row, and its seal.
use Rattle.std.proofs.Common.{◌≡◌, ◌⊎◌, inr, ℕ, zero, suc, ◌+◌, ◌-◌, ◌<◌, ◌≤◌, List, [], ◌∷◌, ◌++◌, map, take, drop, length, get_or, set, Some, sym, ap, ◌∙◌, refl, subst, arith, length-append, length-set, get_or-set_same, get_or-set_other}
use Rattle.std.proofs.lemmas.List.{length-map}
use Rattle.leg_masks.specs.Interval.{item_word, PlacedSpan as Item}
use Rattle.history_model.specs.declared.booking.BookedItem.{BookedItem}
use Rattle.history_model.specs.declared.entry.Entry.{Entry}
use Rattle.history_model.specs.declared.entry.Step.TheVariants.{Note, Seal}
use Rattle.history_model.specs.declared.phase.Phase.{Phase}
use Rattle.history_model.specs.Booking.{Layout, most_items, row_words, greatest_retailer, last_moment, greatest_amount, present}
use Rattle.history_model.specs.Allowed.{IsAllowedStep, IsMadeBy, IsSealable, MaySealAs}
use Rattle.history_model.specs.Apply.{in_phase}
use Rattle.history_model.specs.History.{IsLegal, entry, state_of}
use Rattle.history_model.proofs.Owners.{on_row, firm_making}
use Rattle.claim_rule.specs.Rule.{DeskView, BooksView, state_seen}
use Rattle.claim_rule.specs.Desks.{Stepped, AddsSteps, IsOf, MayStep}
use Rattle.claim_rule.specs.Holds.{HoldView, StandsFor, IsHoldOf, held}
use Rattle.claim_rule.specs.Out.{IsHolding, HasNoted, HasNotedItems, IsToBeSealed, MaySealHold, KeepsEndings, IsSealedAs, SealsItems}
use Rattle.claim_rule.proofs.Holding.{hold_notes, own_changes}
use Rattle.claim_rule.proofs.Noting.{noted_item, sound_words, stands_on}
use Rattle.claim_rule.proofs.Out.{hold_only, hold_endings, makes_before}
use Rattle.claim_rule.proofs.Shapes.{step_shape, shape_then}

pub four_notes : (a b c d e : DeskView) (r r1 r2 r3 v1 v2 v3 v4 : ℕ) → r1 ≡ r → r2 ≡ r → r3 ≡ r → Stepped (Note r 1 v1) a b → Stepped (Note r1 2 v2) b c → Stepped (Note r2 3 v3) c d → Stepped (Note r3 4 v4) d e
    → AddsSteps a e (Note r 1 v1 ∷ Note r 2 v2 ∷ Note r 3 v3 ∷ Note r 4 v4 ∷ [])
four_notes a b c d e r r1 r2 r3 v1 v2 v3 v4 s1 s2 s3 n1 n2 n3 n4 =
    shape_then a b e (Note r 1 v1 ∷ []) _ (step_shape _ a b n1)
    (shape_then b c e (Note r 2 v2 ∷ []) _ (step_shape _ b c (subst (λ (x : ℕ). Stepped (Note x 2 v2) b c) s1 n2))
    (shape_then c d e (Note r 3 v3 ∷ []) _ (step_shape _ c d (subst (λ (x : ℕ). Stepped (Note x 3 v3) c d) s2 n3))
    (step_shape _ d e (subst (λ (x : ℕ). Stepped (Note x 4 v4) d e) s3 n4))))

pub last_small : (n : ℕ) → n ≤ most_items → 8 + (n - 1) < 256
last_small n l = omega arith

pub last_byte : (n : ℕ) → n ≤ most_items → n - 1 < 256
last_byte n l = omega arith

pub last_word : (n : ℕ) → 0 < n → n ≤ most_items → ((1 ≤ 8 + (n - 1)) × (8 + (n - 1) ≤ 4)) ⊎ ((8 ≤ 8 + (n - 1)) × (8 + (n - 1) < 8 + most_items))
last_word n s l = inr (omega arith, omega arith)

-- the hold and the ending of the desk, after a note of the hold's row

pub noted_hold : (w n : ℕ) (old new : DeskView) (hold now : HoldView) → Stepped (Note hold.row.row w n) old new → now ≡ hold → IsHolding old hold → IsHoldOf new now → IsHolding new now
noted_hold w n old new hold now did is was of = record { of = of; only = λ r m. hold_only (Note hold.row.row w n) old new hold did (λ _. refl) was r m ∙ sym (ap (λ (h : HoldView). h.row.row) is) }

pub noted_endings : (w n : ℕ) (old new : DeskView) (hold : HoldView) → Stepped (Note hold.row.row w n) old new → IsHolding old hold → KeepsEndings old new
noted_endings w n old new hold did was = hold_endings old new (Note hold.row.row w n ∷ []) hold (step_shape (Note hold.row.row w n) old new did) was.of.0 (λ r q. (q, tt)) (λ r. (refl, tt))

-- the last item

pub get_last : (front : List Item) (last x : Item) → get_or (front ++ last ∷ []) (length front) x ≡ last
get_last [] last x = refl
get_last (i ∷ is) last x = get_last is last x

pub length_last : (items front : List Item) (last : Item) → items ≡ front ++ last ∷ [] → length items ≡ length front + 1
length_last items front last e = ap length e ∙ length-append front (last ∷ [])

-- the note of the last item, from the note that was made
pub last_note : (row word value n : ℕ) (items front : List Item) (last i : Item) (old new : DeskView) → items ≡ front ++ last ∷ [] → n ≡ length items → i ≡ get_or items (n - 1) i → word ≡ 8 + (n - 1) → value ≡ item_word i.place i.span → Stepped (Note row word value) old new
    → Stepped (Note row (8 + length front) (item_word last.place last.span)) old new
last_note row word value n items front last i old new e many read w v did =
    let at : n - 1 ≡ length front = less n (length front) (many ∙ length_last items front last e) in
    let same : i ≡ last = read ∙ ((λ j. get_or (e j) (at j) i) ∙ get_last front last i) in
    subst (λ (x : ℕ × ℕ). Stepped (Note row x.0 x.1) old new) (λ j. ((w ∙ ap (λ (k : ℕ). 8 + k) at) j, (v ∙ ap (λ (x : Item). item_word x.place x.span) same) j)) did
  where
    less : (n k : ℕ) → n ≡ k + 1 → n - 1 ≡ k
    less n k e = omega arith

pub last_noted : (old new : DeskView) (hold now : HoldView) (front : List Item) (last : Item) → IsLegal old.layout old.seen → IsHolding old hold → now ≡ hold → length hold.items ≤ most_items → hold.items ≡ front ++ last ∷ [] → HasNoted old hold.row.row front → Stepped (Note hold.row.row (8 + length front) (item_word last.place last.span)) old new → HasNotedItems new now
last_noted old new hold now front last legal is same few e noted did =
    let room : length front < most_items = let l = length_last hold.items front last e in omega arith in
    subst (HasNotedItems new) (sym same) (subst (HasNoted new hold.row.row) (sym e) (noted_item old new hold front last (length front) legal is.of.0 refl room did noted))

-- a detail

drop_low : (n k v : ℕ) (ws : List ℕ) → k < n → drop n (set ws k v) ≡ drop n ws
drop_low zero k v ws l = absurd (omega arith)
drop_low (suc n) k v [] l = refl
drop_low (suc n) zero v (w ∷ ws) l = refl
drop_low (suc n) (suc k) v (w ∷ ws) l = drop_low n k v ws (omega arith)

map_held : (xs : List Item) → map (λ (i : BookedItem). item_word i.place i.span) (map held xs) ≡ map (λ (i : Item). item_word i.place i.span) xs
map_held [] = refl
map_held (x ∷ xs) = ap (λ (l : List ℕ). item_word x.place x.span ∷ l) (map_held xs)

one : (ws : List ℕ) (r l t c : ℕ) → length ws ≡ row_words → get_or (set (set (set (set ws 1 r) 2 l) 3 t) 4 c) 1 0 ≡ r
one ws r l t c many = get_or-set_other (set (set (set ws 1 r) 2 l) 3 t) 4 1 c 0 (λ e. omega (arith, e)) ∙ (get_or-set_other (set (set ws 1 r) 2 l) 3 1 t 0 (λ e. omega (arith, e)) ∙ (get_or-set_other (set ws 1 r) 2 1 l 0 (λ e. omega (arith, e)) ∙ get_or-set_same ws 1 r 0 (omega (arith, many))))

two : (ws : List ℕ) (r l t c : ℕ) → length ws ≡ row_words → get_or (set (set (set (set ws 1 r) 2 l) 3 t) 4 c) 2 0 ≡ l
two ws r l t c many = get_or-set_other (set (set (set ws 1 r) 2 l) 3 t) 4 2 c 0 (λ e. omega (arith, e)) ∙ (get_or-set_other (set (set ws 1 r) 2 l) 3 2 t 0 (λ e. omega (arith, e)) ∙ get_or-set_same (set ws 1 r) 2 l 0 (let m = length-set ws 1 r in omega (arith, many, m)))

three : (ws : List ℕ) (r l t c : ℕ) → length ws ≡ row_words → get_or (set (set (set (set ws 1 r) 2 l) 3 t) 4 c) 3 0 ≡ t
three ws r l t c many = get_or-set_other (set (set (set ws 1 r) 2 l) 3 t) 4 3 c 0 (λ e. omega (arith, e)) ∙ get_or-set_same (set (set ws 1 r) 2 l) 3 t 0 (let m = length-set ws 1 r in let n = length-set (set ws 1 r) 2 l in omega (arith, many, m, n))

four : (ws : List ℕ) (r l t c : ℕ) → length ws ≡ row_words → get_or (set (set (set (set ws 1 r) 2 l) 3 t) 4 c) 4 0 ≡ c
four ws r l t c many = get_or-set_same (set (set (set ws 1 r) 2 l) 3 t) 4 c 0 (let m = length-set ws 1 r in let n = length-set (set ws 1 r) 2 l in let o = length-set (set (set ws 1 r) 2 l) 3 t in omega (arith, many, m, n, o))

low_words : (ws : List ℕ) (r l t c : ℕ) → drop 8 (set (set (set (set ws 1 r) 2 l) 3 t) 4 c) ≡ drop 8 ws
low_words ws r l t c = drop_low 8 4 c (set (set (set ws 1 r) 2 l) 3 t) (omega arith) ∙ (drop_low 8 3 t (set (set ws 1 r) 2 l) (omega arith) ∙ (drop_low 8 2 l (set ws 1 r) (omega arith) ∙ drop_low 8 1 r ws (omega arith)))

-- with its detail noted, the row of a hold whose items are noted may be sealed
pub sealable : (a b c d e : DeskView) (hold : HoldView) (r l t n : ℕ) → IsLegal a.layout a.seen → StandsFor a hold → Stepped (Note hold.row.row 1 r) a b → Stepped (Note hold.row.row 2 l) b c → Stepped (Note hold.row.row 3 t) c d → Stepped (Note hold.row.row 4 n) d e
    → HasNotedItems a hold → 1 ≤ length hold.items → r ≤ greatest_retailer → l ≤ last_moment → t ≤ greatest_amount → n ≡ length hold.items → IsToBeSealed e hold
sealable a b c d e hold r l t n legal is n1 n2 n3 n4 noted some fr fl ft count =
    let s1 = hold_notes 1 r a b hold n1 is in
    let s2 = hold_notes 2 l b c hold n2 s1 in
    let s3 = hold_notes 3 t c d hold n3 s2 in
    let s4 = hold_notes 4 n d e hold n4 s3 in
    let ws = is.booking.words in
    let many = sound_words a hold legal is in
    let len : length is.booking.items ≡ length hold.items = ap length is.items ∙ length-map hold.items held in
    let was : take (length hold.items) (drop 8 ws) ≡ map (λ (i : Item). item_word i.place i.span) hold.items =
    stands_on a hold (λ x. take (length hold.items) (drop 8 x.words) ≡ map (λ (i : Item). item_word i.place i.span) hold.items) is noted in
    on_row (state_seen e) hold.row.row s4.booking IsSealable s4.found (record {
      some = subst (λ (k : ℕ). 1 ≤ k) (sym len) some;
      retailer = subst (λ (k : ℕ). k ≤ greatest_retailer) (sym (one ws r l t n many)) fr;
      limit = subst (λ (k : ℕ). k ≤ last_moment) (sym (two ws r l t n many)) fl;
      total = subst (λ (k : ℕ). k ≤ greatest_amount) (sym (three ws r l t n many)) ft;
      count = four ws r l t n many ∙ (count ∙ sym len);
      items = (λ i. take (len i) (low_words ws r l t n i)) ∙ (was ∙ sym (ap (map (λ (i : BookedItem). item_word i.place i.span)) is.items ∙ map_held hold.items));
    })

pub detail_hold : (r v1 v2 v3 v4 : ℕ) (old new : DeskView) (hold now : HoldView) → r ≡ hold.row.row → AddsSteps old new (Note r 1 v1 ∷ Note r 2 v2 ∷ Note r 3 v3 ∷ Note r 4 v4 ∷ []) → now ≡ hold → IsHolding old hold → IsHoldOf new now → IsHolding new now
detail_hold r v1 v2 v3 v4 old new hold now at did same is of = record {
  of = of;
  only = λ q m. is.only q (makes_before old new (Note r 1 v1 ∷ Note r 2 v2 ∷ Note r 3 v3 ∷ Note r 4 v4 ∷ []) q did (refl, (refl, (refl, (refl, tt)))) m) ∙ sym (ap (λ (h : HoldView). h.row.row) same);
}

pub detail_endings : (v1 v2 v3 v4 : ℕ) (old new : DeskView) (hold : HoldView) → AddsSteps old new (Note hold.row.row 1 v1 ∷ Note hold.row.row 2 v2 ∷ Note hold.row.row 3 v3 ∷ Note hold.row.row 4 v4 ∷ []) → IsHolding old hold → KeepsEndings old new
detail_endings v1 v2 v3 v4 old new hold did is = hold_endings old new (Note hold.row.row 1 v1 ∷ Note hold.row.row 2 v2 ∷ Note hold.row.row 3 v3 ∷ Note hold.row.row 4 v4 ∷ []) hold did is.of.0 (λ r q. (q, (q, (q, (q, tt))))) (λ r. (refl, (refl, (refl, (refl, tt)))))

-- the seal

pub may_seal : (books : BooksView) (desk : DeskView) (hold : HoldView) (ph : Phase) → IsOf books desk → IsHolding desk hold → IsToBeSealed desk hold → MaySealHold desk hold ph → MayStep books.layout desk (Seal hold.row.row ph)
may_seal books desk hold ph of is ready may =
    let st = is.of.0 in
    subst (λ (g : Layout). IsAllowedStep g (state_of g desk.seen) desk.number (Seal hold.row.row ph)) of.layout
    (st.row, on_row (state_seen desk) hold.row.row st.booking (λ b. IsMadeBy desk.number b × IsSealable b × MaySealAs (state_seen desk) desk.number b ph) st.found ((st.making, st.owner), stands_on desk hold IsSealable st ready, stands_on desk hold (λ b. MaySealAs (state_seen desk) desk.number b ph) st may))

pub seals_items : (ph : Phase) (old new : DeskView) (hold : HoldView) → Stepped (Seal hold.row.row ph) old new → IsHolding old hold → SealsItems old new hold.row ph hold.items
seals_items ph old new hold did is =
    let st = is.of.0 in
    let now = own_changes (Seal hold.row.row ph) old new did hold.row.row st.booking (in_phase ph) (λ s. refl) (λ _. refl) st.found st.owner (firm_making st.booking.phase st.making) in
    let there = subst (λ (x : Layout × List Entry). present (state_of x.0 x.1) hold.row.row ≡ Some (in_phase ph st.booking)) (λ i. (did.same.1 i, did.seen i)) now in (
      old.seen ++ did.between,
      [],
      (did.between, refl),
      did.seen,
      on_row (state_of old.layout ((old.seen ++ did.between) ++ entry old.number (Seal hold.row.row ph) ∷ [])) hold.row.row (in_phase ph st.booking) (IsSealedAs hold.row.generation old.number ph hold.items) there (st.generation, st.owner, refl, st.items),
    )

pub seal_endings : (ph : Phase) (old new : DeskView) (hold : HoldView) → Stepped (Seal hold.row.row ph) old new → IsHolding old hold → KeepsEndings old new
seal_endings ph old new hold did is = hold_endings old new (Seal hold.row.row ph ∷ []) hold (step_shape (Seal hold.row.row ph) old new did) is.of.0 (λ r q. (q, tt)) (λ r. (refl, tt))
