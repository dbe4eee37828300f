-- What the looks at the item words of an ending's row show.
use Rattle.std.proofs.Common.{◌≡◌, ℕ, zero, suc, ◌+◌, ◌<◌, ◌≤◌, List, [], ◌∷◌, ◌++◌, map, take, drop, length, get_or, slice_get, Bool, true, false, cond, Option, Some, None, refl, sym, ap, ◌∙◌, subst, arith, length-append, eqb, ne_eqb, slice_index}
use Rattle.std.proofs.lemmas.List.{get_or-take, get_or-drop}
use Rattle.std.specs.List.{All, AllByRecursion}
use Rattle.std.proofs.Math.Numerals.{add-one}
use Rattle.leg_masks.specs.Interval.{Interval, item_word, IsItemOf, most_legs, most_places}
use Rattle.leg_masks.proofs.Items.{one_item}
use Rattle.history_model.specs.Laws.{LiesWithin, IsSound}
use Rattle.claim_rule.specs.Rule.{DeskView, Each}
use Rattle.claim_rule.specs.Desks.{Stepped, AddsSteps}
use Rattle.claim_rule.specs.Holds.{held, IsItem}
use Rattle.claim_rule.specs.Endings.{EndingView, IsEndingOf, item_looks, given_front}
use Rattle.claim_rule.proofs.Moves.{is_sound}
use Rattle.claim_rule.proofs.Holding.{legal_before, state_then}
use mathlib.Core.List.{map-append}
use Rattle.claim_rule.proofs.Meeting.{each_append}
use Rattle.claim_rule.proofs.EndingLemmas.{end_stays}
use Rattle.claim_rule.proofs.Shapes.{shape_then, step_shape}
use Rattle.history_model.proofs.Seen.{legal-rest}
use Rattle.history_model.proofs.Writing.{sound_of, word_in}
use Rattle.history_model.specs.Allowed.{IsAllowedStep}
use Rattle.history_model.specs.Booking.{Booking, Layout, State, most_items, word_at}
use Rattle.history_model.specs.History.{IsLegal, entry, state_of}
use Rattle.history_model.specs.Phase.{is_sealed, row_word_of}
use Rattle.history_model.specs.Words.{row_word}
use Rattle.history_model.specs.declared.booking.BookedItem.{BookedItem}
use Rattle.history_model.specs.declared.entry.Entry.{Entry}
use Rattle.history_model.specs.declared.entry.Step.{Step}
use Rattle.history_model.specs.declared.entry.Step.TheVariants.{SawRow}
use Rattle.leg_masks.specs.Interval.{PlacedSpan as Item}

-- a look shows the word of the state
pub saw : (r w v : ℕ) (old new : DeskView) → Stepped (SawRow r w v) old new → v ≡ row_word (state_of new.layout new.seen) r w
saw r w v old new did =
    let st : Step = SawRow r w v in
    let h : List Entry = old.seen ++ did.between in
    let may : IsAllowedStep old.layout (state_of old.layout h) old.number st = (legal-rest old.layout h (entry old.number st ∷ []) (legal_before st old new did)).0 in
    may.2 ∙ ap (λ (s : State). row_word s r w) (sym (state_then st old new did))

pub sound_now : (desk : DeskView) (e : EndingView) → IsLegal desk.layout desk.seen → (is : IsEndingOf desk e) → IsSound desk.layout is.booking
sound_now desk e legal is = sound_of desk.layout (state_of desk.layout desk.seen) e.row.row is.booking (is_sound desk.layout desk.seen legal) is.found

-- the first look shows how many items there are
pub read_count : (v : ℕ) (old new : DeskView) (e : EndingView) → Stepped (SawRow e.row.row 4 v) old new → (was : IsEndingOf old e) → (is : IsEndingOf new e) × (v ≡ length is.booking.items) × (v ≤ most_items) × (is.booking ≡ was.booking)
read_count v old new e did was =
    let is = end_stays (SawRow e.row.row 4 v) old new e refl did was in
    let sound = sound_now new e did.legal is in
    let shown : v ≡ length is.booking.items = saw e.row.row 4 v old new did ∙ (ap (word_in 4) is.found ∙ (sound.sealed (ap is_sealed is.phase)).count) in
    (is, shown, subst (λ (n : ℕ). n ≤ most_items) (sym shown) sound.count, refl)

item_there : (f : BookedItem → ℕ) (is : List BookedItem) (k : ℕ) → k < length is → (x : BookedItem) × (slice_get is k ≡ Some x) × (get_or (map f is) k 0 ≡ f x)
item_there f [] k l = absurd (omega arith)
item_there f (i ∷ is) zero l = (i, refl, refl)
item_there f (i ∷ is) (suc k) l = item_there f is k (omega arith)

all_at : (P : BookedItem → Type 0) (is : List BookedItem) (k : ℕ) (x : BookedItem) → AllByRecursion P is → slice_get is k ≡ Some x → P x
all_at P [] k x h e = absurd (let no : ◌≡◌ {A = Option BookedItem} None (Some x) = e in cc)
all_at P (i ∷ is) zero x h e = let same : i ≡ x = cc in subst P same h.0
all_at P (i ∷ is) (suc k) x h e = all_at P is k x h.1 e

-- each further look shows the word of an item
pub read_at : (v k : ℕ) (old new : DeskView) (e : EndingView) → length new.layout.legs ≤ most_places → Stepped (SawRow e.row.row (8 + k) v) old new → e.read ≡ false → (was : IsEndingOf old e) → k < length was.booking.items → AllByRecursion (λ i. i.span.to ≤ most_legs) was.booking.items
    → (is : IsEndingOf new e) × (is.booking ≡ was.booking) × ((x : BookedItem) × (slice_get was.booking.items k ≡ Some x) × (x.given_back ≡ false) × LiesWithin new.layout x × IsItemOf x.place x.span v)
read_at v k old new e few did unread was below fits =
    let is = end_stays (SawRow e.row.row (8 + k) v) old new e refl did was in
    let sound = sound_now new e did.legal is in
    let sealed = sound.sealed (ap is_sealed is.phase) in
    let items = was.booking.items in
    let words = was.booking.words in
    let f : BookedItem → ℕ = λ i. item_word i.place i.span in
    let x = item_there f items k below in
    let shown : v ≡ word_at was.booking (8 + k) = saw e.row.row (8 + k) v old new did ∙ (ap (word_in (8 + k)) is.found ∙ not_first k (row_word_of was.booking.phase was.booking.generation) (get_or words (8 + k) 0)) in
    let word : get_or words (8 + k) 0 ≡ f x.0 =
    sym (get_or-drop 8 words k 0) ∙ (sym (get_or-take (length items) (drop 8 words) k 0 below) ∙ (ap (λ (l : List ℕ). get_or l k 0) sealed.items ∙ x.2)) in
    let lies = all_at (LiesWithin new.layout) items k x.0 sound.within x.1 in (
      is,
      refl,
      (
        x.0,
        x.1,
        all_at (λ i. i.given_back ≡ false) items k x.0 (was.fresh unread).0 x.1,
        lies,
        (lt_le x.0.place (length new.layout.legs) most_places lies.place few, lies.some, all_at (λ i. i.span.to ≤ most_legs) items k x.0 fits x.1, lies.piece, sym (shown ∙ word)),
      ),
    )
  where
    not_first : (k a b : ℕ) → cond (eqb (8 + k) 0) a b ≡ b
    not_first k a b = ap (λ (c : Bool). cond c a b) (ne_eqb (8 + k) 0 (λ e. omega (arith, e)))

    lt_le : (a b c : ℕ) → a < b → b ≤ c → a < c
    lt_le a b c l m = omega arith

pub looks-snoc : (row w : ℕ) (is : List Item) (i : Item) → item_looks row w (is ++ i ∷ []) ≡ item_looks row w is ++ SawRow row (w + length is) (item_word i.place i.span) ∷ []
looks-snoc row w [] i = ap (λ (n : ℕ). SawRow row n (item_word i.place i.span) ∷ []) (let e : w ≡ w + 0 = omega arith in e)
looks-snoc row w (x ∷ xs) i = ap (λ l. SawRow row w (item_word x.place x.span) ∷ l) (looks-snoc row (suc w) xs i ∙ ap (λ (n : ℕ). item_looks row (suc w) xs ++ SawRow row n (item_word i.place i.span) ∷ []) (let e : suc w + length xs ≡ w + suc (length xs) = omega arith in e))

-- the reading so far: of the ending's items, those below k are read
pub record ReadSoFar (desk : DeskView) (e : EndingView) (count k : ℕ) (read : List Item) : Type 0 where
  pub is : IsEndingOf desk e
  pub count_is : count ≡ length is.booking.items
  pub items : map held read ≡ take k is.booking.items
  pub many : length read ≡ k
  pub fits : AllByRecursion (λ i. i.span.to ≤ most_legs) is.booking.items
  pub within : Each (IsItem desk.layout) read

snoc_take : (is : List BookedItem) (k : ℕ) (x : BookedItem) → slice_get is k ≡ Some x → take (suc k) is ≡ take k is ++ x ∷ []
snoc_take [] k x e = absurd (let no : ◌≡◌ {A = Option BookedItem} None (Some x) = e in cc)
snoc_take (i ∷ is) zero x e = let same : i ≡ x = cc in ap (λ (y : BookedItem). y ∷ []) same
snoc_take (i ∷ is) (suc k) x e = ap (λ l. i ∷ l) (snoc_take is k x e)

same_item : (i : Item) (x : BookedItem) → x.given_back ≡ false → i.place ≡ x.place → i.span ≡ x.span → held i ≡ x
same_item i x left place span = λ j. record { place = place j; span = span j; given_back = sym left j }

-- one item more
pub read_more : (v k count : ℕ) (old new : DeskView) (e : EndingView) (read : List Item) (i : Item) → length new.layout.legs ≤ most_places → Stepped (SawRow e.row.row (8 + k) v) old new → e.read ≡ false → ReadSoFar old e count k read → k < count → IsItemOf i.place i.span v → ReadSoFar new e count (k + 1) (read ++ i ∷ [])
read_more v k count old new e read i few did unread so below its =
    let r = read_at v k old new e few did unread so.is (subst (λ (n : ℕ). k < n) so.count_is below) so.fits in
    let x = r.2.0 in
    let w = r.2.4 in
    let one = one_item i.place x.place i.span x.span its.1 its.2 w.1 w.2 (its.4 ∙ sym w.4) in
    let here : held i ≡ x = same_item i x r.2.2 one.0 one.1 in
    let lies = r.2.3 in
    record {
      is = r.0;
      count_is = so.count_is ∙ ap (λ (b : Booking). length b.items) (sym r.1);
      items = map-append held read (i ∷ []) ∙ (ap (λ l. l ++ held i ∷ []) so.items ∙ (ap (λ (y : BookedItem). take k so.is.booking.items ++ y ∷ []) here ∙ (sym (snoc_take so.is.booking.items k x r.2.1)
          ∙ (ap (λ (n : ℕ). take n so.is.booking.items) (sym (add-one k)) ∙ ap (λ (b : Booking). take (k + 1) b.items) (sym r.1)))));
      many = length-append read (i ∷ []) ∙ ap (λ (n : ℕ). n + 1) so.many;
      fits = subst (λ (b : Booking). AllByRecursion (λ i. i.span.to ≤ most_legs) b.items) (sym r.1) so.fits;
      within = each_append (IsItem new.layout) read (i ∷ []) (subst (λ (l : Layout). Each (IsItem l) read) (sym did.same.1) so.within)
          (record { place = subst (λ (n : ℕ). n < length new.layout.legs) (sym one.0) lies.place; some = its.1; within = subst (λ (y : BookedItem). y.span.to ≤ slice_index new.layout.legs y.place) (sym here) lies.legs; fits = its.2; piece = its.3 }, tt);
    }

take_whole : (is : List BookedItem) → take (length is) is ≡ is
take_whole [] = refl
take_whole (i ∷ is) = ap (λ l. i ∷ l) (take_whole is)

-- all items are read
pub read_all : (desk : DeskView) (e : EndingView) (count : ℕ) (read : List Item) → e.given ≡ 0 → ReadSoFar desk e count count read → IsEndingOf desk (record e { items = read; read = true })
read_all desk e count read none so = record {
  booking = so.is.booking;
  found = so.is.found;
  generation = so.is.generation;
  owner = so.is.owner;
  phase = so.is.phase;
  end = so.is.end;
  row = so.is.row;
  few = subst (λ (n : ℕ). n ≤ length read) (sym none) (omega arith);
  fresh = λ f. absurd (let no : true ≡ false = f in cc);
  items = λ _. sym (subst (λ (n : ℕ). given_front n (map held read) ≡ so.is.booking.items) (sym none) (so.items ∙ (ap (λ (n : ℕ). take n so.is.booking.items) so.count_is ∙ take_whole so.is.booking.items)));
  within = so.within;
}

-- at the start
pub read_none : (v : ℕ) (old new : DeskView) (e : EndingView) → Stepped (SawRow e.row.row 4 v) old new → (was : IsEndingOf old e) → AllByRecursion (λ i. i.span.to ≤ most_legs) was.booking.items → ReadSoFar new e v 0 []
read_none v old new e did was fits =
    let r = read_count v old new e did was in
    record { is = r.0; count_is = r.1; items = refl; many = refl; fits = subst (λ (b : Booking). AllByRecursion (λ i. i.span.to ≤ most_legs) b.items) (sym r.3) fits; within = tt }

-- no item lies past the last leg of a word
all_fit : (g : Layout) (is : List BookedItem) → All (λ n. n ≤ most_legs) g.legs → AllByRecursion (LiesWithin g) is → AllByRecursion (λ i. i.span.to ≤ most_legs) is
all_fit g [] most h = tt
all_fit g (i ∷ is) most h = (le_trans i.span.to (slice_index g.legs i.place) most_legs h.0.legs (most i.place 0 h.0.place), all_fit g is most h.1)
  where
    le_trans : (a b c : ℕ) → a ≤ b → b ≤ c → a ≤ c
    le_trans a b c l m = omega arith

pub items_fit : (desk : DeskView) (e : EndingView) → IsLegal desk.layout desk.seen → All (λ n. n ≤ most_legs) desk.layout.legs → (is : IsEndingOf desk e) → AllByRecursion (λ i. i.span.to ≤ most_legs) is.booking.items
items_fit desk e legal most is = all_fit desk.layout is.booking.items most (sound_now desk e legal is).within

-- the parts of a further look
pub shown_item : (v k count : ℕ) (old new : DeskView) (e : EndingView) (read : List Item) → length new.layout.legs ≤ most_places → Stepped (SawRow e.row.row (8 + k) v) old new → e.read ≡ false → ReadSoFar old e count k read → k < count → (p : ℕ) × (span : Interval) × IsItemOf p span v
shown_item v k count old new e read few did unread so below =
    let r = read_at v k old new e few did unread so.is (subst (λ (n : ℕ). k < n) so.count_is below) so.fits in (r.2.0.place, r.2.0.span, r.2.4)

-- one look more
pub seen_more : (a b c : DeskView) (row v k count : ℕ) (read : List Item) (i : Item) → length read ≡ k → IsItemOf i.place i.span v → AddsSteps a b (SawRow row 4 count ∷ item_looks row 8 read) → Stepped (SawRow row (8 + k) v) b c → AddsSteps a c (SawRow row 4 count ∷ item_looks row 8 (read ++ i ∷ []))
seen_more a b c row v k count read i many its s did =
    let same : SawRow row (8 + k) v ≡ SawRow row (8 + length read) (item_word i.place i.span) = λ j. SawRow row (8 + sym many j) (sym its.4 j) in
    subst (λ (l : List Step). AddsSteps a c (SawRow row 4 count ∷ l)) (ap (λ (x : Step). item_looks row 8 read ++ x ∷ []) same ∙ sym (looks-snoc row 8 read i)) (shape_then a b c (SawRow row 4 count ∷ item_looks row 8 read) (SawRow row (8 + k) v ∷ []) s (step_shape (SawRow row (8 + k) v) b c did))
