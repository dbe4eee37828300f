-- The words of places by a list of items: an item more, and whether one is free.
use Rattle.std.proofs.Common.{◌≡◌, ◌≢◌, ◌⊎◌, ⊎_elim, ℕ, ◌+◌, ◌*◌, ◌^◌, ◌<◌, ◌≤◌, Bool, true, false, not, ◌&&◌, ◌||◌, eqb, max, pos, bit_and, bit_or, List, [], ◌∷◌, ◌++◌, append-nil, refl, sym, ap, ◌∙◌, subst, ne_eqb, eq-eqb, arith, lit<, lit≤, lt_of_lt_of_le}
use Rattle.std.specs.Int.{bit_at}
use Rattle.std.specs.List.{AllByRecursion, list_any}
use Rattle.std.proofs.lemmas.Bool.{cases_eq}
use Rattle.std.proofs.lemmas.Nat.{or_lt}
use Rattle.std.proofs.lemmas.Nat.Bits.{bit_at_or}
use Rattle.leg_masks.specs.Interval.{Interval, Holds, IsClear, IsPiece, has_leg, half_of, leg_of, mask, shows}
use Rattle.leg_masks.specs.Interval.{PlacedSpan as Item}
use Rattle.leg_masks.proofs.Masks.{bit, bit_at-mask, clear_from, mask-lt, none_from, other_half}
use Rattle.history_model.specs.declared.booking.BookedItem.{BookedItem}
use Rattle.history_model.specs.declared.phase.Phase.TheVariants.{Free}
use Rattle.history_model.specs.declared.word.Word.{Word}
use Rattle.history_model.specs.declared.word.Word.TheVariants.{Place}
use Rattle.history_model.specs.Allowed.{Blocks}
use Rattle.history_model.specs.Booking.{Booking, State, all_items, is_occupied, occupies}
use Rattle.history_model.specs.Words.{place_word}
use Rattle.history_model.specs.WholeEnds.{end_at}
use Rattle.history_model.proofs.Bits.{bit_at-place_word, is_place_word, max_bits, place_word-lt, place_word-same, place_word-same_half, shows-on_piece}
use Rattle.history_model.proofs.Changes.{legs_from_open, open_from_legs}
use Rattle.history_model.proofs.Items.{any-append}
use Rattle.claim_rule.specs.Openings.{booked}

-- a state that has just these items
abbrev pub holder : List BookedItem → State
holder items =
    record { row = 0; generation = 0; owner = 0; phase = Free; items = items; words = []; end = end_at 0 (pos 0) 0 } ∷ []

abbrev pub left : Item → BookedItem
left i = booked false i

-- an item whose legs are those of one half of a place
pub record IsFit (i : Item) : Type 0 where
  pub some : i.span.from < i.span.to
  pub most : i.span.to ≤ 126
  pub piece : IsPiece i.span

pub held : (items : List BookedItem) (place leg : ℕ) → is_occupied (holder items) place leg ≡ list_any (occupies place leg) items
held items place leg = ap (list_any (occupies place leg)) (append-nil items)

pub word-holder : (s : State) (place half : ℕ) → place_word s place half ≡ place_word (holder (all_items s)) place half
word-holder s place half = place_word-same (holder (all_items s)) s place half (λ i. sym (held (all_items s) place i))

or_false : (a b : Bool) → b ≡ false → (a || b) ≡ a
or_false true b e = refl
or_false false b e = e

pub held-push : (items : List BookedItem) (x : BookedItem) (place leg : ℕ) → is_occupied (holder (items ++ x ∷ [])) place leg ≡ (is_occupied (holder items) place leg || occupies place leg x)
held-push items x place leg =
    held (items ++ x ∷ []) place leg
    ∙ (any-append (occupies place leg) items (x ∷ [])
    ∙ (ap (λ (t : Bool). list_any (occupies place leg) items || t) (or_false_of (occupies place leg x)) ∙ ap (λ (t : Bool). t || occupies place leg x) (sym (held items place leg))))
  where
    or_false_of : (a : Bool) → (a || false) ≡ a
    or_false_of true = refl
    or_false_of false = refl

occupies_here : (i : Item) (leg : ℕ) → occupies i.place leg (left i) ≡ has_leg i.span leg
occupies_here i leg = ap (λ (t : Bool). t && has_leg i.span leg) (eq-eqb i.place i.place refl)

and_false : (a : Bool) → (a && false) ≡ false
and_false true = refl
and_false false = refl

elsewhere : (i : Item) (q h k : ℕ) → IsFit i → k < 63 → (Place q h ≡ Place i.place (half_of i.span) → ⊥) → occupies q (leg_of h k) (left i) ≡ false
elsewhere i q h k fit l other = ⊎_elim
    (λ (same : q ≡ i.place). ap (λ (t : Bool). eqb i.place q && t) (other_half i.span fit.most fit.piece h k l (λ e. other (λ j. Place (same j) (e j)))) ∙ and_false (eqb i.place q))
    (λ (n : q ≢ i.place). ap (λ (t : Bool). t && has_leg i.span (leg_of h k)) (ne_eqb i.place q (λ e. n (sym e))))
    (cases_eq q i.place)

-- an item more sets the bits of its piece
pub word-here : (items : List BookedItem) (i : Item) → IsFit i → place_word (holder (items ++ left i ∷ [])) i.place (half_of i.span) ≡ bit_or (place_word (holder items) i.place (half_of i.span)) (mask i.span)
word-here items i fit =
    let old : State = holder items in
    let new : State = holder (items ++ left i ∷ []) in
    let word : ℕ = place_word old i.place (half_of i.span) in
    is_place_word new i.place (half_of i.span) (bit_or word (mask i.span))
    (or_lt 63 word (mask i.span) (place_word-lt old i.place (half_of i.span)) (mask-lt i.span fit.some fit.most fit.piece))
    (λ k l. let leg : ℕ = leg_of (half_of i.span) k in
    bit_at_or word (mask i.span) k
    ∙ (ap (λ (x : ℕ). max x (bit_at (mask i.span) k)) (bit_at-place_word old i.place (half_of i.span) k l)
    ∙ (ap (λ (x : ℕ). max (bit (is_occupied old i.place leg)) x) (bit_at-mask i.span fit.some k)
    ∙ (max_bits (is_occupied old i.place leg) (has_leg i.span leg)
    ∙ ap bit (sym (held-push items (left i) i.place leg ∙ ap (λ (t : Bool). is_occupied old i.place leg || t) (occupies_here i leg)))))))

-- and no other
pub word-else : (items : List BookedItem) (i : Item) (q h : ℕ) → IsFit i → (Place q h ≡ Place i.place (half_of i.span) → ⊥) → place_word (holder (items ++ left i ∷ [])) q h ≡ place_word (holder items) q h
word-else items i q h fit other =
    place_word-same_half (holder items) (holder (items ++ left i ∷ [])) q h
    (λ k l. held-push items (left i) q (leg_of h k) ∙ or_false (is_occupied (holder items) q (leg_of h k)) (occupies q (leg_of h k) (left i)) (elsewhere i q h k fit l other))

-- none of the items meets it at its place
abbrev pub IsFreeFor : List BookedItem → Item → Type 0
IsFreeFor items i = AllByRecursion (λ j. ¬ Blocks i.place i.span j) items

bit_zero : (b : Bool) → bit b ≡ 0 → b ≡ false
bit_zero true e = absurd (omega arith)
bit_zero false e = refl

pub free-from_word : (items : List BookedItem) (i : Item) → IsFit i → bit_and (place_word (holder items) i.place (half_of i.span)) (mask i.span) ≡ 0 → IsFreeFor items i
free-from_word items i fit zero =
    let s : State = holder items in
    let clear = clear_from (place_word s i.place (half_of i.span)) i.span fit.some fit.most fit.piece zero in
    subst (λ (xs : List BookedItem). IsFreeFor xs i) (append-nil items)
    (open_from_legs s i.place i.span
    (λ leg holds. bit_zero (is_occupied s i.place leg) (sym (shows-on_piece s i.place i.span fit.most fit.piece leg holds) ∙ clear leg holds.0 holds.1)))

pub word-from_free : (items : List BookedItem) (i : Item) → IsFit i → IsFreeFor items i → bit_and (place_word (holder items) i.place (half_of i.span)) (mask i.span) ≡ 0
word-from_free items i fit free =
    let s : State = holder items in
    let open_ = legs_from_open s i.place i.span (subst (λ (xs : List BookedItem). IsFreeFor xs i) (sym (append-nil items)) free) in
    let less : place_word s i.place (half_of i.span) < 2 ^ 63 = place_word-lt s i.place (half_of i.span) in
    let word : ℕ = place_word s i.place (half_of i.span) in
    let less' : word < 2 ^ 63 = less in
    none_from (place_word s i.place (half_of i.span)) i.span fit.some fit.most fit.piece (lt_of_lt_of_le less' (lit≤ tt))
    (λ leg from to. shows-on_piece s i.place i.span fit.most fit.piece leg (from, to) ∙ ap bit (open_ leg (from, to)))
