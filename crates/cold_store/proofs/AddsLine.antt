-- A line more of a draft: noted, wrong or right.
use Rattle.std.proofs.Common.{◌≡◌, ◌≢◌, ◌⊎◌, ⊎_elim, ℕ, ◌+◌, ◌*◌, ◌<◌, ◌≤◌, Bool, true, false, List, [], ◌∷◌, ◌++◌, append_assoc, append-nil, length, map, filter_map, option_map, option_to_list, Option, Some, None, IfSome, IfNone, IsSomeAnd, All, refl, sym, ap, ◌∙◌, subst, arith}
use Rattle.std.specs.List.{AllByRecursion, cons_option}
use Rattle.std.specs.Option.{option_map_or}
use Rattle.std.proofs.lemmas.List.{map-append, length-map}
use Rattle.std.proofs.lemmas.List.Elements.{All-from_recursion, filter_map-append, recursion_from_All}
use Rattle.history_model.proofs.ListLemmas.{All-map, All-of_map}
use Rattle.leg_masks.specs.Interval.{Meet}
use Rattle.leg_masks.specs.Interval.{PlacedSpan as Item}
use Rattle.history_model.specs.declared.phase.EndKind.{EndKind}
use Rattle.history_model.specs.declared.phase.Phase.TheVariants.{Ended}
use Rattle.history_model.specs.Lists.{Pairwise}
use Rattle.history_model.specs.Phase.{is_live}
use Rattle.line_text.specs.declared.heads.Head.{Head}
use Rattle.line_text.specs.declared.heads.SaidItem.{SaidItem}
use Rattle.cold_store.specs.declared.draft.Follows.{Follows}
use Rattle.line_text.specs.declared.ends.SaidEnd.{SaidEnd}
use Rattle.line_text.specs.declared.ends.SaidRow.{SaidRow}
use Rattle.cold_store.specs.Drafts.{AddsLine, AreRisingRows, DraftView, IsDraftOf, IsDrafted, IsFirstWrongAlone, IsNextRow, IsPlaceOf, IsRightLine, IsWholeDraft, MayAdd, MeetsItem, NoneMeet, follows_of, noted, row_said, with_items, with_line}
use Rattle.line_text.specs.Lines.{HasLetter, SaidBooking}
use Rattle.cold_store.specs.Reads.{AreItemsOf, IsLineOf, LineView}
use Rattle.cold_store.specs.Right.{AreClear, IsEndIn, IsHeadRight, IsRightAlone, IsWithin, head_of, kept_item}
use Rattle.cold_store.proofs.Adding.{drafted-more, none_meet}
use Rattle.cold_store.proofs.NextRow.{other-rows, rising-more}
use Rattle.cold_store.proofs.Pairs.{Pairwise-under_map, Pairwise-weaker}

-- the items that a line has, where it has some
pub record HasItems (legs : List ℕ) (b : SaidBooking) (line : LineView) : Type 0 where
  pub is : line.items ≡ Some (map kept_item b.items)
  pub within : AllByRecursion (IsWithin legs) b.items
  pub few : length b.items ≤ 48

items_of : (legs : List ℕ) (b : SaidBooking) (line : LineView) (o : Option (List Item)) (P : List Item → Type 0) → line.items ≡ o → AreItemsOf legs b.items o → IsSomeAnd o P → HasItems legs b line × P (map kept_item b.items)
items_of legs b line None P e h p = absurd p
items_of legs b line (Some items) P e h p = (record { is = e ∙ ap (λ (xs : List Item). Some xs) h.2; within = h.0; few = h.1 }, subst P h.2 p)

-- a right line is that of a booking that is right by itself
pub right_booking : (legs : List ℕ) (rows : ℕ) (b : SaidBooking) (line : LineView) → IsLineOf legs b line → IsRightLine rows line → HasItems legs b line × IsRightAlone legs rows b
right_booking legs rows b line of right =
    let its = items_of legs b line line.items (λ items. (1 ≤ length items) × NoneMeet items) refl of.items right.items in
    let many = length-map b.items kept_item in
    let some : 1 ≤ length (map kept_item b.items) = its.1.0 in
    let head : IsHeadRight rows (head_of b) = subst (IsHeadRight rows) of.head right.head in (
      its.0,
      record {
        head = head;
        some = omega arith;
        few = its.0.few;
        items = its.0.within;
        apart = Pairwise-weaker (λ i j. ¬ MeetsItem (kept_item i) (kept_item j)) AreClear (λ i j apart here meet. apart (sym here, (meet.0, meet.2, meet.1))) b.items
            (Pairwise-under_map (λ (i j : Item). ¬ MeetsItem i j) kept_item b.items its.1.1);
        end = λ kind is. subst (λ (e : SaidEnd). IsEndIn kind b.limit e) of.end (subst (λ (h : Head). IsEndIn kind h.limit line.end) of.head (right.end kind (ap (λ (h : Head). h.phase) of.head ∙ is)));
      },
    )

some_items : (legs : List ℕ) (b : SaidBooking) (o : Option (List Item)) (P : List Item → Type 0) → AllByRecursion (IsWithin legs) b.items → length b.items ≤ 48 → AreItemsOf legs b.items o → P (map kept_item b.items) → IsSomeAnd o P
some_items legs b None P within few h p = absurd (h (within, few))
some_items legs b (Some items) P within few h p = subst P (sym h.2) p

pub right_line : (legs : List ℕ) (rows : ℕ) (b : SaidBooking) (line : LineView) → IsLineOf legs b line → IsRightAlone legs rows b → IsRightLine rows line
right_line legs rows b line of right =
    let many = length-map b.items kept_item in
    let some = right.some in
    record {
      head = subst (IsHeadRight rows) (sym of.head) right.head;
      items = some_items legs b line.items (λ items. (1 ≤ length items) × NoneMeet items) right.items right.few of.items (omega arith, none_meet b.items right.apart);
      end = λ kind is. subst (λ (e : SaidEnd). IsEndIn kind line.head.limit e) (sym of.end) (subst (λ (h : Head). IsEndIn kind h.limit b.end) (sym of.head) (right.end kind (sym (ap (λ (h : Head). h.phase) of.head) ∙ is)));
    }

abbrev follow : ℕ → SaidRow → Follows
follow row s = record { row = row; successor = s }

cons_one : (o : Option Follows) → option_to_list o ≡ cons_option o []
cons_one None = refl
cons_one (Some f) = refl

-- what is noted of one line more
module _ (legs : List ℕ) (said : List SaidBooking) (d : DraftView) (line : LineView) (b : SaidBooking) (was : IsDraftOf legs d.rows said d) (of : IsLineOf legs b line) (next : IsNextRow d.lines line.head.row) where
  lines_more : (noted d line).lines ≡ map row_said (said ++ b ∷ [])
  lines_more =
      (λ j. (was.lines j) ++ record { row = (of.head j).row; generation = (of.head j).generation } ∷ [])
      ∙ sym (map-append row_said said (b ∷ []))

  rising_more : AreRisingRows (noted d line).lines
  rising_more = rising-more d.lines (record { row = line.head.row; generation = line.head.generation }) was.rising next

  follows_more : (noted d line).follows ≡ filter_map follows_of (said ++ b ∷ [])
  follows_more =
      (λ j. (was.follows j) ++ option_to_list (option_map (follow (of.head j).row) (of.end j).successor))
      ∙ (ap (λ (fs : List Follows). filter_map follows_of said ++ fs) (cons_one (follows_of b)) ∙ sym (filter_map-append follows_of said (b ∷ [])))

  of_noted : (e : DraftView) → (e.places ≡ d.places) × (e.rows ≡ d.rows) × (e.lines ≡ (noted d line).lines) × (e.follows ≡ (noted d line).follows)
      → IfSome e.wrong (IsFirstWrongAlone legs d.rows (said ++ b ∷ [])) → IfNone e.wrong (IsDrafted legs d.rows (said ++ b ∷ []) e) → IsDraftOf legs d.rows (said ++ b ∷ []) e
  of_noted e same wrong right =
      record {
        sizes = (same.0 ∙ was.sizes.0, same.1);
        lines = same.2 ∙ lines_more;
        rising = subst AreRisingRows (sym same.2) rising_more;
        follows = same.3 ∙ follows_more;
        wrong = wrong;
        right = right;
      }

  first_stays : (row : ℕ) → IsFirstWrongAlone legs d.rows said row → IsFirstWrongAlone legs d.rows (said ++ b ∷ []) row
  first_stays row f =
      record {
        before = f.before;
        booking = f.booking;
        behind = f.behind ++ b ∷ [];
        parts = ap (λ (xs : List SaidBooking). xs ++ b ∷ []) f.parts ∙ append_assoc f.before (f.booking ∷ f.behind) (b ∷ []);
        right = f.right;
        wrong = f.wrong;
        is = f.is;
      }

  wrong_case : (row : ℕ) → d.wrong ≡ Some row → IsDraftOf legs d.rows (said ++ b ∷ []) (noted d line)
  wrong_case row e =
      let first : IsFirstWrongAlone legs d.rows said row = subst (λ (o : Option ℕ). IfSome o (IsFirstWrongAlone legs d.rows said)) e was.wrong in
      of_noted (noted d line) (refl, refl, refl, refl)
      (subst (λ (o : Option ℕ). IfSome o (IsFirstWrongAlone legs d.rows (said ++ b ∷ []))) (sym e) (first_stays row first))
      (subst (λ (o : Option ℕ). IfNone o (IsDrafted legs d.rows (said ++ b ∷ []) (noted d line))) (sym e) tt)

  drafted_was : d.wrong ≡ None → IsDrafted legs d.rows said d
  drafted_was e = subst (λ (o : Option ℕ). IfNone o (IsDrafted legs d.rows said d)) e was.right

  first_case : d.wrong ≡ None → ¬ IsRightLine d.rows line → IsDraftOf legs d.rows (said ++ b ∷ []) (record (noted d line) { wrong = Some line.head.row })
  first_case e bad =
      of_noted (record (noted d line) { wrong = Some line.head.row }) (refl, refl, refl, refl)
      (record { before = said; booking = b; behind = []; parts = refl; right = (drafted_was e).right; wrong = λ right. bad (right_line legs d.rows b line of right); is = sym (ap (λ (h : Head). h.row) of.head) })
      tt

  right_case : d.wrong ≡ None → IsRightLine d.rows line → HasLetter line.head.phase → (is_live line.head.phase ≡ true → IsSomeAnd line.items (AllByRecursion (λ (i : Item). i.span.to ≤ 126)))
      → (e : DraftView) → e ≡ with_line (noted d line) line → (e.places ≡ d.places) × (e.rows ≡ d.rows) × (e.lines ≡ (noted d line).lines) × (e.follows ≡ (noted d line).follows) × (e.wrong ≡ d.wrong)
      → IsDraftOf legs d.rows (said ++ b ∷ []) e
  right_case none right letter spans e is same =
      let its = right_booking legs d.rows b line of right in
      let old = drafted_was none in
      let own : IsDrafted legs d.rows said (noted d line) = record { letters = old.letters; right = old.right; are = old.are; overlap = old.overlap; none = old.none } in
      let phase : line.head.phase ≡ b.phase = ap (λ (h : Head). h.phase) of.head in
      let row : line.head.row ≡ b.row = ap (λ (h : Head). h.row) of.head in
      let others = other-rows d.lines said b.row was.lines was.rising (subst (IsNextRow d.lines) row next) in
      let new : IsDrafted legs d.rows (said ++ b ∷ []) (with_items (noted d line) (head_of b) b.end (map kept_item b.items)) =
      drafted-more legs d.rows said (noted d line) b own was.sizes.0 others (subst HasLetter phase letter) its.1
      (λ alive. subst (λ (o : Option (List Item)). IsSomeAnd o (AllByRecursion (λ (i : Item). i.span.to ≤ 126))) its.0.is (spans (ap is_live phase ∙ alive))) in
      let line_is : e ≡ with_items (noted d line) (head_of b) b.end (map kept_item b.items) =
      is ∙ (λ j. option_map_or (with_items (noted d line) (of.head j) (of.end j)) (its.0.is j) (noted d line)) in
      of_noted e (same.0, same.1, same.2, same.3)
      (subst (λ (o : Option ℕ). IfSome o (IsFirstWrongAlone legs d.rows (said ++ b ∷ []))) (sym (same.4 ∙ none)) tt)
      (subst (λ (o : Option ℕ). IfNone o (IsDrafted legs d.rows (said ++ b ∷ []) e)) (sym (same.4 ∙ none)) (subst (IsDrafted legs d.rows (said ++ b ∷ [])) (sym line_is) new))

-- what the draft's contract asks
pub adds_wrong : (d : DraftView) (line : LineView) (row : ℕ) → IsNextRow d.lines line.head.row → d.wrong ≡ Some row → AddsLine d line (noted d line)
adds_wrong d line row next e legs said was b of = wrong_case legs said d line b was of next row e

pub adds_first : (d : DraftView) (line : LineView) → IsNextRow d.lines line.head.row → d.wrong ≡ None → ¬ IsRightLine d.rows line → AddsLine d line (record (noted d line) { wrong = Some line.head.row })
adds_first d line next e bad legs said was b of = first_case legs said d line b was of next e bad

pub adds_right : (d : DraftView) (line : LineView) → IsNextRow d.lines line.head.row → d.wrong ≡ None → IsRightLine d.rows line → HasLetter line.head.phase
    → (is_live line.head.phase ≡ true → IsSomeAnd line.items (AllByRecursion (λ (i : Item). i.span.to ≤ 126)))
    → (e : DraftView) → e ≡ with_line (noted d line) line → (e.places ≡ d.places) × (e.rows ≡ d.rows) × (e.lines ≡ (noted d line).lines) × (e.follows ≡ (noted d line).follows) × (e.wrong ≡ d.wrong) → AddsLine d line e
adds_right d line next none right letter spans e is same legs said was b of = right_case legs said d line b was of next none right letter spans e is same

-- the places of a line's items are the draft's
places_in : (legs : List ℕ) (d : DraftView) (b : SaidBooking) (o : Option (List Item)) → length legs ≡ d.places → IsWholeDraft d → AreItemsOf legs b.items o → IfSome o (All (λ (i : Item). IsPlaceOf d i.place))
places_in legs d b None same whole of = tt
places_in legs d b (Some items) same whole of =
    subst (All (λ (i : Item). IsPlaceOf d i.place)) (sym of.2)
    (All-from_recursion (λ (i : Item). IsPlaceOf d i.place) (map kept_item b.items)
    (All-of_map (λ (i : Item). IsPlaceOf d i.place) kept_item b.items (All-map {P = IsWithin legs} {Q = λ (i : SaidItem). IsPlaceOf d i.place} (λ i w. (whole, subst (λ (n : ℕ). i.place < n) same w.place)) b.items of.0)))

pub may_whole : (d : DraftView) (line : LineView) → MayAdd d line → d.wrong ≡ None → IsWholeDraft d
may_whole d line may none =
    let was = drafted_was may.legs may.said d line may.booking may.draft may.of may.next none in
    was.are.length_is ∙ ap (λ (n : ℕ). 2 * n + 64 * d.rows) (sym may.draft.sizes.0)

pub may_places : (d : DraftView) (line : LineView) → MayAdd d line → d.wrong ≡ None → IfSome line.items (All (λ (i : Item). IsPlaceOf (noted d line) i.place))
may_places d line may none = places_in may.legs (noted d line) may.booking line.items (sym may.draft.sizes.0) (may_whole d line may none) may.of.items

pub some_spans : (o : Option (List Item)) → IsSomeAnd o (All (λ (i : Item). i.span.to ≤ 126)) → IsSomeAnd o (AllByRecursion (λ (i : Item). i.span.to ≤ 126))
some_spans None h = h
some_spans (Some items) h = recursion_from_All (λ (i : Item). i.span.to ≤ 126) items h

pub some_or : (o : Option ℕ) → (o ≡ None → ⊥) → (row : ℕ) × (o ≡ Some row)
some_or None h = absurd (h refl)
some_or (Some row) h = (row, refl)

-- the same draft under another name
pub adds_as : (d : DraftView) (line : LineView) (e f : DraftView) → e ≡ f → AddsLine d line e → AddsLine d line f
adds_as d line e f is h = subst (AddsLine d line) is h
