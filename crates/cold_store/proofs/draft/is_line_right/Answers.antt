-- The head, the items and the end are what the tests say.
use Rattle.std.proofs.Common.{◌≡◌, ◌≢◌, ℕ, ◌≤◌, ◌↔◌, Bool, true, false, List, [], length, option_map, Option, None, Some, IsTrue, IsSomeAnd, refl, sym, ◌∙◌, arith, ap, subst, rules}
use Rattle.arrayvec.specs.ArrayVec.{array_vec_len}
use Rattle.leg_masks.specs.Interval.{PlacedSpan as Item}
use Rattle.history_model.specs.declared.phase.Phase.{Phase}
use Rattle.history_model.specs.declared.phase.Phase.TheVariants.{Ended}
use Rattle.history_model.specs.declared.phase.EndKind.{EndKind}
use Rattle.line_text.specs.declared.heads.Head.{Head}
use Rattle.line_text.specs.declared.ends.SaidEnd.{SaidEnd}
use Rattle.cold_store.specs.Drafts.{IsRightLine, NoneMeet}
use Rattle.cold_store.specs.Reads.{LineView}
use Rattle.cold_store.specs.Right.{IsEndIn, IsHeadRight}
use Rattle.cold_store.proofs.draft.is_line_right.Goals as goal

some_of : (items : List Item) (P : List Item → Type 0) (o : Option (List Item)) → o ≡ Some items → P items → IsSomeAnd o P
some_of items P o e p = subst (λ (x : Option (List Item)). IsSomeAnd x P) (sym e) p

right_of : (rows : ℕ) (line : LineView) (items : List Item) → line.items ≡ Some items → 1 ≤ length items → NoneMeet items → IsHeadRight rows line.head
    → ((kind : EndKind) → line.head.phase ≡ Ended kind → IsEndIn kind line.head.limit line.end) → IsRightLine rows line
right_of rows line items is some none head end = record { head = head; items = some_of items (λ xs. (1 ≤ length xs) × NoneMeet xs) line.items is (some, none); end = end }

ended : (rows : ℕ) (line : LineView) (items : List Item) (kind : EndKind) (r : Bool) → line.items ≡ Some items → 1 ≤ length items → NoneMeet items → IsHeadRight rows line.head
    → line.head.phase ≡ Ended kind → (IsTrue r ↔ IsEndIn kind line.head.limit line.end) → IsTrue r ↔ IsRightLine rows line
ended rows line items kind r is some none head phase end = (
  λ t. right_of rows line items is some none head (λ k e. let same : kind ≡ k = cc in subst (λ (x : EndKind). IsEndIn x line.head.limit line.end) same (end.0 t)),
  λ right. end.1 (right.end kind phase),
)

pub returns-in-Ended : goal.returns-in-Ended
returns-in-Ended c =
    let view = c.line.view_is in
    let some : 1 ≤ length c.in-Some.items.items = search rules in
    let none : NoneMeet c.in-Some.items.items = search rules in
    let head : IsHeadRight c.args.rows c.line.inside.head = search rules in
    let is : option_map (λ v. v.items) c.line.inside.items ≡ Some c.in-Some.items.items = rw c.in-Some.is refl in
    subst (λ (l : LineView). IsTrue c.is_end_right.result ↔ IsRightLine c.args.rows l) view
    (ended c.args.rows (record { head = c.line.inside.head; items = option_map (λ v. v.items) c.line.inside.items; end = c.line.inside.end }) c.in-Some.items.items c.in-Ended.kind c.is_end_right.result is some none head c.in-Ended.is c.is_end_right.ensures)

pub returns-in_default-phase : goal.returns-in_default-phase
returns-in_default-phase c =
    let view = c.line.view_is in
    let some : 1 ≤ length c.in-Some.items.items = search rules in
    let none : NoneMeet c.in-Some.items.items = search rules in
    let head : IsHeadRight c.args.rows c.line.inside.head = search rules in
    let is : option_map (λ v. v.items) c.line.inside.items ≡ Some c.in-Some.items.items = rw c.in-Some.is refl in
    subst (λ (l : LineView). IsTrue true ↔ IsRightLine c.args.rows l) view
    (λ _. right_of c.args.rows (record { head = c.line.inside.head; items = option_map (λ v. v.items) c.line.inside.items; end = c.line.inside.end }) c.in-Some.items.items is some none head (λ k e. absurd (c.in_default-phase.not-Ended k e)), λ _. refl)
