-- A turn to an end, the gives of all items, and the close.
use Rattle.std.proofs.Common.{◌≡◌, ℕ, zero, suc, ◌-◌, ◌≤◌, true, List, [], ◌∷◌, ◌++◌, map, length, refl, sym, ap, ◌∙◌, subst, arith, length-append, ◌+◌, ◌*◌}
use Rattle.std.proofs.lemmas.List.{length-map}
use Rattle.leg_masks.specs.Interval.{PlacedSpan as Item}
use Rattle.history_model.specs.declared.booking.End.{End}
use Rattle.history_model.specs.declared.entry.Step.{Step}
use Rattle.history_model.specs.declared.phase.EndKind.{EndKind}
use Rattle.history_model.specs.declared.phase.Phase.{Phase}
use Rattle.history_model.specs.declared.phase.Phase.TheVariants.{Ending}
use Rattle.history_model.specs.Booking.{most_items}
use Rattle.history_model.specs.History.{IsLegal}
use Rattle.history_model.specs.WholeEnds.{end_turn}
use Rattle.claim_rule.specs.Rule.{DeskView}
use Rattle.claim_rule.specs.Desks.{AddsSteps}
use Rattle.claim_rule.specs.Calls.{AddsStepsBy}
use Rattle.claim_rule.specs.Holds.{held}
use Rattle.claim_rule.specs.Endings.{EndingView, given_front, items_read, item_looks}
use Rattle.claim_rule.specs.EndSteps.{ending_steps, gives_from, closing}
use Rattle.claim_rule.specs.Out.{IsEnding}
use Rattle.claim_rule.proofs.Reading.{sound_now}
use Rattle.claim_rule.proofs.Shapes.{shape_then}
use Rattle.rail_ids.specs.declared.RowNo.{RowNo}
use Rattle.booking_rows.specs.declared.turns.Aim.{Aim}
use Rattle.booking_rows.specs.declared.turns.Turned.TheVariants as turned
use Rattle.booking_rows.specs.Aims.{aimed, end_of, turn_of, fresh_ending, Turns}
use Rattle.booking_rows.specs.Ends.{IsEndedAs}
use Rattle.confirm_core.specs.RowEnds.{ends_as}

-- all items are given back, and the end is closed
pub gave_and_closed : (a b c : DeskView) (e now : EndingView) → e.given ≡ 0 → now ≡ record e { given = length e.items } → AddsSteps a b (gives_from e.row.row e.given (length e.items - e.given)) → AddsSteps b c (closing now.row.row now.kind now.end) → AddsSteps a c (ending_steps e.row.row e.kind e.end e.items)
gave_and_closed a b c e now fresh is gave closed =
    shape_then a b c (gives_from e.row.row 0 (length e.items)) (closing e.row.row e.kind e.end)
    (subst (λ (n : ℕ). AddsSteps a b (gives_from e.row.row 0 n)) (all_of (length e.items)) (subst (λ (n : ℕ). AddsSteps a b (gives_from e.row.row n (length e.items - n))) fresh gave))
    (subst (λ (x : EndingView). AddsSteps b c (closing x.row.row x.kind x.end)) is closed)
  where
    all_of : (n : ℕ) → n - 0 ≡ n
    all_of n = omega arith

same_kind : (a b : EndKind) (p : Phase) → p ≡ Ending a → p ≡ Ending b → a ≡ b
same_kind a b p e f = let g : Ending a ≡ Ending b = sym e ∙ f in cc

-- the booking of an ending is the one of which all items were given back
pub ended_whole : (desk : DeskView) (e now : EndingView) → now ≡ record e { given = length e.items } → IsEndedAs desk now.row now.kind now.end → IsEndedAs desk e.row e.kind e.end
ended_whole desk e now is on = subst (λ (x : EndingView). IsEndedAs desk x.row x.kind x.end) is on

-- the booking that was turned has ended in the way that the turn aimed at
pub ended_so : (desk : DeskView) (row : RowNo) (aim : Aim) (e : EndingView) (kind : EndKind) → aimed aim ≡ Ending e.kind → e ≡ fresh_ending row e.kind (end_of aim) e → aimed aim ≡ Ending kind → IsEndedAs desk e.row e.kind e.end → IsEndedAs desk row kind (end_of aim)
ended_so desk row aim e kind to is wanted on =
    subst (λ (x : RowNo × EndKind × End). IsEndedAs desk x.0 x.1 x.2) (λ i. ((is i).row, same_kind e.kind kind (aimed aim) to wanted i, (is i).end)) on

-- an ending has at most as many items as a booking may have
pub few_items : (desk : DeskView) (e : EndingView) → IsLegal desk.layout desk.seen → IsEnding desk e → e.read ≡ true → e.given ≡ 0 → length e.items ≤ most_items
few_items desk e legal is read fresh =
    let many : length is.of.booking.items ≡ length e.items = ap length (is.of.items read ∙ ap (λ (n : ℕ). given_front n (map held e.items)) fresh) ∙ length-map e.items held in
    subst (λ (n : ℕ). n ≤ most_items) many (sound_now desk e legal is.of).count

-- the turn to an end, its items read, and the rest
pub ended : (a b c : DeskView) (row : RowNo) (from : Phase) (aim : Aim) (e : EndingView) (kind : EndKind) → aimed aim ≡ Ending e.kind → e ≡ fresh_ending row e.kind (end_of aim) e → length e.items ≤ most_items → aimed aim ≡ Ending kind → AddsStepsBy (Turns row from aim (turned.Ending e)) a b → AddsSteps b c (ending_steps e.row.row e.kind e.end e.items) → (es : List Step) × ((items : List Item) × (length items ≤ most_items) × (es ≡ ends_as row.row from kind (end_of aim) items)) × AddsSteps a c es
ended a b c row from aim e kind to is few wanted did rest =
    let same : e.kind ≡ kind = same_kind e.kind kind (aimed aim) to wanted in
    let k : EndKind = kind in
    let last : AddsSteps b c (ending_steps row.row kind (end_of aim) e.items) = subst (λ (x : EndKind). AddsSteps b c (ending_steps row.row x (end_of aim) e.items)) same (subst (λ (x : EndingView). AddsSteps b c (ending_steps x.row.row e.kind x.end e.items)) is rest) in
    let first : AddsSteps a b (turn_of row.row from aim ∷ items_read row.row e.items) = subst (AddsSteps a b) did.1 did.2 in
    let whole : AddsSteps a c (turn_of row.row from aim ∷ items_read row.row e.items ++ ending_steps row.row kind (end_of aim) e.items) = shape_then a b c (turn_of row.row from aim ∷ items_read row.row e.items) (ending_steps row.row kind (end_of aim) e.items) first last in
    (ends_as row.row from kind (end_of aim) e.items, (e.items, few, refl), subst (λ (p : Phase). AddsSteps a c (end_turn row.row from p (end_of aim) ∷ items_read row.row e.items ++ ending_steps row.row kind (end_of aim) e.items)) wanted whole)

-- how many steps an end has

looks_length : (row w : ℕ) (is : List Item) → length (item_looks row w is) ≡ length is
looks_length row w [] = refl
looks_length row w (i ∷ is) = ap suc (looks_length row (suc w) is)

gives_length : (row k n : ℕ) → length (gives_from row k n) ≡ n
gives_length row k zero = refl
gives_length row k (suc n) = ap suc (gives_length row (suc k) n)

pub ends_length : (row : ℕ) (from : Phase) (kind : EndKind) (end : End) (items : List Item) → length items ≤ most_items → length (ends_as row from kind end items) ≤ 2 * most_items + 6
ends_length row from kind end items few =
    let a = length-append (items_read row items) (ending_steps row kind end items) in
    let b = length-append (gives_from row 0 (length items)) (closing row kind end) in
    let c = looks_length row 8 items in
    let d = gives_length row 0 (length items) in omega arith
