-- The steps of an exchange.
use Rattle.std.proofs.Common.{◌≡◌, ℕ, ℤ, zero, suc, ◌+◌, ◌<◌, ◌≤◌, Bool, true, false, List, [], ◌∷◌, ◌++◌, map, length, refl, sym, ap, ◌∙◌, subst, arith, length-append, append_assoc, ◌*◌}
use mathlib.Core.List.{IsPrefix}
use Rattle.rail_ids.specs.declared.RowNo.{RowNo}
use Rattle.leg_masks.specs.Interval.{PlacedSpan as Item}
use Rattle.history_model.specs.declared.entry.Entry.{Entry}
use Rattle.history_model.specs.declared.entry.Step.{Step}
use Rattle.history_model.specs.declared.entry.Step.TheVariants.{Seal}
use Rattle.history_model.specs.declared.phase.Phase.{Phase}
use Rattle.history_model.specs.declared.phase.Phase.TheVariants.{Confirmed, Ending}
use Rattle.history_model.specs.declared.phase.EndKind.{EndKind}
use Rattle.history_model.specs.declared.phase.EndKind.TheVariants.{Exchange}
use Rattle.history_model.specs.declared.booking.End.{End}
use Rattle.history_model.specs.Booking.{Layout, most_items, successor_rows, successor_word}
use Rattle.history_model.specs.Allowed.{OnRow, IsSuccessor}
use Rattle.history_model.specs.History.{entry, own, state_of}
use Rattle.history_model.specs.Phase.{is_turn}
use Rattle.history_model.specs.Work.{NoStep}
use Rattle.history_model.specs.WholeEnds.{end_at, end_turn}
use Rattle.claim_rule.specs.Rule.{DeskView}
use Rattle.claim_rule.specs.Calls.{AddsStepsBy}
use Rattle.claim_rule.specs.Desks.{AddsSteps, CanTurn, AddsAtMost}
use Rattle.claim_rule.specs.Holds.{HoldView}
use Rattle.claim_rule.specs.Endings.{EndingView, items_read, item_looks}
use Rattle.claim_rule.specs.EndSteps.{ending_steps, gives_from, closing}
use Rattle.claim_rule.specs.Out.{IsHolding, SealsItems, IsSealedAs, AreSettled, exchanges, seals, IsConfirmedNext}
use Rattle.claim_rule.proofs.Out.{settled_append, settled_calm, confirmed_behind, row_of_successor}
use Rattle.claim_rule.proofs.Shapes.{shape_then, adds_length}
use Rattle.booking_rows.specs.declared.turns.Aim.TheVariants as aim
use Rattle.booking_rows.specs.declared.turns.Turned.TheVariants as turned
use Rattle.booking_rows.specs.Aims.{end_of, fresh_ending, Turns, LosesTurn}
use Rattle.confirm_core.proofs.Deciding.{can_turn}
use Rattle.refund_core.specs.Quotes.{phase_named}
use Rattle.exchange_core.specs.Ready.{ReadyView, IsReadyFor}
use Rattle.exchange_core.proofs.Ending.{is_successor}
use Rattle.exchange_core.specs.Accepting.{exchange_end, exchange_steps, AcceptsExchange}
use Rattle.exchange_core.specs.declared.accepting.Exchanged.TheVariants as exchanged

-- the turn may be made

named_turns : (f : Bool) → is_turn (phase_named f) (Ending Exchange) ≡ true
named_turns true = refl
named_turns false = refl

pub may_turn : (lay : Layout) (desk : DeskView) (ready : ReadyView) (hold : HoldView) (from : Phase) (q : RowNo) → from ≡ phase_named ready.code.fulfilled → q ≡ hold.row → desk.layout ≡ lay → ready.moment ≤ 4102444799 → IsReadyFor desk ready → IsHolding desk hold
    → CanTurn lay desk.seen desk.number ready.code.row from (Ending Exchange) (exchange_end ready q)
may_turn lay desk ready hold from q is row same years fit holds =
    can_turn lay desk ready.code.row from (Ending Exchange) (exchange_end ready q) same (subst (λ (g : Layout). ready.code.row.row < g.rows) same fit.row)
    (subst (λ (p : Phase). is_turn p (Ending Exchange) ≡ true) (sym is) (named_turns ready.code.fulfilled)) years
    (λ limit. (fit.difference, subst (λ (x : Layout × RowNo). IsSuccessor (state_of x.0 desk.seen) desk.number (successor_word x.1.row x.1.generation)) (λ i. (same i, sym row i)) (is_successor desk hold holds)))
    fit.sealed

-- the turn with its looks, the seal, and the end

same_kind : (a b : EndKind) (p : Phase) → p ≡ Ending a → p ≡ Ending b → a ≡ b
same_kind a b p e f = let g : Ending a ≡ Ending b = sym e ∙ f in cc

pub kind_is : (kind : EndKind) → Ending Exchange ≡ Ending kind → kind ≡ Exchange
kind_is kind to = same_kind kind Exchange (Ending Exchange) to refl

-- the end that the turn aims at is the exchange's
pub end_is : (ready : ReadyView) (x : ℤ) (q successor : RowNo) → x ≡ ready.code.difference → q ≡ successor → end_of (aim.Exchange ready.moment x q) ≡ exchange_end ready successor
end_is ready x q successor amount same = λ i. end_at ready.moment (amount i) (successor_word (same i).row (same i).generation)

pub carried : (a b c d : DeskView) (ready : ReadyView) (from : Phase) (x : ℤ) (q successor : RowNo) (e : EndingView) → from ≡ phase_named ready.code.fulfilled → x ≡ ready.code.difference → q ≡ successor → Ending Exchange ≡ Ending e.kind
    → e ≡ fresh_ending ready.code.row e.kind (end_of (aim.Exchange ready.moment x q)) e → AddsStepsBy (Turns ready.code.row from (aim.Exchange ready.moment x q) (turned.Ending e)) a b → AddsSteps b c (Seal successor.row Confirmed ∷ []) → AddsSteps c d (ending_steps e.row.row e.kind e.end e.items)
    → AddsSteps a d (exchange_steps ready successor e.items)
carried a b c d ready from x q successor e is amount same to fresh did sealed rest =
    let row = ready.code.row.row in
    let end : End = exchange_end ready successor in
    let kind = kind_is e.kind to in
    let aims = end_is ready x q successor amount same in
    let first : AddsSteps a b (end_turn row (phase_named ready.code.fulfilled) (Ending Exchange) end ∷ items_read row e.items) =
    subst (AddsSteps a b) (did.1 ∙ (λ i. end_turn row (is i) (Ending Exchange) (aims i) ∷ items_read row e.items)) did.2 in
    let closed : AddsSteps c d (ending_steps row e.kind (end_of (aim.Exchange ready.moment x q)) e.items) = subst (λ (y : EndingView). AddsSteps c d (ending_steps y.row.row e.kind y.end e.items)) fresh rest in
    let last : AddsSteps c d (ending_steps row Exchange end e.items) = subst (λ (y : EndKind × End). AddsSteps c d (ending_steps row y.0 y.1 e.items)) (λ i. (kind i, aims i)) closed in
    shape_then a b d (end_turn row (phase_named ready.code.fulfilled) (Ending Exchange) end ∷ items_read row e.items) (Seal successor.row Confirmed ∷ ending_steps row Exchange end e.items) first
    (shape_then b c d (Seal successor.row Confirmed ∷ []) (ending_steps row Exchange end e.items) sealed last)

-- what the seal left is so of the whole call

abbrev Seals : List Entry → DeskView → ℕ → Layout → RowNo → Phase → List Item → Type 0
Seals seen new number layout row phase items =
    (before : List Entry) × (after : List Entry) × IsPrefix seen before
    × (new.seen ≡ before ++ entry number (Seal row.row phase) ∷ after)
    × OnRow (state_of layout (before ++ entry number (Seal row.row phase) ∷ [])) row.row (IsSealedAs row.generation number phase items)

-- the exchange has its new booking

unsealed_looks : (q row w : ℕ) (items : List Item) → NoStep (seals q) (item_looks row w items)
unsealed_looks q row w [] = tt
unsealed_looks q row w (i ∷ is) = (refl, unsealed_looks q row (suc w) is)

calm_looks : (row w : ℕ) (items : List Item) (more : List Step) → NoStep exchanges more → NoStep exchanges (item_looks row w items ++ more)
calm_looks row w [] more calm = calm
calm_looks row w (i ∷ is) more calm = (refl, calm_looks row (suc w) is more calm)

calm_gives : (row k n : ℕ) (more : List Step) → NoStep exchanges more → NoStep exchanges (gives_from row k n ++ more)
calm_gives row k zero more calm = calm
calm_gives row k (suc n) more calm = (refl, calm_gives row (suc k) n more calm)

exchange_settled : (d : ℕ) (ready : ReadyView) (successor : RowNo) (items : List Item) → successor.row < successor_rows → AreSettled (map (entry d) (exchange_steps ready successor items))
exchange_settled d ready successor items low =
    let row = ready.code.row.row in
    let end = exchange_end ready successor in
    let ending = ending_steps row Exchange end items in
    let next = row_of_successor successor.row successor.generation low in
    let whole = map (entry d) (items_read row items ++ Seal successor.row Confirmed ∷ ending) in (
      λ _. subst (λ (q : ℕ). IsConfirmedNext q whole) (sym next) (confirmed_behind d successor.row (items_read row items) ending (refl, unsealed_looks successor.row row 8 items)),
      settled_calm d (items_read row items ++ Seal successor.row Confirmed ∷ ending)
          (refl, calm_looks row 8 items (Seal successor.row Confirmed ∷ ending) (refl, calm_gives row 0 (length items) (closing row Exchange end) (refl, (refl, (refl, (refl, tt)))))),
    )

settled_with : (a b : DeskView) (es : List Step) → AddsSteps a b es → AreSettled (map (entry a.number) es) → AreSettled (own a.seen a.number) → AreSettled (own b.seen b.number)
settled_with a b es did so was = subst (λ (n : ℕ). AreSettled (own b.seen n)) (sym did.same.2) (subst AreSettled (sym did.mine) (settled_append (own a.seen a.number) (map (entry a.number) es) was so))

pub settled_done : (a b : DeskView) (ready : ReadyView) (successor new : RowNo) (difference : ℤ) → successor.row < successor_rows → AddsStepsBy (AcceptsExchange ready successor (exchanged.Done new difference)) a b → AreSettled (own a.seen a.number) → AreSettled (own b.seen b.number)
settled_done a b ready successor new difference low did was =
    let s = did.1.2 in
    settled_with a b did.0 did.2 (subst (λ (l : List Step). AreSettled (map (entry a.number) l)) (sym s.2) (exchange_settled a.number ready successor s.0 low)) was

pub settled_lost : (a b : DeskView) (row : RowNo) (from shown : Phase) → AddsStepsBy (LosesTurn row from shown) a b → AreSettled (own a.seen a.number) → AreSettled (own b.seen b.number)
settled_lost a b row from shown lost was =
    settled_with a b lost.0 lost.2 (settled_calm a.number lost.0 (subst (NoStep exchanges) (sym lost.1.3) (refl, tt))) was

-- how many entries there are

looks_length : (row w : ℕ) (is : List Item) → length (item_looks row w is) ≡ length is
looks_length row w [] = refl
looks_length row w (i ∷ is) = ap suc (looks_length row (suc w) is)

gives_length : (row k n : ℕ) → length (gives_from row k n) ≡ n
gives_length row k zero = refl
gives_length row k (suc n) = ap suc (gives_length row (suc k) n)

exchange_length : (ready : ReadyView) (successor : RowNo) (items : List Item) → length items ≤ most_items → length (exchange_steps ready successor items) ≤ 2 * most_items + 7
exchange_length ready successor items few =
    let row = ready.code.row.row in
    let end = exchange_end ready successor in
    let ending = ending_steps row Exchange end items in
    let k = length-append (item_looks row 8 items) (Seal successor.row Confirmed ∷ ending) in
    let l = length-append (gives_from row 0 (length items)) (closing row Exchange end) in
    let m = looks_length row 8 items in
    let n = gives_length row 0 (length items) in
    omega (arith, few, k, l, m, n)

pub exchange_bound : (a b : DeskView) (ready : ReadyView) (successor new : RowNo) (difference : ℤ) → AddsStepsBy (AcceptsExchange ready successor (exchanged.Done new difference)) a b → AddsAtMost (2 * most_items + 7) a b
exchange_bound a b ready successor new difference did =
    let s = did.1.2 in adds_length a b did.0 (2 * most_items + 7) did.2 (subst (λ (l : List Step). length l ≤ 2 * most_items + 7) (sym s.2) (exchange_length ready successor s.0 s.1))
