use Rattle.std.proofs.Common.{◌≡◌, ℕ, Bool, cond, ap, sym, ◌∙◌, refl, subst, ne_eqb, eq-eqb, Option}
use Rattle.atomic_table.specs.declared.shared.Seat.{Seat}
use Rattle.rail_ids.specs.declared.RowNo.{RowNo}
use Rattle.claim_rule.specs.declared.rule.View.{View}
use Rattle.claim_rule.specs.Rule.{DeskView, BooksView}
use Rattle.claim_rule.specs.Desks.{Stepped, IsOf}
use Rattle.claim_rule.specs.Seats.{either_step, HasMade, desk_view, CanTake}
use Rattle.claim_rule.specs.Holds.{HoldView, IsHoldOf, IsItem, with_one}
use Rattle.claim_rule.proofs.Desks.{steps_as}
use Rattle.claim_rule.proofs.Holding.{hold_stays, hold_takes, still_alone, can_take}
use Rattle.claim_rule.proofs.books.Books.step_take.Goals as goal
use Rattle.history_model.specs.Booking.{Layout}
use Rattle.history_model.specs.declared.entry.Step.{Step}
use Rattle.history_model.specs.declared.entry.Step.TheVariants.{Take}
use Rattle.history_model.specs.Looks.{look_at}
use Rattle.history_model.specs.declared.word.Word.TheVariants.{Place}
use Rattle.leg_masks.specs.Interval.{PlacedSpan as Item, half_of}

missed : (n old : ℕ) (i : Item) (hit : Step) (lay : Layout) (a b : Seat ℕ View) → (n ≡ old → ⊥) → HasMade lay (either_step old hit (Place i.place (half_of i.span)) n) a b → HasMade lay (look_at i.place i.span n) a b
missed n old i hit lay a b other made = subst (λ (c : Bool). HasMade lay (cond c hit (look_at i.place i.span n)) a b) (ne_eqb n old other) made

won : (n old : ℕ) (i : Item) (hit : Step) (lay : Layout) (a b : Seat ℕ View) → n ≡ old → HasMade lay (either_step old hit (Place i.place (half_of i.span)) n) a b → HasMade lay hit a b
won n old i hit lay a b same made = subst (λ (c : Bool). HasMade lay (cond c hit (look_at i.place i.span n)) a b) (eq-eqb n old same) made

-- the goals, with the hold that the contract sees
missing : (n old : ℕ) (i : Item) (hit : Step) (books : BooksView) (a b : Seat ℕ View) (kept : Option RowNo) (past : ℕ) (desk : DeskView) (hold : HoldView) → desk_view a kept past ≡ desk → IsOf books desk → IsHoldOf desk hold → (n ≡ old → ⊥) → HasMade books.layout (either_step old hit (Place i.place (half_of i.span)) n) a b
    → IsOf books (desk_view b kept past) × IsHoldOf (desk_view b kept past) hold × Stepped (look_at i.place i.span n) desk (desk_view b kept past)
missing n old i hit books a b kept past desk hold is of held other made =
    let did = steps_as books.layout (look_at i.place i.span n) a b kept past desk is (ap (λ (d : DeskView). d.layout) is ∙ of.layout) (missed n old i hit books.layout a b other made) in
    (still_alone (look_at i.place i.span n) books desk (desk_view b kept past) refl held.1 did of, (hold_stays (look_at i.place i.span n) desk (desk_view b kept past) hold refl did held.0, did.same.5 ∙ held.1), did)

taking : (n old : ℕ) (i : Item) (row : ℕ) (books : BooksView) (a b : Seat ℕ View) (kept : Option RowNo) (past : ℕ) (desk : DeskView) (hold : HoldView) → desk_view a kept past ≡ desk → IsOf books desk → IsHoldOf desk hold → IsItem books.layout i → row ≡ hold.row.row → n ≡ old → HasMade books.layout (either_step old (Take row i.place i.span) (Place i.place (half_of i.span)) n) a b
    → IsOf books (desk_view b kept past) × IsHoldOf (desk_view b kept past) (with_one hold i) × Stepped (Take hold.row.row i.place i.span) desk (desk_view b kept past)
taking n old i row books a b kept past desk hold is of held fits at same made =
    let hit = Take hold.row.row i.place i.span in
    let did = steps_as books.layout hit a b kept past desk is (ap (λ (d : DeskView). d.layout) is ∙ of.layout) (subst (λ (r : ℕ). HasMade books.layout (Take r i.place i.span) a b) at (won n old i (Take row i.place i.span) books.layout a b same made)) in
    (still_alone hit books desk (desk_view b kept past) refl held.1 did of, (hold_takes i desk (desk_view b kept past) hold (subst (λ (l : Layout). IsItem l i) (sym of.layout) fits) did held.0, did.same.5 ∙ held.1), did)

pub take_at-found-requires-clause-row : goal.take_at-found-requires-clause-row
take_at-found-requires-clause-row c = subst (λ (r : ℕ). CanTake c.args.self.now.layout c.desk.inside.seat r) (sym (ap (λ (h : HoldView). h.row.row) c.hold.view_is))
    (can_take c.desk.inside.seat c.desk.inside.kept c.desk.inside.past c.args.self.now.layout c.args.desk.now c.args.hold.now c.desk.view_is c.requires.own.layout c.requires.hold.0 c.requires.room)

pub returns-then-found-expected : goal.returns-then-found-expected
returns-then-found-expected c =
    let i = c.args.item in
    let m = missing c.take_at-found.result c.args.expected i (Take c.hold.inside.row.row i.place i.span) c.args.self.now c.desk.inside.seat c.take_at-found.new.seat c.desk.inside.kept c.desk.inside.past c.args.desk.now c.args.hold.now c.desk.view_is c.requires.own c.requires.hold
    c.if-found-expected.true c.take_at-found.ensures in
    record { own = m.0; hold = m.1; won = tt; missed = (c.if-found-expected.true, m.2, refl) }

pub returns : goal.returns
returns c =
    let i = c.args.item in
    let same : with_one (record { row = c.hold.inside.row; items = c.hold.inside.items.items }) i ≡ with_one c.args.hold.now i = ap (λ (h : HoldView). with_one h i) c.hold.view_is in
    let now = (λ k. record { row = c.hold.inside.row; items = c.push.ensures.items k }) ∙ same in
    let m = taking c.take_at-found.result c.args.expected i c.hold.inside.row.row c.args.self.now c.desk.inside.seat c.take_at-found.new.seat c.desk.inside.kept c.desk.inside.past c.args.desk.now c.args.hold.now c.desk.view_is c.requires.own c.requires.hold c.requires.item
    (ap (λ (h : HoldView). h.row.row) c.hold.view_is) c.if-found-expected.false c.take_at-found.ensures in
    record { own = m.0; hold = subst (IsHoldOf (desk_view c.take_at-found.new.seat c.desk.inside.kept c.desk.inside.past)) (sym now) m.1; won = (m.2, now); missed = tt }
