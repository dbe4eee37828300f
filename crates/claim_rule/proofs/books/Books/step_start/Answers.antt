use Rattle.std.proofs.Common.{◌≡◌, ◌<◌, ap, sym, ◌∙◌, subst, refl}
use Rattle.claim_rule.specs.Rule.{DeskView}
use Rattle.claim_rule.specs.Seats.{desk_view}
use Rattle.claim_rule.specs.Holds.{HoldView, IsHoldOf, empty_hold}
use Rattle.claim_rule.proofs.Desks.{steps_as, missed, won}
use Rattle.claim_rule.proofs.Holding.{hold_starts, still_alone, still_started}
use Rattle.claim_rule.proofs.books.Books.step_start.Goals as goal
use Rattle.history_model.specs.Booking.{Layout}
use Rattle.history_model.specs.declared.entry.Step.TheVariants.{SawRow, Start}
use Rattle.history_model.specs.declared.word.Word.TheVariants.{Row}

pub returns-then-found-expected : goal.returns-then-found-expected
returns-then-found-expected c =
    let f = c.start_at-found in
    let lay = c.args.self.now.layout in
    let r = c.args.row.row in
    let hit = Start r c.args.row.generation in
    let did = steps_as lay (SawRow r 0 f.result) c.desk.inside.seat f.new.seat c.desk.inside.kept c.desk.inside.past c.args.desk.now c.desk.view_is (ap (λ (d : DeskView). d.layout) c.desk.view_is ∙ c.requires.own.layout)
    (missed (Row r 0) f.result c.args.expected hit lay c.desk.inside.seat f.new.seat c.if-found-expected.true f.ensures) in
    record { own = still_alone (SawRow r 0 f.result) c.args.self.now c.args.desk.now (desk_view f.new.seat c.desk.inside.kept c.desk.inside.past) refl c.requires.kept did c.requires.own; started = (did, c.if-found-expected.true) }

pub returns : goal.returns
returns c =
    let f = c.start_at-found in
    let lay = c.args.self.now.layout in
    let row = c.args.row in
    let hit = Start row.row row.generation in
    let did = steps_as lay hit c.desk.inside.seat f.new.seat c.desk.inside.kept c.desk.inside.past c.args.desk.now c.desk.view_is (ap (λ (d : DeskView). d.layout) c.desk.view_is ∙ c.requires.own.layout)
    (won (Row row.row 0) f.result c.args.expected hit lay c.desk.inside.seat f.new.seat c.if-found-expected.false f.ensures) in
    let new : HoldView = record { row = row; items = c.new.result.items } in
    let none : HoldView = empty_hold row in
    let is : new ≡ none = (λ j. record { row = row; items = c.new.ensures j }) in
    let hold = hold_starts row c.args.desk.now (desk_view f.new.seat c.desk.inside.kept c.desk.inside.past) (subst (λ (l : Layout). row.row < l.rows) (sym c.requires.own.layout) c.requires.row) did in
    record {
      own = still_started row.row row.generation c.args.self.now c.args.desk.now (desk_view f.new.seat c.desk.inside.kept c.desk.inside.past) c.requires.kept c.requires.none did c.requires.own;
      started = (did, subst (IsHoldOf (desk_view f.new.seat c.desk.inside.kept c.desk.inside.past)) (sym is) (hold, did.same.5 ∙ c.requires.kept), is);
    }
