use Rattle.std.proofs.Common.{◌≡◌, ℕ, ◌+◌, ◌*◌, ◌<◌, List, length, sym, ap, ◌∙◌, subst, arith, None, refl}
use Rattle.claim_rule.specs.declared.rule.View.{View}
use Rattle.claim_rule.specs.Rule.{DeskView, BooksView}
use Rattle.claim_rule.proofs.Meeting.{splits}
use Rattle.claim_rule.specs.Seats.{desk_view}
use Rattle.claim_rule.proofs.Holding.{still_parted, newly_of}
use Rattle.claim_rule.proofs.Desks.{steps_as, part_met}
use Rattle.claim_rule.proofs.Out.{new_tidy, part_endings, part_holds, part_idle, part_tidy}
use Rattle.history_model.specs.History.{own as own_of}
use Rattle.claim_rule.proofs.books.Books.part.Goals as goal
use Rattle.history_model.specs.declared.entry.Step.TheVariants.{Met}

some_words : (w n r : ℕ) → w ≡ 2 * n + 64 * r → 0 < n → 0 < w
some_words w n r e l = omega arith

pub load_as-requires-clause-word : goal.load_as-requires-clause-word
load_as-requires-clause-word c = (subst (λ (b : BooksView). 0 < length b.layout.legs) c.self.view_is c.self.invariant.3, omega arith)

pub split_seat-seat-requires : goal.split_seat-seat-requires
split_seat-seat-requires c =
    let t = c.self.inside.table.shared in
    let m = c.load_as.ensures in
    let s = m.3.same in (
      m.0 ∙ (ap (λ (d : DeskView). d.table) c.desk.view_is ∙ (c.requires.own.table ∙ sym (ap (λ (b : BooksView). b.table) c.self.view_is))),
      some_words t.table_id.words (length t.key.legs) t.key.rows c.self.invariant.2 c.self.invariant.3,
      splits t.key c.load_as.new.seat.id c.load_as.new.seat.me.0 (s.1 ∙ c.desk.invariant.fresh) (s.2 ∙ (ap (λ (d : DeskView). d.number) c.desk.view_is ∙ c.requires.first)),
    )

pub returns-clause-met : goal.returns-clause-met
returns-clause-met c =
    let p = c.split_seat-seat.ensures in
    part_met Met c.args.desk.now c.load_as.new.seat c.split_seat-seat.new.seat c.desk.inside.kept c.desk.inside.past
    (steps_as c.args.self.now.layout Met c.desk.inside.seat c.load_as.new.seat c.desk.inside.kept c.desk.inside.past c.args.desk.now c.desk.view_is (ap (λ (d : DeskView). d.layout) c.desk.view_is ∙ c.requires.own.layout) c.load_as.ensures)
    p.0 (ap (λ (m : View × List (ℕ × ℕ)). m.0) p.2)

none_zero : (n : ℕ) → n + 1 ≡ 0 → ⊥
none_zero n e = omega (arith, e)

pub returns-clause-own : goal.returns-clause-own
returns-clause-own c =
    let p = c.split_seat-seat.ensures in
    let did = returns-clause-met c in
    let v = ap (λ (m : View × List (ℕ × ℕ)). m.0) p.2 in
    let w = ap (λ (m : View × List (ℕ × ℕ)). m.0) p.4 in
    let more = ap (λ (x : View). x.parted) v ∙ ap (λ (n : ℕ). n + 1) (c.load_as.ensures.3.same.4 ∙ ap (λ (d : DeskView). d.parted) c.desk.view_is) in
    let now = still_parted c.args.self.now c.args.desk.now (desk_view c.split_seat-seat.new.seat c.desk.inside.kept c.desk.inside.past) did more c.requires.own in
    let other : c.split_seat-seat.result.me.0.number ≡ 0 → ⊥ = λ e. none_zero c.load_as.new.seat.me.0.parted (sym (ap (λ (x : View). x.number) w) ∙ e) in (
      now,
      newly_of c.args.self.now (desk_view c.split_seat-seat.new.seat c.desk.inside.kept c.desk.inside.past) (desk_view c.split_seat-seat.result None c.desk.inside.past) now (p.3 ∙ sym p.0)
          (ap (λ (x : View). x.plan) w ∙ sym (ap (λ (x : View). x.plan) v)) (ap (λ (x : View). x.seen) w ∙ sym (ap (λ (x : View). x.seen) v)) refl refl other,
    )

made_less : (old new : ℕ) → new ≡ old → old < new + 1
made_less old new e = omega arith

pub returns-clause-tidy : goal.returns-clause-tidy
returns-clause-tidy c =
    let v = c.load_as.new.seat.me.0 in
    let m = c.load_as.ensures.3 in
    let w = ap (λ (m : View × List (ℕ × ℕ)). m.0) c.split_seat-seat.ensures.4 in
    let none = m.later (ap (λ (d : DeskView). d.number) c.desk.view_is ∙ c.requires.first) (v.parted + 1) (made_less c.desk.inside.seat.me.0.parted v.parted m.same.4) in
    new_tidy (desk_view c.split_seat-seat.result None c.desk.inside.past) (returns-clause-own c).1.legal (ap (λ (x : View). own_of x.seen x.number) w ∙ none)

pub returns-clause-still : goal.returns-clause-still
returns-clause-still c =
    let did = returns-clause-met c in
    let now = desk_view c.split_seat-seat.new.seat c.desk.inside.kept c.desk.inside.past in
    (part_idle c.args.desk.now now did, part_tidy c.args.self.now c.args.desk.now now (returns-clause-own c).0 did)

pub returns-clause-holds : goal.returns-clause-holds
returns-clause-holds c = part_holds c.args.desk.now (desk_view c.split_seat-seat.new.seat c.desk.inside.kept c.desk.inside.past) (returns-clause-met c)

pub returns-clause-endings : goal.returns-clause-endings
returns-clause-endings c = part_endings c.args.desk.now (desk_view c.split_seat-seat.new.seat c.desk.inside.kept c.desk.inside.past) (returns-clause-met c)
