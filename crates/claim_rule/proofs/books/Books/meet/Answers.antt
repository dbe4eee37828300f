use Rattle.std.proofs.Common.{◌≡◌, ℕ, ◌+◌, ◌*◌, ◌<◌, length, sym, ap, ◌∙◌, arith}
use Rattle.claim_rule.specs.Rule.{DeskView, BooksView}
use Rattle.claim_rule.proofs.Meeting.{joins}
use Rattle.claim_rule.specs.Seats.{desk_view}
use Rattle.claim_rule.proofs.Desks.{met}
use Rattle.claim_rule.proofs.Holding.{still_met}
use Rattle.claim_rule.proofs.Out.{met_idle, met_tidy}
use Rattle.claim_rule.proofs.books.Books.meet.Goals as goal

some_words : (w n r : ℕ) → w ≡ 2 * n + 64 * r → 0 < n → 0 < w
some_words w n r e l = omega arith

pub join_seat-requires : goal.join_seat-requires
join_seat-requires c =
    let t = c.self.inside.table.shared in
    let own = c.requires.own in
    let to = sym (ap (λ (b : BooksView). b.table) c.self.view_is) in (
      ap (λ (d : DeskView). d.table) c.desk.view_is ∙ (own.0.table ∙ to),
      ap (λ (d : DeskView). d.table) c.other.view_is ∙ (own.1.table ∙ to),
      c.other.invariant.empty,
      some_words t.table_id.words (length t.key.legs) t.key.rows c.self.invariant.2 c.self.invariant.3,
      joins t.key c.desk.inside.seat.id c.other.inside.seat.id c.desk.inside.seat.me.0 c.other.inside.seat.me.0 c.desk.invariant.fresh c.other.invariant.fresh
          (λ e. c.requires.other (sym (ap (λ (d : DeskView). d.number) c.other.view_is) ∙ e)),
    )

pub returns-clause-met : goal.returns-clause-met
returns-clause-met c =
    let j = c.join_seat.ensures in
    met c.args.self.now.layout c.desk.inside.seat c.other.inside.seat c.join_seat.new.seat c.load_as.new.seat c.desk.inside.kept c.other.inside.kept c.desk.inside.past c.other.inside.past c.args.desk.now c.args.other c.desk.view_is c.other.view_is
    (ap (λ (d : DeskView). d.layout) c.desk.view_is ∙ c.requires.own.0.layout) j.0 j.2 c.load_as.ensures

pub returns-clause-own : goal.returns-clause-own
returns-clause-own c = still_met c.args.self.now c.args.desk.now c.args.other (desk_view c.load_as.new.seat c.desk.inside.kept c.desk.inside.past) (returns-clause-met c) c.requires.own.0

pub returns-clause-idle : goal.returns-clause-idle
returns-clause-idle c = met_idle c.args.desk.now c.args.other (desk_view c.load_as.new.seat c.desk.inside.kept c.desk.inside.past) (returns-clause-met c) c.requires.idle.0

pub returns-clause-tidy : goal.returns-clause-tidy
returns-clause-tidy c is = met_tidy c.args.self.now c.args.desk.now c.args.other (desk_view c.load_as.new.seat c.desk.inside.kept c.desk.inside.past) (returns-clause-own c) (returns-clause-met c) is
