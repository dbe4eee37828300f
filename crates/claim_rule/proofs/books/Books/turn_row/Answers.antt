use Rattle.std.proofs.Common.{refl, ◌≡◌, Bool, cond, ap, sym, ◌∙◌, subst, ne_eqb, eq-eqb, rules, ℤ, to_z, of_z, w64}
use Rattle.claim_rule.specs.Rule.{DeskView}
use Rattle.claim_rule.specs.Seats.{HasMade, turn_step}
use Rattle.claim_rule.specs.Seats.{desk_view}
use Rattle.claim_rule.proofs.Holding.{still_turned, still_of}
use Rattle.claim_rule.proofs.Desks.{steps_as}
use Rattle.claim_rule.proofs.EndingLemmas.{turned_booking}
use Rattle.claim_rule.proofs.books.Books.turn_row.Goals as goal
use Rattle.history_model.specs.Phase.{row_word_of}
use Rattle.history_model.specs.declared.entry.Step.TheVariants.{LostTurn, Turn}
use Rattle.history_model.specs.WholeEnds.{end_turn}

pub returns-then-found-old-clause-lost : goal.returns-then-found-old-clause-lost
returns-then-found-old-clause-lost c =
    let a = c.args in
    let f = c.turn_at-found in
    let old = row_word_of a.from a.row.generation in
    let same : to_z w64 (of_z w64 a.end.amount) ≡ a.end.amount = search rules in
    let off : f.result ≡ old → ⊥ = λ e. c.if-found-old.true (e ∙ sym c.row_word_of-old.ensures) in (
      off,
      steps_as a.self.now.layout (LostTurn a.row.row old f.result) c.desk.inside.seat f.new.seat c.desk.inside.kept c.desk.inside.past a.desk.now c.desk.view_is (ap (λ (d : DeskView). d.layout) c.desk.view_is ∙ c.requires.own.layout)
          (subst (λ (b : Bool). HasMade a.self.now.layout (cond b (end_turn a.row.row a.from a.to a.end) (LostTurn a.row.row old f.result)) c.desk.inside.seat f.new.seat) (ne_eqb f.result old off) (subst (λ (x : ℤ). HasMade a.self.now.layout (turn_step old (Turn a.row.row a.from a.to a.end.moment x a.end.successor) f.result) c.desk.inside.seat f.new.seat) same f.ensures.made)),
    )

pub returns-clause-turned : goal.returns-clause-turned
returns-clause-turned c =
    let a = c.args in
    let f = c.turn_at-found in
    let old = row_word_of a.from a.row.generation in
    let same : to_z w64 (of_z w64 a.end.amount) ≡ a.end.amount = search rules in
    let on = c.if-found-old.false ∙ c.row_word_of-old.ensures in
    turned_booking a.self.now.layout a.row a.from a.to a.end c.desk.inside.seat f.new.seat c.desk.inside.kept c.desk.inside.past a.desk.now f.result
    c.desk.view_is (ap (λ (d : DeskView). d.layout) c.desk.view_is ∙ c.requires.own.layout) on f.ensures.found
    (steps_as a.self.now.layout (end_turn a.row.row a.from a.to a.end) c.desk.inside.seat f.new.seat c.desk.inside.kept c.desk.inside.past a.desk.now c.desk.view_is (ap (λ (d : DeskView). d.layout) c.desk.view_is ∙ c.requires.own.layout)
    (subst (λ (b : Bool). HasMade a.self.now.layout (cond b (end_turn a.row.row a.from a.to a.end) (LostTurn a.row.row old f.result)) c.desk.inside.seat f.new.seat) (eq-eqb f.result old on) (subst (λ (x : ℤ). HasMade a.self.now.layout (turn_step old (Turn a.row.row a.from a.to a.end.moment x a.end.successor) f.result) c.desk.inside.seat f.new.seat) same f.ensures.made)))

pub returns-clause-own : goal.returns-clause-own
returns-clause-own c =
    let a = c.args in
    still_turned a.self.now a.desk.now (desk_view c.turn_at-found.new.seat c.desk.inside.kept c.desk.inside.past) a.row.row a.from a.to a.end c.requires.own (returns-clause-turned c).0

pub returns-then-found-old-clause-own : goal.returns-then-found-old-clause-own
returns-then-found-old-clause-own c =
    let a = c.args in
    let old = row_word_of a.from a.row.generation in
    still_of (LostTurn a.row.row old c.turn_at-found.result) a.self.now a.desk.now (desk_view c.turn_at-found.new.seat c.desk.inside.kept c.desk.inside.past) refl (λ r e. refl) (returns-then-found-old-clause-lost c).1 c.requires.own
