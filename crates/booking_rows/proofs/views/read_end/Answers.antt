use Rattle.std.proofs.Common.{◌≡◌, ◌≤◌, ℕ, List, [], ◌∷◌, ◌++◌, ap, ◌∙◌, sym, subst}
use Rattle.history_model.specs.Booking.{most_rows}
use Rattle.history_model.specs.declared.phase.Phase.{Phase}
use Rattle.claim_rule.specs.Desks.{AddsSteps}
use Rattle.booking_rows.specs.SealedRows.{IsSealedSince, IsEndOf}
use Rattle.booking_rows.specs.Views.{word_looks}
use Rattle.booking_rows.proofs.ViewLemmas.{three_looks, end_fits}
use Rattle.booking_rows.proofs.views.read_end.Goals as goal

-- three words, each put behind those before it
three : (x y z : ℕ) (none one two all : List ℕ) → none ≡ [] → one ≡ none ++ x ∷ [] → two ≡ one ++ y ∷ [] → all ≡ two ++ z ∷ [] → all ≡ x ∷ y ∷ z ∷ []
three x y z none one two all a b c d = d ∙ ap (λ (l : List ℕ). l ++ z ∷ []) (c ∙ ap (λ (l : List ℕ). l ++ y ∷ []) (b ∙ ap (λ (l : List ℕ). l ++ x ∷ []) a))

pub returns-in-Ended-clause-entries : goal.returns-in-Ended-clause-entries
returns-in-Ended-clause-entries c =
    let row = c.args.row.row in
    let first = c.step_read in
    let second = c.step_read-in-Ended in
    let third = c.step_read-in-Ended-2 in
    let all = three first.result second.result third.result c.new-end.result.items c.push.new.self.items c.push-in-Ended.new.self.items c.push-in-Ended-2.new.self.items
    c.new-end.ensures c.push.ensures.items c.push-in-Ended.ensures.items c.push-in-Ended-2.ensures.items in
    subst (λ (l : List ℕ). AddsSteps c.args.desk.now third.new.desk (word_looks row 5 l)) (sym all)
    (three_looks c.args.desk.now first.new.desk second.new.desk third.new.desk row 5 6 7 first.result second.result third.result first.ensures.look second.ensures.look third.ensures.look)

pub returns-in-Ended-clause-words : goal.returns-in-Ended-clause-words
returns-in-Ended-clause-words c = λ now.
    let row = c.args.row in
    let first = c.step_read in
    let second = c.step_read-in-Ended in
    let third = c.step_read-in-Ended-2 in
    let kind = c.in-Ended.field-0 in
    let books = c.args.books.now in
    let all = three first.result second.result third.result c.new-end.result.items c.push.new.self.items c.push-in-Ended.new.self.items c.push-in-Ended-2.new.self.items
    c.new-end.ensures c.push.ensures.items c.push-in-Ended.ensures.items c.push-in-Ended-2.ensures.items in
    let few : books.layout.rows ≤ most_rows = subst (λ (n : ℕ). n ≤ most_rows) c.rows.ensures.count c.rows.ensures.most in
    subst (IsEndOf c.args.phase) (sym all) (subst (λ (p : Phase). IsEndOf p (first.result ∷ second.result ∷ third.result ∷ [])) (sym c.in-Ended.is)
    (end_fits books row first.result second.result third.result kind c.args.desk.now first.new.desk second.new.desk third.new.desk first.ensures.own second.ensures.own third.ensures.own few
    (subst (IsSealedSince c.args.desk.now row) c.in-Ended.is c.requires.sealed) first.ensures.look second.ensures.look third.ensures.look now))
