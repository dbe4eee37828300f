use Rattle.std.proofs.Common.{ℕ, List, sym, ap, ◌∙◌, subst}
use Rattle.history_model.specs.Booking.{Layout}
use Rattle.history_model.specs.Laws.{IsOpening}
use Rattle.history_model.specs.Words.{AreWordsOf}
use Rattle.claim_rule.specs.Rule.{BooksView}
use Rattle.claim_rule.specs.Openings.{IsLayoutOf, layout_with}
use Rattle.claim_rule.specs.Out.{IsTidy}
use Rattle.claim_rule.specs.Desks.{IsOf}
use Rattle.claim_rule.proofs.Begins.{begins, first_of, first_tidy, is_first}
use Rattle.claim_rule.proofs.OpeningWords.{one_opening}
use Rattle.claim_rule.proofs.books.adopt_books.Goals as goal

-- the layout opens with an opening state, whose words are these
is_opening : (legs : List ℕ) (rows : ℕ) (words : List ℕ) (lay : Layout) → IsLayoutOf legs rows words lay
    → IsOpening lay lay.opening
is_opening legs rows words lay (kept, with, is) =
    subst (λ (l : Layout). IsOpening l l.opening) (sym is) with.may.opening

are_words : (legs : List ℕ) (rows : ℕ) (words : List ℕ) (lay : Layout) → IsLayoutOf legs rows words lay
    → AreWordsOf lay lay.opening words
are_words legs rows words lay (kept, with, is) =
    subst (λ (l : Layout). AreWordsOf l l.opening words) (sym is) with.are

pub of_words-requires : goal.of_words-requires
of_words-requires c =
    let legs = c.args.legs.now in
    let is = c.in_ok-plan.ensures in
    begins c.in_ok-plan.plan c.args.words.now
    (is_opening legs c.args.rows c.args.words.now c.in_ok-plan.plan is)
    (are_words legs c.args.rows c.args.words.now c.in_ok-plan.plan is)

pub returns-clause-layout : goal.returns-clause-layout
returns-clause-layout c = λ kept with.
    let is = c.in_ok-plan.ensures in
    let legs = c.args.legs.now in
    let same = one_opening legs c.args.rows c.args.words.now is.0 kept c.requires.legs is.1 with in
    c.in_ok-table.ensures.5 ∙ (is.2 ∙ ap (layout_with legs c.args.rows) same)

pub returns-clause-own : goal.returns-clause-own
returns-clause-own c =
    let plan = c.in_ok-plan.plan in
    let e = c.in_ok-table.ensures in
    let shared = c.in_ok-table.table.shared in
    let books : BooksView = record { table = shared.table_id; layout = shared.key } in
    let opens = is_opening c.args.legs.now c.args.rows c.args.words.now plan c.in_ok-plan.ensures in
    subst (IsOf books) (sym (is_first c.in_ok-table.seat plan e.4))
    (first_of books c.in_ok-table.seat.table_id plan opens e.2 (sym e.5))

pub returns-clause-tidy : goal.returns-clause-tidy
returns-clause-tidy c =
    let plan = c.in_ok-plan.plan in
    let opens = is_opening c.args.legs.now c.args.rows c.args.words.now plan c.in_ok-plan.ensures in
    subst IsTidy (sym (is_first c.in_ok-table.seat plan c.in_ok-table.ensures.4))
    (first_tidy c.in_ok-table.seat.table_id plan opens)
