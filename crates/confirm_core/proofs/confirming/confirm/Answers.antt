use Rattle.std.proofs.Common.{◌≡◌, ℕ, ◌<◌, ◌≤◌, refl, subst, arith, pos}
use Rattle.history_model.specs.declared.phase.Phase.TheVariants.{Prebooked, Confirmed as IsConfirmed}
use Rattle.history_model.specs.WholeEnds.{end_at}
use Rattle.claim_rule.proofs.Out.{holds_then, endings_then}
use Rattle.confirm_core.proofs.Deciding.{by_length, can_turn_by}
use Rattle.confirm_core.specs.Confirming.{Confirms}
use Rattle.confirm_core.specs.declared.confirming.Confirmed.TheVariants as confirmed
use Rattle.confirm_core.proofs.ConfirmSteps.{unknown, too_late, confirms, loses, given_away, wrong_at_look, confirms_length}
use Rattle.confirm_core.proofs.confirming.confirm.Goals as goal

early : (n m a b : ℕ) → a ≡ n → b ≡ m → b ≤ a → m ≤ n
early n m a b e f l = omega arith

pub turn-requires-clause-turn : goal.turn-requires-clause-turn
turn-requires-clause-turn c =
    let f = c.find_terms in
    let t = c.in-Some.terms in
    can_turn_by c.args.books.now.layout f.new.desk c.args.row t.limit Prebooked IsConfirmed (end_at c.args.now (pos 0) 0) f.ensures.own.layout c.in-Some.ensures.entries.1.0 refl
    (subst (λ (n : ℕ). n ≤ 4102444799) c.seconds-2.ensures.value c.seconds-2.ensures.in_years)
    (early t.limit c.args.now c.seconds.result c.seconds-2.result c.seconds.ensures.value c.seconds-2.ensures.value c.if-seconds.false, refl, refl)
    c.in-Some.ensures.limit

pub returns-in-Won-clause-entries : goal.returns-in-Won-clause-entries
returns-in-Won-clause-entries c =
    let t = c.in-Some.terms in
    confirms c.args.books.now.layout.rows c.args.row c.args.retailer.0 c.args.now t c.args.desk.now c.find_terms.new.desk c.turn.new.desk c.in-Prebooked.is
    (early t.limit c.args.now c.seconds.result c.seconds-2.result c.seconds.ensures.value c.seconds-2.ensures.value c.if-seconds.false) c.in-Some.ensures.entries c.in-Won.ensures.entries

pub returns-in-Won-clause-holds : goal.returns-in-Won-clause-holds
returns-in-Won-clause-holds c = holds_then c.args.desk.now c.find_terms.new.desk c.turn.new.desk c.find_terms.ensures.holds c.turn.ensures.holds

pub returns-in-Won-clause-endings : goal.returns-in-Won-clause-endings
returns-in-Won-clause-endings c = endings_then c.args.desk.now c.find_terms.new.desk c.turn.new.desk c.find_terms.ensures.endings c.in-Won.ensures.leaves.1

pub returns-in-Won-clause-bound : goal.returns-in-Won-clause-bound
returns-in-Won-clause-bound c =
    by_length (Confirms c.args.books.now.layout.rows c.args.row c.args.retailer.0 c.args.now confirmed.Done) 6 c.args.desk.now c.turn.new.desk (confirms_length c.args.books.now.layout.rows c.args.row c.args.retailer.0 c.args.now confirmed.Done) (returns-in-Won-clause-entries c)

pub returns-in_default-shown-2-clause-entries : goal.returns-in_default-shown-2-clause-entries
returns-in_default-shown-2-clause-entries c =
    let t = c.in-Some.terms in
    loses c.args.books.now.layout.rows c.args.row c.args.retailer.0 c.args.now t c.in-Lost.shown c.args.desk.now c.find_terms.new.desk c.turn.new.desk c.in-Prebooked.is
    (early t.limit c.args.now c.seconds.result c.seconds-2.result c.seconds.ensures.value c.seconds-2.ensures.value c.if-seconds.false) c.in_default-shown-2.not-Free c.in-Some.ensures.entries c.in-Lost.ensures.entries

pub returns-in_default-shown-2-clause-holds : goal.returns-in_default-shown-2-clause-holds
returns-in_default-shown-2-clause-holds c = holds_then c.args.desk.now c.find_terms.new.desk c.turn.new.desk c.find_terms.ensures.holds c.turn.ensures.holds

pub returns-in_default-shown-2-clause-endings : goal.returns-in_default-shown-2-clause-endings
returns-in_default-shown-2-clause-endings c = endings_then c.args.desk.now c.find_terms.new.desk c.turn.new.desk c.find_terms.ensures.endings c.in-Lost.ensures.leaves

pub returns-in_default-shown-2-clause-bound : goal.returns-in_default-shown-2-clause-bound
returns-in_default-shown-2-clause-bound c =
    let answer = confirmed.WrongState c.in-Lost.shown in
    by_length (Confirms c.args.books.now.layout.rows c.args.row c.args.retailer.0 c.args.now answer) 6 c.args.desk.now c.turn.new.desk (confirms_length c.args.books.now.layout.rows c.args.row c.args.retailer.0 c.args.now answer) (returns-in_default-shown-2-clause-entries c)

pub returns-in_default-shown : goal.returns-in_default-shown
returns-in_default-shown c =
    let f = c.find_terms in
    let t = c.in-Some.terms in
    let answer = confirmed.WrongState t.shown in
    let wrong = wrong_at_look c.args.books.now.layout.rows c.args.row c.args.retailer.0 c.args.now t c.args.desk.now f.new.desk c.in_default-shown.not-Prebooked c.in-Some.ensures.entries in
    record {
      own = f.ensures.own;
      entries = wrong;
      confirmed = tt;
      holds = f.ensures.holds;
      endings = f.ensures.endings;
      bound = by_length (Confirms c.args.books.now.layout.rows c.args.row c.args.retailer.0 c.args.now answer) 6 c.args.desk.now f.new.desk (confirms_length c.args.books.now.layout.rows c.args.row c.args.retailer.0 c.args.now answer) wrong;
    }

pub returns-in_default : goal.returns-in_default
returns-in_default c =
    let f = c.find_terms in
    let none = unknown c.args.books.now.layout.rows c.args.row c.args.retailer.0 c.args.now c.args.desk.now f.new.desk c.in_default.ensures.entries in
    record {
      own = f.ensures.own;
      entries = none;
      confirmed = tt;
      holds = f.ensures.holds;
      endings = f.ensures.endings;
      bound = by_length (Confirms c.args.books.now.layout.rows c.args.row c.args.retailer.0 c.args.now confirmed.Unknown) 6 c.args.desk.now f.new.desk (confirms_length c.args.books.now.layout.rows c.args.row c.args.retailer.0 c.args.now confirmed.Unknown) none;
    }

later : (n m a b : ℕ) → a ≡ n → b ≡ m → a < b → n < m
later n m a b e f l = omega arith

pub returns-then-seconds : goal.returns-then-seconds
returns-then-seconds c =
    let f = c.find_terms in
    let t = c.in-Some.terms in
    let answer = confirmed.TooLate t.limit in
    let late = too_late c.args.books.now.layout.rows c.args.row c.args.retailer.0 c.args.now t c.args.desk.now f.new.desk c.in-Prebooked.is (later t.limit c.args.now c.seconds.result c.seconds-2.result c.seconds.ensures.value c.seconds-2.ensures.value c.if-seconds.true) c.in-Some.ensures.entries in
    record {
      own = f.ensures.own;
      entries = late;
      confirmed = tt;
      holds = f.ensures.holds;
      endings = f.ensures.endings;
      bound = by_length (Confirms c.args.books.now.layout.rows c.args.row c.args.retailer.0 c.args.now answer) 6 c.args.desk.now f.new.desk (confirms_length c.args.books.now.layout.rows c.args.row c.args.retailer.0 c.args.now answer) late;
    }

pub returns-in-Free-clause-entries : goal.returns-in-Free-clause-entries
returns-in-Free-clause-entries c =
    let t = c.in-Some.terms in
    given_away c.args.books.now.layout.rows c.args.row c.args.retailer.0 c.args.now t c.in-Lost.shown c.args.desk.now c.find_terms.new.desk c.turn.new.desk c.in-Prebooked.is
    (early t.limit c.args.now c.seconds.result c.seconds-2.result c.seconds.ensures.value c.seconds-2.ensures.value c.if-seconds.false) c.in-Free.is c.in-Some.ensures.entries c.in-Lost.ensures.entries

pub returns-in-Free-clause-holds : goal.returns-in-Free-clause-holds
returns-in-Free-clause-holds c = holds_then c.args.desk.now c.find_terms.new.desk c.turn.new.desk c.find_terms.ensures.holds c.turn.ensures.holds

pub returns-in-Free-clause-endings : goal.returns-in-Free-clause-endings
returns-in-Free-clause-endings c = endings_then c.args.desk.now c.find_terms.new.desk c.turn.new.desk c.find_terms.ensures.endings c.in-Lost.ensures.leaves

pub returns-in-Free-clause-bound : goal.returns-in-Free-clause-bound
returns-in-Free-clause-bound c =
    by_length (Confirms c.args.books.now.layout.rows c.args.row c.args.retailer.0 c.args.now confirmed.Unknown) 6 c.args.desk.now c.turn.new.desk (confirms_length c.args.books.now.layout.rows c.args.row c.args.retailer.0 c.args.now confirmed.Unknown) (returns-in-Free-clause-entries c)
