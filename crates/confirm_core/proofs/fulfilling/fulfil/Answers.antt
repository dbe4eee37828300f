use Rattle.std.proofs.Common.{refl, arith, pos}
use Rattle.history_model.specs.declared.phase.Phase.TheVariants.{Fulfilled, Confirmed as IsConfirmed}
use Rattle.history_model.specs.WholeEnds.{end_at}
use Rattle.claim_rule.proofs.Out.{holds_then, endings_then}
use Rattle.confirm_core.proofs.Deciding.{by_length, can_turn}
use Rattle.confirm_core.specs.Fulfilling.{Fulfils}
use Rattle.confirm_core.specs.declared.fulfilling.Fulfilment.TheVariants as fulfilled
use Rattle.confirm_core.proofs.FulfilSteps.{unknown, wrong_at_look, fulfils, loses, given_away, fulfils_length}
use Rattle.confirm_core.proofs.fulfilling.fulfil.Goals as goal

pub turn-requires-clause-turn : goal.turn-requires-clause-turn
turn-requires-clause-turn c =
    let f = c.find_owned in
    can_turn c.args.books.now.layout f.new.desk c.args.row IsConfirmed Fulfilled (end_at 0 (pos 0) 0) f.ensures.own.layout c.in-Some.ensures.entries.1.0 refl (omega arith) (λ limit. (refl, refl, refl)) c.in-Some.ensures.sealed

pub returns-in-Won-clause-entries : goal.returns-in-Won-clause-entries
returns-in-Won-clause-entries c =
    fulfils c.args.books.now.layout.rows c.args.row c.args.retailer.0 c.in-Some.shown c.args.desk.now c.find_owned.new.desk c.turn.new.desk c.in-Confirmed.is c.in-Some.ensures.entries c.in-Won.ensures.entries

pub returns-in-Won-clause-holds : goal.returns-in-Won-clause-holds
returns-in-Won-clause-holds c = holds_then c.args.desk.now c.find_owned.new.desk c.turn.new.desk c.find_owned.ensures.holds c.turn.ensures.holds

pub returns-in-Won-clause-endings : goal.returns-in-Won-clause-endings
returns-in-Won-clause-endings c = endings_then c.args.desk.now c.find_owned.new.desk c.turn.new.desk c.find_owned.ensures.endings c.in-Won.ensures.leaves.1

pub returns-in-Won-clause-bound : goal.returns-in-Won-clause-bound
returns-in-Won-clause-bound c =
    by_length (Fulfils c.args.books.now.layout.rows c.args.row c.args.retailer.0 fulfilled.Done) 6 c.args.desk.now c.turn.new.desk (fulfils_length c.args.books.now.layout.rows c.args.row c.args.retailer.0 fulfilled.Done) (returns-in-Won-clause-entries c)

pub returns-in_default-shown-2-clause-entries : goal.returns-in_default-shown-2-clause-entries
returns-in_default-shown-2-clause-entries c =
    loses c.args.books.now.layout.rows c.args.row c.args.retailer.0 c.in-Some.shown c.in-Lost.shown c.args.desk.now c.find_owned.new.desk c.turn.new.desk c.in-Confirmed.is c.in_default-shown-2.not-Free c.in-Some.ensures.entries c.in-Lost.ensures.entries

pub returns-in_default-shown-2-clause-holds : goal.returns-in_default-shown-2-clause-holds
returns-in_default-shown-2-clause-holds c = holds_then c.args.desk.now c.find_owned.new.desk c.turn.new.desk c.find_owned.ensures.holds c.turn.ensures.holds

pub returns-in_default-shown-2-clause-endings : goal.returns-in_default-shown-2-clause-endings
returns-in_default-shown-2-clause-endings c = endings_then c.args.desk.now c.find_owned.new.desk c.turn.new.desk c.find_owned.ensures.endings c.in-Lost.ensures.leaves

pub returns-in_default-shown-2-clause-bound : goal.returns-in_default-shown-2-clause-bound
returns-in_default-shown-2-clause-bound c =
    let answer = fulfilled.WrongState c.in-Lost.shown in
    by_length (Fulfils c.args.books.now.layout.rows c.args.row c.args.retailer.0 answer) 6 c.args.desk.now c.turn.new.desk (fulfils_length c.args.books.now.layout.rows c.args.row c.args.retailer.0 answer) (returns-in_default-shown-2-clause-entries c)

pub returns-in_default : goal.returns-in_default
returns-in_default c =
    let f = c.find_owned in
    let none = unknown c.args.books.now.layout.rows c.args.row c.args.retailer.0 c.args.desk.now f.new.desk c.in_default.ensures.entries in
    record {
      own = f.ensures.own;
      entries = none;
      fulfilled = tt;
      holds = f.ensures.holds;
      endings = f.ensures.endings;
      bound = by_length (Fulfils c.args.books.now.layout.rows c.args.row c.args.retailer.0 fulfilled.Unknown) 6 c.args.desk.now f.new.desk (fulfils_length c.args.books.now.layout.rows c.args.row c.args.retailer.0 fulfilled.Unknown) none;
    }

pub returns-in_default-shown : goal.returns-in_default-shown
returns-in_default-shown c =
    let f = c.find_owned in
    let answer = fulfilled.WrongState c.in-Some.shown in
    let wrong = wrong_at_look c.args.books.now.layout.rows c.args.row c.args.retailer.0 c.in-Some.shown c.args.desk.now f.new.desk c.in_default-shown.not-Confirmed c.in-Some.ensures.entries in
    record {
      own = f.ensures.own;
      entries = wrong;
      fulfilled = tt;
      holds = f.ensures.holds;
      endings = f.ensures.endings;
      bound = by_length (Fulfils c.args.books.now.layout.rows c.args.row c.args.retailer.0 answer) 6 c.args.desk.now f.new.desk (fulfils_length c.args.books.now.layout.rows c.args.row c.args.retailer.0 answer) wrong;
    }

pub returns-in-Free-clause-entries : goal.returns-in-Free-clause-entries
returns-in-Free-clause-entries c =
    given_away c.args.books.now.layout.rows c.args.row c.args.retailer.0 c.in-Some.shown c.in-Lost.shown c.args.desk.now c.find_owned.new.desk c.turn.new.desk c.in-Confirmed.is c.in-Free.is c.in-Some.ensures.entries c.in-Lost.ensures.entries

pub returns-in-Free-clause-holds : goal.returns-in-Free-clause-holds
returns-in-Free-clause-holds c = holds_then c.args.desk.now c.find_owned.new.desk c.turn.new.desk c.find_owned.ensures.holds c.turn.ensures.holds

pub returns-in-Free-clause-endings : goal.returns-in-Free-clause-endings
returns-in-Free-clause-endings c = endings_then c.args.desk.now c.find_owned.new.desk c.turn.new.desk c.find_owned.ensures.endings c.in-Lost.ensures.leaves

pub returns-in-Free-clause-bound : goal.returns-in-Free-clause-bound
returns-in-Free-clause-bound c =
    by_length (Fulfils c.args.books.now.layout.rows c.args.row c.args.retailer.0 fulfilled.Unknown) 6 c.args.desk.now c.turn.new.desk (fulfils_length c.args.books.now.layout.rows c.args.row c.args.retailer.0 fulfilled.Unknown) (returns-in-Free-clause-entries c)
