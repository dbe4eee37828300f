use Rattle.std.proofs.Common.{ap}
use Rattle.claim_rule.specs.Endings.{EndingView}
use Rattle.claim_rule.proofs.Out.{holds_then}
use Rattle.confirm_core.proofs.Finishing.{few_items, ended, ended_so}
use Rattle.confirm_core.proofs.ends.end_row.Goals as goal

pub unreachable-requires : goal.unreachable-requires
unreachable-requires c = c.in-Won.ensures.leaves.0 c.requires.ends.0 c.requires.ends.1

pub returns-in-Lost-clause-entries : goal.returns-in-Lost-clause-entries
returns-in-Lost-clause-entries c kind e = c.in-Lost.ensures.entries

pub returns-in-Lost-clause-none : goal.returns-in-Lost-clause-none
returns-in-Lost-clause-none c = c.in-Lost.ensures.leaves.none c.requires.none

pub finish_end-requires : goal.finish_end-requires
finish_end-requires c =
    let l = c.in-Ending.ensures.leaves in
    record {
      own = c.in-Ending.ensures.own;
      ending = l.2;
      read = ap (λ (e : EndingView). e.read) l.1;
      fresh = ap (λ (e : EndingView). e.given) l.1;
    }

pub returns-in-Ending-clause-entries : goal.returns-in-Ending-clause-entries
returns-in-Ending-clause-entries c kind w =
    let l = c.in-Ending.ensures.leaves in
    let t = c.turn.new.desk in
    let few = few_items t c.in-Ending.ending c.in-Ending.ensures.own.legal l.2 (ap (λ (e : EndingView). e.read) l.1) (ap (λ (e : EndingView). e.given) l.1) in
    ended c.args.desk.now t c.finish_end.new.desk c.args.row c.args.from c.args.to c.in-Ending.ending kind l.0 l.1 few w c.in-Ending.ensures.entries c.finish_end.ensures.entries

pub returns-in-Ending-clause-ended : goal.returns-in-Ending-clause-ended
returns-in-Ending-clause-ended c kind w =
    let l = c.in-Ending.ensures.leaves in
    ended_so c.finish_end.new.desk c.args.row c.args.to c.in-Ending.ending kind l.0 l.1 w c.finish_end.ensures.ended

pub returns-in-Ending-clause-holds : goal.returns-in-Ending-clause-holds
returns-in-Ending-clause-holds c = holds_then c.args.desk.now c.turn.new.desk c.finish_end.new.desk c.in-Ending.ensures.holds c.finish_end.ensures.holds
