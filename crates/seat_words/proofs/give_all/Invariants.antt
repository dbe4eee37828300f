use Rattle.std.proofs.Common.{◌≡◌, ◌+◌, true, length}
use Rattle.claim_rule.specs.Desks.{IsOf, AddsSteps}
use Rattle.claim_rule.specs.EndSteps.{gives_from}
use Rattle.claim_rule.specs.Out.{IsEnding, KeepsHolds}
use Rattle.seat_words.proofs.Giving.{so_far}
use Rattle.seat_words.proofs.give_all.Given as goal

abbrev pub invariant-loop : goal.invariant-loop
invariant-loop l = record {
  own : IsOf l.books l.desk;
  ending : IsEnding l.desk l.ending;
  holds : KeepsHolds l.initial.desk l.desk;
  is : l.ending ≡ so_far l.initial.ending l.counter;
  read : l.ending.read ≡ true;
  all : l.end + l.initial.ending.given ≡ length l.initial.ending.items;
  seen : AddsSteps l.initial.desk l.desk (gives_from l.initial.ending.row.row l.initial.ending.given l.counter);
}
