use Rattle.claim_rule.specs.Desks.{IsOf}
use Rattle.claim_rule.specs.Out.{IsHolding, HasNotedItems, KeepsEndings}
use Rattle.party_places.proofs.Taking.{Took}
use Rattle.party_places.proofs.takes.take_each.Given as goal

abbrev pub invariant-loop-at : goal.invariant-loop-at
invariant-loop-at l = record {
  own : IsOf l.books l.desk;
  hold : IsHolding l.desk l.hold;
  noted : HasNotedItems l.fn.desk l.fn.hold → HasNotedItems l.desk l.hold;
  endings : KeepsEndings l.fn.desk l.desk;
  took : Took l.fn.desk l.desk l.fn.hold l.hold l.span l.stretch l.at;
}
