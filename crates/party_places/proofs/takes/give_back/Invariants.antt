use Rattle.std.proofs.Common.{◌≡◌, ◌+◌, ◌-◌, ℕ, length}
use Rattle.claim_rule.specs.Desks.{IsOf}
use Rattle.claim_rule.specs.Out.{IsHolding, HasNotedItems, KeepsEndings}
use Rattle.party_places.proofs.Taking.{Gave}
use Rattle.party_places.proofs.takes.give_back.Given as goal

abbrev pub invariant-loop : goal.invariant-loop
invariant-loop l = record {
  own : IsOf l.books l.desk;
  hold : IsHolding l.desk l.hold;
  noted : HasNotedItems l.fn.desk l.fn.hold → HasNotedItems l.desk l.hold;
  endings : KeepsEndings l.fn.desk l.desk;
  more : ℕ;
  counts : more + l.counter ≡ length l.fn.hold.items;
  gave : Gave l.fn.desk l.desk l.fn.hold l.hold l.left (length l.fn.hold.items - l.left) more;
}
