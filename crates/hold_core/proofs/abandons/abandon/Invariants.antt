use Rattle.std.proofs.Common.{◌≡◌, ◌+◌, length}
use Rattle.claim_rule.specs.Desks.{IsOf}
use Rattle.claim_rule.specs.Out.{IsHolding, KeepsEndings}
use Rattle.hold_core.proofs.Giving.{GaveSome}
use Rattle.hold_core.proofs.abandons.abandon.Given as goal

abbrev pub invariant-loop : goal.invariant-loop
invariant-loop l = record {
  own : IsOf l.books l.desk;
  hold : IsHolding l.desk l.hold;
  row : l.hold.row ≡ l.initial.hold.row;
  left : length l.hold.items + l.counter ≡ length l.initial.hold.items;
  seen : GaveSome l.initial.desk l.desk l.initial.hold.row.row (length l.initial.hold.items) (length l.hold.items);
  endings : KeepsEndings l.initial.desk l.desk;
}
