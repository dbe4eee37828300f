use Rattle.std.proofs.Common.{◌<◌, map, take}
use Rattle.claim_rule.specs.Desks.{IsOf}
use Rattle.claim_rule.specs.Out.{IsHolding, HasNotedItems, KeepsEndings}
use Rattle.hold_core.specs.Tries.{place_number}
use Rattle.hold_core.proofs.Adding.{TriedSettled}
use Rattle.hold_core.proofs.adds.add_places.Given as goal

abbrev pub invariant-loop-place : goal.invariant-loop-place
invariant-loop-place l = record {
  own : IsOf l.books l.desk;
  hold : IsHolding l.desk l.hold;
  noted : HasNotedItems l.fn.desk l.fn.hold → HasNotedItems l.desk l.hold;
  endings : KeepsEndings l.fn.desk l.desk;
  few : l.won < l.count;
  tried : TriedSettled l.fn.desk l.desk l.fn.hold l.hold l.span (map place_number (take l.place-index l.candidates)) l.won;
}
