use Rattle.std.proofs.Common.{◌<◌, take}
use Rattle.place_map.specs.ByClass.{has_traits}
use Rattle.claim_rule.specs.Out.{HasNotedItems}
use Rattle.hold_core.proofs.Adding.{TriedSettled}
use Rattle.reservation_service.specs.Outs.{StaysOut}
use Rattle.reservation_service.proofs.WantedTries.{passing}
use Rattle.reservation_service.proofs.wanting.add_wanted.Given as goal

abbrev pub invariant-loop-place : goal.invariant-loop-place
invariant-loop-place l = record {
  out : StaysOut l.shop.books.now l.fn.desk l.desk l.hold;
  noted : HasNotedItems l.fn.desk l.fn.hold → HasNotedItems l.desk l.hold;
  few : l.won < l.count;
  tried : TriedSettled l.fn.desk l.desk l.fn.hold l.hold l.wanted.span
      (passing (has_traits l.wanted.traits l.shop.cat.now.places) (take l.place-index l.all)) l.won;
}
