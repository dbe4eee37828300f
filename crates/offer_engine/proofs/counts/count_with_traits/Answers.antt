use Rattle.std.proofs.Common.{◌≡◌, List, length, ap, sym, subst, arith, eq-eqb, ne_eqb}
use Rattle.rail_ids.specs.declared.PlaceNo.{PlaceNo}
use Rattle.claim_rule.specs.Calls.{AddsStepsBy}
use Rattle.claim_rule.proofs.Out.{holds_then, endings_then}
use Rattle.place_map.specs.ByClass.{has_traits}
use Rattle.availability.specs.Looks.{CountsFree}
use Rattle.offer_engine.proofs.Wanted.{free_at_most, wanted_yes, wanted_no}
use Rattle.offer_engine.proofs.counts.count_with_traits.Goals as goal
use Rattle.offer_engine.proofs.counts.count_with_traits.Goals.{then-places-number, else-places-number}

pub loop-number-preserved : goal.loop-number-preserved
loop-number-preserved c =
    let i = c.loop-number.invariant in
    let old = c.args.desk.now in
    let mid = c.loop-number.desk in
    let at = c.loop-number.number-index in
    let numbers = c.args.numbers.now in
    let span = c.args.span in
    let wants = has_traits c.args.wanted c.args.places.now in
    let none : PlaceNo = record { 0 = 0 } in
    elim c.if-places-number.branch [
      | then-places-number v ↦
          let did = v.free_places-free in
          let new = did.new.desk in
          let looked = subst (λ (l : List PlaceNo). AddsStepsBy (CountsFree l span did.result) mid new) v.as_slice.ensures did.ensures.entries in
          let one = free_at_most v.as_slice.result.now span did.result mid new did.ensures.entries in
          let size : length v.as_slice.result.now ≡ 1 = ap (λ (l : List PlaceNo). length l) v.as_slice.ensures in
          let counted = wanted_yes wants numbers at none span c.loop-number.free did.result old mid new c.loop-number-test.true (eq-eqb _ _ v.if-places-number.true) i.counted looked in
          record {
            own = rw v.desk-is did.ensures.own;
            holds = rw v.desk-is (holds_then old mid new i.holds did.ensures.holds);
            endings = rw v.desk-is (endings_then old mid new i.endings did.ensures.endings);
            tidy = rw v.desk-is (λ is. did.ensures.tidy (i.tidy is));
            few = (let few = i.few in omega (arith, v.free-is, one, size, few));
            counted = rw (v.desk-is, v.free-is) counted;
          }
      | else-places-number v ↦
          let same = wanted_no wants numbers at none c.loop-number-test.true (ne_eqb _ _ v.if-places-number.false) in
          record {
            own = rw v.desk-is i.own;
            holds = rw v.desk-is i.holds;
            endings = rw v.desk-is i.endings;
            tidy = rw v.desk-is i.tidy;
            few = (let few = i.few in omega (arith, v.free-is, few));
            counted = rw (v.desk-is, v.free-is) (subst (λ (l : List PlaceNo). AddsStepsBy (CountsFree l span c.loop-number.free) old mid) (sym same) i.counted);
          }
    ]
