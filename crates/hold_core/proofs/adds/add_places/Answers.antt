use Rattle.std.proofs.Common.{◌≡◌, ℕ, ◌+◌, ◌<◌, map, take, arith, sym, subst}
use Rattle.hold_core.specs.declared.tries.Outcome.{Outcome}
use Rattle.hold_core.specs.declared.tries.Outcome.TheVariants.{Won, Refused}
use Rattle.claim_rule.proofs.Out.{endings_same, endings_then}
use Rattle.hold_core.specs.Tries.{place_number, TriesPlace}
use Rattle.hold_core.proofs.Adding.{TriedSettled, tried_none, has_room, at_contended, won_last, won_next, refused_next, at_end, bound_settled, half_settled, bound_last, half_last}
use Rattle.hold_core.proofs.adds.add_places.Goals as goal
use Rattle.hold_core.proofs.adds.add_places.Goals.{in-Refused, in-Won+else-won-count}

pub loop-place-init : goal.loop-place-init
loop-place-init c = record {
  own = c.requires.own;
  hold = c.requires.hold;
  noted = λ on. on;
  endings = endings_same c.args.desk.now;
  few = c.requires.some;
  tried = tried_none c.args.desk.now c.args.hold.now c.args.span c.requires.own.legal;
}

pub try_place-requires-clause-room : goal.try_place-requires-clause-room
try_place-requires-clause-room c =
    let i = c.loop-place.invariant in
    has_room c.args.desk.now c.loop-place.desk c.args.hold.now c.loop-place.hold c.args.span _ c.loop-place.won c.args.count i.tried i.few c.requires.room

pub returns-in-Contended-clause-entries : goal.returns-in-Contended-clause-entries
returns-in-Contended-clause-entries c =
    let i = c.loop-place.invariant in
    at_contended c.args.desk.now c.loop-place.desk c.try_place.new.desk c.args.hold.now c.loop-place.hold c.try_place.new.hold c.args.span c.args.count c.loop-place.place-index c.loop-place.won c.args.candidates.now _ c.loop-place-test.true i.tried i.few c.in-Contended.ensures.tried

pub returns-in-Contended-clause-endings : goal.returns-in-Contended-clause-endings
returns-in-Contended-clause-endings c = endings_then c.args.desk.now c.loop-place.desk c.try_place.new.desk c.loop-place.invariant.endings c.in-Contended.ensures.endings

pub returns-in-Contended-clause-bound : goal.returns-in-Contended-clause-bound
returns-in-Contended-clause-bound c =
    bound_last c.args.desk.now c.loop-place.desk c.try_place.new.desk c.args.hold.now c.loop-place.hold c.try_place.new.hold c.args.span c.loop-place.place-index c.loop-place.won c.args.candidates.now _ c.try_place.result c.loop-place-test.true c.loop-place.invariant.tried c.try_place.ensures.tried

pub returns-in-Contended-clause-bound_in_half : goal.returns-in-Contended-clause-bound_in_half
returns-in-Contended-clause-bound_in_half c =
    half_last c.args.desk.now c.loop-place.desk c.try_place.new.desk c.args.hold.now c.loop-place.hold c.try_place.new.hold c.args.span c.loop-place.place-index c.loop-place.won c.args.candidates.now _ c.try_place.result c.loop-place-test.true c.loop-place.invariant.tried c.try_place.ensures.tried

pub returns-then-won-count-clause-entries : goal.returns-then-won-count-clause-entries
returns-then-won-count-clause-entries c =
    let i = c.loop-place.invariant in
    won_last c.args.desk.now c.loop-place.desk c.try_place.new.desk c.args.hold.now c.loop-place.hold c.try_place.new.hold c.args.span c.args.count c.loop-place.place-index c.loop-place.won c.args.candidates.now _ c.loop-place-test.true i.tried c.if-won-count.true c.in-Won.ensures.tried

pub returns-then-won-count-clause-endings : goal.returns-then-won-count-clause-endings
returns-then-won-count-clause-endings c = endings_then c.args.desk.now c.loop-place.desk c.try_place.new.desk c.loop-place.invariant.endings c.in-Won.ensures.endings

pub returns-then-won-count-clause-bound : goal.returns-then-won-count-clause-bound
returns-then-won-count-clause-bound c =
    bound_last c.args.desk.now c.loop-place.desk c.try_place.new.desk c.args.hold.now c.loop-place.hold c.try_place.new.hold c.args.span c.loop-place.place-index c.loop-place.won c.args.candidates.now _ c.try_place.result c.loop-place-test.true c.loop-place.invariant.tried c.try_place.ensures.tried

pub returns-then-won-count-clause-bound_in_half : goal.returns-then-won-count-clause-bound_in_half
returns-then-won-count-clause-bound_in_half c =
    half_last c.args.desk.now c.loop-place.desk c.try_place.new.desk c.args.hold.now c.loop-place.hold c.try_place.new.hold c.args.span c.loop-place.place-index c.loop-place.won c.args.candidates.now _ c.try_place.result c.loop-place-test.true c.loop-place.invariant.tried c.try_place.ensures.tried

pub returns-clause-entries : goal.returns-clause-entries
returns-clause-entries c =
    let i = c.loop-place.invariant in
    at_end c.args.desk.now c.loop-place.desk c.args.hold.now c.loop-place.hold c.args.span c.args.count c.loop-place.won c.loop-place.place-index c.args.candidates.now c.loop-place-test.false i.tried i.few

pub returns-clause-bound : goal.returns-clause-bound
returns-clause-bound c = bound_settled c.args.desk.now c.loop-place.desk c.args.hold.now c.loop-place.hold c.args.span c.loop-place.place-index c.loop-place.won c.args.candidates.now c.loop-place.invariant.tried

pub returns-clause-bound_in_half : goal.returns-clause-bound_in_half
returns-clause-bound_in_half c = half_settled c.args.desk.now c.loop-place.desk c.args.hold.now c.loop-place.hold c.args.span c.loop-place.place-index c.loop-place.won c.args.candidates.now c.loop-place.invariant.tried

-- the count that is reached only at the end
below : (won count : ℕ) → won < count → (won + 1 ≡ count → ⊥) → won + 1 < count
below won count few ne = omega (arith, few, ne)

pub loop-place-preserved : goal.loop-place-preserved
loop-place-preserved c =
    let i = c.loop-place.invariant in
    let t = c.try_place in
    let x = c.loop-place in
    let n : ℕ = c.match-try_place.won in
    let tried = λ (o : Outcome) (is : t.result ≡ o). subst (TriesPlace x.desk x.hold _ c.args.span t.new.desk t.new.hold) is t.ensures.tried in
    elim c.match-try_place.branch [
      | in-Refused w ↦ record {
        own = t.ensures.own;
        hold = t.ensures.hold;
        noted = λ on. t.ensures.noted (i.noted on);
        endings = endings_then c.args.desk.now x.desk t.new.desk i.endings t.ensures.endings;
        few = subst (λ (k : ℕ). k < c.args.count) (sym w.won-is) i.few;
        tried = subst (TriedSettled c.args.desk.now t.new.desk c.args.hold.now t.new.hold c.args.span (map place_number (take (x.place-index + 1) c.args.candidates.now))) (sym w.won-is)
            (refused_next c.args.desk.now x.desk t.new.desk c.args.hold.now x.hold t.new.hold c.args.span x.place-index x.won c.args.candidates.now _ c.loop-place-test.true i.tried (tried Refused w.in-Refused.is));
      }
      | in-Won+else-won-count w ↦ record {
        own = t.ensures.own;
        hold = t.ensures.hold;
        noted = λ on. t.ensures.noted (i.noted on);
        endings = endings_then c.args.desk.now x.desk t.new.desk i.endings t.ensures.endings;
        few = subst (λ (k : ℕ). k < c.args.count) (sym w.won-is) (below x.won c.args.count i.few w.if-won-count.false);
        tried = subst (TriedSettled c.args.desk.now t.new.desk c.args.hold.now t.new.hold c.args.span (map place_number (take (x.place-index + 1) c.args.candidates.now))) (sym w.won-is)
            (won_next c.args.desk.now x.desk t.new.desk c.args.hold.now x.hold t.new.hold c.args.span x.place-index x.won c.args.candidates.now _ c.loop-place-test.true i.tried (tried Won w.in-Won.is));
      }
    ]
