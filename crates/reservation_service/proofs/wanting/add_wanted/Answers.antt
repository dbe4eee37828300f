use Rattle.std.proofs.Common.{◌≡◌, ℕ, ◌+◌, ◌<◌, true, false, List, take, drop, get_or, Some, sym, ap, ◌∙◌, subst, arith, add-zero}
use Rattle.rail_ids.specs.declared.PlaceNo.{PlaceNo}
use Rattle.place_map.specs.declared.coach.Place.{Place}
use Rattle.place_map.specs.ByClass.{has_traits}
use Rattle.claim_rule.proofs.Out.{endings_same}
use Rattle.hold_core.specs.declared.tries.Outcome.TheVariants.{Won, Refused, Contended}
use Rattle.hold_core.proofs.Adding.{TriedSettled, tried_none, tried_last, has_room}
use Rattle.reservation_service.proofs.Outs.{out_then}
use Rattle.reservation_service.proofs.WantedTries.{passing, passing_at, wanted_next, wanted_same, tried_so, let_be_so, wanted_won, wanted_contended}
use Rattle.reservation_service.proofs.wanting.add_wanted.Goals as goal
use Rattle.reservation_service.proofs.wanting.add_wanted.Goals.{in-None, in-Some-Refused, in-Some-Won+else-won-count}

pub loop-place-init : goal.loop-place-init
loop-place-init c = record {
  out = record { out = c.requires.out; endings = endings_same c.args.desk.now };
  noted = λ on. on;
  few = c.requires.some;
  tried = tried_none c.args.desk.now c.args.hold.now c.args.wanted.now.span c.requires.out.own.legal;
}

pub try_wanted-requires-clause-room : goal.try_wanted-requires-clause-room
try_wanted-requires-clause-room c =
    let i = c.loop-place.invariant in
    has_room c.args.desk.now c.loop-place.desk c.args.hold.now c.loop-place.hold c.args.wanted.now.span _ c.loop-place.won c.args.wanted.now.count i.tried i.few c.requires.room

pub returns-in-Some-Contended-clause-entries : goal.returns-in-Some-Contended-clause-entries
returns-in-Some-Contended-clause-entries c =
    let x = c.loop-place in
    let t = c.try_wanted in
    let traits = c.args.wanted.now.traits in
    let all = c.args.all.now in
    let passes = has_traits traits c.args.shop.now.cat.now.places in
    let d : PlaceNo = record { 0 = 0 } in
    let p : PlaceNo = get_or all x.place-index d in
    let are = c.all-places.ensures.places ∙ c.places.ensures.value in
    let did = tried_so t.result Contended _ t.ensures.tried (c.in-Some-Contended.is ∙ ap Some c.in-Some-Contended.field-0-is) in
    let has = subst (λ (l : List Place). has_traits traits l p ≡ true) are did.0 in
    wanted_contended c.args.desk.now t.new.desk c.args.hold.now t.new.hold c.args.wanted.now.span c.args.wanted.now.count
    (passing passes (take x.place-index all)) (passing passes all) (passing passes (drop (x.place-index + 1) all)) p x.won
    (tried_last c.args.desk.now x.desk t.new.desk c.args.hold.now x.hold t.new.hold c.args.wanted.now.span (passing passes (take x.place-index all)) p.0 x.won Contended x.invariant.tried did.1)
    x.invariant.few (passing_at passes all x.place-index d c.loop-place-test.true has)

pub returns-in-Some-Contended-clause-out : goal.returns-in-Some-Contended-clause-out
returns-in-Some-Contended-clause-out c = out_then _ _ _ _ _ _ c.loop-place.invariant.out c.try_wanted.ensures.out

pub returns-then-won-count-clause-entries : goal.returns-then-won-count-clause-entries
returns-then-won-count-clause-entries c =
    let x = c.loop-place in
    let t = c.try_wanted in
    let traits = c.args.wanted.now.traits in
    let all = c.args.all.now in
    let passes = has_traits traits c.args.shop.now.cat.now.places in
    let d : PlaceNo = record { 0 = 0 } in
    let p : PlaceNo = get_or all x.place-index d in
    let are = c.all-places.ensures.places ∙ c.places.ensures.value in
    let did = tried_so t.result Won _ t.ensures.tried (c.in-Some-Won.is ∙ ap Some c.in-Some-Won.field-0-is) in
    let has = subst (λ (l : List Place). has_traits traits l p ≡ true) are did.0 in
    wanted_won c.args.desk.now t.new.desk c.args.hold.now t.new.hold c.args.wanted.now.span c.args.wanted.now.count
    (passing passes (take x.place-index all)) (passing passes all) (passing passes (drop (x.place-index + 1) all)) p.0 x.won
    (tried_last c.args.desk.now x.desk t.new.desk c.args.hold.now x.hold t.new.hold c.args.wanted.now.span (passing passes (take x.place-index all)) p.0 x.won Won x.invariant.tried did.1)
    c.if-won-count.true (passing_at passes all x.place-index d c.loop-place-test.true has)

pub returns-then-won-count-clause-out : goal.returns-then-won-count-clause-out
returns-then-won-count-clause-out c = out_then _ _ _ _ _ _ c.loop-place.invariant.out c.try_wanted.ensures.out

-- the count that is reached only at the end
below : (won count : ℕ) → won < count → (won + 1 ≡ count → ⊥) → won + 1 < count
below won count few ne = omega (arith, few, ne)

pub loop-place-preserved : goal.loop-place-preserved
loop-place-preserved c =
    let x = c.loop-place in
    let i = x.invariant in
    let t = c.try_wanted in
    let count = c.args.wanted.now.count in
    let span = c.args.wanted.now.span in
    let traits = c.args.wanted.now.traits in
    let all = c.args.all.now in
    let passes = has_traits traits c.args.shop.now.cat.now.places in
    let d : PlaceNo = record { 0 = 0 } in
    let p : PlaceNo = get_or all x.place-index d in
    let are = c.all-places.ensures.places ∙ c.places.ensures.value in
    let now = λ (n : ℕ). TriedSettled c.args.desk.now t.new.desk c.args.hold.now t.new.hold span (passing passes (take (x.place-index + 1) all)) n in
    let out = out_then _ _ _ _ _ _ i.out t.ensures.out in
    elim c.match-try_wanted.branch [
      | in-None w ↦
          let be = let_be_so t.result _ t.ensures.let_be w.in-None.is in
          let not = subst (λ (l : List Place). has_traits traits l p ≡ false) are be.0 in
          record {
            out = out;
            noted = λ on. t.ensures.noted (i.noted on);
            few = subst (λ (k : ℕ). k < count) (sym w.won-is) i.few;
            tried = subst now (sym w.won-is)
                (wanted_same passes c.args.desk.now x.desk t.new.desk c.args.hold.now x.hold t.new.hold span all x.place-index d x.won c.loop-place-test.true i.tried not be.1 be.2);
          }
      | in-Some-Refused w ↦
          let did = tried_so t.result Refused _ t.ensures.tried (w.in-Some-Refused.is ∙ ap Some w.in-Some-Refused.field-0-is) in
          let has = subst (λ (l : List Place). has_traits traits l p ≡ true) are did.0 in
          record {
            out = out;
            noted = λ on. t.ensures.noted (i.noted on);
            few = subst (λ (k : ℕ). k < count) (sym w.won-is) i.few;
            tried = subst now (add-zero x.won ∙ sym w.won-is)
                (wanted_next passes c.args.desk.now x.desk t.new.desk c.args.hold.now x.hold t.new.hold span all x.place-index d x.won Refused c.loop-place-test.true i.tried (λ e. cc) has did.1);
          }
      | in-Some-Won+else-won-count w ↦
          let did = tried_so t.result Won _ t.ensures.tried (w.in-Some-Won.is ∙ ap Some w.in-Some-Won.field-0-is) in
          let has = subst (λ (l : List Place). has_traits traits l p ≡ true) are did.0 in
          record {
            out = out;
            noted = λ on. t.ensures.noted (i.noted on);
            few = subst (λ (k : ℕ). k < count) (sym w.won-is) (below x.won count i.few w.if-won-count.false);
            tried = subst now (sym w.won-is)
                (wanted_next passes c.args.desk.now x.desk t.new.desk c.args.hold.now x.hold t.new.hold span all x.place-index d x.won Won c.loop-place-test.true i.tried (λ e. cc) has did.1);
          }
    ]
