use Rattle.std.proofs.Common.{◌≡◌, ◌∙◌, ℕ, ◌+◌, ◌-◌, ◌*◌, ◌<◌, ◌≤◌, List, drop, get_or, length, map, take, refl, sym, ap, subst}
use Rattle.std.specs.Prelude.{All, slice_index, slice_index_or}
use Rattle.std.proofs.lemmas.List.Elements.{All-drop, All-take}
use Rattle.leg_masks.specs.Interval.{pieces}
use Rattle.rail_ids.specs.declared.PlaceNo.{PlaceNo}
use Rattle.claim_rule.specs.Calls.{AddsStepsBy}
use Rattle.claim_rule.specs.Holds.{HoldView}
use Rattle.claim_rule.proofs.Out.{endings_same, endings_then}
use Rattle.hold_core.specs.Tries.{place_number, with_items}
use Rattle.hold_core.specs.Places.{Adds}
use Rattle.party_places.specs.declared.party.PartyAdded.{PartyAdded}
use Rattle.party_places.specs.Parties.{TakesEach, GivesUpAt, SeatsFrom, answer_apart, asked}
use Rattle.party_places.proofs.Trying.{tried_none, tried_more, tried_all, failed, together, apart}
use Rattle.party_places.proofs.Spoiling.{spoils_all}
use Rattle.party_places.proofs.party.add_party.Goals as goal

abbrev first : PlaceNo
first = record { 0 = 0 }

pub loop-end-init : goal.loop-end-init
loop-end-init c = record {
  own = c.requires.own;
  hold = c.requires.hold;
  same = refl;
  noted = λ on. on;
  endings = endings_same c.args.desk.now;
  places = c.requires.places;
  tried = tried_none (asked c.args.places.now c.args.hold.now c.args.span c.args.count c.args.candidates.now) c.args.desk.now c.requires.own.legal;
}

pub take_stretch-requires-clause-hold : goal.take_stretch-requires-clause-hold
take_stretch-requires-clause-hold c = c.in-Some.ensures.holds.hold c.loop-end.hold c.loop-end.invariant.hold

abbrev IsPlace : List ℕ → ℕ → PlaceNo → Type 0
IsPlace legs to p = (p.0 < length legs) × (to ≤ slice_index legs p.0)

pub take_stretch-requires-clause-places : goal.take_stretch-requires-clause-places
take_stretch-requires-clause-places c =
    let left = c.loop-end.left.now in
    let n : ℕ = c.in-Some.end - c.args.count in
    subst (λ (ps : List PlaceNo). All (IsPlace c.args.books.now.layout.legs c.args.span.to) ps) (sym c.last_of-stretch.ensures.places)
    (All-take (IsPlace c.args.books.now.layout.legs c.args.span.to) c.args.count (drop n left)
    (All-drop (IsPlace c.args.books.now.layout.legs c.args.span.to) n left c.loop-end.invariant.places))

pub take_stretch-requires-clause-room : goal.take_stretch-requires-clause-room
take_stretch-requires-clause-room c =
    let one = c.requires.room in
    let many = c.last_of-stretch.ensures.many in
    subst (λ (h : HoldView). length h.items + length c.last_of-stretch.result.now * length (pieces c.args.span) ≤ 48) (sym c.loop-end.invariant.same)
    (subst (λ (n : ℕ). length c.args.hold.now.items + n * length (pieces c.args.span) ≤ 48) (sym many) one)

pub returns-in-None-clause-entries : goal.returns-in-None-clause-entries
returns-in-None-clause-entries c =
    let i = c.loop-end.invariant in
    let g = asked c.args.places.now c.args.hold.now c.args.span c.args.count c.args.candidates.now in
    let left = c.loop-end.left.now in
    let n = c.in-Some.end in
    let within = c.in-Some.ensures.within in
    let took = c.in-None.ensures.all in
    let stretch : List PlaceNo = take c.args.count (drop (n - c.args.count) left) in
    let b = c.find_stretch.new.desk in
    let d = c.take_stretch.new.desk in
    let takes : AddsStepsBy (TakesEach g.row g.items g.span (map place_number stretch) took.0) b d =
    subst (λ (ps : List PlaceNo). AddsStepsBy (TakesEach g.row g.items g.span (map place_number ps) took.0) b d) c.last_of-stretch.ensures.places
    (subst (λ (h : HoldView). AddsStepsBy (TakesEach h.row.row (length h.items) g.span (map place_number c.last_of-stretch.result.now) took.0) b d) i.same took.1) in
    let at : slice_index_or c.last_of-stretch.result.now 0 first ≡ get_or stretch 0 first = ap (λ (ps : List PlaceNo). get_or ps 0 first) c.last_of-stretch.ensures.places in
    let sits = together g c.loop-end.desk b d left n (slice_index_or c.last_of-stretch.result.now 0 first) first took.0 c.requires.some within.0 within.1 c.in-Some.ensures.found takes at in (
      took.0,
      tried_all g c.args.desk.now c.loop-end.desk d (map place_number left) _ took.0 i.tried sits,
      took.2 ∙ ap (λ (h : HoldView). with_items h took.0) i.same,
    )

pub returns-in-None-clause-causes : goal.returns-in-None-clause-causes
returns-in-None-clause-causes c = let e = returns-in-None-clause-entries c in (e.1.0, tt, e.1.2)

pub returns-in-None-clause-noted : goal.returns-in-None-clause-noted
returns-in-None-clause-noted c =
    let x = c.loop-end in λ on. c.in-None.ensures.noted (c.in-Some.ensures.holds.noted x.hold x.hold.items x.invariant.hold (x.invariant.noted on))

pub returns-in-None-clause-endings : goal.returns-in-None-clause-endings
returns-in-None-clause-endings c =
    let mid = c.find_stretch.new.desk in
    endings_then c.args.desk.now mid c.take_stretch.new.desk (endings_then c.args.desk.now c.loop-end.desk mid c.loop-end.invariant.endings c.in-Some.ensures.endings) c.in-None.ensures.endings

pub loop-end-preserved : goal.loop-end-preserved
loop-end-preserved c =
    let x = c.loop-end in
    let i = x.invariant in
    let g = asked c.args.places.now c.args.hold.now c.args.span c.args.count c.args.candidates.now in
    let left = x.left.now in
    let n = c.in-Some.end in
    let within = c.in-Some.ensures.within in
    let f = c.in-Some.ensures in
    let t = c.in-Some-take_stretch.ensures in
    let k = c.in-Some-take_stretch.lost in
    let b = c.find_stretch.new.desk in
    let d = c.take_stretch.new.desk in
    let stretch : List PlaceNo = take c.args.count (drop (n - c.args.count) left) in
    let gave : AddsStepsBy (GivesUpAt g.row g.items g.span (map place_number stretch) k) b d =
    subst (λ (ps : List PlaceNo). AddsStepsBy (GivesUpAt g.row g.items g.span (map place_number ps) k) b d) c.last_of-stretch.ensures.places
    (subst (λ (h : HoldView). AddsStepsBy (GivesUpAt h.row.row (length h.items) g.span (map place_number c.last_of-stretch.result.now) k) b d) i.same t.lost.0) in
    let from : c.behind-left.result.now ≡ drop (n - c.args.count + k + 1) left =
    c.behind-left.ensures.places ∙ ap (λ (m : ℕ). drop (n - m + k + 1) left) c.from.ensures in
    record {
      own = t.own;
      hold = t.hold;
      same = t.lost.1 ∙ i.same;
      noted = λ on. t.noted (f.holds.noted x.hold x.hold.items i.hold (i.noted on));
      endings = endings_then c.args.desk.now b d (endings_then c.args.desk.now x.desk b i.endings f.endings) t.endings;
      places = subst (λ (ps : List PlaceNo). All (IsPlace c.args.books.now.layout.legs c.args.span.to) ps) (sym from)
          (All-drop (IsPlace c.args.books.now.layout.legs c.args.span.to) (n - c.args.count + k + 1) left i.places);
      tried = tried_more g c.args.desk.now x.desk d (map place_number left) (map place_number c.behind-left.result.now) i.tried
          (failed g x.desk b d left c.behind-left.result.now n k c.requires.some within.0 within.1 f.found gave from);
    }

pub add_places-requires-clause-hold : goal.add_places-requires-clause-hold
add_places-requires-clause-hold c = c.in_default.ensures.holds.hold c.loop-end.hold c.loop-end.invariant.hold

pub add_places-requires-clause-room : goal.add_places-requires-clause-room
add_places-requires-clause-room c =
    subst (λ (h : HoldView). length h.items + c.args.count * length (pieces c.args.span) ≤ 48) (sym c.loop-end.invariant.same) c.requires.room

pub returns-clause-entries : goal.returns-clause-entries
returns-clause-entries c =
    let i = c.loop-end.invariant in
    let g = asked c.args.places.now c.args.hold.now c.args.span c.args.count c.args.candidates.now in
    let adds = c.add_places.ensures.entries in
    let b = c.find_stretch.new.desk in
    let d = c.add_places.new.desk in
    let added : AddsStepsBy (Adds g.row g.items g.span g.count g.candidates c.add_places.result adds.0) b d =
    subst (λ (h : HoldView). AddsStepsBy (Adds h.row.row (length h.items) g.span g.count g.candidates c.add_places.result adds.0) b d) i.same adds.1 in
    let sits = apart g c.loop-end.desk b d (map place_number c.loop-end.left.now) c.add_places.result adds.0 c.in_default.ensures.none added in
    let all = tried_all g c.args.desk.now c.loop-end.desk d (map place_number c.loop-end.left.now) (answer_apart c.add_places.result) adds.0 i.tried sits in (
      adds.0,
      subst (λ (answer : PartyAdded). AddsStepsBy (SeatsFrom g g.candidates answer adds.0) c.args.desk.now d) (sym c.answer_of.ensures) all,
      adds.2 ∙ ap (λ (h : HoldView). with_items h adds.0) i.same,
    )

pub returns-clause-causes : goal.returns-clause-causes
returns-clause-causes c =
    let g = asked c.args.places.now c.args.hold.now c.args.span c.args.count c.args.candidates.now in
    let e = returns-clause-entries c in
    (e.1.0, spoils_all g c.answer_of.result e.0 e.1.0 e.1.1, e.1.2)

pub returns-clause-endings : goal.returns-clause-endings
returns-clause-endings c =
    let mid = c.find_stretch.new.desk in
    endings_then c.args.desk.now mid c.add_places.new.desk (endings_then c.args.desk.now c.loop-end.desk mid c.loop-end.invariant.endings c.in_default.ensures.endings) c.add_places.ensures.endings

pub returns-clause-noted : goal.returns-clause-noted
returns-clause-noted c =
    let x = c.loop-end in λ on. c.add_places.ensures.noted (c.in_default.ensures.holds.noted x.hold x.hold.items x.invariant.hold (x.invariant.noted on))
