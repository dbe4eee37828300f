use Rattle.std.proofs.Common.{◌≡◌, refl}
use Rattle.std.specs.Prelude.{slice_index_or}
use Rattle.rail_ids.specs.declared.PlaceNo.{PlaceNo}
use Rattle.claim_rule.proofs.Out.{endings_same, endings_then}
use Rattle.hold_core.specs.declared.adds.Added.TheVariants as added
use Rattle.party_places.proofs.Taking.{took_none, took_more, took_not, none_short, none_contended}
use Rattle.party_places.proofs.takes.take_each.Goals as goal

abbrev first : PlaceNo
first = record { 0 = 0 }

pub loop-at-init : goal.loop-at-init
loop-at-init c = record {
  own = c.requires.own;
  hold = c.requires.hold;
  noted = λ on. on;
  endings = endings_same c.args.desk.now;
  took = took_none c.args.desk.now c.args.hold.now c.args.span c.args.stretch.now c.requires.own.legal;
}

pub returns-in-NoPlace-clause-lost : goal.returns-in-NoPlace-clause-lost
returns-in-NoPlace-clause-lost c =
    let x = c.loop-at in
    let a = c.in-NoPlace.ensures.entries in
    let none = none_short x.hold.row.row _ c.args.span _ c.in-NoPlace.won a.0 a.1.0 a.1.1 in
    took_not c.args.desk.now x.desk c.add_places.new.desk c.args.hold.now x.hold c.add_places.new.hold c.args.span c.args.stretch.now x.at (slice_index_or c.args.stretch.now x.at first) first
    (added.NoPlace c.in-NoPlace.won) a.0 x.invariant.took c.loop-at-test.true refl (λ e. let f : added.NoPlace c.in-NoPlace.won ≡ added.All = e in cc) none a.1 a.2

pub returns-in-NoPlace-clause-endings : goal.returns-in-NoPlace-clause-endings
returns-in-NoPlace-clause-endings c = endings_then c.args.desk.now c.loop-at.desk c.add_places.new.desk c.loop-at.invariant.endings c.in-NoPlace.ensures.endings

pub returns-in-Contended-clause-lost : goal.returns-in-Contended-clause-lost
returns-in-Contended-clause-lost c =
    let x = c.loop-at in
    let a = c.in-Contended.ensures.entries in
    let none = none_contended x.hold.row.row _ c.args.span _ c.in-Contended.place a.0 a.1.0 a.1.1 in
    took_not c.args.desk.now x.desk c.add_places.new.desk c.args.hold.now x.hold c.add_places.new.hold c.args.span c.args.stretch.now x.at (slice_index_or c.args.stretch.now x.at first) first
    (added.Contended c.in-Contended.place) a.0 x.invariant.took c.loop-at-test.true refl (λ e. let f : added.Contended c.in-Contended.place ≡ added.All = e in cc) none a.1 a.2

pub returns-in-Contended-clause-endings : goal.returns-in-Contended-clause-endings
returns-in-Contended-clause-endings c = endings_then c.args.desk.now c.loop-at.desk c.add_places.new.desk c.loop-at.invariant.endings c.in-Contended.ensures.endings

pub loop-at-preserved : goal.loop-at-preserved
loop-at-preserved c =
    let x = c.loop-at in
    let i = x.invariant in
    let e = c.in-All.ensures in
    record {
      own = e.own;
      hold = e.hold;
      noted = λ on. e.noted (i.noted on);
      endings = endings_then c.args.desk.now x.desk c.add_places.new.desk i.endings e.endings;
      took = took_more c.args.desk.now x.desk c.add_places.new.desk c.args.hold.now x.hold c.add_places.new.hold c.args.span c.args.stretch.now x.at
          (slice_index_or c.args.stretch.now x.at first) first e.entries.0 i.took c.loop-at-test.true refl e.entries.1 e.entries.2;
    }
