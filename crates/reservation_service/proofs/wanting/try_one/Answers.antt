use Rattle.hold_core.specs.declared.adds.Added.TheVariants as added
use Rattle.reservation_service.proofs.WantedTries.{tried_alone}
use Rattle.reservation_service.proofs.wanting.try_one.Goals as goal

pub returns-in-All-clause-tried : goal.returns-in-All-clause-tried
returns-in-All-clause-tried c =
    tried_alone c.args.desk.now c.add_places.new.desk c.args.hold.now c.add_places.new.hold c.args.span c.args.place.0 added.All
    c.in-All.ensures.entries

pub returns-in-NoPlace-clause-tried : goal.returns-in-NoPlace-clause-tried
returns-in-NoPlace-clause-tried c =
    tried_alone c.args.desk.now c.add_places.new.desk c.args.hold.now c.add_places.new.hold c.args.span c.args.place.0
    (added.NoPlace c.in-NoPlace.won) c.in-NoPlace.ensures.entries

pub returns-in-Contended-clause-tried : goal.returns-in-Contended-clause-tried
returns-in-Contended-clause-tried c =
    tried_alone c.args.desk.now c.add_places.new.desk c.args.hold.now c.add_places.new.hold c.args.span c.args.place.0
    (added.Contended c.in-Contended.place) c.in-Contended.ensures.entries
