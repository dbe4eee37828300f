use Rattle.claim_rule.proofs.Out.{endings_then, holds_then}
use Rattle.row_cuts.proofs.Selling.{look_keeps_endings, look_keeps_holds, shown_place}
use Rattle.row_cuts.proofs.sold.look_sold.Goals as goal

pub returns : goal.returns
returns c =
    let low = c.step_look-low in
    let high = c.step_look-high in record {
      own = high.ensures.own;
      shows = shown_place c.args.place.0 low.result high.result c.has_leg.result c.args.desk.now low.new.desk high.new.desk c.has_leg.ensures low.ensures.look high.ensures.look;
      holds = holds_then c.args.desk.now low.new.desk high.new.desk (look_keeps_holds c.args.place.0 0 low.result c.args.desk.now low.new.desk low.ensures.look) (look_keeps_holds c.args.place.0 1 high.result low.new.desk high.new.desk high.ensures.look);
      endings = endings_then c.args.desk.now low.new.desk high.new.desk (look_keeps_endings c.args.place.0 0 low.result c.args.desk.now low.new.desk low.ensures.look) (look_keeps_endings c.args.place.0 1 high.result low.new.desk high.new.desk high.ensures.look);
    }
