use Rattle.row_cuts.proofs.Writing.{looks_then}
use Rattle.host_serve.proofs.looker.LookerWatcher.watch.Goals as goal

pub sold_in-sold-requires-clause-tidy : goal.sold_in-sold-requires-clause-tidy
sold_in-sold-requires-clause-tidy g c = c.count_rows-rows.ensures.tidy c.requires.tidy

pub returns-clause-looks : goal.returns-clause-looks
returns-clause-looks g c =
    looks_then c.args.desk.now c.count_rows-rows.new.desk c.sold_in-sold.new.desk c.count_rows-rows.ensures.looks
    c.sold_in-sold.ensures.looks
