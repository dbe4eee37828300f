use Rattle.host_serve.proofs.looker.sold_in.Goals as goal

pub returns-clause-tidy : goal.returns-clause-tidy
returns-clause-tidy c = c.count_sold.ensures.tidy c.requires.tidy
