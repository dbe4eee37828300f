use Rattle.table_tests.proofs.Closed.{closed_at}
use Rattle.table_tests.proofs.left.wall_of.Goals as goal

pub finish-requires-clause-idle : goal.finish-requires-clause-idle
finish-requires-clause-idle c = c.requires.idle

pub returns : goal.returns
returns c = record {
  closed = closed_at c.finish.result c.args.books.layout c.args.desk c.finish.ensures.layout c.finish.ensures.history
      c.places.ensures.most c.places.ensures.legs;
}
