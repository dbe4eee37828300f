use Rattle.host_catalogue.proofs.Written.{writes_two}
use Rattle.host_catalogue.proofs.noting.write_both.Goals as goal

pub returns-clause-writes : goal.returns-clause-writes
returns-clause-writes g c =
    writes_two (g.K.Sink.told c.args.sink.now) (g.K.Sink.told c.write_all.new.sink) (g.K.Sink.told c.write_all-2.new.sink)
    c.args.first.now c.args.second.now c.write_all-2.result c.if-not-write_all.ensures.writes c.write_all-2.ensures.writes
