use Rattle.host_catalogue.specs.Notes.{place_text}
use Rattle.host_catalogue.proofs.Written.{writes_two}
use Rattle.host_catalogue.proofs.noting.write_end.Goals as goal

pub returns-clause-writes : goal.returns-clause-writes
returns-clause-writes g c =
    writes_two (g.K.Sink.told c.args.sink.now) (g.K.Sink.told c.write_place.new.sink) (g.K.Sink.told c.write_all.new.sink)
    (place_text c.args.place) c.args.end.now c.write_all.result c.if-not-write_place.ensures.writes c.write_all.ensures.writes
