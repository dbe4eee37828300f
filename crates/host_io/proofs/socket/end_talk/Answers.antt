use Rattle.host_io.specs.Talks.{WentOut}
use Rattle.host_io.proofs.Places.{lies_again}
use Rattle.host_io.proofs.socket.end_talk.Goals as goal

pub returns-in-Some-clause-sent : goal.returns-in-Some-clause-sent
returns-in-Some-clause-sent g c =
    lies_again (WentOut g.W.Wire.outgoing) (g.S.Slot.held c.args.slot.now) (g.S.Slot.held c.take.new.self)
    (g.S.Slot.held c.put.new.self) c.in-Some.talk c.end.new.self (rw c.in-Some.is at c.take.ensures.takes) c.take.ensures.empty
    c.put.ensures.puts c.end.ensures.sent
