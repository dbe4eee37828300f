use Rattle.std.proofs.Common.{[], refl}
use Rattle.host_io.specs.Talks.{TakesFor}
use Rattle.host_io.proofs.Places.{lies_again, stays_empty, no_empty, pushed_on}
use Rattle.host_io.proofs.socket.SocketSinkSink.write.Goals.{in-Some, in-None}
use Rattle.host_io.proofs.socket.SocketSinkSink.write.Goals as goal

pub returns-then-eq-clause-takes : goal.returns-then-eq-clause-takes
returns-then-eq-clause-takes g c =
    elim c.match-take.branch [
      | in-Some w ↦ rw (w.self-is, w.taken-is) (
        refl,
        lies_again (TakesFor g.W.Wire.outgoing c.args.self.now.cut _) _ _ _ w.in-Some.talk w.take-taken.new.self w.in-Some.ensures.takes
            w.in-Some.ensures.empty w.put.ensures.puts (pushed_on _ _ _ _ w.take-taken.ensures.pushes, w.take-taken.ensures.held),
        no_empty _ w.in-Some.talk w.in-Some.ensures.takes,
      )
      | in-None w ↦ rw (w.self-is, w.taken-is) (
        refl,
        stays_empty (TakesFor g.W.Wire.outgoing c.args.self.now.cut []) _ _ w.in-None.ensures.takes w.in-None.ensures.empty,
        λ _. refl,
      )
    ]

pub returns-else-eq-clause-takes : goal.returns-else-eq-clause-takes
returns-else-eq-clause-takes g c =
    elim c.match-take.branch [
      | in-Some w ↦ rw (w.self-is, w.taken-is) (
        refl,
        lies_again (TakesFor g.W.Wire.outgoing c.args.self.now.cut _) _ _ _ w.in-Some.talk w.take-taken.new.self w.in-Some.ensures.takes
            w.in-Some.ensures.empty w.put.ensures.puts (pushed_on _ _ _ _ w.take-taken.ensures.pushes, w.take-taken.ensures.held),
        no_empty _ w.in-Some.talk w.in-Some.ensures.takes,
      )
      | in-None w ↦ rw (w.self-is, w.taken-is) (
        refl,
        stays_empty (TakesFor g.W.Wire.outgoing c.args.self.now.cut []) _ _ w.in-None.ensures.takes w.in-None.ensures.empty,
        λ _. refl,
      )
    ]
