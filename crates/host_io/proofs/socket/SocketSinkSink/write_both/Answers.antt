use Rattle.std.proofs.Common.{[], refl, inl}
use Rattle.host_io.specs.Talks.{TakesFor}
use Rattle.host_io.proofs.Places.{lies_again, stays_empty, no_empty, pushed_both_on}
use Rattle.host_io.proofs.socket.SocketSinkSink.write_both.Goals.{in-Some, in-None}
use Rattle.host_io.proofs.socket.SocketSinkSink.write_both.Goals as goal

pub returns-in-Failed-clause-takes : goal.returns-in-Failed-clause-takes
returns-in-Failed-clause-takes g c =
    elim c.match-take.branch [
      | in-Some w ↦ rw (w.self-is, w.taken-is) (inl (
        refl,
        lies_again (TakesFor g.W.Wire.outgoing c.args.self.now.cut _) _ _ _ w.in-Some.talk w.take_both-taken.new.self w.in-Some.ensures.takes
            w.in-Some.ensures.empty w.put.ensures.puts (pushed_both_on _ _ _ _ w.take_both-taken.ensures.pushes, w.take_both-taken.ensures.held),
        no_empty _ w.in-Some.talk w.in-Some.ensures.takes,
      ))
      | in-None w ↦ rw (w.self-is, w.taken-is) (inl (
        refl,
        stays_empty (TakesFor g.W.Wire.outgoing c.args.self.now.cut []) _ _ w.in-None.ensures.takes w.in-None.ensures.empty,
        λ _. refl,
      ))
    ]

pub returns-in_default-clause-takes : goal.returns-in_default-clause-takes
returns-in_default-clause-takes g c =
    elim c.match-take.branch [
      | in-Some w ↦ rw (w.self-is, w.taken-is) (inl (
        refl,
        lies_again (TakesFor g.W.Wire.outgoing c.args.self.now.cut _) _ _ _ w.in-Some.talk w.take_both-taken.new.self w.in-Some.ensures.takes
            w.in-Some.ensures.empty w.put.ensures.puts (pushed_both_on _ _ _ _ w.take_both-taken.ensures.pushes, w.take_both-taken.ensures.held),
        no_empty _ w.in-Some.talk w.in-Some.ensures.takes,
      ))
      | in-None w ↦ rw (w.self-is, w.taken-is) (inl (
        refl,
        stays_empty (TakesFor g.W.Wire.outgoing c.args.self.now.cut []) _ _ w.in-None.ensures.takes w.in-None.ensures.empty,
        λ _. refl,
      ))
    ]
