use Rattle.trip_builder.proofs.Adding.{AreBehind, AreNotedBelow}
use Rattle.trip_builder.proofs.board.Board.post_all.Given as goal

abbrev pub invariant-loop-n : goal.invariant-loop-n
invariant-loop-n l = record {
  behind : AreBehind l.departures l.self l.n;
  noted : AreNotedBelow l.n l.departures l.twos l.late l.self;
}
