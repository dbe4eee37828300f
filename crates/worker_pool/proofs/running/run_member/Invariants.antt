use Rattle.std.proofs.Common.{ℕ}
use Rattle.claim_rule.specs.Desks.{IsOf}
use Rattle.claim_rule.specs.Out.{IsTidy}
use Rattle.worker_pool.specs.Turns.{KeepsDesk, GoesOn}
use Rattle.worker_pool.proofs.running.run_member.Given as goal

abbrev pub invariant-loop : goal.invariant-loop
invariant-loop g l = record {
  can_next : (goal.iterator-loop g).can_next l.iterator';
  is_finite : (goal.iterator-loop g).is_finite l.iterator';
  fits : g.W.Worker.fits l.member.worker l.books;
  own : IsOf l.books l.member.desk;
  tidy : IsTidy l.member.desk;
  keeps : KeepsDesk l.fn.member.desk l.member.desk;
  turns : ℕ;
  on : GoesOn g.W.Worker.does g.W.Worker.ended turns l.fn.member.worker l.fn.member.desk l.member.worker l.member.desk;
}
