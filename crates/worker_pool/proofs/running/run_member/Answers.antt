use Rattle.std.proofs.Common.{suc}
use Rattle.worker_pool.proofs.Chains.{keeps_on}
use Rattle.worker_pool.proofs.running.run_member.Goals as goal

pub loop-preserved : goal.loop-preserved
loop-preserved g c =
    let inv = c.loop.invariant in
    let turn = c.turn-end.ensures in
    record {
      can_next = tt;
      is_finite = tt;
      fits = turn.fits;
      own = turn.own;
      tidy = turn.tidy;
      keeps = keeps_on c.args.member.now.desk c.loop.member.desk c.turn-end.new.desk inv.keeps turn.keeps;
      turns = suc inv.turns;
      on = (c.loop.member.worker, c.loop.member.desk, inv.on, turn.does, λ ended. absurd (let e = turn.end.1 ended in cc));
    }
