use Rattle.std.proofs.Common.{inl, ◌++◌}
use Rattle.host_window.proofs.Runs.{took_both}
use Rattle.host_window.proofs.run.ScriptOutletOutlet.hand_both.Goals as goal

pub returns-clause-takes : goal.returns-clause-takes
returns-clause-takes g c =
    inl (took_both g.P.Script.text _ _ (c.args.first.now ++ c.args.second.now) c.push_both.result c.requires.permitted c.push_both.ensures.pushes c.push_both.ensures.noted)
