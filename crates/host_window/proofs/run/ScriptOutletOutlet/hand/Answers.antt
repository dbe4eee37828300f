use Rattle.host_window.proofs.Runs.{took_one}
use Rattle.host_window.proofs.run.ScriptOutletOutlet.hand.Goals as goal

pub returns-clause-takes : goal.returns-clause-takes
returns-clause-takes g c =
    took_one g.P.Script.text _ _ c.args.piece.now c.push.result c.requires.permitted c.push.ensures.pushes c.push.ensures.noted
