use Rattle.std.proofs.Common.{◌≡◌, ◌∙◌, ℕ, length, add-zero, subst}
use Rattle.host_serve.specs.Kept.{ListensTo}
use Rattle.host_serve.specs.Serve.{Left, heard, left_of}
use Rattle.host_serve.proofs.given.listen_alone.Goals as goal

pub returns-clause-ends : goal.returns-clause-ends
returns-clause-ends g c =
    let run = c.listen_and_serve in
    let hear = heard g.L.Listener.told g.L.Listener.faults g.L.Listener.becomes g.L.Listener.hands in
    let left : Left = left_of hear g.C.Clock.told g.T.Ticker.ticked c.args.devices run.result.listener run.result.wall in
    subst (λ (k : ℕ). ListensTo c.args.cat.now c.args.opened.books.layout c.args.said.now.numbers (record left { watchers = k }) run.result.outcome)
    (c.in-Ok.ensures ∙ (add-zero _ ∙ c.of-looker.ensures)) run.ensures.ends
