use Rattle.std.proofs.Common.{ap}
use Rattle.host_io.specs.Outbox.{Steady}
use Rattle.host_io.specs.Wires.{limits_of}
use Rattle.host_io.proofs.Staying.{steady, steady_of}
use Rattle.host_io.proofs.talk.Talk.send_held.Goals as goal

pub returns-clause-left : goal.returns-clause-left
returns-clause-left g c =
    let same = c.send.ensures.stays
    (λ s. steady_of (g.W.Wire.incoming s.line.wire) (limits_of (g.W.Wire.settings s.line.wire)) s.cut)
    (λ before after bytes took. steady _ _ _ _ _ _ took.0 took.1 took.2) in
    ap (λ (s : Steady). s.incoming) same

pub returns-clause-limits : goal.returns-clause-limits
returns-clause-limits g c =
    let same = c.send.ensures.stays
    (λ s. steady_of (g.W.Wire.incoming s.line.wire) (limits_of (g.W.Wire.settings s.line.wire)) s.cut)
    (λ before after bytes took. steady _ _ _ _ _ _ took.0 took.1 took.2) in
    ap (λ (s : Steady). s.limits) same

pub returns-clause-cut : goal.returns-clause-cut
returns-clause-cut g c =
    let same = c.send.ensures.stays
    (λ s. steady_of (g.W.Wire.incoming s.line.wire) (limits_of (g.W.Wire.settings s.line.wire)) s.cut)
    (λ before after bytes took. steady _ _ _ _ _ _ took.0 took.1 took.2) in
    ap (λ (s : Steady). s.cut) same
